use Rattle.std.proofs.Common.{rules}
use Rattle.path.proofs.Pieces.{invalid_decided}
use Rattle.path.proofs.PathSemanticStringAccessor.is_invalid_content.Goals as goal

pub returns-then-does_contain_invalid_characters-clause-meaning : goal.returns-then-does_contain_invalid_characters-clause-meaning
returns-then-does_contain_invalid_characters-clause-meaning c = invalid_decided c.args.string.now _ (search rules)

pub returns-else-does_contain_invalid_characters-clause-meaning : goal.returns-else-does_contain_invalid_characters-clause-meaning
returns-else-does_contain_invalid_characters-clause-meaning c = invalid_decided c.args.string.now _ (search rules)
