use Rattle.path.proofs.Normals.{normal_meaning}
use Rattle.path.proofs.PathNormalForm.normalize.Goals as goal

pub returns-then-spelling_len-eq0-clause-meaning : goal.returns-then-spelling_len-eq0-clause-meaning
returns-then-spelling_len-eq0-clause-meaning c = normal_meaning c.args.string.now

pub returns-clause-meaning : goal.returns-clause-meaning
returns-clause-meaning c = normal_meaning c.args.string.now
