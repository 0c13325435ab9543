use Rattle.std.proofs.Common.{codes, rules, tests}
use Rattle.std.proofs.lemmas.Iterator.Search.{any_from_yields_List}
use Rattle.std.proofs.lemmas.Iterator.Splits.{YieldsList-from_slice_split}
use Rattle.std.specs.Str.{bytes_eq}
use Rattle.path.specs.Pieces.{is_slash}
use Rattle.path.proofs.has_dot_dot.Goals as goal

pub returns : goal.returns
returns c =
    any_from_yields_List (λ p. bytes_eq p (codes "..")) _ _ _ c.any.ensures.ran
    (YieldsList-from_slice_split _ is_slash c.args.string.now c.split.ensures.rest c.split.ensures.done c.split.ensures.closure (λ x b q k. search (rules, tests)))
    (λ x b q k. search (rules, tests))
