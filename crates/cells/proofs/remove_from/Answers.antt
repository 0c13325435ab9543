use Rattle.std.proofs.Common.{arith, rules}
use Rattle.std.proofs.lemmas.List.{places, same_lists}
use Rattle.cells.proofs.remove_from.Goals as goal

pub returns-clause-cells : goal.returns-clause-cells
returns-clause-cells c = same_lists _ _ (search (rules, places)) (λ k d h. grind (arith, places))
