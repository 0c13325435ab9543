use Rattle.std.proofs.Common.{arith}
use Rattle.std.proofs.lemmas.Grind.{common_steps}
use Rattle.string_search.proofs.Order.{compared_by, total_order}
use Rattle.string_search.proofs.compare.Goals as goal

pub returns-in-Some-clause-answer : goal.returns-in-Some-clause-answer
returns-in-Some-clause-answer g c = compared_by _ _ c.first_difference.result _ c.first_difference.ensures (grind (arith, common_steps))

pub returns-in-Some-clause-total : goal.returns-in-Some-clause-total
returns-in-Some-clause-total g c = total_order

pub returns-in-None-clause-answer : goal.returns-in-None-clause-answer
returns-in-None-clause-answer g c = compared_by _ _ c.first_difference.result _ c.first_difference.ensures (grind (arith, common_steps))

pub returns-in-None-clause-total : goal.returns-in-None-clause-total
returns-in-None-clause-total g c = total_order
