use Rattle.std.proofs.Common.{◌≡◌, ℕ, ◌+◌, ◌-◌, ◌≤◌, List, length, arith, rules}
use Rattle.std.proofs.lemmas.List.{places, same_lists}
use Rattle.std.specs.List.{copy_within}
use borrow.Rule.Slice.PartMut.{put_mid}
use Rattle.cells.specs.Texts.{inserting}
use Rattle.cells.proofs.insert_into.Goals as goal

-- the tail moved up, and then the bytes written into the gap
inserted_by : (xs bs : List ℕ) (n p : ℕ) → p ≤ n → n + length bs ≤ length xs → put_mid p (p + length bs - p) (copy_within xs p n (p + length bs)) bs ≡ inserting n p bs xs
inserted_by xs bs n p at fit = same_lists _ _ (search (rules, places)) (λ k d h. grind (arith, places))

pub returns-clause-cells : goal.returns-clause-cells
returns-clause-cells c = search (rules, inserted_by)
