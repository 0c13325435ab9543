use Rattle.std.proofs.Common.{◌≡◌, ℕ, ◌+◌, ◌-◌, ◌≤◌, List, length, drop, get_or, ap, arith, rules}
use Rattle.std.proofs.lemmas.List.{places, same_lists}
use Rattle.cells.specs.Texts.{inserting, removing, Zeros}

-- of the cells xs the first n hold a text, and the first u are in use; ys are the cells after a call
module _ (xs ys bs : List ℕ) (n p u : ℕ) (is : ys ≡ inserting n p bs xs) (at : p ≤ n) (in_use : n + length bs ≤ u) (lent : u ≤ length xs) where
  pub inserting_beyond : drop u ys ≡ drop u xs
  inserting_beyond = same_lists _ _ (search (rules, places)) (λ j d h. grind (arith, places))

  pub inserting_zeros : Zeros u n xs → Zeros u (n + length bs) ys
  inserting_zeros z =
      same_lists _ _ (search (rules, places)) (λ j d h. grind (arith, places, ap (λ q. get_or q (length bs + j) d) z))

module _ (xs ys : List ℕ) (n p k u : ℕ) (is : ys ≡ removing n p k xs) (part : p + k ≤ n) (in_use : n ≤ u) (lent : u ≤ length xs) where
  pub removing_beyond : drop u ys ≡ drop u xs
  removing_beyond = same_lists _ _ (search (rules, places)) (λ j d h. grind (arith, places))

  pub removing_zeros : Zeros u n xs → Zeros u (n - k) ys
  removing_zeros z =
      same_lists _ _ (search (rules, places)) (λ j d h. grind (arith, places, ap (λ q. get_or q (j - k) d) z))
