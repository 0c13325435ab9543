use Rattle.std.specs.Prelude.{◌≡◌, ℕ, ◌+◌, ◌-◌, min, List, ◌++◌, length, take, drop, replicate}
use Rattle.string_view.specs.Sequences.{inserted, removed}

-- how long a text of capacity c can be in the cells xs
abbrev pub usable : ℕ → List ℕ → ℕ
usable c xs = min (min c (length xs)) 255

-- the cells xs, once the bytes b are put into the text of their first n at p: the cells behind the new text stay
abbrev pub inserting : ℕ → ℕ → List ℕ → List ℕ → List ℕ
inserting n p b xs = inserted p b (take n xs) ++ drop (n + length b) xs

-- the cells xs, once k bytes of the text of their first n are gone from p: the k cells behind the new text are zero
abbrev pub removing : ℕ → ℕ → ℕ → List ℕ → List ℕ
removing n p k xs = removed p k (take n xs) ++ (replicate k 0 ++ drop n xs)

-- the cells from n up to u are zero
abbrev pub Zeros : ℕ → ℕ → List ℕ → Type 0
Zeros u n xs = drop n xs ≡ replicate (u - n) 0 ++ drop u xs
