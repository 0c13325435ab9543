use Rattle.std.proofs.Common.{ℕ, ◌+◌, ◌≤◌, List, [], ◌∷◌, length, Some, None, Option, arith}
use Rattle.std.specs.List.{cons_option}
use Rattle.rules.specs.Spellings.{spelling}

length-cons_option : (o : Option ℕ) (ys : List ℕ) → length (cons_option o ys) ≤ length ys + 1
length-cons_option None ys = omega arith
length-cons_option (Some y) ys = omega arith

-- at most one byte stands for each
pub spelling_no_longer : (f : List ℕ → Option ℕ) (s : List ℕ) → length (spelling f s) ≤ length s
spelling_no_longer f [] = omega arith
spelling_no_longer f (x ∷ xs) = omega (arith, length-cons_option (f (x ∷ xs)) (spelling f xs), spelling_no_longer f xs)
