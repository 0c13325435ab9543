use Rattle.std.specs.Prelude.{ℕ, List, [], ◌∷◌, Option}
use Rattle.std.specs.List.{cons_option}

-- what stands for the bytes of a text, one after the other
abbrev pub spelling : (List ℕ → Option ℕ) → List ℕ → List ℕ
spelling f [] = []
spelling f (x ∷ xs) = cons_option (f (x ∷ xs)) (spelling f xs)
