use Rattle.std.specs.Prelude.{ℕ, Bool, List, ◌==◌}
use Rattle.std.specs.List.{list_any}

-- b is one of the bytes of a list
abbrev pub listed : List ℕ → ℕ → Bool
listed xs b = list_any (λ x. x == b) xs
