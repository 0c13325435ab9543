use Rattle.std.specs.Prelude.{◌≡◌, ℕ, ◌<◌, ◌⊎◌, not, List, [], ◌∷◌, Option, ◌==◌}
use Rattle.std.specs.List.{find, zip}
use Rattle.std.specs.declared.cmp.Ordering.{Ordering}
use Rattle.std.specs.Ordering.{MatchOrdering}

-- xs comes before ys: it is a proper start of ys, or smaller where they first differ
abbrev pub Precedes : List ℕ → List ℕ → Type 0
Precedes [] [] = ⊥
Precedes [] (y ∷ ys) = Unit {0}
Precedes (x ∷ xs) [] = ⊥
Precedes (x ∷ xs) (y ∷ ys) = (x < y) ⊎ ((x ≡ y) × Precedes xs ys)

-- less, equal or greater
abbrev pub Compared : List ℕ → List ℕ → Ordering → Type 0
Compared xs ys r = MatchOrdering r (Precedes xs ys) (xs ≡ ys) (Precedes ys xs)

-- the two elements at the first place at which xs and ys differ
abbrev pub first_difference : List ℕ → List ℕ → Option (ℕ × ℕ)
first_difference xs ys = find (λ p. not (p.0 == p.1)) (zip xs ys)

-- of two sequences exactly one comes first, unless they are the same
pub record TotalOrder : Type 0 where
  pub irreflexive : (xs : List ℕ) → Precedes xs xs → ⊥
  pub transitive : (xs ys zs : List ℕ) → Precedes xs ys → Precedes ys zs → Precedes xs zs
  pub total : (xs ys : List ℕ) → Precedes xs ys ⊎ ((xs ≡ ys) ⊎ Precedes ys xs)
