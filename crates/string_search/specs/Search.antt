use Rattle.std.specs.Prelude.{◌≡◌, ℕ, ◌+◌, ◌<◌, ◌≤◌, Bool, true, false, List, ◌++◌, length, Option, MatchOption, ◌≢◌, slice_index}

-- the pattern p stands in s at the place q
pub record Stands (s p : List ℕ) (q : ℕ) : Type 0 where
  pub within : q + length p ≤ length s
  pub alike : (k : ℕ) → k < length p → slice_index s (q + k) ≡ slice_index p k

-- the first place of which P holds, or none where it holds of none
abbrev pub First : (ℕ → Type 0) → Option ℕ → Type 0
First P r = MatchOption r ((q : ℕ) → P q → ⊥) (λ n. P n × ((q : ℕ) → q < n → P q → ⊥))

-- the last place of which P holds, or none where it holds of none
abbrev pub Last : (ℕ → Type 0) → Option ℕ → Type 0
Last P r = MatchOption r ((q : ℕ) → P q → ⊥) (λ n. P n × ((q : ℕ) → n < q → P q → ⊥))

-- Yes: s is p and then t. No: s does not start with p, and t is s.
abbrev pub StrippedFront : Bool → List ℕ → List ℕ → List ℕ → Type 0
StrippedFront true s p t = s ≡ p ++ t
StrippedFront false s p t = (t ≡ s) × ((rest : List ℕ) → s ≢ p ++ rest)

-- Yes: s is t and then p. No: s does not end with p, and t is s.
abbrev pub StrippedEnd : Bool → List ℕ → List ℕ → List ℕ → Type 0
StrippedEnd true s p t = s ≡ t ++ p
StrippedEnd false s p t = (t ≡ s) × ((front : List ℕ) → s ≢ front ++ p)
