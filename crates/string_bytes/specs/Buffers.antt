use Rattle.std.specs.Prelude.{◌≡◌, ℕ, Bool, List, [], ◌∷◌, ◌++◌, length, drop, is_ok, nat_le, if◌then◌else◌, Result}
use Rattle.string_view.specs.declared.error.BufferTooShort.{BufferTooShort}
use Rattle.string_view.specs.Checks.{first_fail, answered}
use Rattle.string_view.specs.Refusals.{Refusal, refusal, buffer_told}

-- the buffer xs has a cell for each byte of b
abbrev pub enough : List ℕ → List ℕ → Bool × Refusal
enough b xs = (nat_le (length b) (length xs), refusal 9 [])

-- the buffer xs with b in its first cells, and its others as they were
abbrev pub written : List ℕ → List ℕ → List ℕ
written b xs = b ++ drop (length b) xs

-- a call that was to write b into the buffer xs answers how many bytes b is, or that the buffer has too few cells
abbrev pub AnswersLength : List ℕ → List ℕ → Result ℕ BufferTooShort → Type 0
AnswersLength b xs r = answered buffer_told r ≡ first_fail (length b) (enough b xs ∷ [])

-- it leaves the buffer as ys: with b in its first cells, or as it was
abbrev pub FillsFront : List ℕ → List ℕ → List ℕ → Result ℕ BufferTooShort → Type 0
FillsFront b xs ys r = ys ≡ (if is_ok r then written b xs else xs)
