use Rattle.std.specs.Prelude.{ℕ, ◌+◌, Bool, not, List, [], ◌∷◌, length, Ok, Err, Result, ◌==◌, nat_le, if◌then◌else◌}
use Rattle.string_view.specs.Characters.{is_character}
use Rattle.string_view.specs.Places.{before}
use Rattle.string_view.specs.Refusals.{Refusal, refusal}

-- The checks of a call in their order, each with what is answered where it fails: the first that fails is
-- the answer, and where all pass it is a.
abbrev pub first_fail : {A : Type 0} → A → List (Bool × Refusal) → Result A Refusal
first_fail a [] = Ok a
first_fail a (c ∷ cs) = if c.0 then first_fail a cs else Err c.1

-- an answer, its refusal by number
abbrev pub answered : {A E : Type 0} → (E → Refusal) → Result A E → Result A Refusal
answered tells (Ok a) = Ok a
answered tells (Err e) = Err (tells e)

-- the first place in b that holds no character, or b's length
abbrev pub first_bad : List ℕ → ℕ
first_bad b = before (λ x. not (is_character x)) b

-- each byte of b is a character, or which is not
abbrev pub characters : List ℕ → Bool × Refusal
characters b = ((first_bad b == length b), refusal 2 (first_bad b ∷ []))

-- n bytes are within the capacity r
abbrev pub within_capacity : ℕ → ℕ → Bool × Refusal
within_capacity r n = (nat_le n r, refusal 1 [])

-- p is a place in s, or its end
abbrev pub within_text : List ℕ → ℕ → Bool × Refusal
within_text s p = (nat_le p (length s), refusal 3 [])

-- making b the whole text, within the capacity r
abbrev pub loading : ℕ → List ℕ → List (Bool × Refusal)
loading r b = within_capacity r (length b) ∷ (characters b ∷ [])

-- putting b behind the text s, within the capacity r
abbrev pub appending : ℕ → List ℕ → List ℕ → List (Bool × Refusal)
appending r s b = within_capacity r (length s + length b) ∷ (characters b ∷ [])

-- putting b at p into the text s, within the capacity r
abbrev pub insertion : ℕ → List ℕ → ℕ → List ℕ → List (Bool × Refusal)
insertion r s p b = within_text s p ∷ appending r s b
