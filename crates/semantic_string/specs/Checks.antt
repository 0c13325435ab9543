use Rattle.std.specs.Prelude.{ℕ, Bool, not, List, [], ◌∷◌, ◌++◌, map}
use Rattle.string_view.specs.Checks.{within_text, appending, loading}
use Rattle.string_view.specs.Refusals.{Refusal, refusal}
use Rattle.string_view.specs.Sequences.{inserted}
use Rattle.semantic_string.specs.Refusals.{within5}

-- a check of the plain string, whose refusal is told within 5
abbrev pub passing : Bool × Refusal → Bool × Refusal
passing c = (c.0, within5 c.1)

-- t is valid content; `bad` is what the rule says of a sequence
abbrev pub content : (List ℕ → Bool) → List ℕ → Bool × Refusal
content bad t = (not (bad t), refusal 4 [])

-- making b the text of a text that is set up, within the capacity r
abbrev pub setting_up : (List ℕ → Bool) → ℕ → List ℕ → List (Bool × Refusal)
setting_up bad r b = map passing (loading r b) ++ (content bad b ∷ [])

-- putting b into the text s, which then is t, within the capacity r
abbrev pub adding : (List ℕ → Bool) → ℕ → List ℕ → List ℕ → List ℕ → List (Bool × Refusal)
adding bad r s b t = map passing (appending r s b) ++ (content bad t ∷ [])

-- putting b at p
abbrev pub inserting : (List ℕ → Bool) → ℕ → List ℕ → ℕ → List ℕ → List (Bool × Refusal)
inserting bad r s p b = within_text s p ∷ adding bad r s b (inserted p b s)

-- putting b behind
abbrev pub pushing : (List ℕ → Bool) → ℕ → List ℕ → List ℕ → List (Bool × Refusal)
pushing bad r s b = adding bad r s b (s ++ b)
