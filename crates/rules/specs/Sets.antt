use Rattle.std.specs.Prelude.{◌≡◌, ℕ, ◌<◌, Bool, true, false, not, List, length, slice_index, refl}
use Rattle.std.specs.List.{list_any}
use Rattle.std.proofs.lemmas.Bool.{not_from_false}
use Rattle.std.proofs.lemmas.List.Recursion.{or_at}
use Rattle.string_view.specs.Characters.{is_character}

-- some byte of s lies outside the set
abbrev pub some_outside : (ℕ → Bool) → List ℕ → Bool
some_outside set s = list_any (λ b. not (set b)) s

pub outside_at : (set : ℕ → Bool) (s : List ℕ) (i : ℕ) → i < length s → set (slice_index s i) ≡ false → some_outside set s ≡ true
outside_at set s i h e = or_at (some_outside set) (λ b. not (set b)) refl (λ _ _. refl) s i 0 h (not_from_false _ e)

-- every byte of the set is a character
abbrev pub WithinCharacters : (ℕ → Bool) → Type 0
WithinCharacters set = (b : ℕ) → is_character b ≡ false → set b ≡ false

-- so a byte that is no character lies outside it
pub strange_outside : (set : ℕ → Bool) → WithinCharacters set → (s : List ℕ) (i : ℕ) → i < length s → is_character (slice_index s i) ≡ false → some_outside set s ≡ true
strange_outside set w s i h e = outside_at set s i h (w (slice_index s i) e)
