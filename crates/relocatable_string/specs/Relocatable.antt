use Rattle.std.specs.Prelude.{ℕ, ◌≤◌, List, [], ◌∷◌, length, take, drop}
use Rattle.std.proofs.Common.{arith, length-take}
use Rattle.std.proofs.lemmas.Bool.Decides.{nat_tests}
use Rattle.relocatable_string.specs.Region.{used, room_in, closed_in}
use Rattle.relocatable_string.specs.declared.RelocatableStringUninit.{RelocatableStringUninit}
use Rattle.relocatable_string.specs.declared.RelocatableString.{RelocatableString}

abbrev pub announced : RelocatableStringUninit → ℕ
announced u = u.capacity

abbrev pub announced_of : RelocatableString → ℕ
announced_of s = s.capacity

abbrev pub cells_of : RelocatableString → List ℕ
cells_of s = s.region.now

abbrev pub room_of : RelocatableString → ℕ
room_of s = room_in (announced_of s) (length (cells_of s))

abbrev pub text_of : RelocatableString → List ℕ
text_of s = take s.len (cells_of s)

abbrev pub used_of : RelocatableString → ℕ
used_of s = used (announced_of s) (length (cells_of s))

abbrev pub beyond_of : RelocatableString → List ℕ
beyond_of s = drop (used_of s) (cells_of s)

-- which region, how many cells were lent, and the capacity that was announced
abbrev pub fixed_of : RelocatableString → List ℕ
fixed_of s = s.region.ghost_name ∷ (length (cells_of s) ∷ (announced_of s ∷ []))

-- it holds of every string, since its type says so
abbrev pub closed_of : RelocatableString → Type 0
closed_of s = closed_in (announced_of s) s.len (cells_of s)

pub is_small : (s : RelocatableString) → room_of s ≤ 255
is_small s = grind (arith, nat_tests)

pub is_short : (s : RelocatableString) → length (text_of s) ≤ 255
is_short s = omega (arith, length-take s.len (cells_of s), is_small s, s.within)
