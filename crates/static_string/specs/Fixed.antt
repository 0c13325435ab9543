use Rattle.std.specs.Prelude.{ℕ, ◌≤◌, List, length, take}
use Rattle.std.proofs.Common.{arith, length-take}
use Rattle.static_string.specs.declared.StaticString.{StaticString}

abbrev pub room_of : StaticString → ℕ
room_of s = s.capacity

abbrev pub text_of : StaticString → List ℕ
text_of s = take s.len s.«data»

pub is_small : (s : StaticString) → room_of s ≤ 255
is_small s = s.small

pub is_short : (s : StaticString) → length (text_of s) ≤ 255
is_short s = omega (arith, length-take s.len s.«data», s.small, s.within)
