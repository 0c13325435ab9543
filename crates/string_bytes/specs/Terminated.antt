use Rattle.std.specs.Prelude.{ℕ, ◌+◌, Bool, List, take, ◌==◌}
use Rattle.string_view.specs.Places.{before}

-- RFC 20's NUL, which ends a text
abbrev pub is_nul : ℕ → Bool
is_nul b = b == 0

-- what a slot holds for a string of capacity r: of its first r + 1 bytes, those before the first zero
abbrev pub terminated : ℕ → List ℕ → List ℕ
terminated r slot = take (before is_nul (take (r + 1) slot)) slot
