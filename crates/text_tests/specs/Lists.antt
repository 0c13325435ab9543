use Rattle.std.specs.Prelude.{ℕ, Bool, ◌&&◌, List}
use Rattle.string.specs.Picks.{listed}
use Rattle.string_view.specs.Characters.{is_character}

-- b is a character of the list
abbrev pub is_among : List ℕ → ℕ → Bool
is_among bytes b = is_character b && listed bytes b
