use Rattle.std.specs.Prelude.{ℕ, ◌^◌, Bool, ◌&&◌, nat_lt}

-- RFC 20 codes a character in seven bits. Its code 0, NUL, ends a text and so is no character of one.
abbrev pub is_character : ℕ → Bool
is_character b = nat_lt 0 b && nat_lt b (2 ^ 7)
