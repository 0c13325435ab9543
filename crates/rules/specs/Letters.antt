use Rattle.std.specs.Prelude.{ℕ, Bool, ◌||◌, List, codes}
use Rattle.string.specs.Picks.{listed}

-- RFC 20's letters, capital and small, and its digits, in the order of their codes

abbrev pub capitals : List ℕ
capitals = codes "ABCDEFGHIJKLMNOPQRSTUVWXYZ"

abbrev pub smalls : List ℕ
smalls = codes "abcdefghijklmnopqrstuvwxyz"

abbrev pub digits : List ℕ
digits = codes "0123456789"

unfoldable pub is_capital : ℕ → Bool
is_capital b = listed capitals b

unfoldable pub is_small : ℕ → Bool
is_small b = listed smalls b

unfoldable pub is_digit : ℕ → Bool
is_digit b = listed digits b

abbrev pub is_letter : ℕ → Bool
is_letter b = is_capital b || is_small b
