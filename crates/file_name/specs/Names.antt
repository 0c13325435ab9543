use Rattle.std.specs.Prelude.{◌≡◌, ℕ, ◌<◌, Bool, false, ◌||◌, List, [], ◌++◌, length, take, codes, slice_index, refl}
use Rattle.std.specs.Str.{bytes_eq}
use Rattle.string.specs.Picks.{listed}
use Rattle.rules.specs.Letters.{is_letter, is_digit}
use Rattle.rules.specs.Sets.{some_outside, WithinCharacters}
use Rattle.rules.proofs.Letters.{letters_characters, digits_characters, listed_characters, either_characters}

-- POSIX.1's portable filename character set: the letters, the digits, full stop, low line and hyphen
abbrev pub is_portable : ℕ → Bool
is_portable b = is_letter b || (is_digit b || listed (codes "._-") b)

-- A sequence that is no file name. POSIX.1 gives `.` and `..` to the directories themselves, and has portable names
-- not begin with a hyphen.
pub data InvalidName (s : List ℕ) : Type 0 where
  strange : (i : ℕ) → i < length s → is_portable (slice_index s i) ≡ false → InvalidName s
  empty : s ≡ [] → InvalidName s
  dot : s ≡ codes "." → InvalidName s
  dot_dot : s ≡ codes ".." → InvalidName s
  hyphen : (rest : List ℕ) → s ≡ codes "-" ++ rest → InvalidName s

-- InvalidName as a test, but for the characters
abbrev pub is_no_name : List ℕ → Bool
is_no_name s = (bytes_eq s [] || bytes_eq s (codes ".")) || (bytes_eq s (codes "..") || bytes_eq (take 1 s) (codes "-"))

-- InvalidName as a test
abbrev pub is_invalid_name : List ℕ → Bool
is_invalid_name s = some_outside is_portable s || is_no_name s

pub portable_characters : WithinCharacters is_portable
portable_characters =
    either_characters is_letter _ letters_characters (either_characters is_digit (listed (codes "._-")) digits_characters (listed_characters (codes "._-") refl))
