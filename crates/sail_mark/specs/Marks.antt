use Rattle.std.specs.Prelude.{◌≡◌, ℕ, ◌-◌, ◌≤◌, Bool, if◌then◌else◌, not, ◌&&◌, ◌||◌, ◌⊎◌, List, [], ◌∷◌, ◌++◌, map, length, take, drop, Some, None, codes, filter, Option, ◌==◌, nat_le}
use Rattle.std.proofs.Common.{arith}
use Rattle.std.proofs.lemmas.Bool.Decides.{nat_tests}
use Rattle.std.specs.List.{list_all, AllPass}
use Rattle.std.specs.Str.{bytes_eq}
use Rattle.rules.specs.Letters.{is_small, is_letter, is_digit}
use Rattle.rules.specs.Sets.{some_outside, WithinCharacters}
use Rattle.rules.proofs.Letters.{letters_characters, digits_characters, either_characters}

-- RFC 20's space
abbrev pub is_blank : ℕ → Bool
is_blank b = b == 32

-- the letters, the digits and the blank
abbrev pub is_mark_character : ℕ → Bool
is_mark_character b = is_letter b || (is_digit b || is_blank b)

blank_characters : WithinCharacters is_blank
blank_characters b h = grind (arith, nat_tests)

pub mark_characters : WithinCharacters is_mark_character
mark_characters =
    either_characters is_letter _ letters_characters (either_characters is_digit is_blank digits_characters blank_characters)

-- A sail mark: three letters for the nation, at most one blank, and one to six digits.
pub record SailMarked (s : List ℕ) : Type 0 where
  pub nation : List ℕ
  pub gap : List ℕ
  pub number : List ℕ
  pub whole : s ≡ nation ++ (gap ++ number)
  pub letters : AllPass is_letter nation
  pub three : length nation ≡ 3
  pub blank : (gap ≡ []) ⊎ (gap ≡ codes " ")
  pub numerals : AllPass is_digit number
  pub some : 1 ≤ length number
  pub few : length number ≤ 6

-- the same as a test

abbrev pub is_number : List ℕ → Bool
is_number d = (nat_le 1 (length d) && nat_le (length d) 6) && list_all is_digit d

-- t without a blank in front
abbrev pub behind_blank : List ℕ → List ℕ
behind_blank t = if bytes_eq (take 1 t) (codes " ") then drop 1 t else t

abbrev pub is_mark : List ℕ → Bool
is_mark s = (nat_le 3 (length s) && list_all is_letter (take 3 s)) && is_number (behind_blank (drop 3 s))

-- the sequences that are no valid mark, by their characters or otherwise
abbrev pub is_invalid_mark : List ℕ → Bool
is_invalid_mark s = some_outside is_mark_character s || not (is_mark s)

-- a small letter's code is 32 above its capital's; every other byte is left as it is
abbrev pub capital : ℕ → ℕ
capital b = if is_small b then b - 32 else b

-- the normal form of a mark: capitals, no blanks
abbrev pub normal_mark : List ℕ → List ℕ
normal_mark s = map capital (filter (λ b. not (is_blank b)) s)

-- the same byte by byte
abbrev pub mark_byte : List ℕ → Option ℕ
mark_byte [] = None
mark_byte (x ∷ xs) = if is_blank x then None else Some (capital x)
