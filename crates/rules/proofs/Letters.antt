use Rattle.std.proofs.Common.{◌≡◌, ℕ, zero, suc, ◌+◌, Bool, false, not, ◌||◌, List, [], ◌∷◌, sym, refl, ap, ◌∙◌, arith}
use Rattle.std.proofs.lemmas.Bool.{or_from, or_parts, ne_eqb, both_ways, not-false}
use Rattle.std.proofs.lemmas.Bool.Decides.{nat_tests}
use Rattle.std.specs.Char.{is_ascii_uppercase, is_ascii_lowercase, is_ascii_digit}
use Rattle.std.specs.Int.{is_in_range}
use Rattle.string.specs.Picks.{listed}
use Rattle.string_view.specs.Characters.{is_character}
use Rattle.rules.specs.Letters.{is_capital, is_small, is_digit, is_letter}
use Rattle.rules.specs.Sets.{some_outside, WithinCharacters}

-- n codes in a row, the first of them a
abbrev run : ℕ → ℕ → List ℕ
run a zero = []
run a (suc n) = a ∷ run (suc a) n

listed_run : (n a z b : ℕ) → a + n ≡ suc z → listed (run a n) b ≡ is_in_range a z b
listed_run zero a z b h = grind (arith, nat_tests)
listed_run (suc n) a z b h = let t = listed_run n (suc a) z b (omega arith) in grind (arith, nat_tests)

-- RFC 20's letters and digits are what the library calls so

pub capital_is : (b : ℕ) → is_capital b ≡ is_ascii_uppercase b
unfolding is_capital
capital_is b = listed_run 26 65 90 b refl

pub small_is : (b : ℕ) → is_small b ≡ is_ascii_lowercase b
unfolding is_small
small_is b = listed_run 26 97 122 b refl

pub digit_is : (b : ℕ) → is_digit b ≡ is_ascii_digit b
unfolding is_digit
digit_is b = listed_run 10 48 57 b refl

-- they are characters

pub letters_characters : WithinCharacters is_letter
letters_characters b h = grind (arith, nat_tests, capital_is, small_is)

pub digits_characters : WithinCharacters is_digit
digits_characters b h = grind (arith, nat_tests, digit_is)

pub listed_characters : (xs : List ℕ) → some_outside is_character xs ≡ false → WithinCharacters (listed xs)
listed_characters [] k b h = refl
listed_characters (x ∷ xs) k b h =
    let k2 = or_parts (not (is_character x)) (some_outside is_character xs) k in
    let ne : (x ≡ b → ⊥) = λ e. both_ways _ h (ap is_character (sym e) ∙ not-false _ k2.0) in
    or_from _ _ (ne_eqb x b ne) (listed_characters xs k2.1 b h)

pub either_characters : (f g : ℕ → Bool) → WithinCharacters f → WithinCharacters g → WithinCharacters (λ b. f b || g b)
either_characters f g u v b h = or_from _ _ (u b h) (v b h)
