use Rattle.std.proofs.Common.{◌≡◌, ℕ, true, false, ◌⊎◌, List, [], ◌∷◌, ◌++◌, map, codes, filter, refl, ap, ◌∙◌, inl, inr, arith}
use Rattle.std.proofs.lemmas.List.Elements.{filter-append, All-head, All-tail, All-map, All-weaker}
use Rattle.std.proofs.lemmas.List.{map-append, length-map}
use Rattle.std.proofs.lemmas.Bool.{cases_Bool, not-false, or_parts}
use Rattle.std.proofs.lemmas.Bool.Decides.{nat_tests}
use Rattle.rules.specs.Letters.{is_letter, is_digit}
use Rattle.rules.specs.Spellings.{spelling}
use Rattle.rules.proofs.Letters.{capital_is, small_is, digit_is}
use Rattle.sail_mark.specs.Marks.{is_blank, is_invalid_mark, SailMarked, capital, mark_byte, normal_mark}
use Rattle.sail_mark.specs.Laws.{blank_goes, other_stays}
use Rattle.std.specs.List.{AllPass}
use Rattle.sail_mark.proofs.Marks.{digit_no_blank, mark_decides, mark_valid}

pub normal_spelling : (s : List ℕ) → normal_mark s ≡ spelling mark_byte s
normal_spelling [] = refl
normal_spelling (x ∷ xs) =
    elim (cases_Bool (is_blank x)) [
      | inl e ↦ blank_goes x xs e ∙ rw e (normal_spelling xs)
      | inr e ↦ other_stays x xs e ∙ rw e (ap (λ z. capital x ∷ z) (normal_spelling xs))
    ]

-- on one byte

capital_letter : (b : ℕ) → is_letter b ≡ true → is_letter (capital b) ≡ true
capital_letter b h = grind (arith, nat_tests, capital_is, small_is)

letter_no_blank : (b : ℕ) → is_letter b ≡ true → is_blank b ≡ false
letter_no_blank b h = grind (arith, nat_tests, capital_is, small_is)

digit_capital : (b : ℕ) → is_digit b ≡ true → capital b ≡ b
digit_capital b h = grind (arith, nat_tests, digit_is, small_is)

-- on the parts of a mark

normal-append : (s t : List ℕ) → normal_mark (s ++ t) ≡ normal_mark s ++ normal_mark t
normal-append s t = ap (map capital) (filter-append _ s t) ∙ map-append capital (filter _ s) (filter _ t)

normal_nation : (s : List ℕ) → AllPass is_letter s → normal_mark s ≡ map capital s
normal_nation [] all = refl
normal_nation (x ∷ xs) all =
    let P : ℕ → Type 0 = λ b. is_letter b ≡ true in
    other_stays x xs (letter_no_blank x (All-head P x xs all)) ∙ ap (λ z. capital x ∷ z) (normal_nation xs (All-tail P x xs all))

normal_gap : (g : List ℕ) → (g ≡ []) ⊎ (g ≡ codes " ") → normal_mark g ≡ []
normal_gap g (inl e) = ap normal_mark e
normal_gap g (inr e) = ap normal_mark e

normal_number : (d : List ℕ) → AllPass is_digit d → normal_mark d ≡ d
normal_number [] all = refl
normal_number (x ∷ xs) all =
    let P : ℕ → Type 0 = λ b. is_digit b ≡ true in
    let d = All-head P x xs all in
    other_stays x xs (digit_no_blank x d) ∙ ap (λ y. y ∷ normal_mark xs) (digit_capital x d) ∙ ap (λ z. x ∷ z) (normal_number xs (All-tail P x xs all))

normal_behind : (s : List ℕ) (m : SailMarked s) → normal_mark (m.gap ++ m.number) ≡ m.number
normal_behind s m =
    normal-append m.gap m.number
    ∙ ap (λ z. z ++ normal_mark m.number) (normal_gap m.gap m.blank)
    ∙ normal_number m.number m.numerals

pub normal_is : (s : List ℕ) (m : SailMarked s) → normal_mark s ≡ map capital m.nation ++ m.number
normal_is s m =
    ap normal_mark m.whole
    ∙ normal-append m.nation (m.gap ++ m.number)
    ∙ ap (λ z. normal_mark m.nation ++ z) (normal_behind s m)
    ∙ ap (λ z. z ++ m.number) (normal_nation m.nation m.letters)

normal_marked : (s : List ℕ) → SailMarked s → SailMarked (normal_mark s)
normal_marked s m =
    record {
      nation = map capital m.nation;
      gap = [];
      number = m.number;
      whole = normal_is s m;
      letters = All-map (λ b. is_letter b ≡ true) capital m.nation (All-weaker _ (λ b. is_letter (capital b) ≡ true) capital_letter m.nation m.letters);
      three = length-map m.nation capital ∙ m.three;
      blank = inl refl;
      numerals = m.numerals;
      some = m.some;
      few = m.few;
    }

pub normal_valid : (s : List ℕ) → is_invalid_mark s ≡ false → is_invalid_mark (normal_mark s) ≡ false
normal_valid s h =
    mark_valid (normal_mark s) (normal_marked s ((mark_decides s).0 (not-false _ (or_parts _ _ h).1)))
