use Rattle.std.specs.Prelude.{◌≡◌, ◌↔◌, IsTrue, ℕ, ◌≤◌, Bool, true, false, cond, not, ◌⊎◌, List, [], ◌∷◌, ◌++◌, length, take, drop, codes, refl}
use Rattle.std.proofs.Common.{Decides, leb, sym, ap, ◌∙◌, subst, inl, inr, arith}
use Rattle.std.proofs.lemmas.List.{take-append-drop, take_at, drop_at, length-append, length-take-le}
use Rattle.std.proofs.lemmas.List.Elements.{All-append, All-head, All-weaker}
use Rattle.std.proofs.lemmas.List.Recursion.{or_from_places}
use Rattle.std.proofs.lemmas.List.Sums.{AllPass-from_list_all, list_all-from_AllPass}
use Rattle.std.proofs.lemmas.Bool.{and_from, both_ways, cond_both, leb-true, le-leb, not_from_true, or_from, or_left, or_right}
use Rattle.std.proofs.lemmas.Bool.Decides.{Decides-at, nat_tests, Decides-and, Decides-like, Decides-not}
use Rattle.std.specs.List.{list_all, AllPass}
use Rattle.std.specs.Str.{bytes_eq}
use Rattle.rules.specs.Letters.{is_letter, is_digit}
use Rattle.rules.specs.Sets.{some_outside}
use Rattle.rules.proofs.Letters.{digit_is}
use Rattle.sail_mark.specs.Marks.{is_blank, is_mark_character, is_invalid_mark, SailMarked, behind_blank, is_mark}

Decides-list_all : (set : ℕ → Bool) (s : List ℕ) → Decides (list_all set s) (AllPass set s)
Decides-list_all set s = (AllPass-from_list_all set s, list_all-from_AllPass set s)

decides-leb : (a b : ℕ) → Decides (leb a b) (a ≤ b)
decides-leb a b = (leb-true a b, le-leb a b)

pub digit_no_blank : (b : ℕ) → is_digit b ≡ true → is_blank b ≡ false
digit_no_blank b h = grind (arith, nat_tests, digit_is)

-- the tests that the code makes, by what each says

abbrev Number : List ℕ → Type 0
Number d = ((1 ≤ length d) × (length d ≤ 6)) × AllPass is_digit d

abbrev Tests : List ℕ → Type 0
Tests s = ((3 ≤ length s) × AllPass is_letter (take 3 s)) × Number (behind_blank (drop 3 s))

tests_decides : (s : List ℕ) → Decides (is_mark s) (Tests s)
tests_decides s =
    let d = behind_blank (drop 3 s) in
    Decides-and _ _ (Decides-and _ _ (decides-leb 3 (length s)) (Decides-list_all is_letter (take 3 s)))
    (Decides-and _ _ (Decides-and _ _ (decides-leb 1 (length d)) (decides-leb (length d) 6)) (Decides-list_all is_digit d))

-- what stands before the number

abbrev gap_of : List ℕ → List ℕ
gap_of t = cond (bytes_eq (take 1 t) (codes " ")) (codes " ") []

gap_whole : (t : List ℕ) → t ≡ gap_of t ++ behind_blank t
gap_whole [] = refl
gap_whole (x ∷ xs) = grind (arith, nat_tests)

gap_blank : (t : List ℕ) → (gap_of t ≡ []) ⊎ (gap_of t ≡ codes " ")
gap_blank t = cond_both (bytes_eq (take 1 t) (codes " ")) (codes " ") [] (λ g. (g ≡ []) ⊎ (g ≡ codes " ")) (λ _. inr refl) (λ _. inl refl)

tested : (s : List ℕ) → Tests s → SailMarked s
tested s t =
    let rest = drop 3 s in
    record {
      nation = take 3 s;
      gap = gap_of rest;
      number = behind_blank rest;
      whole = sym (take-append-drop 3 s) ∙ ap (λ z. take 3 s ++ z) (gap_whole rest);
      letters = t.0.1;
      three = length-take-le 3 s t.0.0;
      blank = gap_blank rest;
      numerals = t.1.1;
      some = t.1.0.0;
      few = t.1.0.1;
    }

-- a number begins with a digit, so the cut is found again
gap_found : (g d : List ℕ) → (g ≡ []) ⊎ (g ≡ codes " ") → 1 ≤ length d → AllPass is_digit d → behind_blank (g ++ d) ≡ d
gap_found g [] (inl e) h all = absurd (omega arith)
gap_found g (x ∷ xs) (inl e) h all =
    ap (λ z. behind_blank (z ++ (x ∷ xs))) e ∙ rw (digit_no_blank x (All-head (λ b. is_digit b ≡ true) x xs all))
gap_found g d (inr e) h all = ap (λ z. behind_blank (z ++ d)) e

number_found : (s : List ℕ) (m : SailMarked s) → behind_blank (drop 3 s) ≡ m.number
number_found s m =
    ap (λ z. behind_blank (drop 3 z)) m.whole
    ∙ ap behind_blank (drop_at m.nation (m.gap ++ m.number) 3 m.three)
    ∙ gap_found m.gap m.number m.blank m.some m.numerals

nation_found : (s : List ℕ) (m : SailMarked s) → take 3 s ≡ m.nation
nation_found s m = ap (take 3) m.whole ∙ take_at m.nation (m.gap ++ m.number) 3 m.three

to_test : (s : List ℕ) → SailMarked s → Tests s
to_test s m =
    let long : 3 ≤ length s = omega (arith, ap length m.whole ∙ length-append m.nation (m.gap ++ m.number), m.three) in
    ((long, subst (AllPass is_letter) (sym (nation_found s m)) m.letters), subst Number (sym (number_found s m)) ((m.some, m.few), m.numerals))

pub mark_decides : (s : List ℕ) → Decides (is_mark s) (SailMarked s)
mark_decides s = Decides-like _ (tested s) (to_test s) (tests_decides s)

-- a mark has mark characters alone

gap_inside : (g : List ℕ) → (g ≡ []) ⊎ (g ≡ codes " ") → list_all is_mark_character g ≡ true
gap_inside g (inl e) = ap (list_all is_mark_character) e
gap_inside g (inr e) = ap (list_all is_mark_character) e ∙ and_from _ true (or_right (is_letter 32) _ (or_right (is_digit 32) _ refl)) refl

mark_inside : (s : List ℕ) → SailMarked s → AllPass is_mark_character s
mark_inside s m =
    let P : ℕ → Type 0 = λ b. is_mark_character b ≡ true in
    subst (AllPass is_mark_character) (sym m.whole)
    (All-append P m.nation (m.gap ++ m.number) (All-weaker _ P (λ b h. or_left (is_letter b) _ h) m.nation m.letters)
    (All-append P m.gap m.number (AllPass-from_list_all is_mark_character m.gap (gap_inside m.gap m.blank)) (All-weaker _ P (λ b h. or_right (is_letter b) _ (or_left (is_digit b) _ h)) m.number m.numerals)))

pub mark_valid : (s : List ℕ) → SailMarked s → is_invalid_mark s ≡ false
mark_valid s m =
    or_from _ _ (or_from_places (some_outside is_mark_character) (λ b. not (is_mark_character b)) refl (λ _ _. refl) s 0 (λ i h. not_from_true _ (mark_inside s m i 0 h)))
    (not_from_true _ ((mark_decides s).1 m))

decided : (s : List ℕ) → IsTrue (is_invalid_mark s) ↔ (SailMarked s → ⊥)
decided s = (λ e m. both_ways _ (mark_valid s m) e, λ none. or_right _ _ ((Decides-not _ (mark_decides s)).1 none))

-- an answer that is the test's decides it
pub invalid_decided : (s : List ℕ) (b : Bool) → b ≡ is_invalid_mark s → IsTrue b ↔ (SailMarked s → ⊥)
invalid_decided s b e = Decides-at _ _ e (decided s)
