use Rattle.std.specs.Prelude.{◌≡◌, ℕ, ◌≤◌, Bool, true, false, not, List, [], ◌∷◌, length, filter, refl}
use Rattle.std.proofs.Common.{sym, ◌∙◌, ap, inl, inr, arith}
use Rattle.std.specs.Char.{to_ascii_uppercase}
use Rattle.std.proofs.lemmas.List.Filters.{length-filter_both}
use Rattle.std.proofs.lemmas.List.{length-map}
use Rattle.std.proofs.lemmas.Bool.{cases_Bool}
use Rattle.std.proofs.lemmas.Bool.Decides.{nat_tests}
use Rattle.rules.proofs.Letters.{small_is}
use Rattle.sail_mark.specs.Marks.{is_blank, capital, normal_mark}

-- The laws of the normal form, for any text.

-- a capital is what the library calls so
pub capital_is : (b : ℕ) → to_ascii_uppercase b ≡ capital b
capital_is b = grind (arith, nat_tests, small_is)

capital_twice : (b : ℕ) → capital (capital b) ≡ capital b
capital_twice b = grind (arith, nat_tests, small_is)

capital_no_blank : (b : ℕ) → is_blank b ≡ false → is_blank (capital b) ≡ false
capital_no_blank b h = grind (arith, nat_tests, small_is)

pub blank_goes : (x : ℕ) (xs : List ℕ) → is_blank x ≡ true → normal_mark (x ∷ xs) ≡ normal_mark xs
blank_goes x xs e = rw e

pub other_stays : (x : ℕ) (xs : List ℕ) → is_blank x ≡ false → normal_mark (x ∷ xs) ≡ capital x ∷ normal_mark xs
other_stays x xs e = rw e

pub mark_settled : (s : List ℕ) → normal_mark (normal_mark s) ≡ normal_mark s
mark_settled [] = refl
mark_settled (x ∷ xs) =
    elim (cases_Bool (is_blank x)) [
      | inl e ↦ ap normal_mark (blank_goes x xs e) ∙ mark_settled xs ∙ sym (blank_goes x xs e)
      | inr e ↦
          ap normal_mark (other_stays x xs e)
          ∙ other_stays (capital x) (normal_mark xs) (capital_no_blank x e)
          ∙ ap (λ y. y ∷ normal_mark (normal_mark xs)) (capital_twice x)
          ∙ ap (λ z. capital x ∷ z) (mark_settled xs)
          ∙ sym (other_stays x xs e)
    ]

pub mark_bounded : (s : List ℕ) → length s ≤ 255 → length (normal_mark s) ≤ 255
mark_bounded s h =
    let other : ℕ → Bool = λ b. not (is_blank b) in
    omega (arith, length-map (filter other s) capital, length-filter_both is_blank other (λ _. refl) s)
