use Rattle.std.proofs.Common.{◌≡◌, ℕ, suc, ◌<◌, ◌⊎◌, Bool, true, false, not, ◌==◌, cond, Option, Some, None, List, [], ◌∷◌, length, ap, Ordering, Less, Equal, Greater, sym, refl, ◌∙◌, subst, inl, inr, arith}
use Rattle.std.specs.Ordering.{MatchOrdering, nat_cmp, ordering_then}
use Rattle.std.specs.Cmp.Lexicographic.{slice_cmp}
use Rattle.std.proofs.lemmas.Bool.Decides.{nat_tests}
use Rattle.std.proofs.lemmas.Cmp.{ranked, nat_list_cmp_total, tied_itself}
use Rattle.string_search.specs.Order.{Precedes, Compared, TotalOrder, first_difference}

-- the first bytes differ, or what follows decides
compared-cons : (x y : ℕ) (xs ys : List ℕ) (r s : Ordering) → MatchOrdering r (x < y) (x ≡ y) (y < x) → Compared xs ys s → Compared (x ∷ xs) (y ∷ ys) (ordering_then r s)
compared-cons x y xs ys Less s h k = inl h
compared-cons x y xs ys Equal Less h k = inr (h, k)
compared-cons x y xs ys Equal Equal h k = cc
compared-cons x y xs ys Equal Greater h k = inr (sym h, k)
compared-cons x y xs ys Greater s h k = inl h

compared_lists : (xs ys : List ℕ) → Compared xs ys (slice_cmp nat_cmp xs ys)
compared_lists [] [] = refl
compared_lists [] (y ∷ ys) = tt
compared_lists (x ∷ xs) [] = tt
compared_lists (x ∷ xs) (y ∷ ys) = compared-cons x y xs ys _ _ (ranked x y _ refl) (compared_lists xs ys)

-- what the library's order of lists answers
pub compared : (xs ys : List ℕ) (r : Ordering) → r ≡ slice_cmp nat_cmp xs ys → Compared xs ys r
compared xs ys r e = subst (Compared xs ys) (sym e) (compared_lists xs ys)

-- where they first differ decides, and where they do not, their lengths
abbrev pub decided : Option (ℕ × ℕ) → Ordering → Ordering
decided None r = r
decided (Some p) r = nat_cmp p.0 p.1

ties : (t : Bool) (x y : ℕ) (o : Option (ℕ × ℕ)) (r s : Ordering) → (x == y) ≡ t → decided o r ≡ s → decided (cond (not t) (Some (x, y)) o) r ≡ ordering_then (nat_cmp x y) s
ties true x y o r s e h = grind (arith, nat_tests)
ties false x y o r s e h = grind (arith, nat_tests)

behind : (m n : ℕ) → nat_cmp (suc m) (suc n) ≡ nat_cmp m n
behind m n = grind (arith, nat_tests)

by_difference : (xs ys : List ℕ) → decided (first_difference xs ys) (nat_cmp (length xs) (length ys)) ≡ slice_cmp nat_cmp xs ys
by_difference [] [] = refl
by_difference [] (y ∷ ys) = grind (arith, nat_tests)
by_difference (x ∷ xs) [] = grind (arith, nat_tests)
by_difference (x ∷ xs) (y ∷ ys) = ties (x == y) x y (first_difference xs ys) _ _ refl (ap (decided (first_difference xs ys)) (behind (length xs) (length ys)) ∙ by_difference xs ys)

pub compared_by : (xs ys : List ℕ) (o : Option (ℕ × ℕ)) (r : Ordering) → o ≡ first_difference xs ys → r ≡ decided o (nat_cmp (length xs) (length ys)) → Compared xs ys r
compared_by xs ys o r e h = compared xs ys r (h ∙ ap (λ z. decided z (nat_cmp (length xs) (length ys))) e ∙ by_difference xs ys)

is_less : (xs ys : List ℕ) → Precedes xs ys → slice_cmp nat_cmp xs ys ≡ Less
is_less [] [] h = absurd h
is_less [] (y ∷ ys) h = refl
is_less (x ∷ xs) [] h = absurd h
is_less (x ∷ xs) (y ∷ ys) (inl l) = grind (arith, nat_tests)
is_less (x ∷ xs) (y ∷ ys) (inr h) = let e = is_less xs ys h.1 in grind (arith, nat_tests)

total_by : (xs ys : List ℕ) (r : Ordering) → Compared xs ys r → Precedes xs ys ⊎ ((xs ≡ ys) ⊎ Precedes ys xs)
total_by xs ys Less h = inl h
total_by xs ys Equal h = inr (inl h)
total_by xs ys Greater h = inr (inr h)

pub total_order : TotalOrder
total_order =
    record {
      irreflexive = λ xs h. let e : Less ≡ Equal = sym (is_less xs xs h) ∙ tied_itself nat_list_cmp_total xs in cc;
      transitive = λ xs ys zs h k. subst (Compared xs zs) (nat_list_cmp_total.trans xs ys zs (is_less xs ys h) (is_less ys zs k)) (compared_lists xs zs);
      total = λ xs ys. total_by xs ys _ (compared_lists xs ys);
    }
