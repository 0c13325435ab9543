use Rattle.std.proofs.Common.{◌≡◌, ℕ, Bool, true, false, cond, ◌&&◌, ◌||◌, List, [], ◌∷◌, ◌++◌, length, codes, sym, refl, ap, ◌∙◌, inl, inr, arith}
use Rattle.std.proofs.lemmas.Slice.Eq.{bytes_eq-Decides}
use Rattle.std.proofs.lemmas.List.{length-append, nil_from_length}
use Rattle.std.proofs.lemmas.Bool.{cases_Bool, cond_both, and_parts, eqb-true, not_from_true, not_from_false, false≢true, both_ways, or_from, or_parts, or_right}
use Rattle.std.specs.Str.{bytes_eq}
use Rattle.file_name.specs.Names.{is_portable}
use Rattle.rules.specs.Sets.{some_outside}
use Rattle.path.specs.Laws.{Tidy, tidy_spelt, normal_tidy, step, stays, goes}
use Rattle.path.specs.Normal.{non_empty, parts, starts_with_slash, starts_piece, spelt, only_slashes, normal_path, NormalPath}
use Rattle.path.specs.Pieces.{is_slash, is_path_character, pieces, holds, is_no_path, is_invalid_path}
use Rattle.path.proofs.Leads.{slashed, spelt_parts, spelt_slash, spelt_same, starts_is}

-- of all but slashes something is spelt
spelt_some : (x : ℕ) (xs : List ℕ) → only_slashes (x ∷ xs) ≡ false → bytes_eq (spelt (x ∷ xs)) [] ≡ false
spelt_some x xs h =
    elim (step x xs) [
      | stays f e ↦ rw e
      | goes slash n e ↦ ap (λ b. b && bytes_eq (spelt (x ∷ xs)) []) (sym (starts_is x xs ∙ slash)) ∙ h
    ]

-- the first slash stays

slashed_starts : (qs : List (List ℕ)) → bytes_eq (slashed qs) [] ≡ false → starts_with_slash (slashed qs) ≡ true
slashed_starts [] e = absurd (false≢true (sym e))
slashed_starts (q ∷ qs) e = refl

starts_spelt : (s : List ℕ) → only_slashes s ≡ false → starts_with_slash (spelt s) ≡ starts_with_slash s
starts_spelt [] h = refl
starts_spelt (x ∷ xs) h =
    elim (step x xs) [
      | stays f e ↦ ap starts_with_slash e ∙ starts_is x (spelt xs) ∙ sym (starts_is x xs)
      | goes slash n e ↦
          let all = spelt_slash x xs slash in
          ap starts_with_slash all
          ∙ slashed_starts (parts xs) (ap (λ z. bytes_eq z []) (sym all) ∙ spelt_some x xs h)
          ∙ sym (starts_is x xs ∙ slash)
    ]

-- what Tidy says of the text as a whole

tidy_behind : (front t : List ℕ) → Tidy (front ++ t) → Tidy t
tidy_behind [] t h = h
tidy_behind (x ∷ front) t h = tidy_behind front t h.1

tidy_at : (front t s : List ℕ) → Tidy s → s ≡ front ++ (47 ∷ t) → starts_piece t ≡ true
tidy_at front t s h e = let g : Tidy (front ++ (47 ∷ t)) = rw e at h in (tidy_behind front (47 ∷ t) g).0 refl

abbrev NoneInside : List ℕ → Type 0
NoneInside t = (front rest : List ℕ) → t ≡ front ++ (codes "//" ++ rest) → ⊥

abbrev NoneLast : List ℕ → Type 0
NoneLast t = (front : List ℕ) → t ≡ front ++ codes "/" → ⊥

piece_follows : (x : ℕ) (xs : List ℕ) → NoneInside (x ∷ xs) → NoneLast (x ∷ xs) → is_slash x ≡ true → starts_piece xs ≡ true
piece_follows x [] inside last slash = absurd (last [] (ap (λ b. b ∷ []) (eqb-true x 47 slash)))
piece_follows x (y ∷ ys) inside last slash =
    elim (cases_Bool (is_slash y)) [
      | inl too ↦ absurd (inside [] ys (ap (λ b. b ∷ y ∷ ys) (eqb-true x 47 slash) ∙ ap (λ b. 47 ∷ b ∷ ys) (eqb-true y 47 too)))
      | inr other ↦ not_from_false (is_slash y) other
    ]

tidy_from : (t : List ℕ) → NoneInside t → NoneLast t → Tidy t
tidy_from [] inside last = tt
tidy_from (x ∷ xs) inside last = (
  piece_follows x xs inside last,
  tidy_from xs (λ f r e. inside (x ∷ f) r (ap (λ z. x ∷ z) e)) (λ f e. last (x ∷ f) (ap (λ z. x ∷ z) e)),
)

-- the normal form is one

pub normal_meaning : (s : List ℕ) → NormalPath s (normal_path s)
normal_meaning s =
    elim (cases_Bool (only_slashes s)) [
      | inl h ↦
          let both = and_parts (starts_with_slash s) (bytes_eq (spelt s) []) h in
          let nothing = (bytes_eq-Decides (spelt s) []).0 both.1 in
          rw h
          (record {
            same_parts = ap parts (sym nothing) ∙ spelt_parts s;
            same_start = sym both.0;
            no_empty = λ f r e. omega (arith, ap length e ∙ length-append f (codes "//" ++ r));
            no_last = λ f e. nil_from_length f (omega (arith, ap length e ∙ length-append f (codes "/")));
          })
      | inr h ↦
          rw h
          (record {
            same_parts = spelt_parts s;
            same_start = starts_spelt s h;
            no_empty = λ f r e. false≢true (tidy_at f (47 ∷ r) (spelt s) (tidy_spelt s) e);
            no_last = λ f e. absurd (false≢true (tidy_at f [] (spelt s) (tidy_spelt s) e));
          })
    ]

-- and the only one

normal_kept : (s t : List ℕ) → NormalPath s t → normal_path t ≡ t
normal_kept s [] n = refl
normal_kept s (x ∷ []) n =
    elim (cases_Bool (is_slash x)) [
      | inl slash ↦ let e = eqb-true x 47 slash in ap (λ b. normal_path (b ∷ [])) e ∙ ap (λ b. b ∷ []) (sym e)
      | inr other ↦ normal_tidy (x ∷ []) ((λ slash. absurd (both_ways (is_slash x) other slash)), tt)
    ]
normal_kept s (x ∷ y ∷ ys) n =
    normal_tidy (x ∷ y ∷ ys)
    (tidy_from (x ∷ y ∷ ys) n.no_empty (λ f e. omega (arith, ap length e ∙ length-append f (codes "/"), ap length (n.no_last f e))))

normal_same : (t s : List ℕ) → starts_with_slash t ≡ starts_with_slash s → parts t ≡ parts s → normal_path t ≡ normal_path s
normal_same t s b q =
    ap (λ c. cond (c && bytes_eq (spelt t) []) (codes "/") (spelt t)) b
    ∙ ap (λ z. cond (starts_with_slash s && bytes_eq z []) (codes "/") z) (spelt_same t s b q)

pub normal_only : (s t : List ℕ) → NormalPath s t → t ≡ normal_path s
normal_only s t n = sym (normal_kept s t n) ∙ normal_same t s n.same_start n.same_parts

-- and valid, where the path is

spelt_inside : (set : ℕ → Bool) (s : List ℕ) → some_outside set s ≡ false → some_outside set (spelt s) ≡ false
spelt_inside set [] h = h
spelt_inside set (x ∷ xs) h =
    let both = or_parts _ (some_outside set xs) h in
    let rest = spelt_inside set xs both.1 in
    elim (step x xs) [
      | stays f e ↦ rw e (or_from _ _ both.0 rest)
      | goes slash n e ↦ rw e rest
    ]

holds_parts : (qs : List (List ℕ)) (y : ℕ) (ys : List ℕ) → holds (non_empty qs) (y ∷ ys) ≡ holds qs (y ∷ ys)
holds_parts [] y ys = refl
holds_parts ([] ∷ qs) y ys = holds_parts qs y ys
holds_parts ((x ∷ q) ∷ qs) y ys = ap (λ b. bytes_eq (x ∷ q) (y ∷ ys) || b) (holds_parts qs y ys)

normal_filled : (s : List ℕ) → bytes_eq s [] ≡ false → bytes_eq (normal_path s) [] ≡ false
normal_filled [] h = absurd (false≢true (sym h))
normal_filled (x ∷ xs) h =
    cond_both (only_slashes (x ∷ xs)) (codes "/") (spelt (x ∷ xs)) (λ t. bytes_eq t [] ≡ false) (λ _. refl) (spelt_some x xs)

normal_inside : (s : List ℕ) → some_outside is_path_character s ≡ false → some_outside is_path_character (normal_path s) ≡ false
normal_inside s h =
    cond_both (only_slashes s) (codes "/") (spelt s) (λ t. some_outside is_path_character t ≡ false)
    (λ _. or_from _ false (not_from_true _ (or_right (is_portable 47) true refl)) refl)
    (λ _. spelt_inside is_path_character s h)

normal_holds : (s : List ℕ) (y : ℕ) (ys : List ℕ) → holds (pieces (normal_path s)) (y ∷ ys) ≡ holds (pieces s) (y ∷ ys)
normal_holds s y ys =
    sym (holds_parts (pieces (normal_path s)) y ys) ∙ ap (λ qs. holds qs (y ∷ ys)) (normal_meaning s).same_parts ∙ holds_parts (pieces s) y ys

pub normal_valid : (s : List ℕ) → is_invalid_path s ≡ false → is_invalid_path (normal_path s) ≡ false
normal_valid s h =
    let all = or_parts (some_outside is_path_character s) (is_no_path s) h in
    let both = or_parts (bytes_eq s []) (holds (pieces s) (codes "..")) all.1 in
    or_from _ _ (normal_inside s all.0) (or_from _ _ (normal_filled s both.0) (normal_holds s 46 (codes ".") ∙ both.1))
