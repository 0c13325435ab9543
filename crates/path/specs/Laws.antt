use Rattle.std.specs.Prelude.{◌≡◌, ℕ, ◌≤◌, true, false, List, [], ◌∷◌, length, codes, refl}
use Rattle.std.proofs.Common.{◌∙◌, ap, inl, inr, arith}
use Rattle.std.proofs.lemmas.Bool.{cases_Bool, cond-false, cond_both, and_right, not-true, both_ways}
use Rattle.std.specs.Str.{bytes_eq}
use Rattle.rules.proofs.Spellings.{spelling_no_longer}
use Rattle.path.specs.Pieces.{is_slash}
use Rattle.path.specs.Normal.{starts_with_slash, starts_piece, path_byte, spelt, only_slashes, normal_path}

-- a piece follows every slash
abbrev pub Tidy : List ℕ → Type 0
Tidy [] = Unit {0}
Tidy (x ∷ xs) = (is_slash x ≡ true → starts_piece xs ≡ true) × Tidy xs

-- what becomes of the first byte of x ∷ xs
pub data Step (x : ℕ) (xs : List ℕ) : Type 0 where
  stays : (is_slash x ≡ true → starts_piece xs ≡ true) → spelt (x ∷ xs) ≡ x ∷ spelt xs → Step x xs
  goes : is_slash x ≡ true → starts_piece xs ≡ false → spelt (x ∷ xs) ≡ spelt xs → Step x xs

spelt_other : (x : ℕ) (xs : List ℕ) → is_slash x ≡ false → spelt (x ∷ xs) ≡ x ∷ spelt xs
spelt_other x xs e = rw e

pub step : (x : ℕ) (xs : List ℕ) → Step x xs
step x xs =
    elim (cases_Bool (is_slash x)) [
      | inl slash ↦ elim (cases_Bool (starts_piece xs)) [ inl e ↦ stays (λ _. e) (rw (slash, e)) | inr e ↦ goes slash e (rw (slash, e)) ]
      | inr other ↦ stays (λ slash. absurd (both_ways (is_slash x) other slash)) (spelt_other x xs other)
    ]

spelt_starts : (xs : List ℕ) → starts_piece xs ≡ true → starts_piece (spelt xs) ≡ true
spelt_starts [] e = e
spelt_starts (x ∷ xs) e = rw (spelt_other x xs (not-true (is_slash x) e)) e

pub tidy_spelt : (s : List ℕ) → Tidy (spelt s)
tidy_spelt [] = tt
tidy_spelt (x ∷ xs) =
    elim (step x xs) [
      | stays f e ↦ rw e ((λ slash. spelt_starts xs (f slash)), tidy_spelt xs)
      | goes slash n e ↦ rw e (tidy_spelt xs)
    ]

tidy_kept : (t : List ℕ) → Tidy t → spelt t ≡ t
tidy_kept [] h = refl
tidy_kept (x ∷ xs) h =
    elim (step x xs) [
      | stays f e ↦ e ∙ ap (λ z. x ∷ z) (tidy_kept xs h.1)
      | goes slash n e ↦ absurd (both_ways (starts_piece xs) n (h.0 slash))
    ]

pub normal_tidy : (t : List ℕ) → Tidy t → normal_path t ≡ t
normal_tidy [] h = refl
normal_tidy (x ∷ xs) h =
    let e = tidy_kept (x ∷ xs) h in
    cond-false _ _ _ (and_right (starts_with_slash (x ∷ xs)) _ (ap (λ z. bytes_eq z []) e)) ∙ e

pub normal_settled : (s : List ℕ) → normal_path (normal_path s) ≡ normal_path s
normal_settled s =
    elim (cases_Bool (only_slashes s)) [
      | inl only ↦ rw only
      | inr more ↦ rw more (normal_tidy (spelt s) (tidy_spelt s))
    ]

pub normal_bounded : (s : List ℕ) → length s ≤ 255 → length (normal_path s) ≤ 255
normal_bounded s h = cond_both (only_slashes s) (codes "/") (spelt s) (λ t. length t ≤ 255) (λ _. omega arith) (λ _. omega (arith, spelling_no_longer path_byte s))
