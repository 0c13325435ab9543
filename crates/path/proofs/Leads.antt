use Rattle.std.proofs.Common.{◌≡◌, ℕ, Bool, true, false, cond, not, List, [], ◌∷◌, ◌++◌, sym, refl, ap, ◌∙◌, inl, inr}
use mathlib.Core.Bool.{and-true}
use Rattle.std.proofs.lemmas.Bool.{cases_Bool, eqb-true, not-true, not-false, false≢true}
use Rattle.std.specs.List.{flat_map}
use Rattle.std.specs.Str.{bytes_eq}
use Rattle.path.specs.Laws.{step, stays, goes}
use Rattle.path.specs.Normal.{non_empty, parts, starts_with_slash, starts_piece, spelt}
use Rattle.path.specs.Pieces.{is_slash, pieces}
use Rattle.path.proofs.Pieces.{first, later, pieces_slash, pieces_other, pieces_split}

-- the first piece, and those behind it that are not empty

abbrev Lead : Type 0
Lead = List ℕ × List (List ℕ)

abbrev lead : List ℕ → Lead
lead s = (first (pieces s), non_empty (later (pieces s)))

lead_slash : (x : ℕ) (xs : List ℕ) → is_slash x ≡ true → lead (x ∷ xs) ≡ ([], parts xs)
lead_slash x xs e = rw (pieces_slash x xs e)

lead_other : (x : ℕ) (xs : List ℕ) → is_slash x ≡ false → lead (x ∷ xs) ≡ (x ∷ (lead xs).0, (lead xs).1)
lead_other x xs e = rw (pieces_other x xs e)

abbrev together : Lead → List (List ℕ)
together l = cond (not (bytes_eq l.0 [])) (l.0 ∷ l.1) l.1

parts_lead : (s : List ℕ) → parts s ≡ together (lead s)
parts_lead s = ap non_empty (sym (pieces_split s))

-- whether the first of the parts is the first piece

lead_none : (s : List ℕ) → starts_piece s ≡ false → lead s ≡ ([], parts s)
lead_none [] e = refl
lead_none (x ∷ xs) e = rw (not-false (is_slash x) e)

lead_some : (s : List ℕ) → starts_piece s ≡ true → parts s ≡ (lead s).0 ∷ (lead s).1
lead_some [] e = absurd (false≢true e)
lead_some (x ∷ xs) e = rw (pieces_other x xs (not-true (is_slash x) e))

-- normalising leaves them

same_parts : (t s : List ℕ) → lead t ≡ lead s → parts t ≡ parts s
same_parts t s e = parts_lead t ∙ ap together e ∙ sym (parts_lead s)

lead_spelt : (s : List ℕ) → lead (spelt s) ≡ lead s
lead_spelt [] = refl
lead_spelt (x ∷ xs) =
    let h = lead_spelt xs in
    elim (step x xs) [
      | stays f e ↦
          ap lead e
          ∙ elim (cases_Bool (is_slash x)) [
            | inl slash ↦ lead_slash x (spelt xs) slash ∙ ap (λ qs. ([], qs)) (same_parts (spelt xs) xs h) ∙ sym (lead_slash x xs slash)
            | inr other ↦ lead_other x (spelt xs) other ∙ ap (λ l. (x ∷ l.0, l.1)) h ∙ sym (lead_other x xs other)
          ]
      | goes slash n e ↦ ap lead e ∙ h ∙ lead_none xs n ∙ sym (lead_slash x xs slash)
    ]

pub spelt_parts : (s : List ℕ) → parts (spelt s) ≡ parts s
spelt_parts s = same_parts (spelt s) s (lead_spelt s)

-- and they say what is written: a slash before each piece but the first

abbrev pub slashed : List (List ℕ) → List ℕ
slashed qs = flat_map (λ q. 47 ∷ q) qs

abbrev told : Lead → List ℕ
told l = l.0 ++ slashed l.1

spelt_lead : (s : List ℕ) → spelt s ≡ told (lead s)
spelt_lead [] = refl
spelt_lead (x ∷ xs) =
    let h = spelt_lead xs in
    elim (step x xs) [
      | stays f e ↦
          e ∙ ap (λ z. x ∷ z) h
          ∙ elim (cases_Bool (is_slash x)) [
            | inl slash ↦ ap (λ b. b ∷ told (lead xs)) (eqb-true x 47 slash) ∙ ap slashed (sym (lead_some xs (f slash))) ∙ ap told (sym (lead_slash x xs slash))
            | inr other ↦ ap told (sym (lead_other x xs other))
          ]
      | goes slash n e ↦ e ∙ h ∙ ap told (lead_none xs n ∙ sym (lead_slash x xs slash))
    ]

pub spelt_slash : (x : ℕ) (xs : List ℕ) → is_slash x ≡ true → spelt (x ∷ xs) ≡ slashed (parts xs)
spelt_slash x xs slash = spelt_lead (x ∷ xs) ∙ ap told (lead_slash x xs slash)

-- the first slash and the parts determine them

pub starts_is : (x : ℕ) (xs : List ℕ) → starts_with_slash (x ∷ xs) ≡ is_slash x
starts_is x xs = and-true (is_slash x)

abbrev lead_from : Bool → List (List ℕ) → Lead
lead_from b qs = cond b ([], qs) (first qs, later qs)

lead_is : (s : List ℕ) → lead s ≡ lead_from (starts_with_slash s) (parts s)
lead_is [] = refl
lead_is (x ∷ xs) =
    elim (cases_Bool (is_slash x)) [
      | inl slash ↦ rw (starts_is x xs, slash)
      | inr other ↦ rw (pieces_other x xs other, starts_is x xs, other)
    ]

pub spelt_same : (t s : List ℕ) → starts_with_slash t ≡ starts_with_slash s → parts t ≡ parts s → spelt t ≡ spelt s
spelt_same t s b q =
    spelt_lead t
    ∙ ap told (lead_is t ∙ ap (λ c. lead_from c (parts t)) b ∙ ap (lead_from (starts_with_slash s)) q ∙ sym (lead_is s))
    ∙ sym (spelt_lead s)
