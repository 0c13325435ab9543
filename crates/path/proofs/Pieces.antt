use Rattle.std.specs.Prelude.{◌≡◌, ◌↔◌, IsTrue, ℕ, Bool, true, false, ◌⊎◌, List, [], ◌∷◌, ◌++◌, codes, refl}
use Rattle.std.proofs.Common.{Decides, sym, ap, ◌∙◌, inl, inr}
use Rattle.std.proofs.lemmas.Slice.Eq.{bytes_eq-Decides}
use Rattle.std.proofs.lemmas.List.{append_assoc, append-nil}
use Rattle.std.proofs.lemmas.List.Elements.{All-nil, All-cons}
use Rattle.std.proofs.lemmas.List.Folds.{list_any-append}
use Rattle.std.proofs.lemmas.List.Splits.{slice_split-cons_yes, slice_split-cons_no, slice_split_none, slice_split_at}
use Rattle.std.proofs.lemmas.Bool.{cases_Bool, or_cases, or_left, or_right, eqb-true, false≢true}
use Rattle.std.proofs.lemmas.Bool.Decides.{Decides-at, Decides-or, Decides-like}
use Rattle.std.specs.List.{All, onto_first}
use Rattle.std.specs.Str.{bytes_eq}
use Rattle.rules.proofs.Sets.{Outside, outside_decides}
use Rattle.path.specs.Pieces.{is_slash, is_path_character, is_invalid_path, pieces, holds, Piece, InvalidPath, strange, empty, dot_dot}

-- no byte of it is a slash
abbrev pub Unbroken : List ℕ → Type 0
Unbroken p = All (λ b. is_slash b ≡ false) p

-- the first of some pieces, and those behind it

abbrev pub first : List (List ℕ) → List ℕ
first [] = []
first (p ∷ ps) = p

abbrev pub later : List (List ℕ) → List (List ℕ)
later [] = []
later (p ∷ ps) = ps

onto_first_is : (x : ℕ) (ps : List (List ℕ)) → onto_first x ps ≡ (x ∷ first ps) ∷ later ps
onto_first_is x [] = refl
onto_first_is x (p ∷ ps) = refl

pub pieces_slash : (x : ℕ) (xs : List ℕ) → is_slash x ≡ true → pieces (x ∷ xs) ≡ [] ∷ pieces xs
pieces_slash x xs e = slice_split-cons_yes is_slash x xs e

pub pieces_other : (x : ℕ) (xs : List ℕ) → is_slash x ≡ false → pieces (x ∷ xs) ≡ (x ∷ first (pieces xs)) ∷ later (pieces xs)
pieces_other x xs e = slice_split-cons_no is_slash x xs e ∙ onto_first_is x (pieces xs)

-- there is always a first piece
pub pieces_split : (s : List ℕ) → first (pieces s) ∷ later (pieces s) ≡ pieces s
pieces_split [] = refl
pieces_split (x ∷ xs) =
    elim (cases_Bool (is_slash x)) [
      | inl slash ↦ rw (pieces_slash x xs slash)
      | inr other ↦ rw (pieces_other x xs other)
    ]

-- from the list of the pieces to a piece

abbrev Ends : List ℕ → Type 0
Ends rest = (rest ≡ []) ⊎ ((r : List ℕ) × (rest ≡ codes "/" ++ r))

-- s begins with its first piece
record Begins (s p : List ℕ) : Type 0 where
  rest : List ℕ
  whole : s ≡ p ++ rest
  unbroken : Unbroken p
  behind : Ends rest

begins : (s : List ℕ) → Begins s (first (pieces s))
begins [] = record { rest = []; whole = refl; unbroken = All-nil (λ b. is_slash b ≡ false); behind = inl refl }
begins (x ∷ xs) =
    elim (cases_Bool (is_slash x)) [
      | inl slash ↦
          rw (pieces_slash x xs slash)
          (record { rest = x ∷ xs; whole = refl; unbroken = All-nil (λ b. is_slash b ≡ false); behind = inr (xs, ap (λ b. b ∷ xs) (eqb-true x 47 slash)) })
      | inr other ↦
          let b = begins xs in
          rw (pieces_other x xs other)
          (record { rest = b.rest; whole = ap (λ z. x ∷ z) b.whole; unbroken = All-cons (λ b. is_slash b ≡ false) x (first (pieces xs)) other b.unbroken; behind = b.behind })
    ]

-- p is the first piece behind a slash of s
abbrev Behind : List ℕ → List ℕ → Type 0
Behind s p = (front rest : List ℕ) × (s ≡ front ++ (47 ∷ rest)) × (first (pieces rest) ≡ p)

further : (x : ℕ) (xs p : List ℕ) → Behind xs p → Behind (x ∷ xs) p
further x xs p b = (x ∷ b.0, b.1, ap (λ z. x ∷ z) b.2, b.3)

-- p is the first piece or a later one
cases_held : (s p : List ℕ) → holds (pieces s) p ≡ true → (first (pieces s) ≡ p) ⊎ (holds (later (pieces s)) p ≡ true)
cases_held s p h =
    elim (or_cases (bytes_eq (first (pieces s)) p) (holds (later (pieces s)) p) (ap (λ qs. holds qs p) (pieces_split s) ∙ h)) [
      | inl here ↦ inl ((bytes_eq-Decides (first (pieces s)) p).0 here)
      | inr there ↦ inr there
    ]

behind_slash : (s p : List ℕ) → holds (later (pieces s)) p ≡ true → Behind s p
behind_slash [] p h = absurd (false≢true h)
behind_slash (x ∷ xs) p h =
    elim (cases_Bool (is_slash x)) [
      | inl slash ↦
          elim (cases_held xs p (ap (λ qs. holds (later qs) p) (sym (pieces_slash x xs slash)) ∙ h)) [
            | inl here ↦ ([], xs, ap (λ b. b ∷ xs) (eqb-true x 47 slash), here)
            | inr there ↦ further x xs p (behind_slash xs p there)
          ]
      | inr other ↦ further x xs p (behind_slash xs p (ap (λ qs. holds (later qs) p) (sym (pieces_other x xs other)) ∙ h))
    ]

first_piece : (s : List ℕ) → Piece s (first (pieces s))
first_piece s =
    let b = begins s in
    record { front = []; rest = b.rest; whole = b.whole; unbroken = b.unbroken; before = inl refl; behind = b.behind }

later_piece : (s front rest : List ℕ) → s ≡ front ++ (47 ∷ rest) → Piece s (first (pieces rest))
later_piece s front rest e =
    let b = begins rest in
    record {
      front = front ++ codes "/";
      rest = b.rest;
      whole = e ∙ ap (λ z. front ++ (47 ∷ z)) b.whole ∙ sym (append_assoc front (codes "/") (first (pieces rest) ++ b.rest));
      unbroken = b.unbroken;
      before = inr (front, refl);
      behind = b.behind;
    }

to_piece : (s p : List ℕ) → holds (pieces s) p ≡ true → Piece s p
to_piece s p h =
    elim (cases_held s p h) [
      | inl here ↦ rw (← here) (first_piece s)
      | inr there ↦ let b = behind_slash s p there in rw (← b.3) (later_piece s b.0 b.1 b.2)
    ]

-- and back

-- a slash parts the pieces
pieces-append : (front t : List ℕ) → pieces (front ++ (47 ∷ t)) ≡ pieces front ++ pieces t
pieces-append [] t = refl
pieces-append (x ∷ front) t =
    let h = pieces-append front t in
    elim (cases_Bool (is_slash x)) [
      | inl slash ↦ rw (pieces_slash x (front ++ (47 ∷ t)) slash, pieces_slash x front slash) (ap (λ qs. [] ∷ qs) h)
      | inr other ↦
          slice_split-cons_no is_slash x (front ++ (47 ∷ t)) other
          ∙ ap (onto_first x) (h ∙ ap (λ qs. qs ++ pieces t) (sym (pieces_split front)))
          ∙ ap (λ qs. qs ++ pieces t) (sym (pieces_other x front other))
    ]

held_first : (p rest : List ℕ) → Unbroken p → Ends rest → holds (pieces (p ++ rest)) p ≡ true
held_first p rest u e =
    let itself = (bytes_eq-Decides p p).1 refl in
    elim e [
      | inl none ↦ ap (λ z. holds (pieces z) p) (ap (λ z. p ++ z) none ∙ append-nil p) ∙ ap (λ qs. holds qs p) (slice_split_none is_slash p u) ∙ or_left _ _ itself
      | inr r ↦ ap (λ z. holds (pieces (p ++ z)) p) r.1 ∙ ap (λ qs. holds qs p) (slice_split_at is_slash p 47 r.0 u refl) ∙ or_left _ _ itself
    ]

from_piece : (s p : List ℕ) → Piece s p → holds (pieces s) p ≡ true
from_piece s p w =
    let t = p ++ w.rest in
    let h = held_first p w.rest w.unbroken w.behind in
    elim w.before [
      | inl e ↦ ap (λ z. holds (pieces z) p) (w.whole ∙ ap (λ f. f ++ t) e) ∙ h
      | inr f ↦
          ap (λ z. holds (pieces z) p) (w.whole ∙ ap (λ g. g ++ t) f.1 ∙ append_assoc f.0 (codes "/") t)
          ∙ ap (λ qs. holds qs p) (pieces-append f.0 t)
          ∙ list_any-append (λ q. bytes_eq q p) (pieces f.0) (pieces t)
          ∙ or_right _ _ h
    ]

pub piece_decides : (s p : List ℕ) → Decides (holds (pieces s) p) (Piece s p)
piece_decides s p = (to_piece s p, from_piece s p)

-- the tests that the code makes, by what each says
abbrev Tests : List ℕ → Type 0
Tests s = Outside is_path_character s ⊎ ((s ≡ []) ⊎ Piece s (codes ".."))

tested : (s : List ℕ) → Tests s → InvalidPath s
tested s (inl o) = strange o.0 o.1 o.2
tested s (inr (inl e)) = empty e
tested s (inr (inr w)) = dot_dot w

to_test : (s : List ℕ) → InvalidPath s → Tests s
to_test s (strange i h e) = inl (i, h, e)
to_test s (empty e) = inr (inl e)
to_test s (dot_dot w) = inr (inr w)

decided : (s : List ℕ) → IsTrue (is_invalid_path s) ↔ InvalidPath s
decided s =
    Decides-like _ (tested s) (to_test s)
    (Decides-or _ _ (outside_decides is_path_character s)
    (Decides-or _ _ (bytes_eq-Decides s []) (piece_decides s (codes ".."))))

-- an answer that is the test's decides it
pub invalid_decided : (s : List ℕ) (b : Bool) → b ≡ is_invalid_path s → IsTrue b ↔ InvalidPath s
invalid_decided s b e = Decides-at _ _ e (decided s)
