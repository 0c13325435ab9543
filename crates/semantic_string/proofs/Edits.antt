use Rattle.std.proofs.Common.{◌≤◌, ◌≡◌, ℕ, ◌-◌, Bool, true, false, List, ◌++◌, length, take, drop, sym, refl, ap, ◌∙◌, arith}
use Rattle.std.proofs.lemmas.Slice.Eq.{bytes_eq-Decides}
use Rattle.std.proofs.lemmas.List.Prefix.{front_rest, end_rest}
use Rattle.std.proofs.lemmas.List.{length-append, take_at, take-append-drop}
use Rattle.std.proofs.lemmas.Bool.{false_from_ne_true, cond-true, cond-false}
use Rattle.std.specs.Str.{bytes_eq}
use Rattle.string_search.specs.Search.{StrippedFront, StrippedEnd}
use Rattle.semantic_string.specs.Edits.{outcome, front_strip, end_strip}

-- what the plain edits promise is what they come to

pub front_strip_is : (b : Bool) (s p t : List ℕ) → StrippedFront b s p t → outcome b t ≡ front_strip p s
front_strip_is true s p t e =
    let yes = (bytes_eq-Decides (take (length p) s) p).1 (ap (take (length p)) e ∙ take_at p t (length p) refl) in
    ap (outcome true) (sym (front_rest s p t e)) ∙ sym (cond-true (bytes_eq (take (length p) s) p) (outcome true (drop (length p) s)) (outcome false s) yes)
front_strip_is false s p t h =
    let unlike =
    false_from_ne_true (bytes_eq (take (length p) s) p)
    (λ y. h.1 (drop (length p) s) (sym (take-append-drop (length p) s) ∙ ap (λ z. z ++ drop (length p) s) ((bytes_eq-Decides (take (length p) s) p).0 y))) in
    ap (outcome false) h.0 ∙ sym (cond-false (bytes_eq (take (length p) s) p) (outcome true (drop (length p) s)) (outcome false s) unlike)

pub end_strip_is : (b : Bool) (s p t : List ℕ) → StrippedEnd b s p t → outcome b t ≡ end_strip p s
end_strip_is true s p t e =
    let k = length s - length p in
    let yes = (bytes_eq-Decides (drop k s) p).1 (end_rest s p t e) in
    let front : take k s ≡ t = ap (take k) e ∙ take_at t p k (omega (arith, ap length e ∙ length-append t p)) in
    ap (outcome true) (sym front) ∙ sym (cond-true (bytes_eq (drop k s) p) (outcome true (take k s)) (outcome false s) yes)
end_strip_is false s p t h =
    let k = length s - length p in
    let unlike =
    false_from_ne_true (bytes_eq (drop k s) p)
    (λ y. h.1 (take k s) (sym (take-append-drop k s) ∙ ap (λ z. take k s ++ z) ((bytes_eq-Decides (drop k s) p).0 y))) in
    ap (outcome false) h.0 ∙ sym (cond-false (bytes_eq (drop k s) p) (outcome true (take k s)) (outcome false s) unlike)

-- a strip makes no text longer
pub front_strip_short : (b : Bool) (s p t : List ℕ) → StrippedFront b s p t → length t ≤ length s
front_strip_short true s p t e = omega (arith, ap length e, length-append p t)
front_strip_short false s p t h = omega (arith, ap length h.0)

pub end_strip_short : (b : Bool) (s p t : List ℕ) → StrippedEnd b s p t → length t ≤ length s
end_strip_short true s p t e = omega (arith, ap length e, length-append t p)
end_strip_short false s p t h = omega (arith, ap length h.0)
