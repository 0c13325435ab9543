use Rattle.std.proofs.Common.{◌≡◌, ℕ, ◌≤◌, ◌↔◌, Bool, IsTrue, List, ◌++◌, length, take, drop, sym, refl, ap, ◌∙◌, arith}
use Rattle.std.proofs.lemmas.Iterator.{YieldsList-from_slice, YieldsList-from_take}
use Rattle.std.proofs.lemmas.Iterator.Consumers.{YieldsList-from_first, YieldsList-from_copied}
use Rattle.std.proofs.lemmas.List.{length-take, length-drop, take_at, take-append-drop}
use Rattle.std.proofs.lemmas.List.Prefix.{at_reads, at_from_reads}
use Rattle.string_view.specs.Left.{left}
use Rattle.string_search.specs.Search.{Stands}
use Rattle.string_search.proofs.Iterators.{same_by_eq}
use Rattle.string_search.proofs.stands_at.Goals as goal

-- so many bytes from the place on are the pattern
stands : (s p : List ℕ) (q : ℕ) → q ≤ length s → (b : Bool) → IsTrue b ↔ (take (length p) (drop q s) ≡ p) → IsTrue b ↔ Stands s p q
stands s p q h b k = (
  λ t.
      let e : drop q s ≡ p ++ drop (length p) (drop q s) = sym (take-append-drop (length p) (drop q s)) ∙ ap (λ z. z ++ drop (length p) (drop q s)) (k.0 t) in
      record { within = omega (arith, ap length (k.0 t), length-take (length p) (drop q s), length-drop q s); alike = at_reads 0 s p q _ e },
  λ w. k.1 (ap (take (length p)) (at_from_reads 0 s p q w.within w.alike) ∙ take_at p _ (length p) refl),
)

pub returns-then-place-len : goal.returns-then-place-len
returns-then-place-len g c =
    let view = g.S.StringView in
    let s = view.seq c.args.s.now in
    let p = c.args.bytes.now in
    let here = drop c.args.place s in
    stands s p c.args.place (omega arith) _
    (same_by_eq (λ x y. y ≡ x) _ _ c.eq.ensures.ran (YieldsList-from_take (length p) (YieldsList-from_first (λ x. x) (left view) here (cc)) c.take.ensures.count) (λ it e. YieldsList-from_copied (YieldsList-from_slice p (cc))))
