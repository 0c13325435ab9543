use denote.Param.Members.{Mut}
use denote.Ref.{Bor}
use Rattle.std.proofs.iter.runs.Sources.{nat_range_steps_back}
use Rattle.std.specs.declared.ops.Range.{Range}
use Rattle.std.specs.Fn.{CalledAt}
use Rattle.std.specs.List.{FoldsTo}
use Rattle.std.proofs.Common.{◌≡◌, ℕ, ◌+◌, ◌-◌, ◌≤◌, [], ◌∷◌, inl, inr, ◌↔◌, Bool, true, false, IsTrue, nat_eq, List, Option, Some, None, sym, subst, refl, arith}
use Rattle.std.specs.Iterator.{ComparesItemsByEq, YieldsThen}
use Rattle.std.specs.Option.{MatchOption, IfSome}
use Rattle.string_search.specs.Search.{Last}
use Rattle.std.proofs.lemmas.Bool.{eqb-true, cases_lt}
use Rattle.std.proofs.lemmas.Grind.{common_steps}
use Rattle.std.proofs.lemmas.Iterator.{YieldsList}
use Rattle.std.proofs.lemmas.Iterator.Consumers.{YieldsList-turn, YieldsList-end}
use Rattle.std.proofs.lemmas.List.Elements.{same_from_all_zip}

module _ {S T : Type 0} {steps : S → Option ℕ → S → Type 0} {others : T → Option ℕ → T → Type 0} {s : S} {t : T} {xs ys : List ℕ} (e : YieldsList steps (λ x. x) s xs) (f : YieldsList others (λ x. x) t ys) (r : Bool) where
  -- where zs came out of both lists, and then o of xs and p of ys
  ended : (zs : List ℕ) (o p : Option ℕ) (u : S) (w : T) → YieldsThen steps s zs o u → YieldsThen others t zs p w
      → MatchOption o (MatchOption p (r ≡ true) (λ _. r ≡ false)) (λ x. (r ≡ false) × IfSome p (λ y. nat_eq x y ≡ false)) → IsTrue r ↔ (xs ≡ ys)
  ended zs None None u w a b h =
      let m = YieldsList-end e zs a.0 a.1 None u refl a.2 in
      let n = YieldsList-end f zs b.0 b.1 None w refl b.2 in
      grind (arith, common_steps)
  ended zs None (Some y) u w a b h =
      let m = YieldsList-end e zs a.0 a.1 None u refl a.2 in
      let n = YieldsList-turn f zs b.0 b.1 (Some y) w y refl b.2 in
      grind (arith, common_steps)
  ended zs (Some x) None u w a b h =
      let m = YieldsList-turn e zs a.0 a.1 (Some x) u x refl a.2 in
      let n = YieldsList-end f zs b.0 b.1 None w refl b.2 in
      grind (arith, common_steps)
  ended zs (Some x) (Some y) u w a b h =
      let m = YieldsList-turn e zs a.0 a.1 (Some x) u x refl a.2 in
      let n = YieldsList-turn f zs b.0 b.1 (Some y) w y refl b.2 in
      grind (arith, common_steps)

-- `eq` of two iterators says whether their lists are the same
pub same_by_eq : {S U T : Type 0} {steps : S → Option ℕ → S → Type 0} {others : T → Option ℕ → T → Type 0} {s : S} {xs ys : List ℕ} (becomes : U → T → Type 0) (other : U) (r : Bool) → ComparesItemsByEq steps becomes others s other nat_eq r
    → YieldsList steps (λ x. x) s xs → ((it : T) → becomes other it → YieldsList others (λ x. x) it ys) → IsTrue r ↔ (xs ≡ ys)
same_by_eq {others = others} becomes other r d e f =
    let v : d.2 ≡ d.1 = same_from_all_zip _ d.1 d.2 d.10 (λ x y k. sym (eqb-true x y k)) in
    ended e (f d.0 d.7) r d.1 d.3 d.4 d.5 d.6 d.8 (subst (λ zs. YieldsThen others d.0 zs d.4 d.6) v d.9) d.11

-- `rfind` over a range from 0, behind which P holds of nothing: the last number of which P holds
module _ {F : Type 0} {g : Mut F (Bor ℕ × Unit {0}) Bool} (f : F) (P : ℕ → Type 0) (hit : (x : ℕ) (q : F) → CalledAt g f x true q → P x) (miss : (x : ℕ) (q : F) → CalledAt g f x false q → (q ≡ f) × (P x → ⊥)) where
  pub last_from_range : (r : Option ℕ) (xs : List ℕ) (s u : Range ℕ) (j : F) → s.start ≡ 0 → ((k : ℕ) → s.end ≤ k → P k → ⊥)
      → YieldsThen nat_range_steps_back s xs r u → FoldsTo (λ p x q. CalledAt g p x false q) f xs j → IfSome r (λ x. (h : F) × CalledAt g j x true h) → Last P r
  last_from_range None [] s u j z none y w h =
      let e : s.end - s.start ≡ 0 = subst (λ (t : Range ℕ). t.end - t.start ≡ 0) (sym y.1) y.2.1.0 in
      λ k. none k (omega arith)
  last_from_range (Some x) [] s u j z none y w h =
      let e : s.end ≡ u.end + 1 = subst (λ (t : Range ℕ). t.end ≡ u.end + 1) (sym y.1) y.2.1.2 in
      (hit x h.0 (subst (λ q. CalledAt g q x true h.0) (sym w) h.1), λ k a. none k (omega (arith, y.2.1.1)))
  last_from_range r (x ∷ xs) s u j z none y w h =
      let n = miss x w.0 w.1 in
      last_from_range r xs y.1.0 u j (omega (arith, y.1.1))
      (λ k a p. elim (cases_lt x k) [ inl b ↦ none k (omega (arith, y.1.1)) p | inr b ↦ (let d : k ≡ x = omega (arith, y.1.1) in n.1 (subst P d p)) ])
      (y.0, y.1.2, y.2) (subst (λ q. FoldsTo (λ p x q. CalledAt g p x false q) q xs j) n.0 w.2) h
