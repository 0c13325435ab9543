use Rattle.std.proofs.Common.{ℕ, ◌<◌, ◌≤◌, Option, Some, None, MatchOption, arith, rules, tests}
use Rattle.std.proofs.lemmas.Iterator.{first_from_Range}
use Rattle.string_search.specs.Search.{Stands, First}
use Rattle.string_search.proofs.find.Goals as goal

-- the first below n is the first of all, where P holds of nothing from n on
first_of_all : (P : ℕ → Type 0) (n : ℕ) (r : Option ℕ) → MatchOption r ((k : ℕ) → 0 ≤ k → k < n → P k → ⊥) (λ i. (0 ≤ i) × (i < n) × P i × ((k : ℕ) → 0 ≤ k → k < i → P k → ⊥)) → ((k : ℕ) → P k → k < n) → First P r
first_of_all P n None h below = λ k p. h k (omega arith) (below k p) p
first_of_all P n (Some i) h below = (h.2, λ k l. h.3 k (omega arith) l)

pub returns : goal.returns
returns g c =
    let P = Stands (g.S.StringView.seq c.args.s.now) c.args.bytes.now in
    let h = first_from_Range _ _ _ c.find.result P (λ k. P k → ⊥) c.find.ensures.ran (λ x q k. search (rules, tests)) (λ x q k. search (rules, tests)) in
    record { answer = first_of_all P _ _ h (λ k p. omega (arith, p.within, c.in_ok-last.ensures)) }
