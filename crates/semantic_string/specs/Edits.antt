use Rattle.std.specs.Prelude.{ℕ, ◌-◌, Bool, true, false, cond, not, List, length, take, drop, Some, None, filter, Option, nat_lt, slice_index}
use Rattle.std.specs.Str.{bytes_eq}
use Rattle.string_view.specs.Sequences.{removed, remove_fits}

-- what an edit of a plain string comes to: what it answers, and the sequence that it leaves
pub record Outcome (A : Type 0) : Type 0 where
  pub answer : A
  pub sequence : List ℕ

abbrev pub outcome : {A : Type 0} → A → List ℕ → Outcome A
outcome a t = record { answer = a; sequence = t }

-- without the byte at p, which is the answer; none at the end and beyond
abbrev pub removal : ℕ → List ℕ → Outcome (Option ℕ)
removal p s = cond (nat_lt p (length s)) (outcome (Some (slice_index s p)) (removed p 1 s)) (outcome None s)

-- without n bytes at p, if so many stand there
abbrev pub range_removal : ℕ → ℕ → List ℕ → Outcome (Unit {0})
range_removal p n s = outcome tt (cond (remove_fits s p n) (removed p n s) s)

-- without the bytes that are picked
abbrev pub retention : (ℕ → Bool) → List ℕ → Outcome (Unit {0})
retention picked s = outcome tt (filter (λ b. not (picked b)) s)

-- cut to the length n
abbrev pub truncation : ℕ → List ℕ → Outcome (Unit {0})
truncation n s = outcome tt (take n s)

-- without p in front, if s starts with it
abbrev pub front_strip : List ℕ → List ℕ → Outcome Bool
front_strip p s = cond (bytes_eq (take (length p) s) p) (outcome true (drop (length p) s)) (outcome false s)

-- without p at the end, if s ends with it
abbrev pub end_strip : List ℕ → List ℕ → Outcome Bool
end_strip p s = cond (bytes_eq (drop (length s - length p) s) p) (outcome true (take (length s - length p) s)) (outcome false s)
