use Rattle.std.specs.Prelude.{◌≡◌, ℕ, ◌<◌, ◌≤◌, Bool, true, false, List, length, Option, MatchOption, slice_index}
use Rattle.std.specs.List.{position_or_len}

-- how many elements stand before the first that passes the test: all, where none does
abbrev pub before : (ℕ → Bool) → List ℕ → ℕ
before test xs = position_or_len test xs

-- n elements of xs fail the test, and the next one, if there is one, passes it
pub record FirstAt (test : ℕ → Bool) (xs : List ℕ) (n : ℕ) : Type 0 where
  pub within : n ≤ length xs
  pub earlier : (k : ℕ) → k < n → test (slice_index xs k) ≡ false
  pub here : n < length xs → test (slice_index xs n) ≡ true

-- the first place at which an element of xs passes the test; none, where each fails it
abbrev pub FirstPlace : (ℕ → Bool) → List ℕ → Option ℕ → Type 0
FirstPlace test xs r = MatchOption r (FirstAt test xs (length xs)) (λ n. (n < length xs) × FirstAt test xs n)
