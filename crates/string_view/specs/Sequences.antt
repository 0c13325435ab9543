use Rattle.std.specs.Prelude.{◌≡◌, ℕ, ◌+◌, ◌<◌, ◌≤◌, Bool, ◌&&◌, List, ◌++◌, length, take, drop, Option, MatchOption, nat_le, slice_index}

-- s with the bytes b put in at the place p
abbrev pub inserted : ℕ → List ℕ → List ℕ → List ℕ
inserted p b s = take p s ++ (b ++ drop p s)

-- s without the n bytes at the place p
abbrev pub removed : ℕ → ℕ → List ℕ → List ℕ
removed p n s = take p s ++ drop (p + n) s

-- b can be put into s at p, within the capacity r
abbrev pub insert_fits : ℕ → List ℕ → ℕ → List ℕ → Bool
insert_fits r s p b = nat_le p (length s) && nat_le (length s + length b) r

-- n bytes stand in s at p
abbrev pub remove_fits : List ℕ → ℕ → ℕ → Bool
remove_fits s p n = nat_le (p + n) (length s)

-- what stands in s at the place p: the byte there, or none at the end and beyond
abbrev pub StandsAt : List ℕ → ℕ → Option ℕ → Type 0
StandsAt s p r = MatchOption r (length s ≤ p) (λ b. (p < length s) × (b ≡ slice_index s p))
