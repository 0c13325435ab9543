use Rattle.std.proofs.Common.{◌≡◌, ℕ, ◌<◌, Bool, false, not, List, length, get_or, Decides, refl}
use Rattle.std.proofs.lemmas.Bool.{not-true, not_from_false}
use Rattle.std.proofs.lemmas.Bool.Decides.{Decides-by_or}
use Rattle.rules.specs.Sets.{some_outside, outside_at}

-- some byte lies outside the set, by its place
abbrev pub Outside : (ℕ → Bool) → List ℕ → Type 0
Outside set s = (i : ℕ) × (i < length s) × (set (get_or s i 0) ≡ false)

pub outside_decides : (set : ℕ → Bool) (s : List ℕ) → Decides (some_outside set s) (Outside set s)
outside_decides set s =
    let found = Decides-by_or (λ b. not (set b)) (λ b. set b ≡ false) (some_outside set) (λ b. (not-true (set b), not_from_false (set b))) refl (λ _ _. refl) s in
    (λ e. let o = found.0 e in (o.0, o.1, o.2 0), λ o. outside_at set s o.0 o.1 o.2)
