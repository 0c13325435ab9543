use Rattle.std.specs.Prelude.{◌≡◌, Bool, true, ◌||◌}
use Rattle.std.proofs.Common.{inl, inr}
use Rattle.std.proofs.lemmas.Bool.{or_left, or_right, or_cases}

-- what is in the first pair's either is in the second pair's
pub either_both : (a b c d : Bool) → (a ≡ true → c ≡ true) → (b ≡ true → d ≡ true) → (a || b) ≡ true → (c || d) ≡ true
either_both a b c d f g h = elim (or_cases a b h) [ inl x ↦ or_left c d (f x) | inr y ↦ or_right c d (g y) ]
