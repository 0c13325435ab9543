use Rattle.std.specs.Prelude.{◌≡◌, ℕ, List}

-- What every call on a storage leaves as it was. The trait cannot cite a record over its own members,
-- so r, b, f and c are its room, beyond, fixed and closed.
pub record Kept {S : Type 0} (r : S → ℕ) (b f : S → List ℕ) (c : S → Type 0) (earlier later : S) : Type 0 where
  pub room : r later ≡ r earlier
  pub beyond : b later ≡ b earlier
  pub fixed : f later ≡ f earlier
  pub closed : c earlier → c later
