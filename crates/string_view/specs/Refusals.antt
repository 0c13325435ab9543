use Rattle.std.specs.Prelude.{ℕ, List, [], ◌∷◌}
use Rattle.string_view.specs.declared.error.StringModificationError.{StringModificationError}
use Rattle.string_view.specs.declared.error.StringModificationError.TheVariants.{InvalidCharacter, InsertWouldExceedCapacity, PositionOutOfRange}
use Rattle.string_view.specs.declared.error.RegionTooShort.{RegionTooShort}
use Rattle.string_view.specs.declared.error.BufferTooShort.{BufferTooShort}

-- a refusal by its number, and the values that it carries
pub record Refusal : Type 0 where
  pub number : ℕ
  pub carries : List ℕ

abbrev pub refusal : ℕ → List ℕ → Refusal
refusal n vs = record { number = n; carries = vs }

-- of an insertion or a load
abbrev pub told : StringModificationError → Refusal
told (InvalidCharacter place) = refusal 2 (place ∷ [])
told InsertWouldExceedCapacity = refusal 1 []
told PositionOutOfRange = refusal 3 []

-- of a region
abbrev pub region_told : RegionTooShort → Refusal
region_told e = refusal 8 []

-- of a buffer
abbrev pub buffer_told : BufferTooShort → Refusal
buffer_told e = refusal 9 []
