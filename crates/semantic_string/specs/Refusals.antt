use Rattle.std.specs.Prelude.{[], ◌∷◌}
use Rattle.string_view.specs.Refusals.{Refusal, refusal, told}
use Rattle.string_view.specs.declared.error.StringModificationError.{StringModificationError}
use Rattle.string_view.specs.declared.error.StringModificationError.TheVariants as plain
use Rattle.semantic_string.specs.declared.error.SemanticStringError.{SemanticStringError}
use Rattle.semantic_string.specs.declared.error.SemanticStringError.TheVariants.{InvalidContent, ExceedsMaximumLength, PositionOutOfRange}

-- a refusal of the plain string inside 5: its number and then what it carries
abbrev pub within5 : Refusal → Refusal
within5 f = refusal 5 (f.number ∷ f.carries)

-- of a set-up or an edit
abbrev pub semantic_told : SemanticStringError → Refusal
semantic_told InvalidContent = refusal 4 []
semantic_told (ExceedsMaximumLength e) = within5 (told e)
semantic_told PositionOutOfRange = refusal 3 []

-- the Rust's own conversion
abbrev pub converted : StringModificationError → SemanticStringError
converted (plain.InvalidCharacter place) = InvalidContent
converted plain.InsertWouldExceedCapacity = ExceedsMaximumLength plain.InsertWouldExceedCapacity
converted plain.PositionOutOfRange = PositionOutOfRange

-- a text's answer to the plain string's refusal
abbrev pub passed_on : StringModificationError → SemanticStringError
passed_on (plain.InvalidCharacter place) = ExceedsMaximumLength (plain.InvalidCharacter place)
passed_on plain.InsertWouldExceedCapacity = ExceedsMaximumLength plain.InsertWouldExceedCapacity
passed_on plain.PositionOutOfRange = PositionOutOfRange
