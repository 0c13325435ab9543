use Rattle.std.specs.Prelude.{ℕ, List}
use Rattle.string_view.specs.declared.StringView as view
use Rattle.rules.specs.declared.NormalForm as normal_form
use Rattle.semantic_string.specs.declared.SemanticString.{SemanticString}

-- the normal form of a text, under its own rule
abbrev pub normal_of : {S R : Type 0} → view.Ghosts S → normal_form.Ghosts R → SemanticString S R → List ℕ
normal_of v n t = n.normal t.rule (v.seq t.storage)
