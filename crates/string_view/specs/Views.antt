use Rattle.string_view.specs.declared.StringView as view
use Rattle.string_view.specs.Frames.{Kept}

-- what every call on the storage v leaves as it was
abbrev pub Frame : {S : Type 0} → view.Ghosts S → S → S → Type 0
Frame v earlier later = Kept v.room v.beyond v.fixed v.closed earlier later
