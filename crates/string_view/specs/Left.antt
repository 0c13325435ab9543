use Rattle.std.specs.Prelude.{ℕ, List, take, drop}
use Rattle.string_view.specs.declared.StringView as view
use Rattle.string_view.specs.declared.bytes.Bytes.{Bytes}

-- the bytes that b has still to give
abbrev pub left : {S : Type 0} → view.Ghosts S → Bytes S → List ℕ
left v b = drop b.place (take b.end (v.seq b.storage.now))
