use Rattle.std.proofs.Common.{◌≡◌, ◌+◌, ◌≤◌, ◌++◌, length, take, drop}
use Rattle.string_view.specs.Left.{left}
use Rattle.string_view.proofs.bytes.copy_bytes.Given as goal

abbrev pub invariant-loop-place : goal.invariant-loop-place
invariant-loop-place g l =
    let it = l.place-iterator in
    let rest = left g.S.StringView it.iter in
    record {
      cells : it.count + length rest ≤ length l.buffer;
      text : take it.count l.buffer ++ rest ≡ take (length l.buffer) (g.S.StringView.seq l.s);
      others : drop it.count l.buffer ≡ drop it.count l.initial.buffer;
    }
