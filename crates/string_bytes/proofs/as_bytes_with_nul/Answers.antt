use Rattle.std.proofs.Common.{◌≡◌, ◌++◌, length, drop, arith}
use Rattle.std.proofs.lemmas.List.{append_assoc, length_push, set_at, drop_more, take_all}
use Rattle.string_bytes.proofs.as_bytes_with_nul.Goals as goal

pub returns-clause-cells : goal.returns-clause-cells
returns-clause-cells g c =
    let xs = g.S.StringView.seq c.args.s.now in
    let bs = c.args.buffer.now in
    let copied : c.copy_bytes.new.buffer ≡ xs ++ drop (length xs) bs = rw (take_all (length bs) xs (omega arith)) at c.copy_bytes.ensures.cells in
    let l = length_push xs 0 in
    let d = drop_more bs c.len-len.result 0 (omega arith) in
    grind (arith, set_at, append_assoc)
