use Rattle.std.proofs.Common.{◌≡◌, ◌++◌, take, drop}
use Rattle.rules.specs.Spellings.{spelling}
use Rattle.rules.proofs.spelling.write_spelling.Given as goal

abbrev pub invariant-loop-place : goal.invariant-loop-place
invariant-loop-place g l =
    let f = g.P.Spelling.spelt in
    let n = l.place-iterator.count in
    let left = l.place-iterator.iter in
    (take n l.buffer ++ spelling (f left.how.now) left.rest.now ≡ spelling (f l.how) l.string) × (drop n l.buffer ≡ drop n l.initial.buffer)
