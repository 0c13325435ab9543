use Rattle.std.proofs.Common.{arith, rules}
use Rattle.std.proofs.lemmas.List.{take_all, take_at}
use Rattle.static_string.proofs.StaticString.copy_of.Goals as goal

pub returns-clause-text : goal.returns-clause-text
returns-clause-text g c =
    let whole = take_all 255 (g.S.StringView.seq c.args.s.now) (omega (arith, g.met.S.StringView.short c.args.s.now)) in
    search (rules, take_at)
