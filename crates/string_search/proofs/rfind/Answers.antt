use Rattle.std.proofs.Common.{refl, arith, rules, tests}
use Rattle.string_search.specs.Search.{Stands}
use Rattle.string_search.proofs.Iterators.{last_from_range}
use Rattle.string_search.proofs.rfind.Goals as goal

pub returns : goal.returns
returns g c =
    let ran = c.rfind.ensures.ran in
    record {
      answer = last_from_range _ (Stands (g.S.StringView.seq c.args.s.now) c.args.bytes.now) (λ x q k. search (rules, tests)) (λ x q k. search (rules, tests)) _ ran.0 _ _ ran.1 refl (λ k a p. omega (arith, p.within, c.in_ok-last.ensures)) ran.2 ran.3 ran.4;
    }
