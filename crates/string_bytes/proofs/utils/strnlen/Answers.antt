use Rattle.std.proofs.Common.{◌≡◌, take, ◌∙◌, ap, rules, tests, arith}
use Rattle.std.proofs.lemmas.Bool.Decides.{nat_tests}
use Rattle.std.proofs.lemmas.List.{take_min}
use Rattle.std.proofs.lemmas.List.Sums.{prefix_len-le-length}
use Rattle.std.proofs.lemmas.Iterator.{YieldsList-from_slice}
use Rattle.std.proofs.lemmas.Iterator.Search.{position_from_yields_List}
use Rattle.string_view.specs.Places.{before}
use Rattle.string_bytes.specs.Terminated.{is_nul}
use Rattle.string_bytes.proofs.utils.strnlen.Goals as goal

pub returns-clause-place : goal.returns-clause-place
returns-clause-place c =
    let slot = take c.min.result c.args.bytes.now in
    let found = position_from_yields_List is_nul c.position.new.self _ c.position.result c.position.ensures.ran (YieldsList-from_slice _ c.iter.ensures.rest) (λ x b q k. search (rules, tests)) in
    let n : c.unwrap_or.result ≡ before is_nul slot = grind (arith, nat_tests, prefix_len-le-length) in
    n ∙ ap (before is_nul) (ap (λ j. take j c.args.bytes.now) c.min.ensures ∙ take_min c.args.len c.args.bytes.now)
