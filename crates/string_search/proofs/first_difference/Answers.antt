use Rattle.std.proofs.Common.{◌≡◌, ℕ, ◌==◌, Bool, Option, Some, None, not, refl, ◌∙◌, rules, tests}
use Rattle.std.specs.Option.{option_map}
use Rattle.string_view.specs.Left.{left}
use Rattle.std.proofs.lemmas.Iterator.{YieldsList-from_zip}
use Rattle.std.proofs.lemmas.Iterator.Search.{find_from_yields_List}
use Rattle.std.proofs.lemmas.Iterator.Consumers.{YieldsList-from_first}
use Rattle.string_search.proofs.first_difference.Goals as goal

abbrev differ : ℕ × ℕ → Bool
differ p = not (p.0 == p.1)

as_it_is : (o : Option (ℕ × ℕ)) → o ≡ option_map (λ p. (p.0, p.1)) o
as_it_is None = refl
as_it_is (Some p) = refl

pub returns : goal.returns
returns g c =
    let xs = g.S.StringView.seq c.args.a.now in
    let ys = g.T.StringView.seq c.args.b.now in
    let found = find_from_yields_List differ c.find.new.self _ c.find.result c.find.ensures.ran
    (YieldsList-from_zip {s = c.zip.result} (YieldsList-from_first (λ x. x) (left g.S.StringView) xs (cc)) (YieldsList-from_first (λ x. x) (left g.T.StringView) ys (cc))) (λ x b q k. search (rules, tests)) in
    as_it_is c.find.result ∙ found
