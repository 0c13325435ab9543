use Rattle.std.proofs.Common.{◌≡◌}
use Rattle.std.proofs.lemmas.Iterator.Consumers.{YieldsList-from_first}
use Rattle.string_view.specs.Left.{left}
use Rattle.string_search.proofs.Iterators.{same_by_eq}
use Rattle.string_search.proofs.same.Goals as goal

pub returns-then-len : goal.returns-then-len
returns-then-len g c =
    record {
      answer = same_by_eq (λ x y. y ≡ x) _ _ c.eq.ensures.ran (YieldsList-from_first (λ x. x) (left g.S.StringView) _ c.bytes_of.ensures.bytes) (λ it e. YieldsList-from_first (λ x. x) (left g.T.StringView) _ (cc));
    }
