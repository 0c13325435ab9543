use Rattle.std.proofs.Common.{◌≡◌, length}
use Rattle.rules.specs.Spellings.{spelling}
use Rattle.rules.proofs.spelling.SpeltIterator.next.Given as goal

abbrev pub invariant-loop-self : goal.invariant-loop-self
invariant-loop-self g l =
    (l.self.how ≡ l.initial.self.how)
    × (spelling (g.P.Spelling.spelt l.self.how.now) l.self.rest.now ≡ spelling (g.P.Spelling.spelt l.initial.self.how.now) l.initial.self.rest.now)

abbrev pub decreases-loop-self : goal.decreases-loop-self
decreases-loop-self g l = length l.self.rest.now
