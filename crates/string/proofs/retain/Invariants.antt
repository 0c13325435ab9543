use Rattle.std.proofs.Common.{◌≡◌, ◌++◌, take, drop, filter, not}
use Rattle.string_view.specs.Views.{Frame}
use Rattle.string.proofs.retain.Given as goal

-- the bytes before the place stand as they did, and behind them those that stay
abbrev pub invariant-loop-place : goal.invariant-loop-place
invariant-loop-place g l =
    record {
      text : g.S.StringView.seq l.s ≡ take l.place (g.S.StringView.seq l.initial.s) ++ filter (λ b. not (g.P.Pick.picked l.pick b)) (drop l.place (g.S.StringView.seq l.initial.s));
      frame : Frame g.S.StringView l.initial.s l.s;
    }
