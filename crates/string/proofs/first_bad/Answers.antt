use Rattle.std.proofs.Common.{length, not, rules, sym, arith}
use Rattle.std.proofs.lemmas.List.Sums.{position_or_len_is}
use Rattle.string_view.specs.Characters.{is_character}
use Rattle.string.proofs.first_bad.Goals as goal

pub returns-then-b-eq0-clause-place : goal.returns-then-b-eq0-clause-place
returns-then-b-eq0-clause-place c = sym (position_or_len_is (λ b. not (is_character b)) c.args.bytes.now c.loop-i.i 0 (omega arith) (search rules) (search rules))

pub returns-clause-place : goal.returns-clause-place
returns-clause-place c = sym (position_or_len_is (λ b. not (is_character b)) c.args.bytes.now (length c.args.bytes.now) 0 (omega arith) (search rules) (search rules))
