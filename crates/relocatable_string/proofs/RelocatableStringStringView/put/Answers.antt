use Rattle.std.proofs.Common.{arith, rules}
use Rattle.std.proofs.lemmas.Bool.Decides.{nat_tests}
use Rattle.cells.proofs.Texts.{inserting_beyond, inserting_zeros}
use Rattle.relocatable_string.specs.Relocatable.{used_of}
use Rattle.relocatable_string.proofs.RelocatableStringStringView.put.Goals as goal

pub invariant_of-self-2-clause-closed : goal.invariant_of-self-2-clause-closed
invariant_of-self-2-clause-closed c =
    let s = c.args.self.now in
    rw c.insert_into.auto.cells (inserting_zeros _ _ _ _ c.args.place (used_of s) c.if-not-insert_into.ensures.cells (grind (arith, nat_tests)) (grind (arith, nat_tests)) (grind (arith, nat_tests)) s.closed)

pub returns-clause-frame : goal.returns-clause-frame
returns-clause-frame c =
    record {
      room = search rules;
      beyond = rw c.insert_into.auto.cells (inserting_beyond _ _ _ _ c.args.place (used_of c.args.self.now) c.if-not-insert_into.ensures.cells (grind (arith, nat_tests)) (grind (arith, nat_tests)) (grind (arith, nat_tests)));
      fixed = search rules;
      closed = search rules;
    }
