use Rattle.std.proofs.Common.{sym, subst, get_or, take}
use Rattle.std.proofs.lemmas.List.{take_more}
use Rattle.b2_reach.specs.Steps.{AreMarked}
use Rattle.b2_reach.proofs.MembersAreAdded.{marked_new}
use Rattle.b2_reach.proofs.reach.Reach.mark_members.Goals as goal

pub loop-number-preserved : goal.loop-number-preserved
loop-number-preserved c =
    let i = c.loop-number.number-index in
    let members = c.as_slice-number-items.result.now in
    subst (AreMarked c.mark.new.self) (sym (take_more members i 0 c.loop-number-test.true))
    (marked_new c.loop-number.marks c.mark.new.self (get_or members i 0) (take i members) c.loop-number.invariant c.in_ok-_was.ensures.ok)
