use Rattle.std.proofs.Common.{◌≡◌, ℕ, ◌+◌, ◌-◌, ◌<◌, List, [], length, ◌∙◌, subst, arith}
use Rattle.std.specs.List.{Contains}
use Rattle.std.proofs.lemmas.List.{get_or_default}
use Rattle.b2_sched.specs.Cycles.{ArePointed, LeadTo}
use Rattle.b2_sched.proofs.WalkComesToTheCycle.{leads_point}
use Rattle.b2_sched.proofs.cycles.next_flagged.Goals as goal

pub point-requires : goal.point-requires
point-requires c = λ i among.
    let n : ℕ = c.loop-number.number - 1 in
    let within : n < length c.args.dependents.now = omega (arith, c.requires.size, c.loop-number.invariant.within, c.loop-number-test.true) in
    let read = c.as_slice.ensures ∙ c.index-dependents-number.is ∙ get_or_default c.args.dependents.now n c.index-dependents-number.result [] within in
    let below = c.requires.within i n (subst (λ (ds : List ℕ). Contains ds i) read among) in omega (arith, below, c.loop-number.invariant.leads.size)

pub loop-number-preserved-then-flags-number : goal.loop-number-preserved-then-flags-number
loop-number-preserved-then-flags-number c =
    let n : ℕ = c.loop-number.number - 1 in
    let within : n < length c.args.dependents.now = omega (arith, c.requires.size, c.loop-number.invariant.within, c.loop-number-test.true) in
    let read = c.as_slice.ensures ∙ c.index-dependents-number.is ∙ get_or_default c.args.dependents.now n c.index-dependents-number.result [] within in
    let same : c.loop-number.number ≡ n + 1 = omega (arith, c.loop-number-test.true) in
    record {
      within = omega (arith, c.loop-number.invariant.within);
      leads = leads_point c.args.flags.now c.args.dependents.now n c.loop-number.next.items c.point.new.next.items c.if-flags-number.true c.requires.none
          (subst (λ (ds : List ℕ). ArePointed ds n c.loop-number.next.items c.point.new.next.items) read c.point.ensures)
          (subst (λ (m : ℕ). LeadTo c.args.flags.now c.args.dependents.now m c.loop-number.next.items) same c.loop-number.invariant.leads);
    }
