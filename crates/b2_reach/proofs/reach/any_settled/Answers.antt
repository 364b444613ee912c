use Rattle.std.proofs.Common.{inl, inr, sym, subst, get_or}
use Rattle.std.specs.List.{Contains}
use Rattle.std.proofs.lemmas.List.Elements.{Contains-get_or}
use Rattle.b2_sched.specs.Schedules.{IsSettled}
use Rattle.b2_reach.specs.Steps.{WaitsOn}
use Rattle.b2_reach.proofs.MembersAreAdded.{taken_more, take_whole}
use Rattle.b2_reach.proofs.reach.any_settled.Goals as goal

pub is_settled-requires-clause-number : goal.is_settled-requires-clause-number
is_settled-requires-clause-number c =
    let i = c.loop-number.number-index in
    let pending = c.args.pending.now in
    c.requires.numbers (get_or pending i 0) (Contains-get_or pending i 0 c.loop-number-test.true)

pub loop-number-preserved : goal.loop-number-preserved
loop-number-preserved c n among =
    let i = c.loop-number.number-index in
    let pending = c.args.pending.now in
    elim (taken_more pending i 0 n c.loop-number-test.true among) [
      | inl old ↦ c.loop-number.invariant n old
      | inr e ↦ subst (WaitsOn (IsSettled c.args.sched.now) c.args.facts.now) e (c.is_settled.ensures.waits c.if-is_settled.false)
    ]

pub returns : goal.returns
returns c = record { none = λ f n among. c.loop-number.invariant n (subst (λ l. Contains l n) (sym (take_whole c.args.pending.now c.loop-number.number-index c.loop-number-test.false)) among) }
