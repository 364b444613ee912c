use Rattle.std.proofs.Common.{◌≡◌, ℕ, ◌<◌, get_or, sym, ◌∙◌, ap, arith}
use Rattle.std.proofs.lemmas.List.{get_or_default}
use Rattle.b2_sched.specs.declared.state.State.TheVariants.{Unjudged, Settled, Failed}
use Rattle.b2_sched.specs.Keeping.{is_failed}
use Rattle.b2_sched.proofs.ListsGrowByOneNumber.{listed_more, listed_same, failed_yes, failed_back, failed_within}
use Rattle.b2_sched.proofs.numbers.failed_of.Goals as goal

pub loop-number-preserved : goal.loop-number-preserved
loop-number-preserved c =
    let states = c.args.states.now in
    let n : ℕ = c.loop-number.number in
    listed_more (λ i. get_or states i Settled ≡ Failed) n c.loop-number.numbers.items c.push_if.new.numbers.items c.is_failed.result c.in_ok-push_if.ensures
    (λ h. failed_yes (get_or states n Settled) (ap is_failed (get_or_default states n Settled Unjudged c.loop-number-test.true) ∙ sym c.is_failed.ensures ∙ h))
    (λ e. c.is_failed.ensures ∙ ap is_failed (get_or_default states n Unjudged Settled c.loop-number-test.true) ∙ failed_back (get_or states n Settled) e)
    c.loop-number.invariant

pub returns : goal.returns
returns c =
    let states = c.args.states.now in
    listed_same (λ i. (i < c.loop-number.number) × (get_or states i Settled ≡ Failed)) (λ i. get_or states i Settled ≡ Failed) c.loop-number.numbers.items
    (λ i q. q.1) (λ i e. (let within = failed_within states i e in omega (arith, within, c.loop-number-test.false), e)) c.loop-number.invariant
