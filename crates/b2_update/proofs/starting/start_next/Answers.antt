use Rattle.std.proofs.Common.{◌≡◌, ◌≢◌, [], true, Some, Ok, Err, sym, ap, subst, refl, ◌∙◌}
use Rattle.std.proofs.lemmas.Result.{err_from_is_err_and}
use Rattle.b2_host.specs.declared.fault.IoFault.TheVariants as faults
use Rattle.b2_host.specs.Output.{with_written}
use Rattle.b2_plan.specs.Plans.{step_at}
use Rattle.b2_endings.specs.Writings.{Says}
use Rattle.b2_update.specs.Moments.{moment}
use Rattle.b2_update.proofs.StepIsStarted.{IsTaken, IsStarted, step_is_there, is_within, files_at_hand, child_may_start, one_more_fits}
use Rattle.b2_update.proofs.NextIsStarted.{starts_none, starts_no_child, starts_child, starts_untold}
use Rattle.b2_update.proofs.starting.start_next.Goals as goal

-- ---- what calls require

pub take_next-requires-clause-apart : goal.take_next-requires-clause-apart
take_next-requires-clause-apart g c = c.requires.apart

pub take_next-requires-clause-about : goal.take_next-requires-clause-about
take_next-requires-clause-about g c = c.requires.going.1.planned.about

pub take_next-requires-clause-looks : goal.take_next-requires-clause-looks
take_next-requires-clause-looks g c = c.requires.going.1.planned.looks

pub step_of-step-requires : goal.step_of-step-requires
step_of-step-requires g c =
    let i = c.in-Some.number in
    let plan = c.args.plan.now in
    let a = c.args.run.now in
    let b = c.take_next.new.run in
    let e = c.in-Some.ensures in
    let taken : IsTaken plan i a b = record { sound = e.sound; next = e.next; goes_on = e.goes_on; begins = e.begins; about = e.about; looks = e.looks; follows = e.follows; same = e.same } in
    let (entry, going) = c.requires.going in
    let x = moment (g.H.Files.outside c.args.host.now) (g.S.Sink.output c.args.out.now) in
    let (step, at) = step_is_there plan entry x a b i c.requires.apart going taken in
    (step, subst (λ steps. step_at steps i ≡ Some step) (sym c.as_slice.ensures) at)

pub start_child-requires-clause-within : goal.start_child-requires-clause-within
start_child-requires-clause-within g c =
    let i = c.in-Some.number in
    let plan = c.args.plan.now in
    let a = c.args.run.now in
    let b = c.take_next.new.run in
    let e = c.in-Some.ensures in
    let taken : IsTaken plan i a b = record { sound = e.sound; next = e.next; goes_on = e.goes_on; begins = e.begins; about = e.about; looks = e.looks; follows = e.follows; same = e.same } in
    let (entry, going) = c.requires.going in
    let x = moment (g.H.Files.outside c.args.host.now) (g.S.Sink.output c.args.out.now) in
    is_within plan entry x a b i c.requires.apart going taken

pub start_child-requires-clause-kept : goal.start_child-requires-clause-kept
start_child-requires-clause-kept g c =
    let i = c.in-Some.number in
    let plan = c.args.plan.now in
    let a = c.args.run.now in
    let b = c.take_next.new.run in
    let e = c.in-Some.ensures in
    let taken : IsTaken plan i a b = record { sound = e.sound; next = e.next; goes_on = e.goes_on; begins = e.begins; about = e.about; looks = e.looks; follows = e.follows; same = e.same } in
    let (entry, going) = c.requires.going in
    let x = moment (g.H.Files.outside c.args.host.now) (g.S.Sink.output c.args.out.now) in
    files_at_hand plan entry x a b i c.requires.apart going taken

pub start_child-requires-clause-may : goal.start_child-requires-clause-may
start_child-requires-clause-may g c =
    let i = c.in-Some.number in
    let plan = c.args.plan.now in
    let a = c.args.run.now in
    let b = c.take_next.new.run in
    let e = c.in-Some.ensures in
    let taken : IsTaken plan i a b = record { sound = e.sound; next = e.next; goes_on = e.goes_on; begins = e.begins; about = e.about; looks = e.looks; follows = e.follows; same = e.same } in
    let (entry, going) = c.requires.going in
    let x = moment (g.H.Files.outside c.args.host.now) (g.S.Sink.output c.args.out.now) in
    let step = c.step_of-step.result.now in
    let at : step_at plan.steps i ≡ Some step = subst (λ steps. step_at steps i ≡ Some step) c.as_slice.ensures c.step_of-step.ensures in
    λ numbers ins kept named. child_may_start plan entry x a b i c.requires.apart going taken step numbers ins at kept named

pub start_child-requires-clause-fits : goal.start_child-requires-clause-fits
start_child-requires-clause-fits g c =
    let i = c.in-Some.number in
    let plan = c.args.plan.now in
    let a = c.args.run.now in
    let b = c.take_next.new.run in
    let e = c.in-Some.ensures in
    let taken : IsTaken plan i a b = record { sound = e.sound; next = e.next; goes_on = e.goes_on; begins = e.begins; about = e.about; looks = e.looks; follows = e.follows; same = e.same } in
    let (entry, going) = c.requires.going in
    let x = moment (g.H.Files.outside c.args.host.now) (g.S.Sink.output c.args.out.now) in
    one_more_fits plan entry x a b i c.requires.apart going taken

-- ---- exits

pub returns-in_default : goal.returns-in_default
returns-in_default g c =
    let x = moment (g.H.Files.outside c.args.host.now) (g.S.Sink.output c.args.out.now) in
    let on = starts_none c.args.plan.now g.H.Children.made x c.args.run.now c.take_next.new.run c.in_default.ensures.left c.requires.rests c.in_default.ensures.none in
    record { way = on.way; going = on.going; rests = on.rests; none = on.none; fewer = on.fewer; kept = on.kept; unended = on.unended; told = on.told }

pub returns-in_err-line : goal.returns-in_err-line
returns-in_err-line g c =
    let i = c.in-Some.number in
    let plan = c.args.plan.now in
    let a = c.args.run.now in
    let b = c.take_next.new.run in
    let e = c.in-Some.ensures in
    let taken : IsTaken plan i a b = record { sound = e.sound; next = e.next; goes_on = e.goes_on; begins = e.begins; about = e.about; looks = e.looks; follows = e.follows; same = e.same } in
    let x = moment (g.H.Files.outside c.args.host.now) (g.S.Sink.output c.args.out.now) in
    let p = err_from_is_err_and c.from_residual.result c.from_residual.ensures.1 in
    let on = starts_no_child plan g.H.Children.made x x a b b i c.requires.apart taken c.from_residual.result faults.OutOfMemory refl refl refl (p.1 ∙ ap Err p.2) in
    record { way = on.way; going = on.going; rests = on.rests; none = on.none; fewer = on.fewer; kept = on.kept; unended = on.unended; told = on.told }

pub returns-in_err-start_child : goal.returns-in_err-start_child
returns-in_err-start_child g c =
    let i = c.in-Some.number in
    let plan = c.args.plan.now in
    let a = c.args.run.now in
    let b = c.take_next.new.run in
    let e = c.in-Some.ensures in
    let taken : IsTaken plan i a b = record { sound = e.sound; next = e.next; goes_on = e.goes_on; begins = e.begins; about = e.about; looks = e.looks; follows = e.follows; same = e.same } in
    let x = moment (g.H.Files.outside c.args.host.now) (g.S.Sink.output c.args.out.now) in
    let y = moment (g.H.Files.outside c.start_child.new.host) (g.S.Sink.output c.args.out.now) in
    let p = err_from_is_err_and c.from_residual-in_err-start_child.result c.from_residual-in_err-start_child.ensures.1 in
    let (fault, is, failed) = c.in_err-start_child.ensures.stopped in
    let on = starts_no_child plan g.H.Children.made x y a b c.start_child.new.run i c.requires.apart taken c.from_residual-in_err-start_child.result fault c.in_err-start_child.ensures.err failed refl (p.1 ∙ ap Err (p.2 ∙ is)) in
    record { way = on.way; going = on.going; rests = on.rests; none = on.none; fewer = on.fewer; kept = on.kept; unended = on.unended; told = on.told }

pub returns-in_err-tell_start : goal.returns-in_err-tell_start
returns-in_err-tell_start g c =
    let i = c.in-Some.number in
    let plan = c.args.plan.now in
    let a = c.args.run.now in
    let b = c.take_next.new.run in
    let e = c.in-Some.ensures in
    let taken : IsTaken plan i a b = record { sound = e.sound; next = e.next; goes_on = e.goes_on; begins = e.begins; about = e.about; looks = e.looks; follows = e.follows; same = e.same } in
    let x = moment (g.H.Files.outside c.args.host.now) (g.S.Sink.output c.args.out.now) in
    let step = c.step_of-step.result.now in
    let at : step_at plan.steps i ≡ Some step = subst (λ steps. step_at steps i ≡ Some step) c.as_slice.ensures c.step_of-step.ensures in
    let y = moment (g.H.Files.outside c.start_child.new.host) (g.S.Sink.output c.tell_start.new.out) in
    let p = err_from_is_err_and c.from_residual-in_err-tell_start.result c.from_residual-in_err-tell_start.ensures.1 in
    let (fault, is, says) = c.in_err-tell_start.ensures.stopped in
    let started = c.in_ok-start_child.ensures.started in
    let so : IsStarted i step (g.H.Files.outside c.args.host.now) (g.H.Files.outside c.start_child.new.host) b c.start_child.new.run =
    record { numbers = started.0; ins = started.1; kept = started.2; named = started.3; host = started.4; run = c.in_ok-start_child.ensures.ok } in
    let text = c.as_str.ensures.value ∙ c.in_ok-line.ensures in
    let on = starts_untold plan g.H.Children.made x y a b c.start_child.new.run i c.requires.apart taken c.from_residual-in_err-tell_start.result step at c.requires.going.1.planned.looks c.requires.rests so fault
    (subst (λ l. l ≢ []) text c.in_err-tell_start.ensures.some) (subst (λ l. Says {T = Unit {0}} l (g.S.Sink.output c.args.out.now) (g.S.Sink.output c.tell_start.new.out) (Err fault)) text says) (p.1 ∙ ap Err (p.2 ∙ is)) in
    record { way = on.way; going = on.going; rests = on.rests; none = on.none; fewer = on.fewer; kept = on.kept; unended = on.unended; told = on.told }

pub returns : goal.returns
returns g c =
    let i = c.in-Some.number in
    let plan = c.args.plan.now in
    let a = c.args.run.now in
    let b = c.take_next.new.run in
    let e = c.in-Some.ensures in
    let taken : IsTaken plan i a b = record { sound = e.sound; next = e.next; goes_on = e.goes_on; begins = e.begins; about = e.about; looks = e.looks; follows = e.follows; same = e.same } in
    let x = moment (g.H.Files.outside c.args.host.now) (g.S.Sink.output c.args.out.now) in
    let step = c.step_of-step.result.now in
    let at : step_at plan.steps i ≡ Some step = subst (λ steps. step_at steps i ≡ Some step) c.as_slice.ensures c.step_of-step.ensures in
    let y = moment (g.H.Files.outside c.start_child.new.host) (g.S.Sink.output c.tell_start.new.out) in
    let started = c.in_ok-start_child.ensures.started in
    let so : IsStarted i step (g.H.Files.outside c.args.host.now) (g.H.Files.outside c.start_child.new.host) b c.start_child.new.run =
    record { numbers = started.0; ins = started.1; kept = started.2; named = started.3; host = started.4; run = c.in_ok-start_child.ensures.ok } in
    let text = c.as_str.ensures.value ∙ c.in_ok-line.ensures in
    let on = starts_child plan g.H.Children.made x y a b c.start_child.new.run i c.requires.apart taken (Ok true) step at c.requires.going.1.planned.looks c.requires.rests so
    (subst (λ l. g.S.Sink.output c.tell_start.new.out ≡ with_written l (g.S.Sink.output c.args.out.now)) text c.in_ok-tell_start.ensures.ok) refl in
    record { way = on.way; going = on.going; rests = on.rests; none = on.none; fewer = on.fewer; kept = on.kept; unended = on.unended; told = on.told }
