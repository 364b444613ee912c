-- An update that goes on stops where a fault has come, over every host.
use Rattle.std.proofs.Common.{◌≡◌, ℕ, List, Err, inl, sym, ap, subst, ◌∙◌, length, arith}
use Rattle.std.proofs.lemmas.Bool.{true≢false}
use Rattle.b2_host.specs.declared.fault.IoFault.{IoFault}
use Rattle.b2_host.specs.declared.fault.IoFault.TheVariants as faults
use Rattle.b2_host.specs.ChildProcesses.{Child, Family}
use Rattle.b2_host.specs.Outside.{Outside, Risks, IoLooks}
use Rattle.b2_host.specs.OutsideLaws.{Keeps, keeps_same, keeps_then, keeps_io_looks}
use Rattle.b2_host.specs.Output.{Output}
use Rattle.b2_host.specs.OutputLaws.{OutKeeps, out_keeps_same, out_keeps_then}
use Rattle.b2_plan.specs.declared.plan.Plan.{Plan}
use Rattle.b2_base.specs.Counts.{Rose}
use Rattle.b2_runs.specs.Moments.{Moment}
use Rattle.b2_runs.specs.PlanChildren.{AreOfOpenSteps, ArePlanChildren}
use Rattle.b2_turns.specs.Starts.{settles}
use Rattle.b2_endings.specs.Writings.{Says}
use Rattle.b2_update.specs.declared.run.Run.{Run}
use Rattle.b2_update.specs.declared.stop.UpdateStop.{UpdateStop}
use Rattle.b2_update.specs.Stops.{StopCausedBy, host_stop_of, sink_stop_of}
use Rattle.b2_update.specs.Going.{IsGoing, Halts}

module _ (plan : Plan) (entry here there : Moment) (run : Run) (going : IsGoing plan entry here run) where
  -- where no child has started or ended since, and the counts of faults are as the stop says
  pub going_halts : (stop : UpdateStop) → there.host.children ≡ here.host.children → there.host.failed_waits ≡ here.host.failed_waits → Keeps here.host there.host → OutKeeps here.out there.out → StopCausedBy entry there stop → Halts plan run.looks.board.sched.jobs run.waits entry there stop
  going_halts stop children failed_waits host out caused =
      let running = ap (λ (family : Family). family.running) children in
      record {
        events = going.events;
        short = going.short;
        happened = record {
          are = ap (λ (family : Family). family.events) children ∙ going.happened.are;
          in_order = going.happened.in_order;
          of_open = subst (AreOfOpenSteps going.events) (sym running) going.happened.of_open;
          short_are = going.happened.short_are;
          short_told = going.happened.short_told;
        };
        planned = λ child runs. (let p = planned running child runs in (p.step, p.at, p.outs));
        waits = inl (failed_waits ∙ going.counts.waits, ap (λ (l : List Child). length l) running ∙ going.planned.waits);
        kept = record { host = keeps_then entry.host here.host there.host going.kept.host host; out = out_keeps_then entry.out here.out there.out going.kept.out out };
        caused = caused;
      }
    where
      planned : there.host.children.running ≡ here.host.children.running → ArePlanChildren plan.steps (settles run.looks.board.sched) there.host.children.running
      planned running = subst (ArePlanChildren plan.steps (settles run.looks.board.sched)) (sym running) going.planned.planned

  -- a call of the host failed, or no memory was left
  pub host_halts : (fault : IoFault) → IoLooks {T = Unit {0}} here.host there.host (Err fault) → there.out ≡ here.out → Halts plan run.looks.board.sched.jobs run.waits entry there (host_stop_of fault)
  host_halts faults.Failed failed out =
      going_halts (host_stop_of faults.Failed) (ap (λ (o : Outside). o.children) failed.same) (ap (λ (o : Outside). o.failed_waits) failed.same) (keeps_io_looks {T = Unit {0}} here.host there.host (Err faults.Failed) failed) (out_keeps_same here.out there.out out)
      (record { may = sym (ap (λ (r : Risks). r.may_fail) going.kept.host.risks) ∙ failed.may_fail; faults = subst (λ n. Rose n there.host.faults) going.counts.host failed.rose }, ap (λ (o : Output). o.faults) out ∙ going.counts.sink)
  host_halts faults.OutOfMemory same out =
      going_halts (host_stop_of faults.OutOfMemory) (ap (λ (o : Outside). o.children) same) (ap (λ (o : Outside). o.failed_waits) same) (keeps_io_looks {T = Unit {0}} here.host there.host (Err faults.OutOfMemory) same) (out_keeps_same here.out there.out out)
      (record { host = ap (λ (o : Outside). o.faults) same ∙ going.counts.host; waits = ap (λ (o : Outside). o.failed_waits) same ∙ going.counts.waits; sink = ap (λ (o : Output). o.faults) out ∙ going.counts.sink })

  -- a line could not be written
  pub sink_halts : (line : List ℕ) (fault : IoFault) → there.host ≡ here.host → Says {T = Unit {0}} line here.out there.out (Err fault) → Halts plan run.looks.board.sched.jobs run.waits entry there (sink_stop_of fault)
  sink_halts line faults.Failed host (failed, part, may) =
      going_halts (sink_stop_of faults.Failed) (ap (λ (o : Outside). o.children) host) (ap (λ (o : Outside). o.failed_waits) host) (keeps_same here.host there.host host)
      (record { faults = failed.faults.kept; no_fault = λ none. absurd (true≢false (sym failed.may ∙ none)); may_fail = may }) (
        record { may = sym going.kept.out.may_fail ∙ failed.may; faults = subst (λ n. Rose n there.out.faults) going.counts.sink failed.faults },
        ap (λ (o : Outside). o.faults) host ∙ going.counts.host,
        ap (λ (o : Outside). o.failed_waits) host ∙ going.counts.waits,
      )
  sink_halts line faults.OutOfMemory host (same, part, may) =
      going_halts (sink_stop_of faults.OutOfMemory) (ap (λ (o : Outside). o.children) host) (ap (λ (o : Outside). o.failed_waits) host) (keeps_same here.host there.host host)
      (record { faults = omega (arith, same); no_fault = λ none. same; may_fail = may })
      (record { host = ap (λ (o : Outside). o.faults) host ∙ going.counts.host; waits = ap (λ (o : Outside). o.failed_waits) host ∙ going.counts.waits; sink = same ∙ going.counts.sink })
