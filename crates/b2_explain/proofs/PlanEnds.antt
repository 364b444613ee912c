-- How it ends that a plan is cleaned: from its opened log on, or where the log was not opened.
use Rattle.std.proofs.Common.{◌≡◌, ℕ, List, Option, Some, None, Result, Err, refl, sym, subst, ◌∙◌}
use Rattle.std.specs.Option.{IfSome}
use Rattle.std.specs.List.{Contains, AllByRecursion}
use Rattle.std.proofs.lemmas.List.Elements.{Contains-append_left}
use Rattle.b2_host.specs.declared.fault.IoFault.{IoFault}
use Rattle.b2_host.specs.declared.fault.IoFault.TheVariants as io
use Rattle.b2_host.specs.Disks.{Disk, Past}
use Rattle.b2_host.specs.ChildProcesses.{BothTold}
use Rattle.b2_host.specs.Outside.{Outside}
use Rattle.b2_host.specs.OutsideLaws.{BeginsPast, Keeps, keeps_then}
use Rattle.b2_host.specs.Output.{Output}
use Rattle.b2_host.specs.Faults.{IoFaultTold}
use Rattle.b2_host.specs.FileCalls.{log_path}
use Rattle.b2_host.specs.LogChanges.{ChangesOnlyAt, ChangesOnlyLog, keeps_log_changes}
use Rattle.b2_plan.specs.declared.plan.Plan.{Plan}
use Rattle.b2_plan.specs.Plans.{Makes, Apart}
use Rattle.b2_log.specs.declared.line.LogLine.{LogLine}
use Rattle.b2_log.specs.Good.{IsGood}
use Rattle.b2_runs.specs.LogCourses.{Opening.to_cut}
use Rattle.b2_journal.specs.Openings.{IsOpened, Opens, MayFailTold}
use Rattle.b2_explain.specs.declared.fault.CleanFault.{CleanFault}
use Rattle.b2_explain.specs.Faults.{CleanCounts, clean_fault_of}
use Rattle.b2_explain.specs.Cleaning.{removals, MayBeCleaned, CleanedBy, CleanTold, CleanWritten}
use Rattle.b2_explain.specs.Removing.{Wrote, all_to_clean, CleanedSteps, CleansMore}
use Rattle.b2_explain.proofs.RemovalsCompose.{wrote_cut, counts_then}
use Rattle.b2_explain.proofs.PlanIsCleaned.{to_clean_of, removals_same, open_failed, open_still, may_be, cleaned_by, written_by}

module _ (plan : Plan) (apart : Apart plan.steps plan.roots) (x y : Outside) (a : Output) (only : ChangesOnlyLog x y) where
  not_log : (path : List ℕ) → Contains (all_to_clean plan.steps) path → path ≡ log_path → ⊥
  not_log path among same = let (k, step, makes, file) = to_clean_of plan.steps path among in apart.not_log k step (subst (Makes plan.steps k step) same makes)

  -- ---- the log was opened

  module _ (z : Outside) (c : Output) (first more : List LogLine) (counts : y.faults ≡ x.faults) (good : AllByRecursion IsGood first) (opens : BothTold (λ before after. IsOpened to_cut before after first) x.disk y.disk) (r : Result ℕ CleanFault) (is : CleansMore plan.steps 0 y a first z c more r) where
    pub plan_counts : CleanCounts x a z c r
    plan_counts = counts_then {T = Unit {0}} x a y a z c tt r only.risks refl (counts, refl) is.counts

    pub plan_children : z.children ≡ x.children
    plan_children = is.children ∙ only.children

    pub plan_keeps : Keeps x z
    plan_keeps = keeps_then x y z (keeps_log_changes x y only) is.keeps

    pub plan_told : CleanTold plan.steps x z r
    plan_told = go x.disk y.disk z.disk only.files opens is.files is.keeps.files
      where
        go : (o p l : Option Disk) → BothTold (ChangesOnlyAt log_path) o p → BothTold (λ before after. IsOpened to_cut before after first) o p → BothTold (λ old new. CleanedSteps plan.steps 0 first old new more r) p l → BothTold BeginsPast p l
            → BothTold (λ old new. MayBeCleaned plan.steps old new × CleanedBy plan.steps old new r) o l
        go None None None files opened cleaned past = tt
        go None None (Some l) files opened cleaned past = absurd cleaned
        go None (Some p) l files opened cleaned past = absurd files
        go (Some o) None l files opened cleaned past = absurd files
        go (Some o) (Some p) None files opened cleaned past = absurd cleaned
        go (Some o) (Some p) (Some l) files opened cleaned past =
            let later : (old : Past) → Contains p.past old → Contains l.past old = λ old among. subst (λ l. Contains l old) (sym past.1) (Contains-append_left p.past past.0 old among) in
            let good_more = is.good good in (
              may_be plan.steps plan.roots apart o p l first more files opened later good r good_more cleaned,
              cleaned_by plan.steps plan.roots apart o p l first more files opened later good r good_more cleaned,
            )

    pub plan_written : CleanWritten plan.steps x a c r
    plan_written = go x.disk y.disk only.files is.wrote
      where
        go : (o p : Option Disk) → BothTold (ChangesOnlyAt log_path) o p → IfSome p (λ disk. Wrote (removals disk.now plan.steps) a c r) → CleanWritten plan.steps (record x { disk = o }) a c r
        go None p files wrote = tt
        go (Some o) None files wrote = absurd files
        go (Some o) (Some p) files wrote =
            written_by plan.steps o.now a c r (subst (λ paths. Wrote paths a c r) (removals_same o.now p.now plan.steps (λ path among. files.others path (not_log path among))) wrote)

  -- ---- it was not opened

  module _ (fault : IoFault) (r : Result ℕ CleanFault) (e : r ≡ Err (clean_fault_of fault)) (counts : IoFaultTold {T = List LogLine} x.faults y.faults (Err fault)) (may : MayFailTold {T = List LogLine} x (Err fault)) (opens : BothTold (λ before after. Opens to_cut before after (Err fault)) x.disk y.disk) where
    pub unopened_counts : CleanCounts x a y a r
    unopened_counts = subst (CleanCounts x a y a) (sym e) (go fault counts may)
      where
        go : (f : IoFault) → IoFaultTold {T = List LogLine} x.faults y.faults (Err f) → MayFailTold {T = List LogLine} x (Err f) → CleanCounts {T = ℕ} x a y a (Err (clean_fault_of f))
        go io.Failed rose risk = (risk, rose, refl)
        go io.OutOfMemory same none = (same, refl)

    pub unopened_told : CleanTold plan.steps x y r
    unopened_told = subst (CleanTold plan.steps x y) (sym e) (go x.disk y.disk only.files opens)
      where
        cut : (f : IoFault) (old new : Disk) → ChangesOnlyAt log_path old new → Opens to_cut old new (Err f) → MayBeCleaned plan.steps old new
        cut io.Failed old new files told = open_failed plan.steps old new files told
        cut io.OutOfMemory old new files told = open_still plan.steps old new told

        go : (o p : Option Disk) → BothTold (ChangesOnlyAt log_path) o p → BothTold (λ before after. Opens to_cut before after (Err fault)) o p → BothTold (λ old new. MayBeCleaned plan.steps old new × CleanedBy plan.steps old new (Err (clean_fault_of fault))) o p
        go None None files told = tt
        go None (Some p) files told = absurd files
        go (Some o) None files told = absurd files
        go (Some o) (Some p) files told = (cut fault o p files told, tt)

    pub unopened_written : CleanWritten plan.steps x a a r
    unopened_written = subst (CleanWritten plan.steps x a a) (sym e) (go x.disk)
      where
        go : (o : Option Disk) → CleanWritten plan.steps (record x { disk = o }) a a (Err (clean_fault_of fault))
        go None = tt
        go (Some disk) = written_by plan.steps disk.now a a (Err (clean_fault_of fault)) (wrote_cut ℕ (removals disk.now plan.steps) a a (clean_fault_of fault) refl)
