-- What updates and stops leave of the files outside the output roots.
use Rattle.std.proofs.Common.{◌≡◌, ℕ, List, [], Option, Some, None, refl, sym, ap, ◌∙◌, subst, inl, inr}
use Rattle.std.specs.List.{Contains}
use Rattle.std.specs.Option.{option_map}
use Rattle.std.specs.Str.{bytes_eq}
use Rattle.std.proofs.lemmas.Bool.{false≢true, cases_Bool}
use Rattle.std.proofs.lemmas.Slice.Eq.{bytes_eq-Decides}
use Rattle.b2_host.specs.declared.children.ChildEvent.{ChildEvent}
use Rattle.b2_host.specs.ChildProcesses.{Child, ChangesOnlyOutputs}
use Rattle.b2_host.specs.Disks.{File, Folder, Disk, bytes_at}
use Rattle.b2_host.specs.FileCalls.{log_path}
use Rattle.b2_host.specs.Outside.{Outside}
use Rattle.b2_plan.specs.declared.step.Step.{Step}
use Rattle.b2_plan.specs.Plans.{Apart, step_at}
use Rattle.b2_log.specs.declared.line.LogLine.{LogLine}
use Rattle.b2_runs.specs.Afterwards.{at_present}
use Rattle.b2_runs.specs.LogFiles.{IsLogHeld, IsLogIn}
use Rattle.b2_runs.specs.Moments.{Moment}
use Rattle.b2_runs.specs.Sessions.{HostUpdated, IsReopened}
use Rattle.b2_runs.specs.Soundness.{Distinguishes, UsesTrueLines}
use Rattle.b2_runs.specs.Staleness.{Update}
use Rattle.b2_runs.specs.UpdateAnswers.{UpdateAnswer, HasUpdated}
use Rattle.b2_runs.proofs.FileIsOneLog.{file_is_some_log}
use Rattle.b2_runs.proofs.NextStartsNoMore.{of_log}
use Rattle.b2_source_laws.specs.NextPlans.{SourcesStay}
use Rattle.b2_source_laws.proofs.NextPlanIsTheSame.{updates_leave_sources}

-- bytes that cannot differ are the same
same_unless : (a b : Option (List ℕ)) → ((a ≡ b → ⊥) → ⊥) → a ≡ b
same_unless None None h = refl
same_unless None (Some b) h = absurd (h (λ e. cc))
same_unless (Some a) None h = absurd (h (λ e. cc))
same_unless (Some a) (Some b) h =
    elim (cases_Bool (bytes_eq a b)) [
      | inl same ↦ ap Some ((bytes_eq-Decides a b).0 same)
      | inr differ ↦ absurd (h (λ e. (let one : a ≡ b = cc in false≢true (sym differ ∙ (bytes_eq-Decides a b).1 one))))
    ]

-- a folder has a log, and what is said of the log at entry is said of it
some_log : (folder : Folder) → ((log : List LogLine) → IsLogIn folder log → ⊥) → ⊥
some_log folder none = go (bytes_at folder log_path) none
  where
    go : (o : Option (List ℕ)) → ((log : List LogLine) → IsLogHeld o log → ⊥) → ⊥
    go None without = without [] refl
    go (Some bytes) without = file_is_some_log bytes without

stay_then : (roots : List (List ℕ)) (a b c : Folder) → SourcesStay roots a b → SourcesStay roots b c → SourcesStay roots a c
stay_then roots a b c one two = λ path outside. two path outside ∙ one path outside

pub host_updates_leave_sources : (u : Update) (answer : UpdateAnswer) (first between : Outside) (x : HostUpdated u answer first between)
    → UsesTrueLines u x.old → Distinguishes u x.new.past → SourcesStay u.build.roots x.old.now x.new.now
host_updates_leave_sources u answer first between x uses distinct = λ path outside.
    same_unless (bytes_at x.new.now path) (bytes_at x.old.now path) (λ differ. some_log x.old.now (λ log is.
    let h : HasUpdated (at_present u x.old.now log) answer first between x.old x.new =
    of_log x.old.now (λ l. HasUpdated (at_present u x.old.now l) answer first between x.old x.new) answer (x.has distinct uses) log is in
    differ (updates_leave_sources (at_present u x.old.now log) h.events x.old.now x.new.now x.apart h.changed path outside)))

-- children of a plan's steps change no source
work_leaves_sources : (steps : List Step) (roots : List (List ℕ)) (running : List Child) (before after : Disk) → Apart steps roots
    → ((child : Child) → Contains running child → (step : Step) × (step_at steps child.step ≡ Some step) × (child.outs ≡ step.outs)) → ChangesOnlyOutputs running before after
    → SourcesStay roots before.now after.now
work_leaves_sources steps roots running before after apart planned worked = λ path outside.
    ap (option_map (λ (file : File). file.bytes)) (worked.others path (λ written.
    let (step, at, outs) = planned written.child written.runs in
    outside (apart.under_root written.child.step step path (record { at = at; among = subst (λ l. Contains l path) outs written.out }))))

pub stops_leave_sources : (u : Update) (answer : UpdateAnswer) (first : Outside) (between reopened : Moment) (events : List ChildEvent) (x : HostUpdated u answer first between.host)
    → UsesTrueLines u x.old → Distinguishes u x.new.past → (r : IsReopened events between reopened) → SourcesStay u.build.roots x.old.now r.new.now
stops_leave_sources u answer first between reopened events x uses distinct r =
    let one : r.old ≡ x.new = (let e : Some r.old ≡ Some x.new = sym r.shows ∙ x.shows_then in cc) in
    stay_then u.build.roots x.old.now x.new.now r.new.now (host_updates_leave_sources u answer first between.host x uses distinct)
    (work_leaves_sources u.build.steps u.build.roots between.host.children.running x.new r.new x.apart x.left_open.planned
    (subst (λ d. ChangesOnlyOutputs between.host.children.running d r.new) one r.worked))
