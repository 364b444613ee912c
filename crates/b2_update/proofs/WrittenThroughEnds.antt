-- What was written before an update stopped, and where that stopped its log, as the children end that it left.
use Rattle.std.proofs.Common.{◌≡◌, inl, inr, ℕ, true, List, [], ◌∷◌, ◌++◌, refl, sym, ap, subst, ◌∙◌, append_assoc, append-nil}
use Rattle.std.specs.List.{Contains}
use Rattle.std.proofs.lemmas.Bool.{false≢true}
use Rattle.std.proofs.lemmas.List.Elements.{Contains-append_cases, Contains-append_left}
use Rattle.b2_host.specs.declared.children.ChildEvent.{ChildEvent}
use Rattle.b2_host.specs.declared.children.ChildEvent.TheVariants.{Start, Done}
use Rattle.b2_host.specs.Disks.{Disk}
use Rattle.b2_plan.specs.declared.step.Step.{Step}
use Rattle.b2_plan.specs.Plans.{Apart}
use Rattle.b2_runs.specs.Staleness.{Update}
use Rattle.b2_runs.specs.Events.{is_done}
use Rattle.b2_runs.specs.Runs.{IsRun, OpenEnds}
use Rattle.b2_runs.specs.Soundness.{IsLoose, IsAllowedChange}
use Rattle.b2_runs.specs.LogCourses.{log_file}
use Rattle.b2_runs.specs.Reports.{AreEnds, TellsStarts, StopsAtEvent, StopsAtEnd}
use Rattle.b2_runs.specs.UpdateAnswers.{StopsWithLog}
use Rattle.b2_runs.proofs.CutLogIsTrue.{cut_log_through_change}
use Rattle.b2_runs.proofs.FirstElementOrLater.{Contains_cases, Contains_nil}
use Rattle.b2_facts.specs.declared.stop.FilesStop.TheVariants as files
use Rattle.b2_update.specs.declared.stop.UpdateStop.{UpdateStop}
use Rattle.b2_update.specs.declared.stop.UpdateStop.TheVariants as stops
use Rattle.b2_update.specs.InRun.{StopWritten}
use Rattle.b2_update.proofs.WaitTellsEnd.{are_ends}

-- ---- ends alone

more_ends : (events ends : List ChildEvent) → AreEnds events → AreEnds ends → AreEnds (events ++ ends)
more_ends [] ends first last = last
more_ends (event ∷ events) ends first last = (first.0, more_ends events ends first.1 last)

no_start : (ends : List ChildEvent) (i : ℕ) → AreEnds ends → Contains ends (Start i) → ⊥
no_start [] i all among = absurd (Contains_nil (Start i) among)
no_start (end ∷ ends) i all among = elim (Contains_cases end (Start i) ends among) [
  | inl same ↦ absurd (false≢true (subst (λ (e : ChildEvent). is_done e ≡ true) same all.0))
  | inr later ↦ no_start ends i all.1 later
]

-- no end comes after a whole run
none_ends : (u : Update) (events ends : List ChildEvent) → IsRun u events → OpenEnds events ends → ends ≡ []
none_ends u events [] run opened = refl
none_ends u events (Start i ∷ ends) run opened = absurd opened.0
none_ends u events (Done i well ∷ ends) run opened = absurd (run.none_open i opened.0)

-- ---- what may change

-- a step that is loose after more ends was loose before them
loose_before : (events ends : List ChildEvent) (i : ℕ) → AreEnds ends → IsLoose (events ++ ends) i → IsLoose events i
loose_before events ends i all (began, unended) = (
  elim (Contains-append_cases events ends (Start i) began) [
    | inl before ↦ before
    | inr after ↦ absurd (no_start ends i all after)
  ],
  λ done. unended (Contains-append_left events ends (Done i true) done),
)

allowed_before : (u : Update) (events ends : List ChildEvent) (old new : Disk) → AreEnds ends → IsAllowedChange u (events ++ ends) old new → IsAllowedChange u events old new
allowed_before u events ends old new all change = record {
  keeps = change.keeps;
  others = λ path not_log unmade. change.others path not_log (λ i step makes loose. unmade i step makes (loose_before events ends i all loose));
  grows = change.grows;
}

-- ---- what was written

told_more : (steps : List Step) (events ends : List ChildEvent) (written : List ℕ) → AreEnds ends → TellsStarts steps events written → TellsStarts steps (events ++ ends) written
told_more steps events ends written all t = record {
  front = t.front;
  rest = t.rest ++ ends;
  whole = ap (λ (l : List ChildEvent). l ++ ends) t.whole ∙ append_assoc t.front t.rest ends;
  only_ends = more_ends t.rest ends t.only_ends all;
  lines = t.lines;
}

abbrev stops_more : (steps : List Step) (events ends : List ChildEvent) (written : List ℕ) → AreEnds ends → StopsAtEvent steps events written → StopsAtEvent steps (events ++ ends) written
stops_more steps events ends written all t = record {
  front = t.front;
  event = t.event;
  rest = t.rest ++ ends;
  whole = ap (λ (l : List ChildEvent). l ++ ends) t.whole ∙ append_assoc t.front (t.event ∷ t.rest) ends;
  only_ends = more_ends t.rest ends t.only_ends all;
  has_line = t.has_line;
  part = t.part;
  begins = t.begins;
  lines = t.lines;
}

module _ (u : Update) (events ends : List ChildEvent) (old new : Disk) (apart : Apart u.build.steps u.build.roots) (opened : OpenEnds events ends) (change : IsAllowedChange u events old new) (same : log_file new.now ≡ log_file old.now) where
  with_log_more : (written : List ℕ) → StopsWithLog u events old.now written → StopsWithLog u (events ++ ends) new.now written
  with_log_more written (inl (stop, cut)) =
      let upto : List ChildEvent = stop.front ++ stop.event ∷ [] in
      let whole : events ≡ upto ++ stop.rest = stop.whole ∙ sym (append_assoc stop.front (stop.event ∷ []) stop.rest) in
      inl (
        stops_more u.build.steps events ends written (are_ends events ends opened) stop,
        cut_log_through_change u upto old new apart (allowed_before u upto stop.rest old new stop.only_ends (subst (λ (l : List ChildEvent). IsAllowedChange u l old new) whole change)) same cut,
      )
  with_log_more written (inr stop) =
      inr (subst (λ (l : List ChildEvent). StopsAtEnd u l written) (sym (ap (λ (l : List ChildEvent). events ++ l) (none_ends u events ends stop.run opened) ∙ append-nil events)) stop)

  pub written_more : (stop : UpdateStop) (written : List ℕ) → StopWritten u events old.now stop written → StopWritten u (events ++ ends) new.now stop written
  written_more (stops.Files files.Host) written told = told_more u.build.steps events ends written (are_ends events ends opened) told
  written_more (stops.Files files.OutOfMemory) written (inl told) = inl (told_more u.build.steps events ends written (are_ends events ends opened) told)
  written_more (stops.Files files.OutOfMemory) written (inr stopped) = inr (with_log_more written stopped)
  written_more (stops.Files (files.TooBig number size)) written told = told_more u.build.steps events ends written (are_ends events ends opened) told
  written_more stops.Sink written stopped = with_log_more written stopped
