-- Each update of a drill answers Ok or out of memory, event by event.
use Rattle.std.proofs.Common.{◌≡◌, ◌≢◌, ℕ, suc, ◌<◌, ◌≤◌, ◌⊎◌, inl, inr, Bool, true, false, List, [], ◌∷◌, ◌++◌, take, codes, Option, Some, None, refl, sym, ap, subst, ◌∙◌, arith}
use Rattle.std.specs.Prelude.{IfSome}
use Rattle.std.specs.List.{AllByRecursion, Contains}
use Rattle.std.specs.Option.{option_map}
use Rattle.std.specs.Str.{bytes_eq}
use Rattle.std.proofs.lemmas.Bool.{true≢false}
use Rattle.std.proofs.lemmas.Slice.Eq.{bytes_eq-Decides}
use Rattle.b2_drill.specs.Drills.{source_name, jamroot, drill_events}
use Rattle.b2_drill.specs.declared.event.Event.{Event}
use Rattle.b2_drill_clean.proofs.StepsByNumber.{below, none_in}
use Rattle.b2_drill_laws.specs.Laws.{IsOkOrMemory, IsSafe}
use Rattle.b2_drill_laws.proofs.DrillsAreCourses.{Stage, unwritten, written, Leads, writes_project, writes_source, edits_source, asks, Course, course_take, drill_course}
use Rattle.b2_drill_laws.proofs.UpdatesGoWell.{IsCalm, Stands, ok_or_memory, stays_calm, stands_then}
use Rattle.b2_drill_means.specs.Laws.{DrillMeans, NoPatternIsRefused}
use Rattle.b2_prepare.specs.Laws.{OneMeaning}
use Rattle.b2_host.specs.Disks.{File, Disk, bytes_at}
use Rattle.b2_host.specs.Outside.{Risks}
use Rattle.b2_host.specs.declared.children.ChildEvent.TheVariants.{Done}
use Rattle.b2_memory.specs.Memories.{new_memory}
use Rattle.b2_memory.specs.Results.{made_of}
use Rattle.b2_memory.specs.Sinks.{new_output}
use Rattle.b2_runs.specs.LogFiles.{IsTrueOn}
use Rattle.b2_runs.specs.Moments.{Moment}
use Rattle.b2_runs.specs.Sessions.{IsEdit, Comes, Happens}
use Rattle.b2_runs.proofs.TrueThroughSession.{true_through_edit}
use Rattle.b2_sessions.specs.BuildCalls.{IsCall}
use Rattle.b2_sessions.specs.Courses.{IsSessionOf}
use Rattle.b2_sessions.specs.Events.{happening_of, happenings}
use Rattle.b2_top.specs.Plans.{making_by}
use Rattle.b2_top.specs.declared.answer.Answer.{Answer}

-- ---- an edit

some_same : {X : Type 0} (x y : X) → Some x ≡ Some y → x ≡ y
some_same x y e = cc

calm_edit : (path : List ℕ) (bytes : Option (List ℕ)) (before after : Moment) → IsEdit path bytes before after → IsCalm before → IsCalm after
calm_edit path bytes before after edit calm = record {
  may_fail = ap (λ (m : Moment). m.host.risks.may_fail) edit.same ∙ calm.may_fail;
  may_end_badly = ap (λ (m : Moment). m.host.risks.may_end_badly) edit.same ∙ calm.may_end_badly;
  faults = ap (λ (m : Moment). m.host.faults) edit.same ∙ calm.faults;
  out = ap (λ (m : Moment). m.out.may_fail) edit.same ∙ calm.out;
  none_badly = λ i badly. calm.none_badly i (subst (λ (m : Moment). Contains m.host.children.events (Done i false)) edit.same badly);
  true_log = true_through_edit (making_by made_of) path bytes before after edit calm.true_log;
}

-- the edited file has the bytes
edited_bytes : (path bytes : List ℕ) (before after : Moment) (edit : IsEdit path (Some bytes) before after) → bytes_at edit.new.now path ≡ Some bytes
edited_bytes path bytes before after edit = ap (option_map (λ (f : File). f.bytes)) edit.edited.1 ∙ ap (λ b. Some b) edit.edited.2

-- others stay
other_bytes : (path bytes : List ℕ) (before after : Moment) (edit : IsEdit path (Some bytes) before after) (disk : Disk) (other held : List ℕ) → before.host.disk ≡ Some disk → other ≢ path
    → bytes_at disk.now other ≡ Some held → bytes_at edit.new.now other ≡ Some held
other_bytes path bytes before after edit disk other held shows differ there =
    ap (option_map (λ (f : File). f.bytes)) (edit.others other differ)
    ∙ ap (λ (d : Disk). bytes_at d.now other) (some_same edit.old disk (sym edit.shows ∙ shows)) ∙ there

file_stands : (n : ℕ) (before after : Moment) → IsEdit (codes "Jamroot") (Some (jamroot n)) before after → Stands n 0 after
file_stands n before after edit = record {
  disk = edit.new;
  shows = ap (λ (m : Moment). m.host.disk) edit.same;
  file = edited_bytes (codes "Jamroot") (jamroot n) before after edit;
  sources = λ i less. absurd (omega (arith, less));
}

first_same : {X : Type 0} (x y : X) (xs ys : List X) → x ∷ xs ≡ y ∷ ys → x ≡ y
first_same x y xs ys e = cc

not_a_source : (i : ℕ) → codes "Jamroot" ≢ source_name i
not_a_source i e = differ (first_same 74 115 (codes "amroot") _ e)
  where
    differ : ◌≡◌ {A = ℕ} 74 115 → ⊥
    differ f = omega (arith, f)

source_stands : (n i count more : ℕ) (bytes : List ℕ) (before after : Moment) → IsEdit (source_name i) (Some bytes) before after → Stands n count before
    → ((k : ℕ) → k < more → (source_name k ≡ source_name i) ⊎ (k < count)) → Stands n more after
source_stands n i count more bytes before after edit stands which = record {
  disk = edit.new;
  shows = ap (λ (m : Moment). m.host.disk) edit.same;
  file = other_bytes (source_name i) bytes before after edit stands.disk (codes "Jamroot") (jamroot n) stands.shows (not_a_source i) stands.file;
  sources = λ k less. go k (which k less) (bytes_eq (source_name k) (source_name i)) refl;
}
  where
    go : (k : ℕ) → (source_name k ≡ source_name i) ⊎ (k < count) → (b : Bool) → bytes_eq (source_name k) (source_name i) ≡ b → (held : List ℕ) × (bytes_at edit.new.now (source_name k) ≡ Some held)
    go k w true e =
        (bytes, subst (λ path. bytes_at edit.new.now path ≡ Some bytes) (sym ((bytes_eq-Decides (source_name k) (source_name i)).0 e)) (edited_bytes (source_name i) bytes before after edit))
    go k (inl same) false e = absurd (true_not ((bytes_eq-Decides (source_name k) (source_name i)).1 same) e)
      where
        true_not : bytes_eq (source_name k) (source_name i) ≡ true → bytes_eq (source_name k) (source_name i) ≡ false → ⊥
        true_not t f = true≢false (sym t ∙ f)
    go k (inr lower) false e =
        let held : (b : List ℕ) × (bytes_at stands.disk.now (source_name k) ≡ Some b) = stands.sources k lower in
        (held.0, other_bytes (source_name i) bytes before after edit stands.disk (source_name k) held.0 stands.shows (λ same. true≢false (sym ((bytes_eq-Decides (source_name k) (source_name i)).1 same) ∙ e)) held.1)

-- ---- a course

-- what holds at a stage
abbrev Holds : ℕ → Stage → Moment → Type 0
Holds n unwritten m = IsCalm m
Holds n (written count) m = IsCalm m × Stands n count m

module _ (drill_means : DrillMeans) (no_pattern : NoPatternIsRefused) (one_meaning : OneMeaning) (n : ℕ) (few : n ≤ 2000) where
  one_event : (from to : Stage) (event : Event) (before after : Moment) (here : List Answer) → Leads n from event to → Comes (IsCall made_of) (happening_of event) before here after → Holds n from before
      → AllByRecursion IsOkOrMemory here × Holds n to after
  one_event from to event before after here writes_project comes holds =
      (subst (AllByRecursion IsOkOrMemory) (sym comes.0) tt, (calm_edit (codes "Jamroot") (Some (jamroot n)) before after comes.1 holds, file_stands n before after comes.1))
  one_event from to event before after here (writes_source i bytes less) comes holds = (
    subst (AllByRecursion IsOkOrMemory) (sym comes.0) tt,
    (calm_edit (source_name i) (Some bytes) before after comes.1 holds.0, source_stands n i i (suc i) bytes before after comes.1 holds.1 (λ k lower. next k (below k i lower))),
  )
    where
      next : (k : ℕ) → (k < i) ⊎ (k ≡ i) → (source_name k ≡ source_name i) ⊎ (k < i)
      next k (inl lower) = inr lower
      next k (inr same) = inl (ap source_name same)
  one_event from to event before after here (edits_source i bytes less) comes holds = (
    subst (AllByRecursion IsOkOrMemory) (sym comes.0) tt,
    (calm_edit (source_name i) (Some bytes) before after comes.1 holds.0, source_stands n i n n bytes before after comes.1 holds.1 (λ k lower. inr lower)),
  )
  one_event from to event before after here asks comes holds = (
    subst (AllByRecursion IsOkOrMemory) (sym comes.1) (ok_or_memory drill_means no_pattern one_meaning n few (codes "-j4" ∷ []) comes.0 before after refl comes.2 holds.0 holds.1, tt),
    (
      stays_calm drill_means no_pattern one_meaning n few (codes "-j4" ∷ []) comes.0 before after refl comes.2 holds.0 holds.1,
      stands_then drill_means no_pattern one_meaning n few (codes "-j4" ∷ []) comes.0 before after refl comes.2 holds.0 holds.1,
    ),
  )

  each_append : (xs ys : List Answer) → AllByRecursion IsOkOrMemory xs → AllByRecursion IsOkOrMemory ys → AllByRecursion IsOkOrMemory (xs ++ ys)
  each_append [] ys a b = b
  each_append (x ∷ xs) ys a b = (a.0, each_append xs ys a.1 b)

  all_well : (events : List Event) (from to : Stage) (before after : Moment) (given : List Answer) → Course n from events to → Happens (IsCall made_of) before (happenings events) given after → Holds n from before
      → AllByRecursion IsOkOrMemory given
  all_well [] from to before after given course happens holds = subst (AllByRecursion IsOkOrMemory) (sym happens.0) tt
  all_well (event ∷ events) from to before after given (stage, leads, rest) (next, here, later, is, comes, more) holds =
      let one : AllByRecursion IsOkOrMemory here × Holds n stage next = one_event from stage event before next here leads comes holds in
      subst (AllByRecursion IsOkOrMemory) (sym is) (each_append here later one.0 (all_well events stage to next after later rest more one.1))

  -- ---- what may go wrong stays

  risks_once : (from to : Stage) (event : Event) (before after : Moment) (here : List Answer) → Leads n from event to → Comes (IsCall made_of) (happening_of event) before here after → after.host.risks ≡ before.host.risks
  risks_once from to event before after here writes_project comes = ap (λ (m : Moment). m.host.risks) comes.1.same
  risks_once from to event before after here (writes_source i bytes less) comes = ap (λ (m : Moment). m.host.risks) comes.1.same
  risks_once from to event before after here (edits_source i bytes less) comes = ap (λ (m : Moment). m.host.risks) comes.1.same
  risks_once from to event before after here asks comes = comes.2.keeps.risks

  risks_stay : (events : List Event) (from to : Stage) (before after : Moment) (given : List Answer) → Course n from events to → Happens (IsCall made_of) before (happenings events) given after → after.host.risks ≡ before.host.risks
  risks_stay [] from to before after given course happens = ap (λ (m : Moment). m.host.risks) happens.1
  risks_stay (event ∷ events) from to before after given (stage, leads, rest) (next, here, later, is, comes, more) =
      risks_stay events stage to next after later rest more ∙ risks_once from stage event before next here leads comes

-- the log that does not stand is true
no_log : IsTrueOn (making_by made_of) (record { now = λ path. None; past = [] })
no_log log is line among = absurd (none_in line (subst (λ list. Contains list line) is among))

abbrev first : Moment
first = record { host = new_memory.outside; out = new_output }

pub drills_go_well : DrillMeans → NoPatternIsRefused → OneMeaning → (n count : ℕ) (last : Moment) (given : List Answer) → 0 < n → n ≤ 2000
    → IsSessionOf (take count (drill_events n)) first given last → IsSafe last → AllByRecursion IsOkOrMemory given
drills_go_well drill_means no_pattern one_meaning n count last given some few (renewed, same, happens) safe =
    let course : (stage : Stage) × Course n unwritten (take count (drill_events n)) stage = course_take n unwritten (written n) (drill_events n) count (drill_course n some) in
    let stay : last.host.risks ≡ renewed.host.risks = risks_stay drill_means no_pattern one_meaning n few (take count (drill_events n)) unwritten course.0 renewed last given course.1 happens in
    all_well drill_means no_pattern one_meaning n few (take count (drill_events n)) unwritten course.0 renewed last given course.1 happens (record {
      may_fail = ap (λ (r : Risks). r.may_fail) (sym stay) ∙ safe.may_fail;
      may_end_badly = ap (λ (r : Risks). r.may_end_badly) (sym stay) ∙ safe.may_end_badly;
      faults = ap (λ (m : Moment). m.host.faults) same;
      out = ap (λ (m : Moment). m.out.may_fail) same;
      none_badly = λ i badly. none_in (Done i false) (subst (λ (m : Moment). Contains m.host.children.events (Done i false)) same badly);
      true_log = subst (λ (m : Moment). IfSome m.host.disk (IsTrueOn (making_by made_of))) (sym same) no_log;
    })
