-- What a judgement tells of an update that is under way, and of its steps.
use Rattle.std.proofs.Common.{◌≡◌, inl, inr, ℕ, ◌<◌, Bool, true, false, List, length, get_or, Option, Some, None, Ok, Err, refl, sym, ap, subst, subst₂, ◌∙◌}
use Rattle.std.specs.List.{Contains}
use Rattle.std.proofs.lemmas.Bool.{cases_eq}
use Rattle.std.proofs.lemmas.List.{get_or-set_same, get_or-set_other}
use Rattle.b2_host.specs.declared.children.ChildEvent.{ChildEvent}
use Rattle.b2_host.specs.declared.children.ChildEvent.TheVariants.{Start}
use Rattle.b2_host.specs.Disks.{Folder, Disk}
use Rattle.b2_host.specs.ChildProcesses.{BothTold}
use Rattle.b2_host.specs.Outside.{Outside, Read}
use Rattle.b2_plan.specs.declared.step.Step.{Step}
use Rattle.b2_plan.specs.declared.plan.Plan.{Plan}
use Rattle.b2_plan.specs.Plans.{step_at, Apart}
use Rattle.b2_plan.specs.Closures.{Value, IsClosure}
use Rattle.b2_plan.specs.Cleans.{Clean}
use Rattle.b2_log.specs.declared.line.LogLine.{LogLine}
use Rattle.b2_runs.specs.Staleness.{Update, IsFresh, paths_with_bytes}
use Rattle.b2_runs.specs.Runs.{Settled, Settled.fresh as settled_fresh, on_settled}
use Rattle.b2_runs.specs.Outcomes.{IsSettledStep}
use Rattle.b2_runs.specs.Numbers.{IsStaleStep}
use Rattle.b2_runs.specs.Afterwards.{IsNotedStep}
use Rattle.b2_runs.proofs.NumberHasOneStep.{one_step}
use Rattle.b2_runs.proofs.SettledStays.{closure_on_settled, same_members}
use Rattle.b2_runs.proofs.NotedAfterEachEvent.{other_outs}
use Rattle.b2_sched.specs.declared.state.State.{State}
use Rattle.b2_sched.specs.declared.state.State.TheVariants as states
use Rattle.b2_sched.specs.Schedules.{Schedule, state_of, IsUnjudged, IsSettled, IsStep, IsNeeded}
use Rattle.b2_facts.specs.declared.stop.FilesStop.{FilesStop}
use Rattle.b2_facts.specs.Facts.{Knowledge, IsAbout}
use Rattle.b2_facts.specs.Growth.{Grows, Learns, OfNone}
use Rattle.b2_facts.specs.Truth.{IsBuildOf, StaysTrue}
use Rattle.b2_facts.proofs.FactsGrow.{grows_then, learns_same}
use Rattle.b2_facts.proofs.ListsAtPlaces.{some_is}
use Rattle.b2_reach.specs.declared.sights.Sights.{Sights}
use Rattle.b2_reach.specs.Sightings.{IsTrueSight, AreLined}
use Rattle.b2_reach.specs.Laws.{IsTrueInRun}
use Rattle.b2_reach.proofs.TruthIsKept.{sight_grows}
use Rattle.b2_reach.proofs.LinesAreThere.{lined_as_facts_grow}
use Rattle.b2_verdicts.specs.declared.step_numbers.StepNumbers.{StepNumbers}
use Rattle.b2_verdicts.specs.VerdictCalls.{IsOfStep}
use Rattle.b2_verdicts.specs.Cases.{AreNumbersOf}
use Rattle.b2_board.specs.Works.{IsWorkOn}
use Rattle.b2_board.specs.Boards.{IsOver, members_in, members_of}
use Rattle.b2_looks.specs.declared.looks.Looks.{Looks}
use Rattle.b2_looks.specs.Numbers.{AreNumbersBy}
use Rattle.b2_looks.specs.Looks.{ready_at, AreLooks, Follows, IsJudged}
use Rattle.b2_looks.specs.UnderWay.{IsUnderWay, HasClosure, AreTrueLooks, IsUpdateBy, LookTold}
use Rattle.b2_looks.specs.Judging.{HaveScanLines, IsToJudge, JudgesSo, IsVerdict, OthersStayNoted, JudgeTold}
use Rattle.b2_looks.proofs.FilesAreNumbered.{named_grow}
use Rattle.b2_looks.proofs.LooksAreKept.{state_now, state_else, includes_same}
use Rattle.b2_looks.proofs.UpdateStays.{is_going}
use Rattle.b2_looks.proofs.JudgementEnds.{under_from}
use Rattle.b2_looks.proofs.JudgementIsEntered.{later_looks, later_over}
use Rattle.b2_looks.proofs.ClosureIsFound.{IsFound, closure_found, notfile_told, done_told, lines_told}
use Rattle.b2_looks.proofs.LooseAreBlank.{blank_learned}
use Rattle.b2_looks.proofs.LookIsTold.{run_needed}

-- ---- states

settled_or_stale : (x : State) → x ≡ states.Settled → x ≡ states.Stale → ⊥
settled_or_stale x a b = let h : states.Settled ≡ states.Stale = sym a ∙ b in cc

settled_or_running : (x : State) → x ≡ states.Settled → x ≡ states.Running → ⊥
settled_or_running x a b = let h : states.Settled ≡ states.Running = sym a ∙ b in cc

-- ---- closures

closure_grows : (u : Update) (events : List ChildEvent) (f g : Knowledge) (i : ℕ) (numbers : StepNumbers) → Grows f g → HasClosure u events f i numbers → HasClosure u events g i numbers
closure_grows u events f g i numbers grows c = record {
  step = c.step;
  at = c.at;
  members = c.members;
  closure = c.closure;
  named = record { outs = named_grow f g grows numbers.outs c.step.outs c.named.outs; ins = named_grow f g grows numbers.ins (paths_with_bytes c.members) c.named.ins };
}

-- ---- what is so of the steps after a judgement

module _ (u : Update) (events : List ChildEvent) (apart : Apart u.build.steps u.build.roots) (number : ℕ) (numbers : StepNumbers) (step : Step) (ms : List (List ℕ × Value)) (at : step_at u.build.steps number ≡ Some step) (not_started : Contains events (Start number) → ⊥) (closure : IsClosure u.build (on_settled u events) step ms)
    (before after : Disk) (s t v : Sights) (l n : Looks) (low : number < length l.board.sched.states) (room : number < length l.ready.items) (first_grows : Grows s.facts t.facts) (next_grows : Grows t.facts v.facts) (named : AreNumbersOf step ms t.facts numbers)
    (others : OthersStayNoted u events step before.now s.journal after.now v.journal) (looks : AreTrueLooks u events before s l) where
  grows : Grows s.facts v.facts
  grows = grows_then s.facts t.facts v.facts first_grows next_grows

  inside : (other : Step) (list : List (List ℕ × Value)) → IsClosure u.build (on_settled u events) other list → (m : List ℕ) (value : Value) → Contains list (m, value) → Settled u events m
  inside other list is m value among = (is.each m value among).1.0

  noted_else : (i : ℕ) (other : Step) (list : List (List ℕ × Value)) → (i ≡ number → ⊥) → u.by_digest ≡ true → IsSettled l.board.sched i → step_at u.build.steps i ≡ Some other → (Contains events (Start i) → ⊥) → IsClosure u.build (on_settled u events) other list → IsNotedStep u after.now v.journal other list
  noted_else i other list differ on settled at_i not is = others i other list at_i (other_outs u i number other step apart at_i at differ) not (inside other list is) (looks.migrated on i other list settled at_i not is)

  settled_here : IsFresh u events step ms → IsSettledStep u events number
  settled_here fresh other path makes =
      let same : step ≡ other = one_step u.build.steps number step other at makes.at in
      let (clean, all) = (closure_on_settled u events step ms apart).0 closure in
      settled_fresh number other path ms makes not_started (subst (λ o. IsClosure u.build (Clean u.build) o ms) same clean) all (subst (λ o. IsFresh u events o ms) same fresh)

  noted_here : (other : Step) (list : List (List ℕ × Value)) → step_at u.build.steps number ≡ Some other → IsClosure u.build (on_settled u events) other list → IsNotedStep u after.now v.journal step ms → IsNotedStep u after.now v.journal other list
  noted_here other list at_other is noted =
      let one : step ≡ other = one_step u.build.steps number step other at at_other in
      let same : ms ≡ list = same_members u apart number step other at at_other ms list ((closure_on_settled u events step ms apart).0 closure).0 ((closure_on_settled u events other list apart).0 is).0 in
      subst₂ (λ a b. IsNotedStep u after.now v.journal a b) one same noted

  pub looks_judged : (fresh : Bool) → IsVerdict u events after.now v.journal step ms fresh → IsJudged fresh number numbers l n → AreTrueLooks u events after v n
  looks_judged true (fresh, noted) is = (
      let old : (i : ℕ) → (i ≡ number → ⊥) → state_of n.board.sched i ≡ state_of l.board.sched i = λ i other. state_else l.board.sched n.board.sched number states.Settled is.settles.states i other in
      let now : state_of n.board.sched number ≡ states.Settled = state_now l.board.sched n.board.sched number states.Settled is.settles.states low in
      record {
        settled = λ i settled. elim (cases_eq i number) [ inl same ↦ subst (IsSettledStep u events) (sym same) (settled_here fresh) | inr other ↦ looks.settled i (sym (old i other) ∙ settled) ];
        stale = λ i stale. elim (cases_eq i number) [ inl same ↦ absurd (settled_or_stale (state_of n.board.sched i) (ap (state_of n.board.sched) same ∙ now) stale) | inr other ↦ looks.stale i (sym (old i other) ∙ stale) ];
        ready = λ i those which kept. elim (cases_eq i number) [
          | inl same ↦ (let here = ap (state_of n.board.sched) same ∙ now in absurd (elim which [ inl stale ↦ settled_or_stale (state_of n.board.sched i) here stale | inr runs ↦ settled_or_running (state_of n.board.sched i) here runs ]))
          | inr other ↦ closure_grows u events s.facts v.facts i those grows (looks.ready i those (elim which [ inl stale ↦ inl (sym (old i other) ∙ stale) | inr runs ↦ inr (sym (old i other) ∙ runs) ]) (subst (λ r. get_or r.items i None ≡ Some those) is.ready kept))
        ];
        migrated = λ on i other list settled at_i not closed. elim (cases_eq i number) [
          | inl same ↦ noted_here other list (subst (λ k. step_at u.build.steps k ≡ Some other) same at_i) closed (noted on)
          | inr differ ↦ noted_else i other list differ on (sym (old i differ) ∙ settled) at_i not closed
        ];
      })
  looks_judged false stale is = (
      let states_are = ap (λ (x : Schedule). x.states) is.stale in
      let old : (i : ℕ) → (i ≡ number → ⊥) → state_of n.board.sched i ≡ state_of l.board.sched i = λ i other. state_else l.board.sched n.board.sched number states.Stale states_are i other in
      let now : state_of n.board.sched number ≡ states.Stale = state_now l.board.sched n.board.sched number states.Stale states_are low in
      let own : HasClosure u events t.facts number numbers = record { step = step; at = at; members = ms; closure = closure; named = named } in
      let kept_here : ready_at n number ≡ Some numbers = ap (λ (xs : List (Option StepNumbers)). get_or xs number None) is.ready ∙ get_or-set_same l.ready.items number (Some numbers) None room in
      record {
        settled = λ i settled. elim (cases_eq i number) [ inl same ↦ absurd (settled_or_stale (state_of n.board.sched i) settled (ap (state_of n.board.sched) same ∙ now)) | inr other ↦ looks.settled i (sym (old i other) ∙ settled) ];
        stale = λ i was. elim (cases_eq i number) [ inl same ↦ subst (IsStaleStep u events) (sym same) (record { step = step; at = at; members = ms; closure = closure; stale = stale }) | inr other ↦ looks.stale i (sym (old i other) ∙ was) ];
        ready = λ i those which kept. elim (cases_eq i number) [
          | inl same ↦ (
              let equal : numbers ≡ those = some_is numbers those (sym kept_here ∙ sym (ap (ready_at n) same) ∙ kept) in
              subst (λ k. HasClosure u events v.facts k those) (sym same) (subst (HasClosure u events v.facts number) equal (closure_grows u events t.facts v.facts number numbers next_grows own)))
          | inr other ↦ closure_grows u events s.facts v.facts i those grows (looks.ready i those (elim which [ inl was ↦ inl (sym (old i other) ∙ was) | inr runs ↦ inr (sym (old i other) ∙ runs) ])
              (sym (ap (λ (xs : List (Option StepNumbers)). get_or xs i None) is.ready ∙ get_or-set_other l.ready.items number i (Some numbers) None other) ∙ kept))
        ];
        migrated = λ on i other list settled at_i not closed. elim (cases_eq i number) [
          | inl same ↦ absurd (settled_or_stale (state_of n.board.sched i) settled (ap (state_of n.board.sched) same ∙ now))
          | inr differ ↦ noted_else i other list differ on (sym (old i differ) ∙ settled) at_i not closed
        ];
      })

-- ---- a judgement

module _ (plan : Plan) (number : ℕ) (l : Looks) (s : Sights) (g : Knowledge) (apart : Apart plan.steps plan.roots) (about : IsAbout plan.steps plan.roots s.facts) (is : AreLooks plan number s.facts l) (is_step : IsStep l.board.sched number) (needed : IsNeeded l.board.sched number)
    (unjudged : IsUnjudged l.board.sched number) (over : IsOver l.board.sched s.facts l.board.works.items number) (step : Step) (at : step_at plan.steps number ≡ Some step) (numbers : StepNumbers) (learns : Learns plan.steps plan.roots OfNone s.facts g) (stays : (now : Folder) → StaysTrue plan.steps plan.roots now s.facts g)
    (numbered : AreNumbersBy plan.steps l.ran.items g step (members_of l.board number) numbers) where
  abbrev pub numbered_sights : Sights
  numbered_sights = record s { facts = g }

  module _ (u : Update) (events : List ChildEvent) (first : List LogLine) (reads : List Read) (disk : Disk) (by : IsUpdateBy plan l u) (follows : Follows events l) (under : IsUnderWay u events first reads disk s) (looks : AreTrueLooks u events disk s l) where
    build : IsBuildOf plan.steps plan.roots u.build
    build = record { steps_are = by.steps; roots_are = by.roots; inc = under.update.build.inc; looks = under.update.build.looks }

    sight : IsTrueSight u disk numbered_sights
    sight = sight_grows plan.steps plan.roots u disk s numbered_sights OfNone under.apart build learns (stays disk.now u.build) refl (λ n none log. none) under.sight

    lined : AreLined g s.journal
    lined = lined_as_facts_grow plan.steps plan.roots s.facts g s.journal about learns under.lined

    under_numbered : IsUnderWay u events first reads disk numbered_sights
    under_numbered = under_from u events first reads reads disk disk s numbered_sights s.journal under (is_going u events first reads disk s under) refl refl sight lined
        (blank_learned OfNone events s.facts g learns.only (λ n k file none known made loose. none) under.blank)

    truth : IsTrueInRun u events disk (IsSettled l.board.sched) g
    truth = record { apart = under.apart; sound = under.sound; update = under.update; sources = sight.sources; about = sight.about; facts = sight.facts; so = looks.settled }

    over_now : IsOver l.board.sched g l.board.works.items number
    over_now = later_over plan number s.facts l apart about is unjudged over step numbers g g at learns numbered.files (learns_same plan.steps plan.roots (IsOfStep numbers) g) (includes_same g)

    looks_now : AreLooks plan number g l
    looks_now = later_looks plan number s.facts l apart about is unjudged over step numbers g g at learns numbered.files (learns_same plan.steps plan.roots (IsOfStep numbers) g) (includes_same g)

    on : IsWorkOn u.build.steps l.board.sched g number over_now.work
    on = subst (λ ss. IsWorkOn ss l.board.sched g number over_now.work) (sym by.steps) (looks_now.board.work number over_now.work over_now.begun)

    at_run : step_at u.build.steps number ≡ Some step
    at_run = ap (λ (ss : List Step). step_at ss number) by.steps ∙ at

    same_step : step ≡ on.step
    same_step = some_is step on.step (sym at_run ∙ on.at)

    members_now : members_of l.board number ≡ over_now.work.reach.members
    members_now = ap members_in over_now.begun

    numbers_run : AreNumbersBy u.build.steps l.ran.items g on.step over_now.work.reach.members numbers
    numbers_run = subst (λ o. AreNumbersBy u.build.steps l.ran.items g o over_now.work.reach.members numbers) same_step (subst (λ list. AreNumbersBy u.build.steps l.ran.items g step list numbers) members_now (subst (λ ss. AreNumbersBy ss l.ran.items g step (members_of l.board number) numbers) (sym by.steps) numbered))

    found : IsFound u events disk l.board.sched g truth under.run number over_now.work on over_now.looked over_now.closed numbers numbers_run.files.order
    found = closure_found u events disk l.board.sched g truth under.run number over_now.work on over_now.looked over_now.closed numbers numbers_run.files

    to_judge : IsToJudge u events step numbers found.members g
    to_judge = record {
      number = number;
      at = at_run;
      needed = run_needed plan number u events first reads disk s l is by under looks number needed;
      not_started = follows.not_started number (inl unjudged);
      closure = subst (λ o. IsClosure u.build (on_settled u events) o found.members) (sym same_step) found.closure;
      named = subst (λ o. AreNumbersOf o found.members g numbers) (sym same_step) found.numbered;
      notfile = notfile_told u events disk l.board.sched g truth under.run number over_now.work on over_now.looked over_now.closed numbers numbers_run.files found numbers.notfile numbers_run.notfile;
      done = done_told u events disk l.board.sched g truth under.run number over_now.work on over_now.looked over_now.closed numbers numbers_run.files found l.ran.items follows.ran numbers.done numbers_run.done;
    }

    have_lines : HaveScanLines u events found.members disk.now s.journal
    have_lines = lines_told u events disk l.board.sched g truth under.run number over_now.work on over_now.looked over_now.closed numbers numbers_run.files found s.journal lined

    judges_so : JudgesSo u l.way
    judges_so = record { all = by.all; by_digest = by.by_digest }

  -- work on it stopped
  pub judgement_stopped : (x y : Outside) (v : Sights) (n : Looks) (stop : FilesStop) → JudgeTold l.way step numbers x numbered_sights y v (Err stop) → LookTold {T = Unit {0}} plan x l s y n v (Err stop)
  judgement_stopped x y v n stop told = judged_by x.disk y.disk told (λ before after one u events first reads by distinct follows under looks.
      let p = one u events first reads (found u events first reads before by follows under looks).members (judges_so u events first reads before by follows under looks) distinct (to_judge u events first reads before by follows under looks) (have_lines u events first reads before by follows under looks) (under_numbered u events first reads before by follows under looks) in
      record { more = p.more; adds = p.adds; after = p.after })
    where
      judged_by : {P R : Disk → Disk → Type 0} (o p : Option Disk) → BothTold P o p → ((a b : Disk) → P a b → R a b) → BothTold R o p
      judged_by None None told f = tt
      judged_by None (Some b) told f = absurd told
      judged_by (Some a) None told f = absurd told
      judged_by (Some a) (Some b) told f = f a b told

  -- it was judged
  pub judgement_told : (x y : Outside) (v : Sights) (n : Looks) (fresh : Bool) (o : Unit {0}) → number < length l.ready.items → Grows g v.facts → IsJudged fresh number numbers l n → JudgeTold l.way step numbers x numbered_sights y v (Ok fresh) → LookTold plan x l s y n v (Ok o)
  judgement_told x y v n fresh o room next judged told = judged_by x.disk y.disk told (λ before after one u events first reads by distinct follows under looks.
      let ms = (found u events first reads before by follows under looks).members in
      let to = to_judge u events first reads before by follows under looks in
      let p = one u events first reads ms (judges_so u events first reads before by follows under looks) distinct to (have_lines u events first reads before by follows under looks) (under_numbered u events first reads before by follows under looks) in
      record {
        more = p.more;
        adds = p.adds;
        after = (p.after.1, looks_judged u events under.apart number numbers step ms (at_run u events first reads before by follows under looks) (follows.not_started number (inl unjudged)) to.closure before after s numbered_sights v l n is_step.within room learns.grows next to.named p.after.0.1 looks fresh p.after.0.0 judged);
      })
    where
      judged_by : {P R : Disk → Disk → Type 0} (o p : Option Disk) → BothTold P o p → ((a b : Disk) → P a b → R a b) → BothTold R o p
      judged_by None None told f = tt
      judged_by None (Some b) told f = absurd told
      judged_by (Some a) None told f = absurd told
      judged_by (Some a) (Some b) told f = f a b told
