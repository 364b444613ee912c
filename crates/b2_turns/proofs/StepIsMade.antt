-- What is known of the steps stays so, and stays true, as a step that ended well gets its record.
use Rattle.std.proofs.Common.{◌≡◌, inl, inr, ℕ, zero, suc, ◌<◌, Bool, true, false, List, [], ◌∷◌, ◌++◌, length, get_or, Option, Some, None, Result, Ok, Err, refl, sym, subst, ◌∙◌, append-nil}
use Rattle.std.specs.Prelude.{IfOk, MatchResult}
use Rattle.std.specs.Option.{IfSome}
use Rattle.std.specs.List.{Contains}
use Rattle.std.proofs.lemmas.List.Elements.{Contains-append_left}
use Rattle.b2_host.specs.declared.children.ChildEvent.{ChildEvent}
use Rattle.b2_host.specs.declared.children.ChildEvent.TheVariants.{Start, Done}
use Rattle.b2_host.specs.Disks.{Disk}
use Rattle.b2_host.specs.Outside.{Outside, Read}
use Rattle.b2_host.specs.OutsideLaws.{both_map}
use Rattle.b2_host.specs.ReadsAdded.{adds_none}
use Rattle.b2_plan.specs.declared.step.Step.{Step}
use Rattle.b2_plan.specs.declared.plan.Plan.{Plan}
use Rattle.b2_plan.specs.Plans.{step_at, Apart}
use Rattle.b2_plan.specs.Closures.{Value, IsClosure}
use Rattle.b2_log.specs.declared.line.LogLine.{LogLine}
use Rattle.b2_runs.specs.Staleness.{Update}
use Rattle.b2_runs.specs.Runs.{on_settled}
use Rattle.b2_runs.specs.Soundness.{Distinguishes}
use Rattle.b2_runs.specs.LogCourses.{IsLogAfter.owes_none as after_owes_none}
use Rattle.b2_runs.proofs.NumberHasOneStep.{one_step}
use Rattle.b2_runs.proofs.RunGoesOn.{run_goes_on}
use Rattle.b2_sched.specs.Schedules.{IsRunning}
use Rattle.b2_facts.specs.declared.stop.FilesStop.{FilesStop}
use Rattle.b2_facts.specs.Facts.{Knowledge, IsNumber, IsAbout}
use Rattle.b2_facts.specs.Growth.{Grows, IncludesStay, Learns}
use Rattle.b2_facts.proofs.ListsAtPlaces.{some_is, none_some}
use Rattle.b2_reach.specs.declared.sights.Sights.{Sights}
use Rattle.b2_reach.proofs.GrowthComposes.{both_same}
use Rattle.b2_verdicts.specs.declared.step_numbers.StepNumbers.{StepNumbers}
use Rattle.b2_verdicts.specs.Sights.{AreNumbers}
use Rattle.b2_verdicts.specs.Made.{AreRising}
use Rattle.b2_verdicts.specs.VerdictCalls.{IsOfStep}
use Rattle.b2_verdicts.specs.Cases.{AreNumbersOf}
use Rattle.b2_looks.specs.declared.looks.Looks.{Looks}
use Rattle.b2_looks.specs.Numbers.{AreFilesOf}
use Rattle.b2_looks.specs.Looks.{ready_at, AreLooks}
use Rattle.b2_looks.specs.UnderWay.{IsUnderWay, AreTrueLooks, IsHalted, IsUpdateBy}
use Rattle.b2_looks.specs.Judging.{OthersStayNoted}
use Rattle.b2_looks.proofs.FilesAreNumbered.{number_among, ins_numbers, ins_rise, outs_numbers, outs_some}
use Rattle.b2_looks.proofs.LooksAreKept.{unread_learned, unread_stays, looks_grow}
use Rattle.b2_turns.specs.Ends.{AllStand, OutputsStand, HasEnded, EndGoesOn, MadeTold}
use Rattle.b2_turns.specs.Recording.{IsToRecord, RecordTold}
use Rattle.b2_turns.proofs.RecordIsTold.{Records}
use Rattle.b2_turns.proofs.LooksStayTrue.{looks_stay_true}

-- ---- over every host

-- an entry of a list stays the same, whatever stands for places behind its end
same_place : {X : Type 0} (xs : List (Option X)) (i : ℕ) (d : Option X) (x : X) → get_or xs i None ≡ Some x → get_or xs i d ≡ Some x
same_place [] i d x e = absurd (none_some x e)
same_place (y ∷ xs) zero d x e = e
same_place (y ∷ xs) (suc i) d x e = same_place xs i d x e

-- the files of a step that runs are kept at its place
pub ready_is : (plan : Plan) (f : Knowledge) (l : Looks) (i : ℕ) (kept : Option StepNumbers) (numbers : StepNumbers) → AreLooks plan 0 f l → IsRunning l.board.sched i → kept ≡ get_or l.ready.items i kept → kept ≡ Some numbers → ready_at l i ≡ Some numbers
ready_is plan f l i kept numbers looks runs there is =
    let ready = looks.ready i (inr runs) in
    ready.kept ∙ sym (same_place l.ready.items i kept ready.numbers ready.kept) ∙ sym there ∙ is

-- The files of a step that runs are at hand.
pub record AreAtHand (numbers : StepNumbers) (f : Knowledge) : Type 0 where
  pub outs : AreNumbers f numbers.outs
  pub ins : AreNumbers f numbers.ins
  pub some_out : 0 < length numbers.outs
  pub rising : AreRising f numbers.ins

module _ (plan : Plan) (f : Knowledge) (l : Looks) (i : ℕ) (numbers : StepNumbers) (about : IsAbout plan.steps plan.roots f) (looks : AreLooks plan 0 f l) where
  pub at_hand : Apart plan.steps plan.roots → IsRunning l.board.sched i → ready_at l i ≡ Some numbers → AreAtHand numbers f
  at_hand apart runs kept =
      let ready = looks.ready i (inr runs) in
      let same : ready.numbers ≡ numbers = some_is ready.numbers numbers (sym ready.kept ∙ kept) in
      let files = subst (AreFilesOf plan.steps f ready.step ready.members) same ready.files in
      record {
        outs = outs_numbers plan.steps f ready.step ready.members numbers files about.sizes;
        ins = ins_numbers plan.steps f ready.step ready.members numbers files ready.numbered;
        some_out = outs_some plan.steps f ready.step ready.members numbers files (apart.some_out i ready.step ready.at);
        rising = ins_rise plan.steps f ready.step ready.members numbers files;
      }

  -- they are numbered
  numbered : AreAtHand numbers f → (n : ℕ) → IsOfStep numbers n → IsNumber f n
  numbered hand n (inl out) = number_among f numbers.outs hand.outs n out
  numbered hand n (inr ins) = number_among f numbers.ins hand.ins n ins

  -- what is known of the steps stays so
  pub looks_stay : (g : Knowledge) → AreAtHand numbers f → Learns plan.steps plan.roots (IsOfStep numbers) f g → IncludesStay f g → AreLooks plan 0 g l
  looks_stay g hand learns stay = looks_grow plan 0 f g l about learns.grows (unread_learned (IsOfStep numbers) f g l.board.sched l.board.sched learns.only (λ k settled. settled)
      (λ n k file of known made loose. unread_stays f g l.board.sched n k file learns.grows stay looks.unread (numbered hand n of) known made loose) looks.unread) looks

-- not all outputs of the step stand where not all of its paths do
not_outputs : (steps : List Step) (i : ℕ) (step : Step) (disk : Option Disk) → step_at steps i ≡ Some step → IfSome disk (λ d. AllStand step.outs d → ⊥) → IfSome disk (λ d. OutputsStand steps i d → ⊥)
not_outputs steps i step None at told = tt
not_outputs steps i step (Some d) at not_all = λ stand. not_all (λ path among none. stand step path at among none)

pub missed_made : (steps : List Step) (i : ℕ) (step : Step) (disk : Option Disk) (r : Result Bool FilesStop) → step_at steps i ≡ Some step → IfOk r (λ left. left ≡ false → IfSome disk (λ d. AllStand step.outs d → ⊥)) → IfOk r (λ left. left ≡ false → IfSome disk (λ d. OutputsStand steps i d → ⊥))
missed_made steps i step disk (Ok left) at told = λ off. not_outputs steps i step disk at (told off)
missed_made steps i step disk (Err stop) at told = tt

-- ---- over a host whose files are visible

-- what is told of disks
abbrev IsMadeTold : Plan → Looks → ℕ → Outside → Sights → Outside → Sights → Result Bool FilesStop → Disk → Disk → Type 0
IsMadeTold plan l i old s new t result = λ before after. (u : Update) (events : List ChildEvent) (first : List LogLine) (reads : List Read) → IsUpdateBy plan l u → Distinguishes u after.past
    → HasEnded u events i true first reads before s → AreTrueLooks u (events ++ Done i true ∷ []) before s l
    → EndGoesOn u (events ++ Done i true ∷ []) first reads (λ left. left ≡ true) old new after l t result

module _ (plan : Plan) (l : Looks) (i : ℕ) (step : Step) (numbers : StepNumbers) (at : step_at plan.steps i ≡ Some step) where
  -- the step is to have its record
  to_record : (u : Update) (events : List ChildEvent) (disk : Disk) (s : Sights) → IsUpdateBy plan l u → step.notfile ≡ false → IsRunning l.board.sched i → ready_at l i ≡ Some numbers → AreTrueLooks u events disk s l → (members : List (List ℕ × Value)) × IsToRecord u events i step numbers members s.facts
  to_record u events disk s by owes runs kept is =
      let h = is.ready i numbers (inr runs) kept in
      let here : step_at u.build.steps i ≡ Some step = subst (λ (xs : List Step). step_at xs i ≡ Some step) (sym by.steps) at in
      let same : h.step ≡ step = one_step u.build.steps i h.step step h.at here in
      (h.members, record { at = here; owes = owes; closure = subst (λ z. IsClosure u.build (on_settled u events) z h.members) same h.closure; named = subst (λ z. AreNumbersOf z h.members s.facts numbers) same h.named })

  goes_on : (u : Update) (events : List ChildEvent) (first : List LogLine) (reads : List Read) (before after : Disk) (s v : Sights) (r : Result Bool FilesStop) → Apart u.build.steps u.build.roots → step_at u.build.steps i ≡ Some step → Contains events (Start i) → Grows s.facts v.facts → AreTrueLooks u events before s l
      → MatchResult r (λ left. ((left ≡ true) × OthersStayNoted u events step before.now s.journal after.now v.journal) × IsUnderWay u events first reads after v) (λ stop. IsHalted u events reads after v.facts stop)
      → MatchResult r (λ left. (left ≡ true) × IsUnderWay u events first reads after v × AreTrueLooks u events after v l) (λ stop. IsHalted u events reads after v.facts stop)
  goes_on u events first reads before after s v (Ok left) apart here started grows is ((made, others), w) = (made, w, looks_stay_true u events i step before after s v l apart here started grows others is)
  goes_on u events first reads before after s v (Err stop) apart here started grows is h = h

  -- what is told of the record is told of the step
  pub made_told : (x z : Outside) (s v : Sights) (r : Result Bool FilesStop) → step.notfile ≡ false → IsRunning l.board.sched i → ready_at l i ≡ Some numbers → Grows s.facts v.facts → RecordTold {T = Bool} (λ left. left ≡ true) step numbers x s z v r → MadeTold plan l i x s z v r
  made_told x z s v r owes runs kept grows told = both_map (Records {T = Bool} (λ left. left ≡ true) step numbers x s z v r) (IsMadeTold plan l i x s z v r) x.disk z.disk told (λ before after told_of u events first reads by distinct w is.
      let later = events ++ Done i true ∷ [] in
      let (members, to) = to_record u later before s by owes runs kept is in
      let gone_on = told_of u events i first reads members distinct to w in
      record { more = gone_on.more; adds = gone_on.adds; after = goes_on u later first (reads ++ gone_on.more) before after s v r w.apart to.at (Contains-append_left events (Done i true ∷ []) (Start i) w.may_come.0.0) grows is gone_on.after })

  -- a step that owes no file has no record
  pub owes_told : (x : Outside) (s : Sights) → step.notfile ≡ true → MadeTold plan l i x s x s (Ok true)
  owes_told x s none = both_same (IsMadeTold plan l i x s x s (Ok true)) x.disk x.disk refl (λ disk here u events first reads by distinct w is.
      let here_at : step_at u.build.steps i ≡ Some step = subst (λ (xs : List Step). step_at xs i ≡ Some step) (sym by.steps) at in
      let under : IsUnderWay u (events ++ Done i true ∷ []) first reads disk s = record {
        apart = w.apart;
        update = w.update;
        run = run_goes_on u events (Done i true) w.run w.may_come;
        sound = w.sound;
        begins = w.begins;
        tells = w.tells;
        first_true = w.first_true;
        course = after_owes_none events s.journal i step w.course w.lacks_none here_at none;
        good = w.good;
        file = w.file;
        once = w.once;
        leave = w.leave;
        have = w.have;
        sight = w.sight;
        lined = w.lined;
        blank = w.blank;
        by_digest = w.by_digest;
      } in
      record { more = []; adds = adds_none x.reads x.reads refl; after = (refl, subst (λ n. IsUnderWay u (events ++ Done i true ∷ []) first n disk s) (sym (append-nil reads)) under, is) })
