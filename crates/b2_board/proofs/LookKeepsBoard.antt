-- The board is kept as the work on a step begins, and as it goes on.
use Rattle.std.proofs.Common.{◌≡◌, inl, inr, ℕ, ◌≤◌, ◌<◌, Bool, true, false, cond, List, [], length, get_or, set, Option, Some, None, Result, Ok, Err, IfOk, OnOk, refl, sym, ap, subst, ◌∙◌, arith}
use Rattle.std.specs.List.{Contains}
use Rattle.std.proofs.lemmas.List.{get_or-set_same, get_or_default}
use Rattle.std.proofs.lemmas.Option.{slice_get_within}
use Rattle.b2_host.specs.Disks.{Folder}
use Rattle.b2_host.specs.Outside.{Outside}
use Rattle.b2_plan.specs.declared.step.Step.{Step}
use Rattle.b2_plan.specs.declared.plan.Plan.{Plan}
use Rattle.b2_plan.specs.Plans.{step_at}
use Rattle.b2_runs.proofs.FirstElementOrLater.{Contains_nil}
use Rattle.b2_runs.proofs.NumberHasOneStep.{one_step}
use Rattle.b2_sched.specs.Schedules.{Schedule, IsStep, IsNeeded, IsUnjudged, IsSettled}
use Rattle.b2_sched.specs.SchedulerCalls.{with_lack}
use Rattle.b2_facts.specs.declared.stop.FilesStop.{FilesStop}
use Rattle.b2_facts.specs.declared.file_facts.FileFacts.{FileFacts}
use Rattle.b2_facts.specs.declared.file_facts.FileLook.TheVariants as seen
use Rattle.b2_facts.specs.Facts.{Knowledge, IsAbout}
use Rattle.b2_facts.specs.Growth.{Learns, OfNone}
use Rattle.b2_facts.specs.Growth as facts
use Rattle.b2_facts.specs.Truth.{StaysTrue}
use Rattle.b2_facts.specs.Asks.{IsGivenBy, IsGivenBy.made as given_made, IsGivenBy.source as given_source, IsNotGivenBy}
use Rattle.b2_facts.proofs.ListsAtPlaces.{some_is, none_some, at_place}
use Rattle.b2_facts.proofs.FactsGrow.{grows_same, told_all}
use Rattle.b2_reach.specs.declared.reach.Reach.{Reach}
use Rattle.b2_reach.specs.declared.sights.Sights.{Sights}
use Rattle.b2_reach.specs.Files.{IsAtHand, IsAtHand.source as hand_source, IsAtHand.made as hand_made}
use Rattle.b2_reach.specs.Reaches.{IsDone.plain, IsDone.no_file, IsDone.gone, IsDone.found, IsToWait, IsTaken, IsTaken.waits, IsTaken.lacks, IsTaken.done, IsReachOf}
use Rattle.b2_reach.specs.Sightings.{LearnsMore}
use Rattle.b2_reach.proofs.ReachGrows.{opened_stays}
use Rattle.b2_reach.proofs.GrowthComposes.{grows_marks}
use Rattle.b2_reach.proofs.ScansAreNoted.{look_same}
use Rattle.b2_board.specs.declared.board.Board.{Board}
use Rattle.b2_board.specs.declared.work.Work.{Work}
use Rattle.b2_board.specs.Needs.{IsEven, looks_left}
use Rattle.b2_board.specs.Works.{HasOutputOf, IsWorkOn, IsLookedAt, LooksOnce, IsClosedTold}
use Rattle.b2_board.specs.Boards.{work_at, HasFound, HasLack, IsBoardOf, IsBoard, IsLookOf, NeedsMore}
use Rattle.b2_board.proofs.MakersAreTold.{output_wider}
use Rattle.b2_board.proofs.BoardHoldsAsFactsGrow.{board_grows}
use Rattle.b2_board.proofs.BoardHoldsAsNeedsGrow.{TellsOf, tells_nothing, look_tells, board_told, told_needed}

-- ---- the work begins

pub lists_even : (plan : Plan) (but : ℕ) (f : Knowledge) (b : Board) → IsBoard plan but f b → IsEven b.sched
lists_even plan but f b is = record { dependents = is.dependents_size ∙ sym is.size; lacking = is.lacking_size ∙ sym is.size; looks = is.looks_size ∙ sym is.size }

pub number_within : (plan : Plan) (but : ℕ) (f : Knowledge) (b : Board) → IsBoard plan but f b → (n : ℕ) → IsStep b.sched n → n < length b.works.items
number_within plan but f b is n step = let a = step.within in let b2 = is.size in let e = is.works_size in omega (arith, a, b2, e)

-- the work that stands at a place
pub begun_at : (plan : Plan) (number : ℕ) (f : Knowledge) (b : Board) → IsBoard plan number f b → IsStep b.sched number → (slot : Option Work) (work : Work) → slot ≡ get_or b.works.items number slot → slot ≡ Some work → work_at b.works.items number ≡ Some work
begun_at plan number f b is step slot work stands some = get_or_default b.works.items number None slot (number_within plan number f b is number step) ∙ sym stands ∙ some

pub here_at : (plan : Plan) (number : ℕ) (f : Knowledge) (b : Board) → IsBoard plan number f b → IsStep b.sched number → (v : Work) → work_at (set b.works.items number (Some v)) number ≡ Some v
here_at plan number f b is step v = get_or-set_same b.works.items number (Some v) None (number_within plan number f b is number step)

-- the work on a step knows what it reads
pub work_reach : (plan : Plan) (but number : ℕ) (f : Knowledge) (b : Board) (s : Schedule) → b.sched ≡ s → IsBoard plan but f b → (work : Work) (step : Step) → work_at b.works.items number ≡ Some work → step_at plan.steps number ≡ Some step → IsReachOf plan.steps (IsSettled s) step f work.reach
work_reach plan but number f b s same is work step begun at =
    let on = is.work number work begun in
    subst (λ x. IsReachOf plan.steps (IsSettled x) step f work.reach) same (subst (λ x. IsReachOf plan.steps (IsSettled b.sched) x f work.reach) (one_step plan.steps number on.step step on.at at) on.reach)

work_begins : (plan : Plan) (number : ℕ) (g : Knowledge) (s : Schedule) (v : Work) (step : Step) → IsAbout plan.steps plan.roots g → step_at plan.steps number ≡ Some step → IsReachOf plan.steps OfNone step g v.reach → v.told ≡ 0 → v.waiting ≡ [] → IsWorkOn plan.steps s g number v
work_begins plan number g s v step about at reach none none_waits = record {
  step = step;
  at = at;
  reach = opened_stays plan.steps plan.roots s step g g v.reach about (grows_same g) reach;
  within = omega (arith, none);
  told = λ place n k file low found known made. absurd (omega (arith, none, low));
  waiting = λ k among. absurd (Contains_nil k (subst (λ (l : List ℕ). Contains l k) none_waits among));
}

pub board_begins : (plan : Plan) (number : ℕ) (f g : Knowledge) (b : Board) (v : Work) (step : Step) → IsAbout plan.steps plan.roots f → IsAbout plan.steps plan.roots g → facts.Grows f g → IsBoard plan number f b → IsStep b.sched number → work_at b.works.items number ≡ None
    → step_at plan.steps number ≡ Some step → IsReachOf plan.steps OfNone step g v.reach → v.told ≡ 0 → v.waiting ≡ [] → IsBoardOf plan.steps plan.wanted number g b.sched (set b.works.items number (Some v))
board_begins plan number f g b v step about now_about grown is numbered none at reach none_told none_waits =
    let moved = board_grows plan number f g b about grown is in
    board_told plan.steps plan.wanted number g b.sched b.sched b.works.items v moved numbered
    (λ judged. let over = (moved.judged number numbered judged).1 in none_some over.work (sym none ∙ over.begun))
    (tells_nothing number g v b.sched) (work_begins plan number g b.sched v step now_about at reach none_told none_waits)
    (λ k found. absurd (none_some found.work (sym none ∙ found.begun))) (λ lack. absurd (none_some lack.work (sym none ∙ lack.begun)))

pub begin_grows : {T : Type 0} {notes : Bool} (steps : List Step) (roots : List (List ℕ)) (settled : ℕ → Type 0) (members : List ℕ) (s t : Sights) (x : Outside) (v : T) → t ≡ record s { facts = t.facts; marks = t.marks } → Learns steps roots OfNone s.facts t.facts
    → ((now : Folder) → StaysTrue steps roots now s.facts t.facts) → LearnsMore notes steps roots settled members s x t x (Ok v)
begin_grows {T} {notes} steps roots settled members s t x v same learns told = subst (λ (z : Sights). LearnsMore {T = T} notes steps roots settled members s x z x (Ok v)) (sym same)
    (grows_marks {T = T} steps roots settled members s (record s { facts = t.facts }) x x (Ok v) t.marks
    (look_same steps roots settled s t.facts learns x (told_all x.disk (λ d. StaysTrue steps roots d.now s.facts t.facts) (λ d. told d.now)) {T = T} members x v refl))

-- ---- what lacks, lacks still

given_not : (file : FileFacts) → IsGivenBy file → IsNotGivenBy file → ⊥
given_not file (given_made number made) none = none_some number (sym none.unmade ∙ made)
given_not file (given_source stamp outside stands) none = elim none.no_source [
  | inl rooted ↦ (let e : false ≡ true = sym outside ∙ rooted in cc)
  | inr away ↦ (let e : seen.Stands stamp ≡ seen.Gone = sym stands ∙ away in cc)
]

hand_not : (steps : List Step) (settled : ℕ → Type 0) (file : FileFacts) → IsAtHand steps settled file → IsNotGivenBy file → ⊥
hand_not steps settled file (hand_source stamp unmade outside stands) none = given_not file (given_source stamp outside stands) none
hand_not steps settled file (hand_made number owed so) none = given_not file (given_made number owed.made) none

lack_taken : (steps : List Step) (settled : ℕ → Type 0) (f : Knowledge) (r : Reach) (n : ℕ) (file : FileFacts) → (Contains r.pending n → IsToWait steps file) → IsTaken steps settled f r n file → IsNotGivenBy file → r.lacks ≡ true
lack_taken steps settled f r n file wait (waits among) none = let w = wait among in absurd (given_not file (given_made w.number w.owed.made) none)
lack_taken steps settled f r n file wait (lacks told not_given) none = told
lack_taken steps settled f r n file wait (done (plain given unscanned)) none = absurd (given_not file given none)
lack_taken steps settled f r n file wait (done (no_file owed)) none = absurd (given_not file (given_made owed.number owed.made) none)
lack_taken steps settled f r n file wait (done (gone hand away)) none = absurd (hand_not steps settled file hand none)
lack_taken steps settled f r n file wait (done (found targets hand at within)) none = absurd (hand_not steps settled file hand none)

lack_stays : (steps : List Step) (settled more : ℕ → Type 0) (one other : Step) (f : Knowledge) (r q : Reach) → IsReachOf steps settled one f r → IsReachOf steps more other f q → q.done ≡ length q.members → ((n : ℕ) → Contains r.members n → Contains q.members n) → r.lacks ≡ true → q.lacks ≡ true
lack_stays steps settled more one other f r q before after whole keeps told =
    let (n, missing) = before.in_order.lacks told in
    let (place, at) = at_place q.members n (keeps n missing.among) in
    let low : place < q.done = subst (λ k. place < k) (sym whole) (slice_get_within q.members place n at) in
    lack_taken steps more f q n missing.file (λ among. after.in_order.waiting n missing.file among missing.file_is) (after.in_order.taken place n missing.file low at missing.file_is) missing.missing

-- ---- the work goes on

module _ (plan : Plan) (number : ℕ) (f g : Knowledge) (b : Board) (t : Schedule) (w v : Work) (about : IsAbout plan.steps plan.roots f) (grown : facts.Grows f g) (is : IsBoard plan number f b) (numbered : IsStep b.sched number) (needed : IsNeeded b.sched number)
    (unjudged : IsUnjudged b.sched number) (begun : work_at b.works.items number ≡ Some w) (keeps : (n : ℕ) → Contains w.reach.members n → Contains v.reach.members n) (looks : LooksOnce plan.steps g number b.sched t v) where
  moved : IsBoard plan number g b
  moved = board_grows plan number f g b about grown is

  tells : TellsOf number g v b.sched t
  tells = look_tells plan.steps number g v b.sched t needed (let a = numbered.within in let c = is.size in let e = is.lacking_size in omega (arith, a, c, e)) looks

  more : (k : ℕ) → HasFound g b.works.items number k → HasOutputOf g v.reach.members k
  more k h = output_wider g w.reach.members v.reach.members k keeps (subst (λ (x : Work). HasOutputOf g x.reach.members k) (some_is h.work w (sym h.begun ∙ begun)) h.reads)

  still : HasLack b.works.items number → v.reach.lacks ≡ true
  still h =
      let on = moved.work number w begun in
      lack_stays plan.steps (IsSettled b.sched) (IsSettled t) on.step looks.work.step g w.reach v.reach on.reach looks.work.reach looks.looked.as_far.whole keeps (ap (λ (x : Work). x.reach.lacks) (some_is w h.work (sym begun ∙ h.begun)) ∙ h.lacks)

  pub board_goes_on : IsBoardOf plan.steps plan.wanted number g t (set b.works.items number (Some v))
  board_goes_on = board_told plan.steps plan.wanted number g b.sched t b.works.items v moved numbered (λ judged. judged unjudged) tells looks.work more still

  pub goes_more : NeedsMore b.sched t
  goes_more = record {
    jobs = ap (λ (x : Schedule). x.jobs) looks.lacks ∙ same_jobs v.reach.lacks ∙ looks.tells.jobs;
    states = tells.states;
    needed = told_needed plan.steps plan.wanted number g b.sched t b.works.items v moved numbered (λ judged. judged unjudged) tells looks.work more still;
  }
    where
      same_jobs : (lacks : Bool) → (cond lacks (with_lack looks.between number) looks.between).jobs ≡ looks.between.jobs
      same_jobs true = refl
      same_jobs false = refl

  pub goes_left : looks_left t ≤ looks_left b.sched
  goes_left = subst (λ (x : Schedule). looks_left x ≤ looks_left b.sched) (sym looks.lacks) (left v.reach.lacks)
    where
      left : (lacks : Bool) → looks_left (cond lacks (with_lack looks.between number) looks.between) ≤ looks_left b.sched
      left true = looks.tells.left
      left false = looks.tells.left

pub look_of : (closed : Bool) (g : Knowledge) (b : Board) (number : ℕ) (v : Work) → work_at b.works.items number ≡ Some v → IsLookedAt b.sched g number v → IsClosedTold closed b.sched g number v → IsLookOf closed g b number
look_of true g b number v begun looked told = record { work = v; begun = begun; looked = looked; closed = told }
look_of false g b number v begun looked told = (record { work = v; begun = begun; looked = looked }, told)

-- ---- by the result

pub on_ok : {T E : Type 0} (P Q : Type 0) (r : Result T E) → OnOk r P → (P → Q) → OnOk r Q
on_ok P Q (Ok x) p more = more p
on_ok P Q (Err e) p more = tt

pub look_told : (steps : List Step) (r : Result Bool FilesStop) (g : Knowledge) (s : Schedule) (b : Board) (number : ℕ) (v : Work) → OnOk r (LooksOnce steps g number s b.sched v) → IfOk r (λ closed. IsClosedTold closed b.sched g number v) → work_at b.works.items number ≡ Some v → IfOk r (λ closed. IsLookOf closed g b number)
look_told steps (Ok closed) g s b number v looks told begun = look_of closed g b number v begun looks.looked told
look_told steps (Err stop) g s b number v looks told begun = tt
