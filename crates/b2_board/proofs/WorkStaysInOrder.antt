-- The work on a step stays in order as more is known of files, and as the schedule is told more.
use Rattle.std.proofs.Common.{◌≡◌, inl, inr, ℕ, ◌<◌, List, length, Some, None, slice_get, refl, sym, ap, subst, ◌∙◌}
use Rattle.std.specs.List.{Contains}
use Rattle.std.proofs.lemmas.Bool.{cases_eq}
use Rattle.std.proofs.lemmas.Option.{slice_get_within}
use Rattle.b2_plan.specs.declared.step.Step.{Step}
use Rattle.b2_sched.specs.Schedules.{Schedule, IsSettled, Needs, Lacks}
use Rattle.b2_facts.specs.declared.file_facts.FileFacts.{FileFacts}
use Rattle.b2_facts.specs.declared.file_facts.FileLook.TheVariants as seen
use Rattle.b2_facts.specs.Facts.{Knowledge, IsNumber, file_at, with_file}
use Rattle.b2_facts.specs.Growth as facts
use Rattle.b2_facts.proofs.ListsAtPlaces.{some_is, get_some, among_at, at_place, set_here, set_there}
use Rattle.b2_facts.proofs.FactsGrow.{file_same, grows_same}
use Rattle.b2_reach.specs.declared.reach.Reach.{Reach}
use Rattle.b2_reach.specs.Reaches.{IsNumberOf, IsTaken, IsTaken.waits, IsTaken.lacks, IsTaken.done, IsReachOf}
use Rattle.b2_reach.proofs.ReachGrows.{done_grows, reaches_grows}
use Rattle.b2_board.specs.declared.work.Work.{Work}
use Rattle.b2_board.specs.Works.{HasOutputOf, IsToldNeed, IsWorkOn, IsLookedAt, IsClosed}

-- ---- the makers of files

-- each file of which something is known keeps its maker
abbrev pub KeepsMakers : Knowledge → Knowledge → Type 0
KeepsMakers f g = (n : ℕ) (file : FileFacts) → file_at f n ≡ Some file → (later : FileFacts) × (file_at g n ≡ Some later) × (later.maker ≡ file.maker)

pub makers_same : (f : Knowledge) → KeepsMakers f f
makers_same f n file at = (file, at, refl)

pub makers_grow : (f g : Knowledge) → facts.Grows f g → KeepsMakers f g
makers_grow f g grown n file at = let later = grown.files n file at in (later.0, later.1, later.2.maker)

-- a file of which nothing was seen
abbrev blind : FileFacts → FileFacts
blind file = record file { seen = seen.Unasked; digest = None }

pub makers_forgotten : (f : Knowledge) (n : ℕ) (file : FileFacts) → file_at f n ≡ Some file → KeepsMakers f (with_file f n (record file { seen = seen.Unasked; digest = None }))
makers_forgotten f n file known k one at = elim (cases_eq k n) [
  | inl e ↦ (
    blind file,
    subst (λ m. slice_get (with_file f n (blind file)).files m ≡ Some (blind file)) (sym e) (set_here f.files n (blind file) file known),
    ap (λ (x : FileFacts). x.maker) (some_is file one (sym known ∙ ap (file_at f) (sym e) ∙ at)),
  )
  | inr ne ↦ (one, set_there f.files n k (blind file) ne ∙ at, refl)
]

pub maker_was : (f g : Knowledge) → KeepsMakers f g → (n : ℕ) → IsNumber f n → (later : FileFacts) → file_at g n ≡ Some later → (file : FileFacts) × (file_at f n ≡ Some file) × (later.maker ≡ file.maker)
maker_was f g keeps n number later at =
    let was = get_some f.files n number.1 in
    let kept = keeps n was.0 was.1 in
    (was.0, was.1, ap (λ (x : FileFacts). x.maker) (some_is later kept.0 (sym at ∙ kept.1)) ∙ kept.2)

pub output_up : (f g : Knowledge) (members : List ℕ) (k : ℕ) → KeepsMakers f g → HasOutputOf f members k → HasOutputOf g members k
output_up f g members k keeps is =
    let later = keeps is.number is.file is.file_is in
    record { number = is.number; among = is.among; file = later.0; file_is = later.1; made = later.2 ∙ is.made }

pub output_down : (f g : Knowledge) (members : List ℕ) (k : ℕ) → KeepsMakers f g → ((n : ℕ) → Contains members n → IsNumber f n) → HasOutputOf g members k → HasOutputOf f members k
output_down f g members k keeps numbered is =
    let was = maker_was f g keeps is.number (numbered is.number is.among) is.file is.file_is in
    record { number = is.number; among = is.among; file = was.0; file_is = was.1; made = sym was.2 ∙ is.made }

-- ---- more steps settle

module _ (steps : List Step) (settled more : ℕ → Type 0) (f : Knowledge) (so : (k : ℕ) → settled k → more k) where
  taken_up : (r : Reach) (n : ℕ) (file : FileFacts) → IsTaken steps settled f r n file → IsTaken steps more f r n file
  taken_up r n file (waits among) = waits among
  taken_up r n file (lacks told none) = lacks told none
  taken_up r n file (done is) = done (done_grows steps settled more f f r.list r.members r.members n file file so (grows_same f) (λ m among. among) (file_same file) is)

  pub reach_settles : (step : Step) (r : Reach) → IsReachOf steps settled step f r → IsReachOf steps more step f r
  reach_settles step r is = let order = is.in_order in record {
    in_order = record {
      listed = order.listed;
      numbered = order.numbered;
      once = order.once;
      within = order.within;
      taken = λ place n file low at known. taken_up r n file (order.taken place n file low at known);
      pending = order.pending;
      waiting = order.waiting;
      lacks = order.lacks;
    };
    of_step = record {
      dirs = is.of_step.dirs;
      ins = is.of_step.ins;
      each = λ n among. reaches_grows steps settled more f f r.list (IsNumberOf f step.ins) (IsNumberOf f step.ins) so (grows_same f) (λ m at. at) n (is.of_step.each n among);
    };
  }

-- ---- the work

-- the work on a step, as more is known and more steps settle
module _ (steps : List Step) (s t : Schedule) (f g : Knowledge) (i : ℕ) (w : Work) (keeps : KeepsMakers f g) (so : (k : ℕ) → IsSettled s k → IsSettled t k) (needs : (k : ℕ) → Needs s i k → Needs t i k)
    (is : IsWorkOn steps s f i w) where
  told_up : (k : ℕ) → IsToldNeed s w.waiting i k → IsToldNeed t w.waiting i k
  told_up k (inl settled) = inl (so k settled)
  told_up k (inr told) = inr (needs k told.0, told.1)

  numbered : (n : ℕ) → Contains w.reach.members n → IsNumber f n
  numbered = is.reach.in_order.numbered

  pub work_grows : IsReachOf steps (IsSettled t) is.step g w.reach → IsWorkOn steps t g i w
  work_grows reach = record {
    step = is.step;
    at = is.at;
    reach = reach;
    within = is.within;
    told = λ place n k later low at known made.
        let was = maker_was f g keeps n (numbered n (among_at w.reach.members place n at)) later known in
        told_up k (is.told place n k was.0 low at was.1 (sym was.2 ∙ made));
    waiting = λ k among. output_up f g w.reach.members k keeps (is.waiting k among);
  }

  pub looked_grows : ((n number : ℕ) (file : FileFacts) → Contains w.reach.pending n → file_at f n ≡ Some file → file.maker ≡ Some number → IsSettled t number → IsSettled s number) → (Lacks s i → Lacks t i)
      → IsLookedAt s f i w → IsLookedAt t g i w
  looked_grows back lacks_up looked = record {
    as_far = record {
      whole = looked.as_far.whole;
      waiting = λ n number later among known made settled.
          let was = maker_was f g keeps n (numbered n (is.reach.in_order.pending n among)) later known in
          looked.as_far.waiting n number was.0 among was.1 (sym was.2 ∙ made) (back n number was.0 among was.1 (sym was.2 ∙ made) settled);
    };
    told = looked.told;
    lacks = λ lacks. lacks_up (looked.lacks lacks);
  }

  pub closed_grows : IsClosed s f w → IsClosed t g w
  closed_grows closed = record { lacks_nothing = closed.lacks_nothing; settled = λ k output. so k (closed.settled k (output_down f g w.reach.members k keeps numbered output)) }

-- a step of which all that it reads is settled has no pending member
pub none_pending : (steps : List Step) (s : Schedule) (f : Knowledge) (i : ℕ) (w : Work) → IsWorkOn steps s f i w → IsLookedAt s f i w → IsClosed s f w → (n : ℕ) → Contains w.reach.pending n → ⊥
none_pending steps s f i w is looked closed n among =
    let member = is.reach.in_order.pending n among in
    let (file, known) = get_some f.files n (is.reach.in_order.numbered n member).1 in
    let wait = is.reach.in_order.waiting n file among known in
    looked.as_far.waiting n wait.number file among known wait.owed.made (closed.settled wait.number (record { number = n; among = member; file = file; file_is = known; made = wait.owed.made }))

-- the maker of a member was told, where all was told
pub maker_told : (steps : List Step) (s : Schedule) (f : Knowledge) (i : ℕ) (w : Work) → IsWorkOn steps s f i w → w.told ≡ length w.reach.members → (k : ℕ) → HasOutputOf f w.reach.members k → IsToldNeed s w.waiting i k
maker_told steps s f i w is all k output =
    let (place, at) = at_place w.reach.members output.number output.among in
    is.told place output.number k output.file (subst (λ m. place < m) (sym all) (slice_get_within w.reach.members place output.number at)) at output.file_is output.made
