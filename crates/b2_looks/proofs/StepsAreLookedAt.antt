-- What is known of the steps is kept as one is taken and looked at, and holds where none was.
use Rattle.std.proofs.Common.{◌≡◌, ◌⊎◌, inl, inr, ℕ, zero, suc, ◌≤◌, ◌+◌, Bool, false, List, [], ◌∷◌, length, get_or, replicate, Some, Result, Ok, refl, sym, ap, subst, ◌∙◌, arith}
use Rattle.std.proofs.lemmas.Bool.{cases_lt, false≢true}
use Rattle.std.proofs.lemmas.Option.{slice_get_within}
use Rattle.b2_host.specs.Outside.{Outside}
use Rattle.b2_plan.specs.declared.plan.Plan.{Plan}
use Rattle.b2_sched.specs.declared.state.State.{State}
use Rattle.b2_sched.specs.declared.state.State.TheVariants as states
use Rattle.b2_sched.specs.Schedules.{Schedule, state_of, IsUnjudged, IsStale, IsRunning, IsSettled, IsFailed, IsStep, Lacks, running}
use Rattle.b2_sched.specs.SchedulerCalls.{looked_at}
use Rattle.b2_sched.proofs.RestIsSkippedOrStuck.{who_runs}
use Rattle.b2_facts.specs.declared.stop.FilesStop.{FilesStop}
use Rattle.b2_facts.specs.declared.file_facts.FileFacts.{FileFacts}
use Rattle.b2_facts.specs.Facts.{Knowledge, no_facts}
use Rattle.b2_facts.specs.Growth.{Learns}
use Rattle.b2_facts.proofs.FactsGrow.{grows_same}
use Rattle.b2_facts.proofs.ListsAtPlaces.{some_is, none_some}
use Rattle.b2_reach.specs.declared.sights.Sights.{Sights}
use Rattle.b2_reach.specs.Files.{IsAtHand, IsAtHand.source as hand_source, IsAtHand.made as hand_made, IsNumberAtHand}
use Rattle.b2_reach.specs.Sightings.{LearnsMore}
use Rattle.b2_board.specs.declared.board.Board.{Board}
use Rattle.b2_board.specs.Works.{IsWaiting}
use Rattle.b2_board.specs.Boards.{IsBoard, IsSeen, NeedsMore}
use Rattle.b2_board.proofs.BoardHoldsAsStatesChange.{board_waits}
use Rattle.b2_looks.specs.declared.looks.Looks.{Looks}
use Rattle.b2_looks.specs.Looks.{AreLooks, LooksOn, Follows, IsOfUnstarted, LooksAtFiles}
use Rattle.b2_looks.proofs.LooksAreKept.{ready_grows, unread_learned, unjudged_not, settled_not, needed_same}
use Rattle.b2_looks.proofs.FilesAreLookedAt.{looks_learned, looks_map, looks_then, unstarted_grows, unstarted_back, at_hand_unstarted}

-- ---- none was looked at

get_past : {X : Type 0} (xs : List X) (i : ℕ) (d : X) → length xs ≤ i → get_or xs i d ≡ d
get_past [] zero d past = refl
get_past [] (suc i) d past = refl
get_past (x ∷ xs) zero d past = absurd (omega (arith, past))
get_past (x ∷ xs) (suc i) d past = get_past xs i d (omega (arith, past))

no_flag : (n i : ℕ) → get_or (replicate n false) i false ≡ false
no_flag zero zero = refl
no_flag zero (suc i) = refl
no_flag (suc n) zero = refl
no_flag (suc n) (suc i) = no_flag n i

-- each number is that of a step that is not judged, or counts as settled
not_begun : (s : Schedule) → IsSettled s 0 → ((i : ℕ) → IsStep s i → IsUnjudged s i) → (i : ℕ) → IsUnjudged s i ⊎ IsSettled s i
not_begun s request unjudged zero = inr request
not_begun s request unjudged (suc i) = elim (cases_lt (suc i) (length s.states)) [ inl low ↦ inl (unjudged (suc i) (record { some = omega arith; within = low })) | inr past ↦ inr (get_past s.states (suc i) states.Settled (omega (arith, past))) ]

none_begun : (s : Schedule) (i : ℕ) → IsUnjudged s i ⊎ IsSettled s i → (IsStale s i → ⊥) × (IsRunning s i → ⊥) × (IsFailed s i → ⊥)
none_begun s i (inl unjudged) = let no = unjudged_not (state_of s i) unjudged in (no.0, no.1, no.3)
none_begun s i (inr settled) = let no = settled_not (state_of s i) settled in (λ stale. (let h : states.Settled ≡ states.Stale = sym settled ∙ stale in cc), no.0, no.1)

pub looks_new : (plan : Plan) (l : Looks) → IsBoard plan 0 no_facts l.board → ((i : ℕ) → IsStep l.board.sched i → IsUnjudged l.board.sched i) → length l.ready.items ≡ length plan.steps + 1 → length l.ran.items ≡ length plan.steps + 1 → AreLooks plan 0 no_facts l
looks_new plan l board unjudged ready ran = record {
  board = board;
  ready_size = ready;
  ran_size = ran;
  ready = λ i which. (
      let no = none_begun l.board.sched i (not_begun l.board.sched board.request unjudged i) in
      absurd (elim which [ inl stale ↦ no.0 stale | inr runs ↦ no.1 runs ]));
  unread = λ n k file known made loose. absurd (let low = slice_get_within [] n file known in omega (arith, low));
}

pub follows_new : (l : Looks) (size : ℕ) → IsSettled l.board.sched 0 → ((i : ℕ) → IsStep l.board.sched i → IsUnjudged l.board.sched i) → l.ran.items ≡ replicate size false → Follows [] l
follows_new l size request unjudged ran = record {
  started = λ i runs. absurd ((none_begun l.board.sched i (not_begun l.board.sched request unjudged i)).1 runs);
  not_started = λ i which among. (let low = among.1 in omega (arith, low));
  settled = λ i settled among. absurd (let low = among.1 in omega (arith, low));
  failed = λ i. (λ bad. absurd ((none_begun l.board.sched i (not_begun l.board.sched request unjudged i)).2 bad), λ told. absurd (let low = told.1 in omega (arith, low)));
  done_well = λ i told. absurd (let low = told.1 in omega (arith, low));
  ran = λ i. (λ has. absurd (false≢true (sym (no_flag size i) ∙ sym (ap (λ (xs : List Bool). get_or xs i false) ran) ∙ has)), λ told. absurd (let low = told.1.1 in omega (arith, low)));
  count = none_run (running l.board.sched) refl;
}
  where
    none_run : (n : ℕ) → running l.board.sched ≡ n → 0 ≡ 0 + running l.board.sched
    none_run zero e = omega (arith, e)
    none_run (suc n) e = absurd (
        let (i, runs) = who_runs l.board.sched.states (omega (arith, e)) in
        (none_begun l.board.sched i (not_begun l.board.sched request unjudged i)).1 runs)

-- ---- a step is taken to be looked at

module _ (plan : Plan) (number : ℕ) (f : Knowledge) (l : Looks) (b : Board) (sched : b.sched ≡ looked_at l.board.sched number) where
  taken_states : b.sched.states ≡ l.board.sched.states
  taken_states = ap (λ (s : Schedule). s.states) sched

  pub taken_state : (i : ℕ) → state_of b.sched i ≡ state_of l.board.sched i
  taken_state i = ap (λ (xs : List State). get_or xs i states.Settled) taken_states

  pub looks_taken : IsBoard plan number f b → AreLooks plan 0 f l → AreLooks plan number f (record l { board = b })
  looks_taken board is = record {
    board = board;
    ready_size = is.ready_size;
    ran_size = is.ran_size;
    ready = λ i which. ready_grows plan f f l (record l { board = b }) i (grows_same f) (λ k settled. taken_state k ∙ settled) refl (is.ready i (elim which [ inl stale ↦ inl (sym (taken_state i) ∙ stale) | inr runs ↦ inr (sym (taken_state i) ∙ runs) ]));
    unread = λ n k file known made loose. is.unread n k file known made (λ settled. loose (taken_state k ∙ settled));
  }

  pub on_taken : LooksOn l (record l { board = b })
  on_taken = record { jobs = ap (λ (s : Schedule). s.jobs) sched; size = ap length taken_states; states = λ i. inl (taken_state i); needed = needed_same l.board.sched b.sched (ap (λ (s : Schedule). s.dependents) sched); ran = refl }

-- ---- it is looked at

module _ (plan : Plan) (number : ℕ) (f g : Knowledge) (l : Looks) (b : Board) (more : NeedsMore l.board.sched b.sched) where
  pub looked_state : (i : ℕ) → state_of b.sched i ≡ state_of l.board.sched i
  looked_state i = ap (λ (xs : List State). get_or xs i states.Settled) more.states

  hand_settled : (file : FileFacts) (k : ℕ) → file.maker ≡ Some k → IsAtHand plan.steps (IsSettled l.board.sched) file → IsSettled l.board.sched k
  hand_settled file k made (hand_source stamp unmade rooted stands) = absurd (none_some k (sym unmade ∙ made))
  hand_settled file k made (hand_made number owed settled) = subst (IsSettled l.board.sched) (some_is number k (sym owed.made ∙ made)) settled

  pub looks_looked : IsBoard plan number g b → Learns plan.steps plan.roots (IsNumberAtHand plan.steps (IsSettled l.board.sched) g) f g → AreLooks plan number f l → AreLooks plan number g (record l { board = b })
  looks_looked board learns is = record {
    board = board;
    ready_size = is.ready_size;
    ran_size = is.ran_size;
    ready = λ i which. ready_grows plan f g l (record l { board = b }) i learns.grows (λ k settled. looked_state k ∙ settled) refl (is.ready i (elim which [ inl stale ↦ inl (sym (looked_state i) ∙ stale) | inr runs ↦ inr (sym (looked_state i) ∙ runs) ]));
    unread = unread_learned (IsNumberAtHand plan.steps (IsSettled l.board.sched) g) f g l.board.sched b.sched learns.only (λ k settled. looked_state k ∙ settled)
        (λ n k file at known made loose. absurd (
        let same : at.file ≡ file = some_is at.file file (sym at.file_is ∙ known) in
        loose (looked_state k ∙ hand_settled at.file k (ap (λ (x : FileFacts). x.maker) same ∙ made) at.hand))) is.unread;
  }

-- a step that lacks something, or waits, is done with for now
pub looks_waited : (plan : Plan) (number : ℕ) (f : Knowledge) (l : Looks) → IsSeen l.board.sched f l.board.works.items number → Lacks l.board.sched number ⊎ IsWaiting l.board.sched number → AreLooks plan number f l → AreLooks plan 0 f l
looks_waited plan number f l seen waits is = record { board = board_waits plan.steps plan.wanted number f l.board.sched l.board.works.items seen waits is.board; ready_size = is.ready_size; ran_size = is.ran_size; ready = is.ready; unread = is.unread }

-- ---- what is learned

pub look_learns : {T : Type 0} {notes : Bool} (plan : Plan) (l : Looks) (members : List ℕ) (s t : Sights) (x y : Outside) (r : Result T FilesStop) → LearnsMore notes plan.steps plan.roots (IsSettled l.board.sched) members s x t y r → LooksAtFiles plan.steps plan.roots (IsOfUnstarted l.board.sched t.facts) s x t y r
look_learns plan l members s t x y r a = looks_map plan.steps plan.roots (IsNumberAtHand plan.steps (IsSettled l.board.sched) t.facts) (IsOfUnstarted l.board.sched t.facts) s t x y r (λ n is. at_hand_unstarted plan.steps l.board.sched t.facts n is) (looks_learned plan.steps plan.roots (IsSettled l.board.sched) members s t x y r a)

-- one look, and then another
pub look_then : {T S : Type 0} (plan : Plan) (l m : Looks) (s t w : Sights) (x y z : Outside) (v : T) (r : Result S FilesStop) → LooksOn l m → LooksAtFiles plan.steps plan.roots (IsOfUnstarted l.board.sched t.facts) s x t y (Ok v) → LooksAtFiles plan.steps plan.roots (IsOfUnstarted m.board.sched w.facts) t y w z r
    → LooksAtFiles plan.steps plan.roots (IsOfUnstarted l.board.sched w.facts) s x w z r
look_then plan l m s t w x y z v r on a b = looks_then plan.steps plan.roots (IsOfUnstarted l.board.sched w.facts) s t w x y z v r
    (looks_map plan.steps plan.roots (IsOfUnstarted l.board.sched t.facts) (IsOfUnstarted l.board.sched w.facts) s t x y (Ok v) (λ n is. unstarted_grows l.board.sched t.facts w.facts n b.learns.grows is) a)
    (looks_map plan.steps plan.roots (IsOfUnstarted m.board.sched w.facts) (IsOfUnstarted l.board.sched w.facts) t w y z r (λ n is. unstarted_back l m w.facts n on is) b)
