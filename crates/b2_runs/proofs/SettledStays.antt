use Rattle.std.proofs.Common.{◌≡◌, ℕ, Bool, true, List, [], ◌∷◌, ◌++◌, inl, inr, sym, subst, subst₂, Some}
use Rattle.std.specs.List.{Contains}
use Rattle.std.proofs.lemmas.List.Elements.{Contains-append_left}
use Rattle.b2_host.specs.declared.children.ChildEvent.{ChildEvent}
use Rattle.b2_host.specs.declared.children.ChildEvent.TheVariants.{Start, Done}
use Rattle.b2_plan.specs.declared.step.Step.{Step}
use Rattle.b2_plan.specs.Plans.{Makes, Apart, step_at}
use Rattle.b2_plan.specs.Closures.{Value, IsClosure}
use Rattle.b2_plan.specs.Cleans.{Clean}
use Rattle.b2_runs.specs.Staleness.{Update, NoneDone, Agrees, Agrees.by_stamps, Agrees.by_digests, IsFresh}
use Rattle.b2_runs.specs.Events.{IsOpen}
use Rattle.b2_runs.specs.Runs.{Settled, Settled.source, Settled.done_well, Settled.fresh, on_settled, Needed, Needed.wanted, Needed.member, MayCome}
use Rattle.b2_runs.specs.RunLaws.{SettledAfterStart, SettledAfterEnd, NeededGrows, NeededThroughEnd, ClosureOnSettled, VerdictStays, ClosureOnSettledStays}
use Rattle.b2_runs.proofs.NumberHasOneStep.{one_step}
use Rattle.b2_runs.proofs.ClosureStays.{known_grows, closure_stays, close_back}
use Rattle.b2_runs.proofs.ClosureIsOne.{closure_is_one}
use Rattle.b2_runs.proofs.MakerIsOne.{source_not_made}
use Rattle.b2_runs.proofs.CleanIsOne.{clean_is_one}
use Rattle.b2_runs.proofs.OneEventMore.{done_in_start, start_in_start, start_in_done, done_in_done}

-- a closure by what is settled is one by the clean build, all of it settled
pub closure_on_settled : ClosureOnSettled
closure_on_settled u events step members apart = (
  λ closure. (closure_stays (on_settled u events) (Clean u.build) u.build step members (λ p x s. s.1) (clean_is_one u.build apart) closure, λ p x c. (closure.each p x c).1.0),
  λ closure all. close_back u.build (on_settled u events) (Clean u.build) step members (λ p x s. s.1) (clean_is_one u.build apart) closure (λ p x c. (all p x c, (closure.each p x c).1)),
)

-- two closures of one step by the clean build are the same
pub same_members : (u : Update) → Apart u.build.steps u.build.roots → (i : ℕ) (step other : Step) → step_at u.build.steps i ≡ Some step → step_at u.build.steps i ≡ Some other → (members others : List (List ℕ × Value))
    → IsClosure u.build (Clean u.build) step members → IsClosure u.build (Clean u.build) other others → members ≡ others
same_members u apart i step other at at_other members others closure close_other =
    closure_is_one (Clean u.build) u.build step members others (clean_is_one u.build apart) closure
    (subst (λ s. IsClosure u.build (Clean u.build) s others) (sym (one_step u.build.steps i step other at at_other)) close_other)

-- an output of a step that runs is not settled
pub open_not_settled : (u : Update) (events : List ChildEvent) → Apart u.build.steps u.build.roots → (i : ℕ) → IsOpen events i → (step : Step) (path : List ℕ) → Makes u.build.steps i step path → Settled u events path → ⊥
open_not_settled u events apart i opened step path makes (source p bytes s) = source_not_made u.build apart p bytes s i step makes
open_not_settled u events apart i opened step path makes (done_well k s p makes_k done) =
    opened.1 true (subst (λ j. Contains events (Done j true)) (apart.one_maker k i s step p makes_k makes) done)
open_not_settled u events apart i opened step path makes (fresh k s p members makes_k not_started closure inside f) =
    not_started (subst (λ j. Contains events (Start j)) (apart.one_maker i k step s p makes makes_k) opened.0)

-- a step that is fresh is so after other events, where none more makes a member
pub fresh_events : (u : Update) (events more : List ChildEvent) (step : Step) (members : List (List ℕ × Value)) → (NoneDone u events members → NoneDone u more members) → IsFresh u events step members → IsFresh u more step members
fresh_events u events more step members moves f = record {
  not_all = f.not_all;
  not_always = f.not_always;
  not_notfile = f.not_notfile;
  stand = f.stand;
  none_older = f.none_older;
  none_notfile = f.none_notfile;
  none_done = λ off. moves (f.none_done off);
  recorded = record { last = f.recorded.last; found = f.recorded.found; agrees = go f.recorded.agrees };
}
  where
    go : Agrees u events step members f.recorded.last → Agrees u more step members f.recorded.last
    go (by_stamps a) = by_stamps (record { text = a.text; outs = a.outs; ins = a.ins; none_done = moves a.none_done })
    go (by_digests on a) = by_digests on a

-- a start makes no member
none_done_start : (u : Update) (events : List ChildEvent) (i : ℕ) (members : List (List ℕ × Value)) → NoneDone u events members → NoneDone u (events ++ Start i ∷ []) members
none_done_start u events i members none m x k s well c makes d = none m x k s well c makes (done_in_start events i k well d)

-- nor does an end, where all members are settled
none_done_end : (u : Update) (events : List ChildEvent) → Apart u.build.steps u.build.roots → (i : ℕ) (well : Bool) (members : List (List ℕ × Value)) → IsOpen events i → ((member : List ℕ) (value : Value) → Contains members (member, value) → Settled u events member)
    → NoneDone u events members → NoneDone u (events ++ Done i well ∷ []) members
none_done_end u events apart i well members opened inside none m x j t w c makes d = elim (done_in_done events i j well w d) [
  | inl old ↦ none m x j t w c makes old
  | inr new ↦ open_not_settled u events apart i opened t m (subst (λ n. Makes u.build.steps n t m) (sym new.0) makes) (inside m x c)
]

-- where none was done after more events, none was before
none_done_less : (u : Update) (events : List ChildEvent) (event : ChildEvent) (members : List (List ℕ × Value)) → NoneDone u (events ++ event ∷ []) members → NoneDone u events members
none_done_less u events event members none m x k s well c makes d = none m x k s well c makes (Contains-append_left events (event ∷ []) (Done k well) d)

-- what is settled stays so as a step starts
pub settled_after_start : SettledAfterStart
settled_after_start u events i path apart can (source p bytes s) = source p bytes s
settled_after_start u events i path apart can (done_well k s p makes done) = done_well k s p makes (Contains-append_left events (Start i ∷ []) (Done k true) done)
settled_after_start u events i path apart can (fresh k s p members makes not_started closure inside f) =
    fresh k s p members makes
    (λ c. elim (start_in_start events i k c) [ inl d ↦ not_started d | inr e ↦ other e ])
    closure (λ m x c. settled_after_start u events i m apart can (inside m x c)) (fresh_events u events (events ++ Start i ∷ []) s members (none_done_start u events i members) f)
  where
    other : i ≡ k → ⊥
    other e =
        let at : step_at u.build.steps k ≡ Some can.step = subst (λ n. step_at u.build.steps n ≡ Some can.step) e can.at in
        let same : can.step ≡ s = one_step u.build.steps k can.step s at makes.at in
        let one : can.members ≡ members = same_members u apart k can.step s at makes.at can.members members ((closure_on_settled u events can.step can.members apart).0 can.closure).0 closure in
        can.stale (subst₂ (λ t ms. IsFresh u events t ms) (sym same) (sym one) f)

-- and as a step ends
pub settled_after_end : SettledAfterEnd
settled_after_end u events i well path apart opened (source p bytes s) = source p bytes s
settled_after_end u events i well path apart opened (done_well k s p makes done) = done_well k s p makes (Contains-append_left events (Done i well ∷ []) (Done k true) done)
settled_after_end u events i well path apart opened (fresh k s p members makes not_started closure inside f) =
    fresh k s p members makes (λ c. not_started (start_in_done events i k well c)) closure (λ m x c. settled_after_end u events i well m apart opened (inside m x c))
    (fresh_events u events (events ++ Done i well ∷ []) s members (none_done_end u events apart i well members opened inside) f)

-- and by each event of a run
pub settled_grows : (u : Update) (events : List ChildEvent) → Apart u.build.steps u.build.roots → (event : ChildEvent) → MayCome u events event → (path : List ℕ) → Settled u events path → Settled u (events ++ event ∷ []) path
settled_grows u events apart (Start i) may path s = settled_after_start u events i path apart may.0 s
settled_grows u events apart (Done i well) may path s = settled_after_end u events i well path apart may.0 s

-- so are needed steps, where more is settled
pub needed_up : (u : Update) (events more : List ChildEvent) → ((path : List ℕ) → Settled u events path → Settled u more path) → (i : ℕ) → Needed u events i → Needed u more i
needed_up u events more grows i (wanted k step path c makes) = wanted k step path c makes
needed_up u events more grows i (member k step j other path needed at known makes) =
    member k step j other path (needed_up u events more grows j needed) at (known_grows (on_settled u events) (on_settled u more) u.build other path (λ p x s. (grows p s.0, s.1)) known) makes

pub needed_grows : NeededGrows
needed_grows u events event i apart may needed = needed_up u events (events ++ event ∷ []) (settled_grows u events apart event may) i needed

pub needed_through_end : NeededThroughEnd
needed_through_end u events i well k apart opened needed = needed_up u events (events ++ Done i well ∷ []) (λ path s. settled_after_end u events i well path apart opened s) k needed

-- the verdict on a step stays
pub verdict_stays : VerdictStays
verdict_stays u events (Start i) step members apart may inside = (
  fresh_events u events (events ++ Start i ∷ []) step members (none_done_start u events i members),
  fresh_events u (events ++ Start i ∷ []) events step members (none_done_less u events (Start i) members),
)
verdict_stays u events (Done i well) step members apart may inside = (
  fresh_events u events (events ++ Done i well ∷ []) step members (none_done_end u events apart i well members may.0 inside),
  fresh_events u (events ++ Done i well ∷ []) events step members (none_done_less u events (Done i well) members),
)

-- and so does its closure
pub closure_on_settled_stays : ClosureOnSettledStays
closure_on_settled_stays u events event step members apart may closure =
    closure_stays (on_settled u events) (on_settled u (events ++ event ∷ [])) u.build step members (λ p x s. (settled_grows u events apart event may p s.0, s.1)) (λ p x y s t. clean_is_one u.build apart p x y s.1 t.1) closure
