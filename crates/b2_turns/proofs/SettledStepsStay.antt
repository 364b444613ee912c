-- What steps that are to start and children that run read is made by settled steps.
use Rattle.std.proofs.Common.{◌≡◌, inl, inr, ℕ, ◌<◌, true, false, List, [], ◌∷◌, length, get_or, Some, refl, sym, ap, subst, ◌∙◌}
use Rattle.std.specs.List.{Contains, AllZip}
use Rattle.std.proofs.lemmas.Bool.{cases_lt}
use Rattle.std.proofs.lemmas.List.{get_or_past}
use Rattle.b2_runs.proofs.FirstElementOrLater.{Contains_here, Contains_there, Contains_cases, Contains_nil}
use Rattle.b2_sched.specs.declared.state.State.{State}
use Rattle.b2_sched.specs.declared.state.State.TheVariants as states
use Rattle.b2_sched.specs.Schedules.{Schedule, state_of, IsSettled}
use Rattle.b2_facts.specs.Facts.{Knowledge, path_at}
use Rattle.b2_facts.proofs.ListsAtPlaces.{some_is, get_some}
use Rattle.b2_verdicts.specs.declared.step_numbers.StepNumbers.{StepNumbers}
use Rattle.b2_looks.proofs.FilesAreNumbered.{ins_inside}
use Rattle.b2_looks.proofs.FilesAreLookedAt.{made_by}
use Rattle.b2_looks.proofs.LooksAreKept.{settled_on}
use Rattle.b2_turns.specs.Starts.{is_settled, settles}
use Rattle.b2_turns.specs.Laws.{ReadyIsSettled, ChildrenAsLooked}

-- ---- states

-- a state that is told settled is
told_settled : (x : State) → is_settled x ≡ true → x ≡ states.Settled
told_settled states.Unjudged e = absurd (let h : false ≡ true = e in cc)
told_settled states.Stale e = absurd (let h : false ≡ true = e in cc)
told_settled states.Running e = absurd (let h : false ≡ true = e in cc)
told_settled states.Settled e = refl
told_settled states.Failed e = absurd (let h : false ≡ true = e in cc)

pub settled_tells : (s : Schedule) (i : ℕ) → IsSettled s i → settles s i ≡ true
settled_tells s i settled = ap is_settled settled

pub tells_settled : (s : Schedule) (i : ℕ) → settles s i ≡ true → IsSettled s i
tells_settled s i e = told_settled (state_of s i) e

-- a step that is not settled is one of the schedule
pub is_low : (xs : List State) (i : ℕ) → (get_or xs i states.Settled ≡ states.Settled → ⊥) → i < length xs
is_low xs i not = elim (cases_lt i (length xs)) [ inl low ↦ low | inr past ↦ absurd (not (get_or_past xs i states.Settled past)) ]

-- ---- steps that are to start

-- each of these paths has a number among these
number_of : (f : Knowledge) (numbers : List ℕ) (paths : List (List ℕ)) → AllZip (λ n path. path_at f n ≡ Some path) numbers paths → (path : List ℕ) → Contains paths path → (n : ℕ) × (path_at f n ≡ Some path) × Contains numbers n
number_of f numbers [] z path among = absurd (Contains_nil path among)
number_of f [] (p ∷ paths) z path among = absurd z
number_of f (n ∷ numbers) (p ∷ paths) z path among = elim (Contains_cases p path paths among) [
  | inl e ↦ (n, z.0 ∙ ap Some e, Contains_here n numbers)
  | inr rest ↦ (let (m, at, inside) = number_of f numbers paths z.1 path rest in (m, at, Contains_there n m numbers inside))
]

pub ready_is_settled : ReadyIsSettled
ready_is_settled plan f l i numbers ins apart about is stale kept named path k step among makes =
    let ready = is.ready i (inl stale) in
    let same : ready.numbers ≡ numbers = some_is ready.numbers numbers (sym ready.kept ∙ kept) in
    let (n, at, inside) = number_of f numbers.ins ins named path among in
    let member = ins_inside plan.steps f ready.step ready.members ready.numbers ready.files n (subst (λ (x : StepNumbers). Contains x.ins n) (sym same) inside) in
    let (file, file_is) = get_some f.files n (ready.numbered n member).1 in
    let made = (about.planned n path file (record { path_is = at; file_is = file_is })).maker ∙ made_by plan.steps plan.roots k step path apart makes in
    settled_tells l.board.sched k (ready.settled n k file member file_is made)

-- ---- children that run

-- a step that was told not settled, and was not judged since, is not
still_not : (s t : Schedule) (i : ℕ) → state_of t i ≡ state_of s i → settles s i ≡ false → settles t i ≡ false
still_not s t i same e = ap is_settled same ∙ e

pub children_as_looked : ChildrenAsLooked
children_as_looked steps events l k running opened follows on children child runs =
    let p = children child runs in
    record {
      step = p.step;
      at = p.at;
      not_settled = elim (on.states child.step) [
        | inl same ↦ still_not l.board.sched k.board.sched child.step same p.not_settled
        | inr (unjudged, judged) ↦ absurd (follows.not_started child.step (inl unjudged) (opened.each child runs).0)
      ];
      outs = p.outs;
      ins = λ path i step among makes. settled_tells k.board.sched i (settled_on l k on i (tells_settled l.board.sched i (p.ins path i step among makes)));
    }
