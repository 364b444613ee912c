-- What is known of the steps is kept as facts grow and as steps are looked at, and so is how it follows the events.
use Rattle.std.proofs.Common.{◌≡◌, ◌⊎◌, inl, inr, ℕ, zero, suc, ◌<◌, ◌≤◌, ◌+◌, ◌*◌, Bool, true, false, List, [], ◌∷◌, length, get_or, set, filter, Option, Some, None, Result, Ok, Err, cond, refl, sym, ap, subst, ◌∙◌, arith}
use Rattle.std.specs.Prelude.{OnOk}
use Rattle.std.specs.List.{Contains, count_by}
use Rattle.std.proofs.lemmas.Bool.{cases_eq}
use Rattle.std.proofs.lemmas.List.{get_or-set_same, get_or-set_other, length-set}
use Rattle.std.proofs.lemmas.List.Elements.{Contains-get_or}
use Rattle.std.proofs.lemmas.List.Sums.{count_by-le-length, sum_by-set, sum_by-append}
use Rattle.b2_base.specs.Bytes.{Before}
use Rattle.b2_host.specs.declared.children.ChildEvent.{ChildEvent}
use Rattle.b2_plan.specs.declared.step.Step.{Step}
use Rattle.b2_plan.specs.declared.plan.Plan.{Plan}
use Rattle.b2_plan.specs.Plans.{step_at}
use Rattle.b2_runs.proofs.FirstElementOrLater.{Contains_here, Contains_there}
use Rattle.b2_sched.specs.declared.state.State.{State}
use Rattle.b2_sched.specs.declared.state.State.TheVariants as states
use Rattle.b2_sched.specs.NumberSets.{Has}
use Rattle.b2_sched.specs.Schedules.{Schedule, state_of, IsUnjudged, IsSettled, Needs, IsFirst, IsNeeded, is_running, running}
use Rattle.b2_sched.specs.SchedulerCalls.{Settles, is_empty}
use Rattle.b2_sched.specs.Keeping.{is_unjudged}
use Rattle.b2_sched.proofs.ChangesKeepTheInvariant.{needed_more}
use Rattle.b2_facts.specs.declared.file_facts.FileFacts.{FileFacts}
use Rattle.b2_facts.specs.Facts.{Knowledge, IsNumber, IsAbout, file_at}
use Rattle.b2_facts.specs.Growth.{Grows, LearnsOf, IncludesStay}
use Rattle.b2_facts.proofs.FactsGrow.{number_grows, grows_same}
use Rattle.b2_facts.proofs.ListsAtPlaces.{some_is, none_some, get_some}
use Rattle.b2_verdicts.specs.Made.{AreRising}
use Rattle.b2_verdicts.specs.declared.step_numbers.StepNumbers.{StepNumbers}
use Rattle.b2_board.specs.declared.board.Board.{Board}
use Rattle.b2_board.specs.Boards.{IsBoard, NeedsMore}
use Rattle.b2_board.specs.Needs.{itself, looks_left}
use Rattle.b2_board.proofs.BoardHoldsAsFactsGrow.{board_grows}
use Rattle.b2_looks.specs.declared.looks.Looks.{Looks}
use Rattle.b2_looks.specs.Numbers.{has_bytes, has_bytes_of, has_bytes_by, AreFilesOf}
use Rattle.b2_looks.specs.Looks.{ready_at, IsReady, UnsettledAreUnread, AreLooks, LooksOn, Follows, IsJudged, looks_ahead}
use Rattle.b2_looks.proofs.FilesAreNumbered.{named_grow}

-- ---- the files of a step

pub has_bytes_grows : (steps : List Step) (f g : Knowledge) (n : ℕ) → Grows f g → IsNumber f n → has_bytes steps f n ≡ has_bytes steps g n
has_bytes_grows steps f g n grows number =
    let (file, known) = get_some f.files n number.1 in
    let (later, at, more) = grows.files n file known in
    ap (has_bytes_of steps) known ∙ ap (has_bytes_by steps) (sym more.maker) ∙ sym (ap (has_bytes_of steps) at)

filter_same : (p q : ℕ → Bool) (xs : List ℕ) → ((n : ℕ) → Contains xs n → p n ≡ q n) → filter p xs ≡ filter q xs
filter_same p q [] same = refl
filter_same p q (x ∷ xs) same =
    let rest = filter_same p q xs (λ n among. same n (Contains_there x n xs among)) in
    ap (λ b. cond b (x ∷ filter p xs) (filter p xs)) (same x (Contains_here x xs)) ∙ ap (λ l. cond (q x) (x ∷ l) l) rest

pub rising_grows : (f g : Knowledge) (order : List ℕ) → Grows f g → ((n : ℕ) → Contains order n → IsNumber f n) → AreRising f order → AreRising g order
rising_grows f g order grows numbered rising i j d low high one other at_i at_j =
    let n = get_or order i d in
    let m = get_or order j d in
    let (p, is_p) = get_some f.paths n (numbered n (Contains-get_or order i d (omega arith))).0 in
    let (q, is_q) = get_some f.paths m (numbered m (Contains-get_or order j d high)).0 in
    let one_is : p ≡ one = some_is p one (sym (grows.paths n p is_p) ∙ at_i) in
    let other_is : q ≡ other = some_is q other (sym (grows.paths m q is_q) ∙ at_j) in
    subst (λ x. Before x other) one_is (subst (Before p) other_is (rising i j d low high p q is_p is_q))

pub files_grow : (steps : List Step) (f g : Knowledge) (step : Step) (members : List ℕ) (numbers : StepNumbers) → Grows f g → ((n : ℕ) → Contains members n → IsNumber f n) → AreFilesOf steps f step members numbers → AreFilesOf steps g step members numbers
files_grow steps f g step members numbers grows numbered files =
    let inside : (n : ℕ) → Contains files.order n → IsNumber f n = λ n among. numbered n ((files.same n).0 among) in
    record {
      outs = named_grow f g grows numbers.outs step.outs files.outs;
      order = files.order;
      same = files.same;
      rising = rising_grows f g files.order grows inside files.rising;
      ins = files.ins ∙ filter_same (has_bytes steps f) (has_bytes steps g) files.order (λ n among. has_bytes_grows steps f g n grows (inside n among));
    }

pub ready_grows : (plan : Plan) (f g : Knowledge) (l m : Looks) (i : ℕ) → Grows f g → ((k : ℕ) → IsSettled l.board.sched k → IsSettled m.board.sched k) → ready_at m i ≡ ready_at l i → IsReady plan f l i → IsReady plan g m i
ready_grows plan f g l m i grows so same is = record {
  numbers = is.numbers;
  kept = same ∙ is.kept;
  step = is.step;
  at = is.at;
  members = is.members;
  numbered = λ n among. number_grows f g grows n (is.numbered n among);
  settled = λ n k file among known made. (
      let (old, was) = get_some f.files n (is.numbered n among).1 in
      let (later, at, more) = grows.files n old was in
      let equal : later ≡ file = some_is later file (sym at ∙ known) in
      so k (is.settled n k old among was (sym more.maker ∙ ap (λ (x : FileFacts). x.maker) equal ∙ made)));
  files = files_grow plan.steps f g is.step is.members is.numbers grows is.numbered is.files;
}

-- ---- what is not read

-- what is learned of some files leaves outputs unread whose steps are not settled, where it leaves these so
pub unread_learned : (P : ℕ → Type 0) (f g : Knowledge) (s t : Schedule) → LearnsOf P f g → ((k : ℕ) → IsSettled s k → IsSettled t k)
    → ((n k : ℕ) (file : FileFacts) → P n → file_at g n ≡ Some file → file.maker ≡ Some k → (IsSettled t k → ⊥) → file.includes ≡ None)
    → UnsettledAreUnread f s → UnsettledAreUnread g t
unread_learned P f g s t only so these unread n k file at made loose = elim (only n file at) [
  | inl looked ↦ absurd (none_some k (sym looked.outside.0 ∙ made))
  | inr (inl p) ↦ these n k file p at made loose
  | inr (inr (inl before)) ↦ unread n k file before made (λ settled. loose (so k settled))
  | inr (inr (inr blank)) ↦ blank.unread
]

pub unread_stays : (f g : Knowledge) (s : Schedule) (n k : ℕ) (file : FileFacts) → Grows f g → IncludesStay f g → UnsettledAreUnread f s → IsNumber f n → file_at g n ≡ Some file → file.maker ≡ Some k → (IsSettled s k → ⊥) → file.includes ≡ None
unread_stays f g s n k file grows stay unread number at made loose =
    let (old, known) = get_some f.files n number.1 in
    let (later, there, more) = grows.files n old known in
    let same : later ≡ file = some_is later file (sym there ∙ at) in
    let was : old.maker ≡ Some k = sym more.maker ∙ ap (λ (x : FileFacts). x.maker) same ∙ made in
    stay n old file known at ∙ unread n k old known was loose

-- ---- facts grow

pub looks_grow : (plan : Plan) (but : ℕ) (f g : Knowledge) (l : Looks) → IsAbout plan.steps plan.roots f → Grows f g → UnsettledAreUnread g l.board.sched → AreLooks plan but f l → AreLooks plan but g l
looks_grow plan but f g l about grows unread is = record {
  board = board_grows plan but f g l.board about grows is.board;
  ready_size = is.ready_size;
  ran_size = is.ran_size;
  ready = λ i runs. ready_grows plan f g l l i grows (λ k settled. settled) refl (is.ready i runs);
  unread = unread;
}

-- ---- states

not_both : (x a b : State) → x ≡ a → x ≡ b → (a ≡ b → ⊥) → ⊥
not_both x a b e f other = other (sym e ∙ f)

pub unjudged_not : (x : State) → x ≡ states.Unjudged → (x ≡ states.Stale → ⊥) × (x ≡ states.Running → ⊥) × (x ≡ states.Settled → ⊥) × (x ≡ states.Failed → ⊥)
unjudged_not x e = (λ f. (let h : states.Unjudged ≡ states.Stale = sym e ∙ f in cc), λ f. (let h : states.Unjudged ≡ states.Running = sym e ∙ f in cc), λ f. (let h : states.Unjudged ≡ states.Settled = sym e ∙ f in cc), λ f. (let h : states.Unjudged ≡ states.Failed = sym e ∙ f in cc))

pub stale_not : (x : State) → x ≡ states.Stale → (x ≡ states.Running → ⊥) × (x ≡ states.Settled → ⊥) × (x ≡ states.Failed → ⊥)
stale_not x e = (λ f. (let h : states.Stale ≡ states.Running = sym e ∙ f in cc), λ f. (let h : states.Stale ≡ states.Settled = sym e ∙ f in cc), λ f. (let h : states.Stale ≡ states.Failed = sym e ∙ f in cc))

pub settled_not : (x : State) → x ≡ states.Settled → (x ≡ states.Running → ⊥) × (x ≡ states.Failed → ⊥)
settled_not x e = (λ f. (let h : states.Settled ≡ states.Running = sym e ∙ f in cc), λ f. (let h : states.Settled ≡ states.Failed = sym e ∙ f in cc))

-- ---- steps are looked at

pub on_same : (l : Looks) → LooksOn l l
on_same l = record { jobs = refl; size = refl; states = λ i. inl refl; needed = λ i needed. needed; ran = refl }

pub on_then : (l m n : Looks) → LooksOn l m → LooksOn m n → LooksOn l n
on_then l m n a b = record {
  jobs = b.jobs ∙ a.jobs;
  size = b.size ∙ a.size;
  states = λ i. elim (b.states i) [
    | inl same ↦ elim (a.states i) [
      | inl before ↦ inl (same ∙ before)
      | inr (unjudged, inl stale) ↦ inr (unjudged, inl (same ∙ stale))
      | inr (unjudged, inr settled) ↦ inr (unjudged, inr (same ∙ settled))
    ]
    | inr (unjudged, judged) ↦ elim (a.states i) [ inl before ↦ inr (sym before ∙ unjudged, judged) | inr (first, other) ↦ inr (first, judged) ]
  ];
  needed = λ i needed. b.needed i (a.needed i needed);
  ran = b.ran ∙ a.ran;
}

pub on_needs : (l m : Looks) → m.ran ≡ l.ran → NeedsMore l.board.sched m.board.sched → LooksOn l m
on_needs l m ran more = record { jobs = more.jobs; size = ap length more.states; states = λ i. inl (ap (λ (xs : List State). get_or xs i states.Settled) more.states); needed = more.needed; ran = ran }

-- a step settled stays so, and one that is stale now was so, or was not judged
pub settled_on : (l m : Looks) → LooksOn l m → (i : ℕ) → IsSettled l.board.sched i → IsSettled m.board.sched i
settled_on l m on i settled = elim (on.states i) [ inl same ↦ same ∙ settled | inr (unjudged, judged) ↦ absurd ((unjudged_not (state_of l.board.sched i) unjudged).2 settled) ]

-- ---- events

moved : {V : Type 0} (x y : V) (P : V → Type 0) → x ≡ y → P x → P y
moved x y P e p = subst P e p

-- as many pass a test in two lists where the same places do
count_same : {X : Type 0} (p : X → Bool) (d : X) (xs ys : List X) → length ys ≡ length xs → ((i : ℕ) → p (get_or ys i d) ≡ p (get_or xs i d)) → count_by p ys ≡ count_by p xs
count_same p d [] [] long same = refl
count_same p d [] (y ∷ ys) long same = absurd (omega (arith, long))
count_same p d (x ∷ xs) [] long same = absurd (omega (arith, long))
count_same p d (x ∷ xs) (y ∷ ys) long same =
    let rest = count_same p d xs ys (omega (arith, long)) (λ i. same (suc i)) in
    let one : ◌≡◌ {A = ℕ} (cond (p y) 1 0) (cond (p x) 1 0) = ap (λ b. cond b 1 0) (same zero) in
    omega (arith, rest, one, sum_by-append (λ z. cond (p z) 1 0) (x ∷ []) xs, sum_by-append (λ z. cond (p z) 1 0) (y ∷ []) ys)

running_on : (l m : Looks) → LooksOn l m → running m.board.sched ≡ running l.board.sched
running_on l m on = count_same is_running states.Settled l.board.sched.states m.board.sched.states on.size (λ i. elim (on.states i) [
  | inl same ↦ ap is_running same
  | inr (unjudged, inl stale) ↦ ap is_running stale ∙ sym (ap is_running unjudged)
  | inr (unjudged, inr settled) ↦ ap is_running settled ∙ sym (ap is_running unjudged)
])

pub follows_on : (events : List ChildEvent) (l m : Looks) → LooksOn l m → Follows events l → Follows events m
follows_on events l m on is = record {
  started = λ i runs. elim (on.states i) [
    | inl same ↦ is.started i (sym same ∙ runs)
    | inr (unjudged, inl stale) ↦ absurd ((stale_not (state_of m.board.sched i) stale).0 runs)
    | inr (unjudged, inr settled) ↦ absurd ((settled_not (state_of m.board.sched i) settled).0 runs)
  ];
  not_started = λ i which. elim (on.states i) [
    | inl same ↦ elim which [ inl unjudged ↦ is.not_started i (inl (sym same ∙ unjudged)) | inr stale ↦ is.not_started i (inr (sym same ∙ stale)) ]
    | inr (unjudged, judged) ↦ is.not_started i (inl unjudged)
  ];
  settled = λ i settled started. elim (on.states i) [
    | inl same ↦ is.settled i (sym same ∙ settled) started
    | inr (unjudged, judged) ↦ absurd (is.not_started i (inl unjudged) started)
  ];
  failed = λ i. (
    λ bad. elim (on.states i) [
      | inl same ↦ (is.failed i).0 (sym same ∙ bad)
      | inr (unjudged, inl stale) ↦ absurd ((stale_not (state_of m.board.sched i) stale).2 bad)
      | inr (unjudged, inr settled) ↦ absurd ((settled_not (state_of m.board.sched i) settled).1 bad)
    ],
    λ told. elim (on.states i) [
      | inl same ↦ same ∙ (is.failed i).1 told
      | inr (unjudged, judged) ↦ absurd ((unjudged_not (state_of l.board.sched i) unjudged).3 ((is.failed i).1 told))
    ],
  );
  done_well = λ i told. settled_on l m on i (is.done_well i told);
  ran = λ i. (λ has. (is.ran i).0 (moved m.ran l.ran (λ r. Has r.items i) on.ran has), λ told. moved l.ran m.ran (λ r. Has r.items i) (sym on.ran) ((is.ran i).1 told));
  count = (let e = running_on l m on in let n = is.count in omega (arith, e, n));
}

-- ---- a judgement

pub state_now : (s t : Schedule) (number : ℕ) (v : State) → t.states ≡ set s.states number v → number < length s.states → state_of t number ≡ v
state_now s t number v e low = ap (λ (xs : List State). get_or xs number states.Settled) e ∙ get_or-set_same s.states number v states.Settled low

pub state_else : (s t : Schedule) (number : ℕ) (v : State) → t.states ≡ set s.states number v → (i : ℕ) → (i ≡ number → ⊥) → state_of t i ≡ state_of s i
state_else s t number v e i other = ap (λ (xs : List State). get_or xs i states.Settled) e ∙ get_or-set_other s.states number i v states.Settled other

pub needed_same : (s t : Schedule) → t.dependents ≡ s.dependents → (i : ℕ) → IsNeeded s i → IsNeeded t i
needed_same s t e i needed = needed_more (IsFirst s) (IsFirst t) (Needs s) (Needs t) (λ k asked. up 0 k asked) up i needed
  where
    up : (j k : ℕ) → Needs s j k → Needs t j k
    up j k need = subst (λ (d : List (List ℕ)). Contains (get_or d k []) j) (sym e) need

-- how often steps may still be looked at falls as a step is judged
count_falls : (xs : List State) (number : ℕ) (v : State) → number < length xs → get_or xs number states.Settled ≡ states.Unjudged → is_unjudged v ≡ false → count_by is_unjudged (set xs number v) + 1 ≡ count_by is_unjudged xs
count_falls xs number v low unjudged judged =
    let counted = sum_by-set (λ x. cond (is_unjudged x) 1 0) xs number v states.Settled low in
    let was : ◌≡◌ {A = ℕ} (cond (is_unjudged (get_or xs number states.Settled)) 1 0) 1 = ap (λ x. cond (is_unjudged x) 1 0) unjudged in
    let is : ◌≡◌ {A = ℕ} (cond (is_unjudged v) 1 0) 0 = ap (λ b. cond b 1 0) judged in
    omega (arith, counted, was, is)

room : (c d size left : ℕ) → c + 1 ≡ d → left ≤ 2 * size → c * (2 * size + 1) + left ≤ d * (2 * size + 1)
room c d size left e few = rw (sym e) (grind (arith, few))

pub ahead_falls : (s t : Schedule) (number : ℕ) (v : State) → t.states ≡ set s.states number v → number < length s.states → IsUnjudged s number → is_unjudged v ≡ false → length t.looks ≡ length s.states → length t.dependents ≡ length s.states → looks_ahead t ≤ looks_ahead s
ahead_falls s t number v e low unjudged judged looks dependents =
    let size : length t.states ≡ length s.states = ap length e ∙ length-set s.states number v in
    let count : count_by is_unjudged t.states + 1 ≡ count_by is_unjudged s.states = ap (λ (xs : List State). count_by is_unjudged xs + 1) e ∙ count_falls s.states number v low unjudged judged in
    let few : looks_left t ≤ 2 * length t.states = omega (arith, count_by-le-length itself t.looks, count_by-le-length is_empty t.dependents, looks, dependents, size) in
    let roomy = room (count_by is_unjudged t.states) (count_by is_unjudged s.states) (length t.states) (looks_left t) count few in
    let total : count_by is_unjudged s.states * (2 * length t.states + 1) ≡ count_by is_unjudged s.states * (2 * length s.states + 1) = ap (λ n. count_by is_unjudged s.states * (2 * n + 1)) size in
    omega (arith, roomy, total)

-- where states stay it falls with the steps that can be looked at
pub ahead_left : (s t : Schedule) → t.states ≡ s.states → looks_left t ≤ looks_left s → looks_ahead t ≤ looks_ahead s
ahead_left s t e fewer = (
    let total : count_by is_unjudged t.states * (2 * length t.states + 1) ≡ count_by is_unjudged s.states * (2 * length s.states + 1) = ap (λ (xs : List State). count_by is_unjudged xs * (2 * length xs + 1)) e in
    omega (arith, fewer, total))

module _ (number : ℕ) (numbers : StepNumbers) (l m : Looks) (low : number < length l.board.sched.states) (unjudged : IsUnjudged l.board.sched number) where
  on_judged : (v : State) → (v ≡ states.Stale) ⊎ (v ≡ states.Settled) → m.board.sched.jobs ≡ l.board.sched.jobs → m.board.sched.states ≡ set l.board.sched.states number v → m.board.sched.dependents ≡ l.board.sched.dependents → m.ran ≡ l.ran → LooksOn l m
  on_judged v which jobs e dependents ran = record {
    jobs = jobs;
    size = ap length e ∙ length-set l.board.sched.states number v;
    states = λ i. elim (cases_eq i number) [
      | inl same ↦ inr (ap (state_of l.board.sched) same ∙ unjudged, (let now = ap (state_of m.board.sched) same ∙ state_now l.board.sched m.board.sched number v e low in elim which [ inl stale ↦ inl (now ∙ stale) | inr settled ↦ inr (now ∙ settled) ]))
      | inr other ↦ inl (state_else l.board.sched m.board.sched number v e i other)
    ];
    needed = needed_same l.board.sched m.board.sched dependents;
    ran = ran;
  }

  pub judged_on : (fresh : Bool) → IsJudged fresh number numbers l m → LooksOn l m
  judged_on true is = on_judged states.Settled (inr refl) is.settles.jobs is.settles.states is.settles.dependents is.ran
  judged_on false is = on_judged states.Stale (inl refl) (ap (λ (s : Schedule). s.jobs) is.stale) (ap (λ (s : Schedule). s.states) is.stale) (ap (λ (s : Schedule). s.dependents) is.stale) is.ran

  pub judged_ahead : (fresh : Bool) → length l.board.sched.looks ≡ length l.board.sched.states → length l.board.sched.dependents ≡ length l.board.sched.states → IsJudged fresh number numbers l m → looks_ahead m.board.sched ≤ looks_ahead l.board.sched
  judged_ahead true looks dependents is = ahead_falls l.board.sched m.board.sched number states.Settled is.settles.states low unjudged refl (is.settles.size ∙ looks) (ap length is.settles.dependents ∙ dependents)
  judged_ahead false looks dependents is = ahead_falls l.board.sched m.board.sched number states.Stale (ap (λ (s : Schedule). s.states) is.stale) low unjudged refl (ap (λ (s : Schedule). length s.looks) is.stale ∙ length-set l.board.sched.looks number false ∙ looks) (ap (λ (s : Schedule). length s.dependents) is.stale ∙ dependents)

  pub judged_looks : (plan : Plan) (f : Knowledge) (fresh : Bool) (step : Step) (members : List ℕ) → number < length l.ready.items → step_at plan.steps number ≡ Some step → ((n : ℕ) → Contains members n → IsNumber f n)
      → ((n k : ℕ) (file : FileFacts) → Contains members n → file_at f n ≡ Some file → file.maker ≡ Some k → IsSettled l.board.sched k) → AreFilesOf plan.steps f step members numbers → AreLooks plan number f l → IsBoard plan 0 f m.board → IsJudged fresh number numbers l m → AreLooks plan 0 f m
  judged_looks plan f true step members room at numbered closed files is board so = (
      let on = judged_on true so in
      record {
        board = board;
        ready_size = moved l.ready m.ready (λ r. length r.items ≡ length plan.steps + 1) (sym so.ready) is.ready_size;
        ran_size = moved l.ran m.ran (λ r. length r.items ≡ length plan.steps + 1) (sym so.ran) is.ran_size;
        ready = λ i which. elim (on.states i) [
          | inl same ↦ ready_grows plan f f l m i (grows_same f) (settled_on l m on) (moved l.ready m.ready (λ r. get_or r.items i None ≡ ready_at l i) (sym so.ready) refl) (is.ready i (elim which [ inl a ↦ inl (sym same ∙ a) | inr a ↦ inr (sym same ∙ a) ]))
          | inr (was, inr settled) ↦ absurd (elim which [ inl a ↦ (stale_not (state_of m.board.sched i) a).1 settled | inr a ↦ (settled_not (state_of m.board.sched i) settled).0 a ])
          | inr (was, inl stale) ↦ absurd (elim (cases_eq i number) [
            | inl same ↦ (stale_not (state_of m.board.sched i) stale).1 (ap (state_of m.board.sched) same ∙ state_now l.board.sched m.board.sched number states.Settled so.settles.states low)
            | inr other ↦ (unjudged_not (state_of l.board.sched i) was).0 (sym (state_else l.board.sched m.board.sched number states.Settled so.settles.states i other) ∙ stale)
          ])
        ];
        unread = λ n k file known made loose. is.unread n k file known made (λ settled. loose (settled_on l m on k settled));
      })
  judged_looks plan f false step members room at numbered closed files is board so = (
      let on = judged_on false so in
      let states_are = ap (λ (s : Schedule). s.states) so.stale in
      record {
        board = board;
        ready_size = ap length so.ready ∙ length-set l.ready.items number (Some numbers) ∙ is.ready_size;
        ran_size = moved l.ran m.ran (λ r. length r.items ≡ length plan.steps + 1) (sym so.ran) is.ran_size;
        ready = λ i which. elim (cases_eq i number) [
          | inl same ↦ subst (IsReady plan f m) (sym same) (record { numbers = numbers; kept = ap (λ (xs : List (Option StepNumbers)). get_or xs number None) so.ready ∙ get_or-set_same l.ready.items number (Some numbers) None room; step = step; at = at; members = members; numbered = numbered; settled = λ n k file among known made. settled_on l m on k (closed n k file among known made); files = files })
          | inr other ↦ (
              let before = state_else l.board.sched m.board.sched number states.Stale states_are i other in
              ready_grows plan f f l m i (grows_same f) (settled_on l m on) (ap (λ (xs : List (Option StepNumbers)). get_or xs i None) so.ready ∙ get_or-set_other l.ready.items number i (Some numbers) None other) (is.ready i (elim which [ inl a ↦ inl (sym before ∙ a) | inr a ↦ inr (sym before ∙ a) ])))
        ];
        unread = λ n k file known made loose. is.unread n k file known made (λ settled. loose (settled_on l m on k settled));
      })

-- ---- includes

pub includes_same : (f : Knowledge) → IncludesStay f f
includes_same f n file later at after = ap (λ (x : FileFacts). x.includes) (some_is later file (sym after ∙ at))

pub includes_then : (f g h : Knowledge) → Grows f g → IncludesStay f g → IncludesStay g h → IncludesStay f h
includes_then f g h grows a b n file later at after =
    let (middle, there, more) = grows.files n file at in
    b n middle later there after ∙ a n file middle at there

-- ---- results

-- what holds after a good end
pub on_ok_then : {T E : Type 0} (r : Result T E) (P Q : Type 0) → (P → Q) → OnOk r P → OnOk r Q
on_ok_then (Ok x) P Q f h = f h
on_ok_then (Err e) P Q f h = tt

-- ---- a judgement is entered

pub judged_way : (fresh : Bool) (number : ℕ) (numbers : StepNumbers) (l m : Looks) → IsJudged fresh number numbers l m → m.way ≡ l.way
judged_way true number numbers l m is = is.way
judged_way false number numbers l m is = is.way

pub entered_fresh : (fresh : Bool) (number : ℕ) (numbers : StepNumbers) (l : Looks) (b : Board) → fresh ≡ true → b.works ≡ l.board.works → Settles l.board.sched number b.sched → IsJudged fresh number numbers l (record l { board = b })
entered_fresh fresh number numbers l b e works settles = subst (λ f. IsJudged f number numbers l (record l { board = b })) (sym e) (record { way = refl; ran = refl; ready = refl; works = works; settles = settles })

-- as a step is taken to be looked at, fewer are left to be looked at
pub ahead_taken : (s t v : Schedule) → t.states ≡ s.states → looks_left t + 1 ≤ looks_left s → looks_ahead v ≤ looks_ahead t → looks_ahead v < looks_ahead s
ahead_taken s t v e fewer later = (
    let total : count_by is_unjudged t.states * (2 * length t.states + 1) ≡ count_by is_unjudged s.states * (2 * length s.states + 1) = ap (λ (xs : List State). count_by is_unjudged xs * (2 * length xs + 1)) e in
    omega (arith, fewer, total, later))
