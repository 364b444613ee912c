-- The outputs of a plan are apart, since each step fits beside those before it, and has an output under a root.
use Rattle.std.proofs.Common.{◌≡◌, ◌≢◌, ◌⊎◌, inl, inr, ℕ, zero, suc, ◌<◌, ◌≤◌, Bool, true, false, cond, not, ◌&&◌, ◌||◌, List, [], ◌∷◌, ◌++◌, length, take, filter, map, fold, Some, Result, Ok, refl, sym, ap, ◌∙◌, subst, arith, length-append}
use Rattle.std.specs.Prelude.{codes, slice_get}
use Rattle.std.specs.Bool.{beq}
use Rattle.std.specs.Cmp.{booleans_Decides}
use Rattle.std.specs.List.{Contains, AllByRecursion, flat_map, list_all}
use Rattle.std.specs.Str.{bytes_eq}
use Rattle.std.proofs.lemmas.Bool.{true≢false, false≢true, cases_lt, and_parts, not-true, cond-true, cond-false}
use Rattle.std.proofs.lemmas.List.{take-append-le, take_all}
use Rattle.std.proofs.lemmas.Option.{same_Some, slice_get_within}
use Rattle.std.proofs.lemmas.Slice.Eq.{bytes_eq-Decides}
use Rattle.b2_base.specs.Below.{after_parts, goes_below, is_below}
use Rattle.b2_base.specs.Normal.{parts, IsUnder}
use Rattle.b2_base.specs.Segments.{is_rooted, is_up}
use Rattle.b2_host.specs.FileCalls.{log_path}
use Rattle.b2_plan.specs.declared.step.Step.{Step}
use Rattle.b2_plan.specs.Plans.{step_at, Makes, Apart}
use Rattle.b2_plan.specs.Sources.{IsInRoots}
use Rattle.b2_virtual.specs.Clashes.{Clashes, shared, beside, within, log, below_log, Fits}
use Rattle.jam_journal.specs.Tables.{Text}
use Rattle.jam_journal.specs.Scopes.{Value}
use Rattle.jam_natives.specs.Texts.{add_new}
use Rattle.jam_scope.specs.Worlds.{World}
use Rattle.jam_graph.specs.declared.graph.Act.{Act}
use Rattle.jam_graph.specs.declared.graph.Graph.{Graph}
use Rattle.jam_graph.specs.Graphs.{IsReady, HasTarget}
use Rattle.jam_graph.specs.Loads.{Refusal}
use Rattle.jam_engine.specs.Acts.{joins, put, joined, is_existing, lessened, acts, acts_at, Linked, IsSet}
use Rattle.jam_engine.specs.Laws.{PlanIsApart}
use Rattle.jam_engine.specs.Plans.{Target, Joins, all, stops, goes_on, Steps}
use Rattle.jam_engine.specs.Steps.{places, targets_of, outs_of, IsStep, are_in_roots}
use Rattle.jam_engine.specs.Targets.{is_in_roots, is_below_roots, is_there, place, roots}
use Rattle.jam_engine.proofs.LabelsGrow.{none_some, among, at_front, behind, none_there, all_at}
use Rattle.jam_engine.proofs.PlansHoldAllActs.{planned, steps_or, in_map, in_flat, once_has, acts_at_has}
use Rattle.jam_engine.proofs.PlansMade.{linked_within, bin_is_root}
use Rattle.jam_engine.proofs.SetsOfLabels.{get_more, get_at, contains_get}

-- ---- below a root

after_some : (dir path : List (List ℕ)) (next : List ℕ) (more : List (List ℕ)) → after_parts dir path ≡ next ∷ more → path ≡ dir ++ next ∷ more
after_some [] path next more e = e
after_some (first ∷ dir) [] next more e = cc
after_some (first ∷ dir) (segment ∷ path) next more e = go (bytes_eq first segment) refl (λ k. after_some dir path next more k)
  where
    go : (b : Bool) → bytes_eq first segment ≡ b → (after_parts dir path ≡ next ∷ more → path ≡ dir ++ next ∷ more) → segment ∷ path ≡ first ∷ (dir ++ next ∷ more)
    go true same rest =
        let head : first ≡ segment = (bytes_eq-Decides first segment).0 same in
        let tail = rest (sym (cond-true (bytes_eq first segment) (after_parts dir path) [] same) ∙ e) in
        ap (λ (s : List ℕ). s ∷ path) (sym head) ∙ ap (λ (p : List (List ℕ)). first ∷ p) tail
    go false other rest = absurd (let clash = sym (cond-false (bytes_eq first segment) (after_parts dir path) [] other) ∙ e in cc)

under_by : (path dir : List ℕ) → is_below path dir ≡ true → IsUnder path dir
under_by path dir h =
    let both = and_parts (beq (is_rooted path) (is_rooted dir)) (goes_below (bytes_eq dir (codes ".")) (after_parts (parts dir) (parts path))) h in
    go (after_parts (parts dir) (parts path)) refl both.1 ((booleans_Decides (is_rooted path) (is_rooted dir)).0 both.0)
  where
    go : (rest : List (List ℕ)) → after_parts (parts dir) (parts path) ≡ rest → goes_below (bytes_eq dir (codes ".")) rest ≡ true → is_rooted path ≡ is_rooted dir → IsUnder path dir
    go [] e below rooted = absurd (false≢true below)
    go (next ∷ more) e below rooted = record {
      next = next;
      more = more;
      rooted = rooted;
      goes_on = after_some (parts dir) (parts path) next more e;
      not_above = λ at. not-true (is_up next) (sym (ap (λ b. not (b && is_up next)) ((bytes_eq-Decides dir (codes ".")).1 at)) ∙ below);
    }

under_root_by : (under : List Text) (path : Text) → is_below_roots under path ≡ true → IsInRoots under path
under_root_by [] path e = absurd (true≢false (sym e))
under_root_by (root ∷ under) path e = go (is_below path root) refl (λ k. under_root_by under path k)
  where
    go : (b : Bool) → is_below path root ≡ b → (is_below_roots under path ≡ true → IsInRoots under path) → IsInRoots (root ∷ under) path
    go true below rest = (root, at_front root under, under_by path root below)
    go false out rest =
        let (other, c, is) = rest (sym (ap (λ b. b || is_below_roots under path) out) ∙ e) in
        (other, behind root under other c, is)

list_all_at : (p : Text → Bool) (xs : List Text) (x : Text) → list_all p xs ≡ true → Contains xs x → p x ≡ true
list_all_at p [] x e c = absurd (none_there x c)
list_all_at p (y ∷ xs) x e c = go (and_parts (p y) (list_all p xs) e) (among y xs x c) (λ k l. list_all_at p xs x k l)
  where
    go : (p y ≡ true) × (list_all p xs ≡ true) → (y ≡ x) ⊎ Contains xs x → (list_all p xs ≡ true → Contains xs x → p x ≡ true) → p x ≡ true
    go (one, more) (inl same) rest = ap p (sym same) ∙ one
    go (one, more) (inr k) rest = rest more k

-- ---- steps that fit beside those before them

get_before : {X : Type 0} (xs : List X) (i k : ℕ) → i < k → slice_get (take k xs) i ≡ slice_get xs i
get_before xs i zero low = absurd (omega (arith, low))
get_before [] i (suc k) low = refl
get_before (x ∷ xs) zero (suc k) low = refl
get_before (x ∷ xs) (suc i) (suc k) low = get_before xs i k (omega (arith, low))

abbrev FitBefore : List Step → Type 0
FitBefore steps = (i : ℕ) (step : Step) → slice_get steps i ≡ Some step → Fits (take i steps) step

fit_more : (steps : List Step) (step : Step) → FitBefore steps → Fits steps step → FitBefore (steps ++ step ∷ [])
fit_more steps step h fits i other e = go (get_more steps step i other e)
  where
    go : (slice_get steps i ≡ Some other) ⊎ ((i ≡ length steps) × (step ≡ other)) → Fits (take i (steps ++ step ∷ [])) other
    go (inl before) =
        let low = slice_get_within steps i other before in
        subst (λ (l : List Step). Fits l other) (sym (take-append-le i steps (step ∷ []) (omega (arith, low)))) (h i other before)
    go (inr (last, same)) =
        let whole : take i (steps ++ step ∷ []) ≡ steps = ap (λ n. take n (steps ++ step ∷ [])) last ∙ take-append-le (length steps) steps (step ∷ []) (omega arith) ∙ take_all (length steps) steps (omega arith) in
        subst (λ (l : List Step). Fits l other) (sym whole) (subst (Fits steps) same fits)

module _ (steps : List Step) (fit : FitBefore steps) where
  no_clash : (k : ℕ) (step : Step) (out : Text) → Makes steps (suc k) step out → Clashes (take k steps) step out → ⊥
  no_clash k step out makes = all_at (λ o. Clashes (take k steps) step o → ⊥) step.outs out (fit k step makes.at) makes.among

  makes_before : (i k : ℕ) (step : Step) (out : Text) → i < k → Makes steps (suc i) step out → Makes (take k steps) (suc i) step out
  makes_before i k step out low makes = record { at = get_before steps i k low ∙ makes.at; among = makes.among }

  one_maker : (i k : ℕ) (step other : Step) (path : Text) → Makes steps i step path → Makes steps k other path → i ≡ k
  one_maker zero k step other path a b = absurd (none_some step a.at)
  one_maker (suc i) zero step other path a b = absurd (none_some other b.at)
  one_maker (suc i) (suc k) step other path a b = go (cases_lt i k) (cases_lt k i)
    where
      go : (i < k) ⊎ (k ≤ i) → (k < i) ⊎ (i ≤ k) → suc i ≡ suc k
      go (inl low) h = absurd (no_clash k other path b (shared (suc i) step (makes_before i k step path low a)))
      go (inr up) (inl low) = absurd (no_clash i step path a (shared (suc k) other (makes_before k i other path low b)))
      go (inr up) (inr also) = omega (arith, up, also)

  no_folder : (i k : ℕ) (step other : Step) (path folder : Text) → Makes steps i step path → Makes steps k other folder → IsUnder path folder → ⊥
  no_folder zero k step other path folder a b under = absurd (none_some step a.at)
  no_folder (suc i) zero step other path folder a b under = absurd (none_some other b.at)
  no_folder (suc i) (suc k) step other path folder a b under = go (cases_lt i k) (cases_lt k i)
    where
      go : (i < k) ⊎ (k ≤ i) → (k < i) ⊎ (i ≤ k) → ⊥
      go (inl low) h = no_clash k other folder b (beside (suc i) step path (makes_before i k step path low a) (inr under))
      go (inr up) (inl low) = no_clash i step path a (beside (suc k) other folder (makes_before k i other folder low b) (inl under))
      go (inr up) (inr also) =
          let same : i ≡ k = omega (arith, up, also) in
          let one : step ≡ other = same_Some step other (sym a.at ∙ ap (slice_get steps) same ∙ b.at) in
          no_clash i step path a (within folder (subst (λ (s : Step). Contains s.outs folder) (sym one) b.among) (inl under))

  not_log : (i : ℕ) (step : Step) → Makes steps i step log_path → ⊥
  not_log zero step a = absurd (none_some step a.at)
  not_log (suc i) step a = no_clash i step log_path a (log refl)

  not_below_log : (i : ℕ) (step : Step) (path : Text) → Makes steps i step path → IsUnder path log_path → ⊥
  not_below_log zero step path a under = absurd (none_some step a.at)
  not_below_log (suc i) step path a under = no_clash i step path a (below_log under)

-- ---- acts have targets

module _ (w : World) where
  put_targets : (xs : List Act) (a : Act) → AllByRecursion HasTarget xs → HasTarget a → AllByRecursion HasTarget (put w xs a)
  put_targets [] a h one = (one, tt)
  put_targets (x ∷ xs) a (first, more) one = go (joins w x a) (put_targets xs a more one)
    where
      go : (b : Bool) → AllByRecursion HasTarget (put w xs a) → AllByRecursion HasTarget (cond b (record x { sources = fold add_new x.sources a.sources } ∷ xs) (x ∷ put w xs a))
      go true rest = (first, more)
      go false rest = (first, rest)

  fold_targets : (list start : List Act) → AllByRecursion HasTarget start → AllByRecursion HasTarget list → AllByRecursion HasTarget (fold (put w) start list)
  fold_targets [] start h more = h
  fold_targets (a ∷ list) start h (one, more) = fold_targets list (put w start a) (put_targets start a h one) more

module _ (g : Graph) (stands : Text → Bool) (ready : IsReady g) where
  less_target : (a : Act) → HasTarget a → HasTarget (lessened g stands a)
  less_target a one = go (is_existing g a)
    where
      go : (b : Bool) → HasTarget (cond b (record a { sources = filter (is_there g stands) a.sources }) a)
      go true = one
      go false = one

  all_lessened : (xs : List Act) → AllByRecursion HasTarget xs → AllByRecursion HasTarget (map (lessened g stands) xs)
  all_lessened [] h = tt
  all_lessened (x ∷ xs) (one, more) = (less_target x one, all_lessened xs more)

  all_targets : AllByRecursion HasTarget (acts g stands)
  all_targets = all_lessened (joined g.world.now g.acts) (fold_targets g.world.now g.acts [] tt ready.targets)

  some_target : (xs : Value) → xs ≢ [] → (t : Text) × Contains xs t
  some_target [] other = absurd (other refl)
  some_target (t ∷ xs) other = (t, at_front t xs)

  -- the step of a set of linked acts has an output
  some_out : (first : ℕ) (set : List ℕ) (step : Step) → IsSet (acts g stands) first set → IsStep g stands (acts_at (acts g stands) set) step → step.outs ≢ []
  some_out first set step one is none =
      let list : List Act = acts g stands in
      let in_set : Contains set first = subst (λ (l : List ℕ). Contains l first) (sym one.begins.1) (at_front first one.begins.0) in
      let low : first < length list = linked_within list first first (all_at (λ k. Linked list first k) set first one.linked in_set) in
      let (act, at) = get_at list first low in
      let here : Contains (acts_at list set) act = acts_at_has list set first act at in_set in
      let (target, has) = some_target act.targets (all_at HasTarget list act all_targets (contains_get list first act at)) in
      let out : Contains step.outs (place g stands target) =
      subst (λ (l : List Text). Contains l (place g stands target)) (sym is.outs)
      (once_has (places g stands (targets_of g stands (acts_at list set))) (place g stands target)
      (in_map (place g stands) (targets_of g stands (acts_at list set)) target
      (once_has (flat_map (λ (a : Act). a.targets) (acts_at list set)) target (in_flat (λ (a : Act). a.targets) (acts_at list set) act target here has)))) in
      none_there (place g stands target) (subst (λ (l : List Text). Contains l (place g stands target)) none out)

-- ---- the steps that join

module _ (g : Graph) (stands : Text → Bool) where
  all_fit : (start : List Step) (sets : List (List Act)) (last : Result (List Step) Refusal) (steps : List Step) → Joins g stands start sets last → last ≡ Ok steps → FitBefore start → FitBefore steps
  all_fit start sets last steps all same h = subst FitBefore (ap (steps_or steps) same) h
  all_fit start sets last steps (stops why r) same h = absurd (let f = same in cc)
  all_fit start sets last steps (goes_on step accepts more) same h = all_fit (start ++ step ∷ []) _ last steps more same (fit_more start step h accepts.fits)

  few_steps : (start : List Step) (sets : List (List Act)) (last : Result (List Step) Refusal) (steps : List Step) → Joins g stands start sets last → last ≡ Ok steps → length start ≤ 65536 → length steps ≤ 65536
  few_steps start sets last steps all same h = subst (λ (l : List Step). length l ≤ 65536) (ap (steps_or steps) same) h
  few_steps start sets last steps (stops why r) same h = absurd (let f = same in cc)
  few_steps start sets last steps (goes_on step accepts more) same h =
      few_steps (start ++ step ∷ []) _ last steps more same (let size = length-append start (step ∷ []) in let few = accepts.few in omega (arith, size, few, h))

  -- a step is of a set, and its outputs lie under roots
  abbrev IsOfSet : List (List Act) → Step → Type 0
  IsOfSet sets step = (set : List Act) × Contains sets set × IsStep g stands set step × (are_in_roots g stands set ≡ true)

  of_set : (start : List Step) (sets : List (List Act)) (last : Result (List Step) Refusal) (steps : List Step) (i : ℕ) (step : Step) → Joins g stands start sets last → last ≡ Ok steps → slice_get steps i ≡ Some step → (slice_get start i ≡ Some step) ⊎ IsOfSet sets step
  of_set start sets last steps i step all same e = inl (ap (λ (l : List Step). slice_get l i) (ap (steps_or steps) same) ∙ e)
  of_set start sets last steps i step (stops why r) same e = absurd (let f = same in cc)
  of_set start sets last steps i step (goes_on {set = here} {more = others} one accepts more) same e = go (of_set (start ++ one ∷ []) others last steps i step more same e)
    where
      from : (slice_get start i ≡ Some step) ⊎ ((i ≡ length start) × (one ≡ step)) → (slice_get start i ≡ Some step) ⊎ IsOfSet (here ∷ others) step
      from (inl before) = inl before
      from (inr (last_is, is)) = inr (here, at_front here others, subst (IsStep g stands here) is accepts.is, accepts.inside)

      go : (slice_get (start ++ one ∷ []) i ≡ Some step) ⊎ IsOfSet others step → (slice_get start i ≡ Some step) ⊎ IsOfSet (here ∷ others) step
      go (inl before) = from (get_more start one i step before)
      go (inr (set, c, is, inside)) = inr (set, behind here others set c, is, inside)

  module _ (plan : Target) (ready : IsReady g) (steps : Steps g stands (Ok plan.steps)) (under : plan.roots ≡ roots g) where
    abbrev list : List Act
    list = acts g stands

    fit : FitBefore plan.steps
    fit = all_fit [] (map (acts_at list) steps.sets) (Ok plan.steps) plan.steps steps.joins refl (λ i step e. absurd (none_some step e))

    its_set : (i : ℕ) (step : Step) → slice_get plan.steps i ≡ Some step → IsOfSet (map (acts_at list) steps.sets) step
    its_set i step e = go (of_set [] (map (acts_at list) steps.sets) (Ok plan.steps) plan.steps i step steps.joins refl e)
      where
        go : (slice_get [] i ≡ Some step) ⊎ IsOfSet (map (acts_at list) steps.sets) step → IsOfSet (map (acts_at list) steps.sets) step
        go (inl none) = absurd (none_some step none)
        go (inr is) = is

    from_map : (f : List ℕ → List Act) (xs : List (List ℕ)) (set : List Act) → Contains (map f xs) set → (x : List ℕ) × Contains xs x × (f x ≡ set)
    from_map f [] set c = absurd (none_there set c)
    from_map f (x ∷ xs) set c = go (among (f x) (map f xs) set c) (λ k. from_map f xs set k)
      where
        go : (f x ≡ set) ⊎ Contains (map f xs) set → (Contains (map f xs) set → (y : List ℕ) × Contains xs y × (f y ≡ set)) → (y : List ℕ) × Contains (x ∷ xs) y × (f y ≡ set)
        go (inl same) rest = (x, at_front x xs, same)
        go (inr k) rest = (let (y, d, same) = rest k in (y, behind x xs y d, same))

    has_out : (i : ℕ) (step : Step) → step_at plan.steps i ≡ Some step → step.outs ≢ []
    has_out zero step e = absurd (none_some step e)
    has_out (suc i) step e =
        let (set, c, is, inside) = its_set i step e in
        let (places, d, same) = from_map (acts_at list) steps.sets set c in
        let (first, one) = all_at (λ s. (head : ℕ) × IsSet list head s) steps.sets places steps.are.each d in
        some_out g stands ready first places step one (subst (λ (s : List Act). IsStep g stands s step) (sym same) is)

    in_roots : (i : ℕ) (step : Step) (path : Text) → Makes plan.steps i step path → IsInRoots plan.roots path
    in_roots zero step path makes = absurd (none_some step makes.at)
    in_roots (suc i) step path makes =
        let (set, c, is, inside) = its_set i step makes.at in
        let out : Contains (outs_of g stands set) path = subst (λ (l : List Text). Contains l path) is.outs makes.among in
        subst (λ (r : List Text). IsInRoots r path) (sym under) (under_root_by (roots g) path (list_all_at (is_in_roots g) (outs_of g stands set) path inside out))

    apart_by : Apart plan.steps plan.roots
    apart_by = record {
      under_root = in_roots;
      one_maker = one_maker plan.steps fit;
      no_folder = no_folder plan.steps fit;
      not_log = not_log plan.steps fit;
      not_below_log = not_below_log plan.steps fit;
      some_out = has_out;
      bin = bin_is_root g plan.roots under;
      few = few_steps [] (map (acts_at list) steps.sets) (Ok plan.steps) plan.steps steps.joins refl (omega arith);
    }

pub plan_is_apart : PlanIsApart
plan_is_apart g stands targets plan ready h = let p = planned g stands targets plan h in apart_by g stands plan ready p.steps p.under
