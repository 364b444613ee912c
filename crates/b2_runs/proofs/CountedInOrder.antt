use Rattle.std.proofs.Common.{◌≡◌, ◌==◌, ℕ, ◌+◌, Bool, true, false, not, ◌&&◌, ◌||◌, List, [], ◌∷◌, ◌++◌, ◌⊎◌, inl, inr, refl, sym, ap, subst, ◌∙◌, arith, count_by, eqb-true}
use Rattle.std.specs.List.{Contains}
use Rattle.std.proofs.lemmas.Bool.Decides.{Decides-eqb}
use Rattle.b2_base.specs.Numbers.{is_among}
use Rattle.b2_host.specs.declared.children.ChildEvent.{ChildEvent}
use Rattle.b2_host.specs.declared.children.ChildEvent.TheVariants.{Start, Done}
use Rattle.b2_plan.specs.declared.step.Step.{Step}
use Rattle.b2_runs.specs.Events.{is_start, is_done, MayFollow, FollowFrom, counted, as_counted}
use Rattle.b2_runs.specs.EventLaws.{CountedInOrder, BadByCount, GoodByCount, CountedAsTheyAre, CountedWhereVisible, ShortIsFailed, ShortOwesFiles}
use Rattle.b2_runs.proofs.FirstElementOrLater.{Contains_here, Contains_there, Contains_cases, Contains_nil}
use Rattle.b2_runs.proofs.NumberHasOneStep.{one_step}
use Rattle.b2_runs.proofs.OneEventMore.{count_first}

counted_in : (short : List ℕ) (events : List ChildEvent) (e : ChildEvent) → Contains events e → Contains (as_counted short events) (counted short e)
counted_in short [] e c = absurd (Contains_nil e c)
counted_in short (x ∷ xs) e c = elim (Contains_cases x e xs c) [
  | inl same ↦ subst (λ z. Contains (as_counted short (x ∷ xs)) (counted short z)) same (Contains_here (counted short x) (as_counted short xs))
  | inr d ↦ Contains_there (counted short x) (counted short e) (as_counted short xs) (counted_in short xs e d)
]

counted_out : (short : List ℕ) (events : List ChildEvent) (x : ChildEvent) → Contains (as_counted short events) x → (e : ChildEvent) × Contains events e × (counted short e ≡ x)
counted_out short [] x c = absurd (Contains_nil x c)
counted_out short (y ∷ ys) x c = elim (Contains_cases (counted short y) x (as_counted short ys) c) [
  | inl same ↦ (y, Contains_here y ys, same)
  | inr d ↦ (let (e, there, same) = counted_out short ys x d in (e, Contains_there y e ys there, same))
]

-- a start counts as it is
start_out : (short : List ℕ) (events : List ChildEvent) (i : ℕ) → Contains (as_counted short events) (Start i) → Contains events (Start i)
start_out short events i c = let (e, there, same) = counted_out short events (Start i) c in go e there same
  where
    go : (e : ChildEvent) → Contains events e → counted short e ≡ Start i → Contains events (Start i)
    go (Start k) there same = subst (Contains events) same there
    go (Done k w) there same = absurd (let f : Done k (w && not (is_among short k)) ≡ Start i = same in cc)

-- an end counts as an end
done_out : (short : List ℕ) (events : List ChildEvent) (i : ℕ) (well : Bool) → Contains (as_counted short events) (Done i well) → (w : Bool) × Contains events (Done i w) × ((w && not (is_among short i)) ≡ well)
done_out short events i well c = let (e, there, same) = counted_out short events (Done i well) c in go e there same
  where
    go : (e : ChildEvent) → Contains events e → counted short e ≡ Done i well → (w : Bool) × Contains events (Done i w) × ((w && not (is_among short i)) ≡ well)
    go (Start k) there same = absurd (let f : Start k ≡ Done i well = same in cc)
    go (Done k w) there same =
        let f : Done k (w && not (is_among short k)) ≡ Done i well = same in
        let number : k ≡ i = cc in
        let kind : (w && not (is_among short k)) ≡ well = cc in
        (w, subst (λ j. Contains events (Done j w)) number there, subst (λ j. (w && not (is_among short j)) ≡ well) number kind)

start_count : (short : List ℕ) (events : List ChildEvent) → count_by is_start (as_counted short events) ≡ count_by is_start events
start_count short [] = refl
start_count short (Start i ∷ events) = count_first is_start (as_counted short events) (Start i) ∙ ap (λ n. 1 + n) (start_count short events) ∙ sym (count_first is_start events (Start i))
start_count short (Done i well ∷ events) =
    count_first is_start (as_counted short events) (counted short (Done i well)) ∙ ap (λ n. 0 + n) (start_count short events) ∙ sym (count_first is_start events (Done i well))

done_count : (short : List ℕ) (events : List ChildEvent) → count_by is_done (as_counted short events) ≡ count_by is_done events
done_count short [] = refl
done_count short (Start i ∷ events) = count_first is_done (as_counted short events) (Start i) ∙ ap (λ n. 0 + n) (done_count short events) ∙ sym (count_first is_done events (Start i))
done_count short (Done i well ∷ events) =
    count_first is_done (as_counted short events) (counted short (Done i well)) ∙ ap (λ n. 1 + n) (done_count short events) ∙ sym (count_first is_done events (Done i well))

follows_counted : (steps : List Step) (jobs : ℕ) (short : List ℕ) (before : List ChildEvent) (e : ChildEvent) → MayFollow steps jobs before e → MayFollow steps jobs (as_counted short before) (counted short e)
follows_counted steps jobs short before (Start i) (new, room, there) = (λ c. new (start_out short before i c), (let f = start_count short before in let g = done_count short before in omega (arith, room)), there)
follows_counted steps jobs short before (Done i well) (begun, going) = (counted_in short before (Start i) begun, λ w c. let (v, there, kind) = done_out short before i w c in going v there)

counted_append : (short : List ℕ) (before : List ChildEvent) (e : ChildEvent) → as_counted short before ++ counted short e ∷ [] ≡ as_counted short (before ++ e ∷ [])
counted_append short [] e = refl
counted_append short (x ∷ xs) e = ap (λ (l : List ChildEvent). counted short x ∷ l) (counted_append short xs e)

counted_along : (steps : List Step) (jobs : ℕ) (short : List ℕ) (before events : List ChildEvent) → FollowFrom steps jobs before events → FollowFrom steps jobs (as_counted short before) (as_counted short events)
counted_along steps jobs short before [] r = tt
counted_along steps jobs short before (e ∷ events) (m, r) = (follows_counted steps jobs short before e m, subst (λ es. FollowFrom steps jobs es (as_counted short events)) (sym (counted_append short before e)) (counted_along steps jobs short (before ++ e ∷ []) events r))

pub counted_in_order : CountedInOrder
counted_in_order steps jobs short events r = counted_along steps jobs short [] events r

-- whether a number is among others
among_cases : (i x : ℕ) (xs : List ℕ) (t : Bool) → (x == i) ≡ t → (t || is_among xs i) ≡ true → (is_among xs i ≡ true → Contains xs i) → Contains (x ∷ xs) i
among_cases i x xs true e f later = subst (λ z. Contains (x ∷ xs) z) (eqb-true x i e) (Contains_here x xs)
among_cases i x xs false e f later = Contains_there x i xs (later f)

among_in : (i : ℕ) (xs : List ℕ) → is_among xs i ≡ true → Contains xs i
among_in i [] e = absurd (let f : false ≡ true = e in cc)
among_in i (x ∷ xs) e = among_cases i x xs (x == i) refl e (among_in i xs)

or_true : (a b : Bool) → b ≡ true → (a || b) ≡ true
or_true true b e = refl
or_true false b e = e

among_from : (i : ℕ) (xs : List ℕ) → Contains xs i → is_among xs i ≡ true
among_from i [] c = absurd (Contains_nil i c)
among_from i (x ∷ xs) c = elim (Contains_cases x i xs c) [
  | inl same ↦ (let e : (x == i) ≡ true = (Decides-eqb x i).1 same in ap (λ t. t || is_among xs i) e)
  | inr d ↦ or_true (x == i) (is_among xs i) (among_from i xs d)
]

pub bad_by_count : BadByCount
bad_by_count short events i = (there, here)
  where
    there : Contains (as_counted short events) (Done i false) → Contains events (Done i false) ⊎ (Contains events (Done i true) × Contains short i)
    there c = let (w, d, kind) = done_out short events i false c in go w d kind
      where
        go : (w : Bool) → Contains events (Done i w) → (w && not (is_among short i)) ≡ false → Contains events (Done i false) ⊎ (Contains events (Done i true) × Contains short i)
        go false d kind = inl d
        go true d kind = inr (d, among_in i short (turn (is_among short i) kind))
          where
            turn : (t : Bool) → not t ≡ false → t ≡ true
            turn true e = refl
            turn false e = absurd (let f : true ≡ false = e in cc)

    here : Contains events (Done i false) ⊎ (Contains events (Done i true) × Contains short i) → Contains (as_counted short events) (Done i false)
    here (inl c) = counted_in short events (Done i false) c
    here (inr (c, s)) = subst (λ t. Contains (as_counted short events) (Done i (not t))) (among_from i short s) (counted_in short events (Done i true) c)

pub good_by_count : GoodByCount
good_by_count short events i = (there, here)
  where
    turn : (t : Bool) → not t ≡ true → t ≡ true → ⊥
    turn true e s = let f : false ≡ true = e in cc
    turn false e s = let f : false ≡ true = s in cc

    there : Contains (as_counted short events) (Done i true) → Contains events (Done i true) × (Contains short i → ⊥)
    there c = let (w, d, kind) = done_out short events i true c in go w d kind
      where
        go : (w : Bool) → Contains events (Done i w) → (w && not (is_among short i)) ≡ true → Contains events (Done i true) × (Contains short i → ⊥)
        go false d kind = absurd (let f : false ≡ true = kind in cc)
        go true d kind = (d, λ s. turn (is_among short i) kind (among_from i short s))

    none : (t : Bool) → is_among short i ≡ t → (Contains short i → ⊥) → Contains events (Done i true) → Contains (as_counted short events) (Done i true)
    none true e differ c = absurd (differ (among_in i short e))
    none false e differ c = subst (λ t. Contains (as_counted short events) (Done i (not t))) e (counted_in short events (Done i true) c)

    here : Contains events (Done i true) × (Contains short i → ⊥) → Contains (as_counted short events) (Done i true)
    here (c, differ) = none (is_among short i) refl differ c

and_true : (w : Bool) → (w && true) ≡ w
and_true true = refl
and_true false = refl

pub counted_as_they_are : CountedAsTheyAre
counted_as_they_are [] = refl
counted_as_they_are (Start i ∷ events) = ap (λ (l : List ChildEvent). Start i ∷ l) (counted_as_they_are events)
counted_as_they_are (Done i well ∷ events) = let first = and_true well in let rest = counted_as_they_are events in λ k. Done i (first k) ∷ rest k

pub counted_where_visible : CountedWhereVisible
counted_where_visible disk short events none = ap (λ (l : List ℕ). as_counted l events) none ∙ counted_as_they_are events

pub short_is_failed : ShortIsFailed
short_is_failed steps events short i are c = (bad_by_count short events i).1 (inr ((are i c).0, c))

pub short_owes_files : ShortOwesFiles
short_owes_files steps events short i step are at none c =
    let (other, at_other, file) = (are i c).1 in
    let same : other ≡ step = one_step steps i other step at_other at in
    let f : true ≡ false = sym none ∙ ap (λ (s : Step). s.notfile) (sym same) ∙ file in
    cc
