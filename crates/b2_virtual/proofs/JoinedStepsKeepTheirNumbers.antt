-- A step that joins has one number, the others keep theirs, all stay distinct, and one output clashes first.
use Rattle.std.proofs.Common.{◌≡◌, ℕ, ◌<◌, Bool, true, false, cond, ◌&&◌, ◌||◌, ◌⊎◌, inl, inr, ⊎_elim, suc, zero, List, [], ◌∷◌, ◌++◌, length, Some, None, slice_get, take, get_or, IsTrue, refl, ap, sym, ◌∙◌, subst, arith}
use Rattle.std.specs.Prelude.{◌↔◌, slice_index_or}
use Rattle.std.specs.Bool.{beq}
use Rattle.std.specs.List.{Contains, AllByRecursion}
use Rattle.std.specs.Str.{bytes_eq}
use Rattle.std.specs.Cmp.{first_so, second_so, booleans_Decides}
use Rattle.std.specs.Cmp.Derive.{both_true}
use Rattle.std.specs.Cmp.Lexicographic.{pointwise, pointwise_decides}
use Rattle.std.proofs.lemmas.Bool.{true≢false, cases_Bool, cond-true, cond-false}
use Rattle.std.proofs.lemmas.List.Elements.{Contains-append_cases}
use Rattle.std.proofs.lemmas.Slice.Eq.{bytes_eq-Decides}
use Rattle.b2_plan.specs.declared.step.Step.{Step}
use Rattle.b2_plan.specs.Plans.{step_at}
use Rattle.b2_virtual.specs.Joining.{is_same, stands_in, number_in, number_of, joined, AreDistinct}
use Rattle.b2_virtual.specs.Clashes.{Clashes, IsFirstClash, Fits}

-- ---- equal steps

-- the parts settle a step
one_step : (a b : Step) → a.name ≡ b.name → a.text ≡ b.text → a.outs ≡ b.outs → a.ins ≡ b.ins → a.dirs ≡ b.dirs → a.always ≡ b.always → a.notfile ≡ b.notfile → a ≡ b
one_step a b n t o i d w f = λ k. record { name = n k; text = t k; outs = o k; ins = i k; dirs = d k; always = w k; notfile = f k }

abbrev Paths : Type 0
Paths = List (List ℕ)

paths_decides : (xs ys : Paths) → (pointwise bytes_eq xs ys ≡ true → xs ≡ ys) × (xs ≡ ys → pointwise bytes_eq xs ys ≡ true)
paths_decides = pointwise_decides bytes_eq-Decides

same_step : (a b : Step) → is_same a b ≡ true → a ≡ b
unfolding is_same
same_step a b h =
    let s1 : Bool = bytes_eq a.name b.name in
    let s2 : Bool = bytes_eq a.text b.text in
    let s3 : Bool = pointwise bytes_eq a.outs b.outs in
    let s4 : Bool = pointwise bytes_eq a.ins b.ins in
    let s5 : Bool = pointwise bytes_eq a.dirs b.dirs in
    let s6 : Bool = beq a.always b.always in
    let s7 : Bool = beq a.notfile b.notfile in
    let h6 = first_so (s1 && s2 && s3 && s4 && s5 && s6) s7 h in
    let h5 = first_so (s1 && s2 && s3 && s4 && s5) s6 h6 in
    let h4 = first_so (s1 && s2 && s3 && s4) s5 h5 in
    let h3 = first_so (s1 && s2 && s3) s4 h4 in
    let h2 = first_so (s1 && s2) s3 h3 in
    one_step a b
    ((bytes_eq-Decides a.name b.name).0 (first_so s1 s2 h2))
    ((bytes_eq-Decides a.text b.text).0 (second_so s1 s2 h2))
    ((paths_decides a.outs b.outs).0 (second_so (s1 && s2) s3 h3))
    ((paths_decides a.ins b.ins).0 (second_so (s1 && s2 && s3) s4 h4))
    ((paths_decides a.dirs b.dirs).0 (second_so (s1 && s2 && s3 && s4) s5 h5))
    ((booleans_Decides a.always b.always).0 (second_so (s1 && s2 && s3 && s4 && s5) s6 h6))
    ((booleans_Decides a.notfile b.notfile).0 (second_so (s1 && s2 && s3 && s4 && s5 && s6) s7 h))

own_step : (a : Step) → is_same a a ≡ true
unfolding is_same
own_step a =
    both_true (both_true (both_true (both_true (both_true (both_true
    ((bytes_eq-Decides a.name a.name).1 refl) ((bytes_eq-Decides a.text a.text).1 refl))
    ((paths_decides a.outs a.outs).1 refl)) ((paths_decides a.ins a.ins).1 refl)) ((paths_decides a.dirs a.dirs).1 refl))
    ((booleans_Decides a.always a.always).1 refl)) ((booleans_Decides a.notfile a.notfile).1 refl)

pub same_is_equal : (a b : Step) → IsTrue (is_same a b) ↔ (a ≡ b)
same_is_equal a b = (same_step a b, λ e. subst (λ (s : Step). is_same a s ≡ true) e (own_step a))

-- ---- numbers

-- a step stands one place later after a further first step
pub later : (first : Step) (more : List Step) (n : ℕ) (step : Step) → step_at more n ≡ Some step → step_at (first ∷ more) (suc n) ≡ Some step
later first more zero step e = let bad : None ≡ Some step = e in cc
later first more (suc n) step e = e

get_front : (steps more : List Step) (k : ℕ) (step : Step) → slice_get steps k ≡ Some step → slice_get (steps ++ more) k ≡ Some step
get_front [] more k step e = let bad : None ≡ Some step = e in cc
get_front (s ∷ steps) more zero step e = e
get_front (s ∷ steps) more (suc k) step e = get_front steps more k step e

pub at_front : (steps more : List Step) (n : ℕ) (step : Step) → step_at steps n ≡ Some step → step_at (steps ++ more) n ≡ Some step
at_front steps more zero step e = let bad : None ≡ Some step = e in cc
at_front steps more (suc n) step e = get_front steps more n step e

get_end : (steps : List Step) (step : Step) → slice_get (steps ++ step ∷ []) (length steps) ≡ Some step
get_end [] step = refl
get_end (s ∷ steps) step = get_end steps step

pub at_end : (steps : List Step) (step : Step) → step_at (steps ++ step ∷ []) (suc (length steps)) ≡ Some step
at_end steps step = get_end steps step

get_cases : (steps : List Step) (step other : Step) (k : ℕ) → slice_get (steps ++ step ∷ []) k ≡ Some other → (slice_get steps k ≡ Some other) ⊎ ((k ≡ length steps) × (step ≡ other))
get_cases [] step other zero e = let one : Some step ≡ Some other = e in let same : step ≡ other = cc in inr (refl, same)
get_cases [] step other (suc k) e = let bad : None ≡ Some other = e in cc
get_cases (s ∷ steps) step other zero e = inl e
get_cases (s ∷ steps) step other (suc k) e =
    ⊎_elim (λ (h : slice_get steps k ≡ Some other). inl h) (λ (h : (k ≡ length steps) × (step ≡ other)). inr (ap suc h.0, h.1)) (get_cases steps step other k e)

-- a step of the longer list is one of the shorter one, or the last
pub at_cases : (steps : List Step) (step other : Step) (n : ℕ) → step_at (steps ++ step ∷ []) n ≡ Some other → (step_at steps n ≡ Some other) ⊎ ((n ≡ suc (length steps)) × (step ≡ other))
at_cases steps step other zero e = let bad : None ≡ Some other = e in cc
at_cases steps step other (suc n) e =
    ⊎_elim (λ (h : slice_get steps n ≡ Some other). inl h) (λ (h : (n ≡ length steps) × (step ≡ other)). inr (ap suc h.0, h.1)) (get_cases steps step other n e)

-- ---- a step that stands

or_false : (a b : Bool) → a ≡ false → (a || b) ≡ b
or_false a b e = ap (λ x. x || b) e

pub found : (steps : List Step) (step : Step) → stands_in steps step ≡ true → step_at steps (number_in steps step) ≡ Some step
found [] step h = absurd (true≢false (sym h))
found (first ∷ more) step h =
    elim (cases_Bool (is_same step first)) [
      | inl same ↦
          subst (λ n. step_at (first ∷ more) n ≡ Some step) (sym (cond-true (is_same step first) 1 (suc (number_in more step)) same))
          (ap Some (sym (same_step step first same)))
      | inr other ↦
          subst (λ n. step_at (first ∷ more) n ≡ Some step) (sym (cond-false (is_same step first) 1 (suc (number_in more step)) other))
          (later first more (number_in more step) step (found more step (sym (or_false (is_same step first) (stands_in more step) other) ∙ h)))
    ]

or_left : (a b : Bool) → (a || b) ≡ false → a ≡ false
or_left true b h = h
or_left false b h = refl

pub absent : (steps : List Step) (step : Step) → stands_in steps step ≡ false → number_in steps step ≡ suc (length steps)
absent [] step h = refl
absent (first ∷ more) step h =
    let other : is_same step first ≡ false = or_left (is_same step first) (stands_in more step) h in
    cond-false (is_same step first) 1 (suc (number_in more step)) other
    ∙ ap suc (absent more step (sym (or_false (is_same step first) (stands_in more step) other) ∙ h))

or_true_right : (a b : Bool) → b ≡ true → (a || b) ≡ true
or_true_right true b h = refl
or_true_right false b h = h

-- a step that has a number stands
pub stands : (steps : List Step) (n : ℕ) (step : Step) → step_at steps n ≡ Some step → stands_in steps step ≡ true
stands steps zero step e = let bad : None ≡ Some step = e in cc
stands [] (suc n) step e = let bad : None ≡ Some step = e in cc
stands (first ∷ more) (suc zero) step e =
    let one : Some first ≡ Some step = e in
    let same : first ≡ step = cc in
    ap (λ b. b || stands_in more step) (subst (λ (s : Step). is_same step s ≡ true) (sym same) (own_step step))
stands (first ∷ more) (suc (suc n)) step e = or_true_right (is_same step first) (stands_in more step) (stands more (suc n) step e)

-- ---- the laws

pub number_own : (steps : List Step) (step : Step) → step_at (joined steps step) (number_in steps step) ≡ Some step
number_own steps step =
    elim (cases_Bool (stands_in steps step)) [
      | inl h ↦ subst (λ (l : List Step). step_at l (number_in steps step) ≡ Some step) (sym (cond-true (stands_in steps step) steps (steps ++ step ∷ []) h)) (found steps step h)
      | inr h ↦
          subst (λ (l : List Step). step_at l (number_in steps step) ≡ Some step) (sym (cond-false (stands_in steps step) steps (steps ++ step ∷ []) h))
          (subst (λ n. step_at (steps ++ step ∷ []) n ≡ Some step) (sym (absent steps step h)) (at_end steps step))
    ]

pub numbers_stay : (steps : List Step) (step other : Step) (n : ℕ) → step_at steps n ≡ Some other → step_at (joined steps step) n ≡ Some other
numbers_stay steps step other n e =
    elim (cases_Bool (stands_in steps step)) [
      | inl h ↦ subst (λ (l : List Step). step_at l n ≡ Some other) (sym (cond-true (stands_in steps step) steps (steps ++ step ∷ []) h)) e
      | inr h ↦ subst (λ (l : List Step). step_at l n ≡ Some other) (sym (cond-false (stands_in steps step) steps (steps ++ step ∷ []) h)) (at_front steps (step ∷ []) n other e)
    ]

stands_after : (steps : List Step) (step : Step) → stands_in (joined steps step) step ≡ true
stands_after steps step = stands (joined steps step) (number_in steps step) step (number_own steps step)

pub again_same : (steps : List Step) (step : Step) → joined (joined steps step) step ≡ joined steps step
again_same steps step = cond-true (stands_in (joined steps step) step) (joined steps step) (joined steps step ++ step ∷ []) (stands_after steps step)

number_end : (steps : List Step) (step : Step) → stands_in steps step ≡ false → number_in (steps ++ step ∷ []) step ≡ suc (length steps)
number_end [] step h = cond-true (is_same step step) 1 2 (own_step step)
number_end (first ∷ more) step h =
    let other : is_same step first ≡ false = or_left (is_same step first) (stands_in more step) h in
    cond-false (is_same step first) 1 (suc (number_in (more ++ step ∷ []) step)) other
    ∙ ap suc (number_end more step (sym (or_false (is_same step first) (stands_in more step) other) ∙ h))

pub again_number : (steps : List Step) (step : Step) → number_in (joined steps step) step ≡ number_in steps step
again_number steps step =
    elim (cases_Bool (stands_in steps step)) [
      | inl h ↦ ap (λ (l : List Step). number_in l step) (cond-true (stands_in steps step) steps (steps ++ step ∷ []) h)
      | inr h ↦ ap (λ (l : List Step). number_in l step) (cond-false (stands_in steps step) steps (steps ++ step ∷ []) h) ∙ number_end steps step h ∙ sym (absent steps step h)
    ]

-- a new step differs from those that stand
pub distinct_joined : (steps : List Step) (step : Step) → stands_in steps step ≡ false → AreDistinct steps → AreDistinct (steps ++ step ∷ [])
distinct_joined steps step h d i k other a b = go (at_cases steps step other i a) (at_cases steps step other k b)
  where
    never : (n : ℕ) → step_at steps n ≡ Some other → step ≡ other → ⊥
    never n at same = true≢false (sym (stands steps n step (at ∙ ap Some (sym same))) ∙ h)

    go : (step_at steps i ≡ Some other) ⊎ ((i ≡ suc (length steps)) × (step ≡ other)) → (step_at steps k ≡ Some other) ⊎ ((k ≡ suc (length steps)) × (step ≡ other)) → i ≡ k
    go (inl one) (inl two) = d i k other one two
    go (inl one) (inr two) = absurd (never i one two.1)
    go (inr one) (inl two) = absurd (never k two one.1)
    go (inr one) (inr two) = one.0 ∙ sym two.0

pub stays_distinct : (steps : List Step) (step : Step) → AreDistinct steps → AreDistinct (joined steps step)
stays_distinct steps step d =
    elim (cases_Bool (stands_in steps step)) [
      | inl h ↦ subst AreDistinct (sym (cond-true (stands_in steps step) steps (steps ++ step ∷ []) h)) d
      | inr h ↦ subst AreDistinct (sym (cond-false (stands_in steps step) steps (steps ++ step ∷ []) h)) (distinct_joined steps step h d)
    ]

-- what the number of an equal step says

pub stands_for : (steps : List Step) (step : Step) (n : ℕ) → number_of steps step ≡ Some n → (stands_in steps step ≡ true) × (number_in steps step ≡ n)
stands_for steps step n e = go (stands_in steps step) refl e
  where
    go : (b : Bool) → stands_in steps step ≡ b → cond b (Some (number_in steps step)) None ≡ Some n → (stands_in steps step ≡ true) × (number_in steps step ≡ n)
    go true h e = let same : number_in steps step ≡ n = cc in (h, same)
    go false h e = cc

pub stands_not : (steps : List Step) (step : Step) → number_of steps step ≡ None → stands_in steps step ≡ false
stands_not steps step e = go (stands_in steps step) refl e
  where
    go : (b : Bool) → stands_in steps step ≡ b → cond b (Some (number_in steps step)) None ≡ None → stands_in steps step ≡ false
    go true h e = cc
    go false h e = h

-- the first equal step, as a walk finds it
pub found_at : (steps : List Step) (step : Step) (k : ℕ) (d : Step) → k < length steps → stands_in (take k steps) step ≡ false → is_same step (get_or steps k d) ≡ true → number_of steps step ≡ Some (suc k)
found_at steps step k d low none same =
    cond-true (stands_in steps step) (Some (number_in steps step)) None (passes steps k low same) ∙ ap Some (number steps k low none same)
  where
    passes : (l : List Step) (j : ℕ) → j < length l → is_same step (get_or l j d) ≡ true → stands_in l step ≡ true
    passes [] j h e = absurd (omega (arith, h))
    passes (s ∷ l) zero h e = ap (λ b. b || stands_in l step) e
    passes (s ∷ l) (suc j) h e = or_true_right (is_same step s) (stands_in l step) (passes l j (omega (arith, h)) e)

    number : (l : List Step) (j : ℕ) → j < length l → stands_in (take j l) step ≡ false → is_same step (get_or l j d) ≡ true → number_in l step ≡ suc j
    number [] j h n e = absurd (omega (arith, h))
    number (s ∷ l) zero h n e = cond-true (is_same step s) 1 (suc (number_in l step)) e
    number (s ∷ l) (suc j) h n e =
        let other : is_same step s ≡ false = or_left (is_same step s) (stands_in (take j l) step) n in
        cond-false (is_same step s) 1 (suc (number_in l step)) other
        ∙ ap suc (number l j (omega (arith, h)) (sym (or_false (is_same step s) (stands_in (take j l) step) other) ∙ n) e)

pub found_nowhere : (steps : List Step) (step : Step) → stands_in steps step ≡ false → number_of steps step ≡ None
found_nowhere steps step h = cond-false (stands_in steps step) (Some (number_in steps step)) None h

the_only : (step other : Step) → Contains (step ∷ []) other → other ≡ step
the_only step other c = go c.0 c.1 c.2
  where
    go : (k : ℕ) → k < 1 → slice_index_or (step ∷ []) k other ≡ other → other ≡ step
    go zero h e = sym e
    go (suc k) h e = absurd (omega (arith, h))

pub nothing_else : (steps : List Step) (step other : Step) → Contains (joined steps step) other → Contains steps other ⊎ (other ≡ step)
nothing_else steps step other c =
    elim (cases_Bool (stands_in steps step)) [
      | inl h ↦ inl (subst (λ (l : List Step). Contains l other) (cond-true (stands_in steps step) steps (steps ++ step ∷ []) h) c)
      | inr h ↦
          ⊎_elim (λ (a : Contains steps other). inl a) (λ (b : Contains (step ∷ []) other). inr (the_only step other b))
          (Contains-append_cases steps (step ∷ []) other (subst (λ (l : List Step). Contains l other) (cond-false (stands_in steps step) steps (steps ++ step ∷ []) h) c))
    ]

-- ---- the first that clashes

first_one : (P : List ℕ → Type 0) (a b : Paths) (p q : List ℕ) (c d : Paths) → a ++ p ∷ c ≡ b ++ q ∷ d → AllByRecursion (λ x. P x → ⊥) a → AllByRecursion (λ x. P x → ⊥) b → P p → P q → p ≡ q
first_one P [] [] p q c d e na nb hp hq = cc
first_one P [] (y ∷ b) p q c d e na nb hp hq = let same : p ≡ y = cc in absurd (nb.0 (subst P same hp))
first_one P (x ∷ a) [] p q c d e na nb hp hq = let same : q ≡ x = cc in absurd (na.0 (subst P same hq))
first_one P (x ∷ a) (y ∷ b) p q c d e na nb hp hq = let rest : a ++ p ∷ c ≡ b ++ q ∷ d = cc in first_one P a b p q c d rest na.1 nb.1 hp hq

pub one_clash : (steps : List Step) (step : Step) (path other : List ℕ) → IsFirstClash steps step path → IsFirstClash steps step other → path ≡ other
one_clash steps step path other f g =
    first_one (Clashes steps step) f.before g.before path other f.after g.after (sym f.outs_are ∙ g.outs_are) f.none_before g.none_before f.clashes g.clashes

none_within : (P : List ℕ → Type 0) (a : Paths) (p : List ℕ) (c : Paths) → AllByRecursion (λ x. P x → ⊥) (a ++ p ∷ c) → P p → ⊥
none_within P [] p c n h = n.0 h
none_within P (x ∷ a) p c n h = none_within P a p c n.1 h

pub fitting_none : (steps : List Step) (step : Step) (path : List ℕ) → Fits steps step → IsFirstClash steps step path → ⊥
fitting_none steps step path fits f =
    none_within (Clashes steps step) f.before path f.after (subst (AllByRecursion (λ out. Clashes steps step out → ⊥)) f.outs_are fits) f.clashes
