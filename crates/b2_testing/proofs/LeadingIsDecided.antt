-- Whether a step leads to a failed one is decided, and so is each verdict.
use Rattle.std.proofs.Common.{◌≡◌, ◌⊎◌, inl, inr, ℕ, zero, suc, ◌+◌, ◌<◌, Bool, true, false, List, [], ◌∷◌, length, Option, Some, None, refl, sym, ◌∙◌, subst, arith}
use Rattle.std.specs.List.{Contains, list_any}
use Rattle.std.specs.Str.{bytes_eq}
use Rattle.std.specs.Cmp.Lexicographic.{nat_list_eq_equiv}
use Rattle.std.proofs.lemmas.Bool.{cases_eq}
use Rattle.std.proofs.lemmas.List.Folds.{Any-from_list_any}
use Rattle.std.proofs.lemmas.Map.Views.{list_any-from_Contains}
use Rattle.b2_plan.specs.declared.step.Step.{Step}
use Rattle.b2_plan.specs.Plans.{Makes, step_at}
use Rattle.b2_reach.proofs.FoundMakerMakesPath.{same_bytes}
use Rattle.b2_runs.specs.Reports.{Lists}
use Rattle.b2_runs.specs.UpdateAnswers.{all_went, failed, step_cycle, too_big, host_fault, sink_fault, out_of_memory}
use Rattle.b2_runs.proofs.FirstElementOrLater.{Contains_here, Contains_there, Contains_cases}
use Rattle.b2_runs.proofs.NumberHasOneStep.{one_step}
use Rattle.b2_sched.proofs.DependentsWakeOneByOne.{none_in_empty}
use Rattle.b2_testing.proofs.LeadingIsReached.{number_within}
use Rattle.b2_testing.specs.declared.verdict.Verdict.{Verdict}
use Rattle.b2_testing.specs.declared.verdict.Verdict.TheVariants.{Passed, Failed, NotRun}
use Rattle.b2_testing.specs.Verdicts.{Reaches, here, on, IsJudgedBy, has_passed, has_failed, was_not_run}
use Rattle.b2_testing.specs.Laws.{IsJudged}

abbrev Decided : Type 0 → Type 0
Decided A = A ⊎ (A → ⊥)

-- ---- of lists and numbers

either : (A B : Type 0) → Decided A → Decided B → Decided (A ⊎ B)
either A B (inl a) d = inl (inl a)
either A B (inr no_a) (inl b) = inl (inr b)
either A B (inr no_a) (inr no_b) = inr neither
  where
    neither : A ⊎ B → ⊥
    neither (inl a) = no_a a
    neither (inr b) = no_b b

both : (A B : Type 0) → Decided A → Decided B → Decided (A × B)
both A B (inl a) (inl b) = inl (a, b)
both A B (inl a) (inr no_b) = inr (λ p. no_b p.1)
both A B (inr no_a) d = inr (λ p. no_a p.0)

some_of : (X : Type 0) (P : X → Type 0) → ((x : X) → Decided (P x)) → (xs : List X) → Decided ((x : X) × Contains xs x × P x)
some_of X P each [] = inr (λ found. none_in_empty found.0 found.1)
some_of X P each (x ∷ xs) = go (each x) (some_of X P each xs)
  where
    go : Decided (P x) → Decided ((y : X) × Contains xs y × P y) → Decided ((y : X) × Contains (x ∷ xs) y × P y)
    go (inl p) more = inl (x, Contains_here x xs, p)
    go (inr no_p) (inl (y, among, p)) = inl (y, Contains_there x y xs among, p)
    go (inr no_p) (inr none) = inr (λ found. elim (Contains_cases x found.0 xs found.1) [ inl e ↦ no_p (subst P (sym e) found.2) | inr among ↦ none (found.0, among, found.2) ])

some_below : (P : ℕ → Type 0) → ((k : ℕ) → Decided (P k)) → (n : ℕ) → Decided ((k : ℕ) × (k < n) × P k)
some_below P each zero = inr (λ found. absurd (omega (arith, found.1)))
some_below P each (suc n) = go (each n) (some_below P each n)
  where
    go : Decided (P n) → Decided ((k : ℕ) × (k < n) × P k) → Decided ((k : ℕ) × (k < suc n) × P k)
    go (inl p) more = inl (n, omega arith, p)
    go (inr no_p) (inl (k, w, p)) = inl (k, omega (arith, w), p)
    go (inr no_p) (inr none) = inr (λ found. elim (cases_eq found.0 n) [ inl e ↦ no_p (subst P e found.2) | inr ne ↦ none (found.0, omega (arith, found.1, ne), found.2) ])

listed : (path : List ℕ) (paths : List (List ℕ)) → Decided (Contains paths path)
listed path paths = go (list_any (bytes_eq path) paths) refl
  where
    go : (b : Bool) → list_any (bytes_eq path) paths ≡ b → Decided (Contains paths path)
    go true has = let (k, x, h, at, is) = Any-from_list_any (bytes_eq path) paths has in inl (subst (λ (z : List ℕ). Contains paths z) (sym (same_bytes path x is)) (k, h, at))
    go false has = inr (λ c. (let there = list_any-from_Contains nat_list_eq_equiv path paths c in let g : true ≡ false = sym there ∙ has in cc))

numbered : (m : ℕ) (numbers : List ℕ) → Decided (Contains numbers m)
numbered m numbers = elim (some_of ℕ (λ k. k ≡ m) (λ k. cases_eq k m) numbers) [ inl found ↦ inl (subst (Contains numbers) found.2 found.1) | inr none ↦ inr (λ c. none (m, c, refl)) ]

-- ---- of steps

-- a step has an output of another one among its declared inputs
record Feeds (steps : List Step) (i k : ℕ) : Type 0 where
  step : Step
  at : step_at steps i ≡ Some step
  path : List ℕ
  among : Contains step.ins path
  other : Step
  makes : Makes steps k other path

not_there : {X : Type 0} (x : X) → None ≡ Some x → ⊥
not_there x e = cc

feeds_or_not : (steps : List Step) (i k : ℕ) → Decided (Feeds steps i k)
feeds_or_not steps i k = go (step_at steps i) refl (step_at steps k) refl
  where
    by : (step other : Step) → step_at steps i ≡ Some step → step_at steps k ≡ Some other → Decided ((path : List ℕ) × Contains step.ins path × Contains other.outs path) → Decided (Feeds steps i k)
    by step other at made (inl (path, among, out)) = inl (record { step = step; at = at; path = path; among = among; other = other; makes = record { at = made; among = out } })
    by step other at made (inr none) = inr (λ f. none (
      f.path,
      subst (λ (s : Step). Contains s.ins f.path) (one_step steps i f.step step f.at at) f.among,
      subst (λ (s : Step). Contains s.outs f.path) (one_step steps k f.other other f.makes.at made) f.makes.among,
    ))

    go : (first : Option Step) → step_at steps i ≡ first → (second : Option Step) → step_at steps k ≡ second → Decided (Feeds steps i k)
    go None e second d = inr (λ f. not_there f.step (sym e ∙ f.at))
    go (Some step) e None d = inr (λ f. not_there f.other (sym d ∙ f.makes.at))
    go (Some step) e (Some other) d = by step other e d (some_of (List ℕ) (λ path. Contains other.outs path) (λ path. listed path other.outs) step.ins)

-- a step leads to another one through steps below a number
abbrev Joins : List Step → ℕ → ℕ → ℕ → Type 0
Joins steps zero i k = Feeds steps i k
Joins steps (suc m) i k = Joins steps m i k ⊎ (Joins steps m i m × Joins steps m m k)

joins_or_not : (steps : List Step) (m i k : ℕ) → Decided (Joins steps m i k)
joins_or_not steps zero i k = feeds_or_not steps i k
joins_or_not steps (suc m) i k =
    either (Joins steps m i k) (Joins steps m i m × Joins steps m m k) (joins_or_not steps m i k) (both (Joins steps m i m) (Joins steps m m k) (joins_or_not steps m i m) (joins_or_not steps m m k))

feeds_joins : (steps : List Step) (m i k : ℕ) → Feeds steps i k → Joins steps m i k
feeds_joins steps zero i k f = f
feeds_joins steps (suc m) i k f = inl (feeds_joins steps m i k f)

-- what leads to a step, and on from it, leads on; by one number more
module _ (steps : List Step) (m : ℕ) where
  to_last : (i : ℕ) → Joins steps (suc m) i m → Joins steps m i m
  to_last i (inl p) = p
  to_last i (inr p) = p.0

  from_last : (k : ℕ) → Joins steps (suc m) m k → Joins steps m m k
  from_last k (inl p) = p
  from_last k (inr p) = p.1

  on_below : (i j k : ℕ) → ((a b : ℕ) → Joins steps m a j → Joins steps m j b → Joins steps m a b) → Joins steps (suc m) i j → Joins steps (suc m) j k → Joins steps (suc m) i k
  on_below i j k goes (inl p) (inl q) = inl (goes i k p q)
  on_below i j k goes (inl p) (inr q) = inr (goes i m p q.0, q.1)
  on_below i j k goes (inr p) (inl q) = inr (p.0, goes m k p.1 q)
  on_below i j k goes (inr p) (inr q) = inr (p.0, q.1)

joins_on : (steps : List Step) (m i j k : ℕ) → j < m → Joins steps m i j → Joins steps m j k → Joins steps m i k
joins_on steps zero i j k w a b = absurd (omega (arith, w))
joins_on steps (suc m) i j k w a b = go (cases_eq j m) (λ v x y p q. joins_on steps m x j y v p q)
  where
    go : (j ≡ m) ⊎ (j ≡ m → ⊥) → (j < m → (x y : ℕ) → Joins steps m x j → Joins steps m j y → Joins steps m x y) → Joins steps (suc m) i k
    go (inl e) goes = inr (to_last steps m i (subst (λ (n : ℕ). Joins steps (suc m) i n) e a), from_last steps m k (subst (λ (n : ℕ). Joins steps (suc m) n k) e b))
    go (inr ne) goes = on_below steps m i j k (goes (omega (arith, w, ne))) a b

-- a step leads to a failed one
module _ (steps : List Step) (bad : List ℕ) where
  joins_leads : (m i k : ℕ) → Joins steps m i k → Reaches steps bad k → Reaches steps bad i
  joins_leads zero i k f leads = on i f.step f.path k f.other f.at f.among f.makes leads
  joins_leads (suc m) i k (inl p) leads = joins_leads m i k p leads
  joins_leads (suc m) i k (inr p) leads = joins_leads m i m p.0 (joins_leads m m k p.1 leads)

  abbrev LeadsBelow : ℕ → Type 0
  LeadsBelow i = (k : ℕ) × (k < length steps + 1) × (Contains bad k × Joins steps (length steps + 1) i k)

  leads_below : (i : ℕ) → Reaches steps bad i → Contains bad i ⊎ LeadsBelow i
  leads_below i (here j c) = inl c
  leads_below i (on j step path k other at among makes leads) = inr (go (leads_below k leads))
    where
      w : k < length steps + 1
      w = let n = number_within steps k other makes.at in omega arith

      first : Joins steps (length steps + 1) i k
      first = feeds_joins steps (length steps + 1) i k (record { step = step; at = at; path = path; among = among; other = other; makes = makes })

      go : Contains bad k ⊎ LeadsBelow k → LeadsBelow i
      go (inl c) = (k, w, (c, first))
      go (inr (l, v, (c, more))) = (l, v, (c, joins_on steps (length steps + 1) i k l w first more))

  pub leads_or_not : (i : ℕ) → Decided (Reaches steps bad i)
  leads_or_not i = go (numbered i bad) (some_below (λ k. Contains bad k × Joins steps (length steps + 1) i k) (λ k. both (Contains bad k) (Joins steps (length steps + 1) i k) (numbered k bad) (joins_or_not steps (length steps + 1) i k)) (length steps + 1))
    where
      go : Decided (Contains bad i) → Decided (LeadsBelow i) → Decided (Reaches steps bad i)
      go (inl c) below = inl (here i c)
      go (inr fine) (inl (k, w, (c, joins))) = inl (joins_leads (length steps + 1) i k joins (here k c))
      go (inr fine) (inr none) = inr (λ leads. elim (leads_below i leads) [ inl c ↦ fine c | inr found ↦ none found ])

-- ---- verdicts

judged : (steps : List Step) (lists : Lists) (m : ℕ) → Decided (Contains lists.failed m) → Decided (Contains lists.skipped m) → Decided (Reaches steps lists.failed m) → (verdict : Verdict) × IsJudgedBy steps lists m verdict
judged steps lists m (inl c) skipped leads = (Failed, has_failed (inl c))
judged steps lists m (inr fine) (inr none) leads = (Passed, has_passed fine none)
judged steps lists m (inr fine) (inl c) (inl led) = (Failed, has_failed (inr (c, led)))
judged steps lists m (inr fine) (inl c) (inr none) = (NotRun, was_not_run c fine none)

pub is_judged : IsJudged
is_judged steps all_went m ended = (Passed, refl)
is_judged steps (failed lists) m ended = judged steps lists m (numbered m lists.failed) (numbered m lists.skipped) (leads_or_not steps lists.failed m)
is_judged steps (step_cycle list) m ended = absurd ended
is_judged steps (too_big path size) m ended = absurd ended
is_judged steps host_fault m ended = absurd ended
is_judged steps sink_fault m ended = absurd ended
is_judged steps out_of_memory m ended = absurd ended
