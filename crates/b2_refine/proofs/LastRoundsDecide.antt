-- A set or fault that comes to stand in some round stays, so the last two tell whether an evaluation settles.
use Rattle.std.proofs.Common.{◌≡◌, ℕ, zero, suc, ◌<◌, ◌≤◌, ◌+◌, Bool, List, Result, Ok, Err, sym, ◌∙◌, ap, ap₂, subst, ◌⊎◌, inl, inr, arith}
use Rattle.std.specs.List.{count_by}
use Rattle.std.proofs.lemmas.Bool.{cases_lt}
use Rattle.std.proofs.lemmas.List.Sums.{length-filter}
use Rattle.b2_base.specs.Results.{and_then}
use Rattle.b2_features.specs.Table.{DeclaredFeature}
use Rattle.b2_props.specs.Sets.{Pair}
use Rattle.b2_props.specs.Refinement.{refined}
use Rattle.b2_props.specs.declared.requirement.Requirement.{Requirement}
use Rattle.b2_refine.specs.Answers.{Answer}
use Rattle.b2_refine.specs.Conditions.{is_other, others, given, first_set, next_set, round_set, last_round, IsSettled, IsUnstable}
use Rattle.b2_refine.specs.Faults.{IsAskedBy}
use Rattle.b2_refine.specs.Evaluating.{IsOutcome, AreLastRounds}
use Rattle.b2_refine.specs.declared.fault.RefineFault.{RefineFault}
use Rattle.b2_refine.specs.declared.fault.RefineFault.TheVariants.{Unstable, Asked, OutOfMemory}

module _ {F : Type 0} (answer : Answer F) (table : List DeclaredFeature) where
  -- ---- one round

  -- a set that is refined by what is given
  pub refined_outcome : (is_host is_memory : F → Bool) (base : List Pair) (required : List Requirement) (set pairs made : List Pair) → IsOutcome is_host is_memory (given answer set (others required)) (Ok pairs) → made ≡ refined table base pairs → IsOutcome is_host is_memory (next_set answer table base required set) (Ok made)
  refined_outcome is_host is_memory base required set pairs made e is =
      ap (and_then (λ ps. Ok (refined table base ps))) e ∙ ap (λ (ps : List Pair). let r : Result (List Pair) F = Ok ps in r) (sym is)

  -- what is not given makes no set
  pub refused_outcome : (is_host is_memory : F → Bool) (base : List Pair) (required : List Requirement) (set : List Pair) (fault : RefineFault F) → IsOutcome is_host is_memory (given answer set (others required)) (Err fault) → IsOutcome is_host is_memory (next_set answer table base required set) (Err fault)
  refused_outcome is_host is_memory base required set (Unstable a b) is = is
  refused_outcome is_host is_memory base required set (Asked fault) is = λ not_host not_memory. ap (and_then (λ ps. Ok (refined table base ps))) (is not_host not_memory)
  refused_outcome is_host is_memory base required set OutOfMemory is = tt

  -- ---- rounds

  module _ (request : List Pair) (required : List Requirement) where
    abbrev sets : ℕ → Result (List Pair) F
    sets = round_set answer table request required

    abbrev next : List Pair → Result (List Pair) F
    next = next_set answer table (first_set table request required) required

    -- a round follows from the one before
    pub round_follows : (k : ℕ) (set : List Pair) (r : Result (List Pair) F) → round_set answer table request required k ≡ Ok set → next_set answer table (first_set table request required) required set ≡ r → round_set answer table request required (suc k) ≡ r
    round_follows k set r e f = ap (and_then next) e ∙ f

    -- the sets of the first rounds and of a later one, where the set of round 0 has another name
    pub first_round : (base first : List Pair) → base ≡ first_set table request required → first ≡ base → round_set answer table request required 0 ≡ Ok first
    first_round base first e f = ap (λ (ps : List Pair). let r : Result (List Pair) F = Ok ps in r) (sym (f ∙ e))

    pub second_round : (base first second : List Pair) → base ≡ first_set table request required → first ≡ base → next_set answer table base required first ≡ Ok second → round_set answer table request required 1 ≡ Ok second
    second_round base first second e f is = sym (ap₂ (λ (b g : List Pair). next_set answer table b required g) e (f ∙ e)) ∙ is

    pub later_round : (base set third : List Pair) (k : ℕ) → base ≡ first_set table request required → round_set answer table request required k ≡ Ok set → next_set answer table base required set ≡ Ok third → round_set answer table request required (suc k) ≡ Ok third
    later_round base set third k e here is = round_follows k set (Ok third) here (sym (ap (λ (b : List Pair). next_set answer table b required set) e) ∙ is)

    -- the last two sets, where the rounds are counted
    pub two_here : (k count : ℕ) (first second : List Pair) → count ≡ count_by is_other required → k ≤ count + 1 → round_set answer table request required k ≡ Ok first → round_set answer table request required (suc k) ≡ Ok second → (first ≡ second) ⊎ (k ≡ count + 1) → AreLastRounds answer table request required first second
    two_here k count first second counted le here after ended =
        let size = length-filter is_other required in
        record {
          round = k;
          within = omega (arith, size, counted, le);
          first_is = here;
          second_is = after;
          ended = end ended;
        }
      where
        end : (first ≡ second) ⊎ (k ≡ count + 1) → (first ≡ second) ⊎ (k ≡ last_round required)
        end (inl e) = inl e
        end (inr e) = let size = length-filter is_other required in inr (omega (arith, size, counted, e))

    -- a counted round is not the last one but one
    pub round_within : (k count : ℕ) → count ≡ count_by is_other required → k < count + 1 → suc k ≤ last_round required
    round_within k count counted lt = let size = length-filter is_other required in omega (arith, size, counted, lt)

    -- one round more, counted by one
    pub round_counted : (k : ℕ) (set : List Pair) → round_set answer table request required (suc k) ≡ Ok set → round_set answer table request required (k + 1) ≡ Ok set
    round_counted k set is = let next : suc k ≡ k + 1 = omega arith in subst (λ n. sets n ≡ Ok set) next is

    pub round_counted_twice : (k : ℕ) (set : List Pair) → round_set answer table request required (suc (suc k)) ≡ Ok set → round_set answer table request required (suc (k + 1)) ≡ Ok set
    round_counted_twice k set is = let next : suc k ≡ k + 1 = omega arith in subst (λ n. sets (suc n) ≡ Ok set) next is

    -- a round that is asked for and has a fault
    asked_in : (is_host is_memory : F → Bool) (k : ℕ) (set : List Pair) (fault : RefineFault F) → k ≤ last_round required → round_set answer table request required k ≡ Ok set → IsOutcome is_host is_memory (next_set answer table (first_set table request required) required set) (Err fault) → IsAskedBy is_host is_memory answer table request required fault
    asked_in is_host is_memory k set (Unstable a b) le here is = absurd is
    asked_in is_host is_memory k set (Asked fault) le here is = λ not_host not_memory. (suc k, omega arith, round_follows k set (Err fault) here (is not_host not_memory))
    asked_in is_host is_memory k set OutOfMemory le here is = tt

    -- the fault of a round that is asked for, where the set of round 0 has another name
    pub asked_later : (is_host is_memory : F → Bool) (base set : List Pair) (k : ℕ) (fault : RefineFault F) → base ≡ first_set table request required → k ≤ last_round required → round_set answer table request required k ≡ Ok set → IsOutcome is_host is_memory (next_set answer table base required set) (Err fault) → IsAskedBy is_host is_memory answer table request required fault
    asked_later is_host is_memory base set k fault e le here is = asked_in is_host is_memory k set fault le here (subst (λ (b : List Pair). IsOutcome is_host is_memory (next_set answer table b required set) (Err fault)) e is)

    stays_next : (m k : ℕ) (set : List Pair) → k ≤ suc m → sets k ≡ Ok set → sets (suc k) ≡ Ok set → (m < k) ⊎ (k ≤ m) → (k ≤ m → sets m ≡ Ok set) → sets (suc m) ≡ Ok set
    stays_next m k set le here after (inl lt) earlier = let same : k ≡ suc m = omega arith in subst (λ n. sets n ≡ Ok set) same here
    stays_next m k set le here after (inr before) earlier = ap (and_then next) (earlier before) ∙ sym (ap (and_then next) here) ∙ after

    fault_next : (m k : ℕ) (fault : F) → k ≤ suc m → sets k ≡ Err fault → (m < k) ⊎ (k ≤ m) → (k ≤ m → sets m ≡ Err fault) → sets (suc m) ≡ Err fault
    fault_next m k fault le here (inl lt) earlier = let same : k ≡ suc m = omega arith in subst (λ n. sets n ≡ Err fault) same here
    fault_next m k fault le here (inr before) earlier = ap (and_then next) (earlier before)

    -- a set that one round leaves as it is stays in all later ones
    pub stays : (m k : ℕ) (set : List Pair) → k ≤ m → round_set answer table request required k ≡ Ok set → round_set answer table request required (suc k) ≡ Ok set → round_set answer table request required m ≡ Ok set
    stays zero k set le here after = let same : k ≡ 0 = omega arith in subst (λ n. sets n ≡ Ok set) same here
    stays (suc m) k set le here after = stays_next m k set le here after (cases_lt m k) (λ before. stays m k set before here after)

    -- a fault stays too
    pub fault_stays : (m k : ℕ) (fault : F) → k ≤ m → round_set answer table request required k ≡ Err fault → round_set answer table request required m ≡ Err fault
    fault_stays zero k fault le here = let same : k ≡ 0 = omega arith in subst (λ n. sets n ≡ Err fault) same here
    fault_stays (suc m) k fault le here = fault_next m k fault le here (cases_lt m k) (λ before. fault_stays m k fault before here)

    -- ---- the last two rounds

    pub two_settled : (first second : List Pair) → AreLastRounds answer table request required first second → first ≡ second → IsSettled answer table request required first
    two_settled first second two same = (two.round, two.within, two.first_is, two.second_is ∙ ap (λ (ps : List Pair). let r : Result (List Pair) F = Ok ps in r) (sym same))

    pub two_unstable : (first second : List Pair) → AreLastRounds answer table request required first second → (first ≡ second → ⊥) → IsUnstable answer table request required first second
    two_unstable first second two differ = go two.ended
      where
        go : (first ≡ second) ⊎ (two.round ≡ last_round required) → IsUnstable answer table request required first second
        go (inl e) = absurd (differ e)
        go (inr e) = (subst (λ n. sets n ≡ Ok first) e two.first_is, subst (λ n. sets (suc n) ≡ Ok second) e two.second_is, differ)
