-- The pairs that requirements give, plain or asked, grow by those of one more, or end in the first fault.
use Rattle.std.proofs.Common.{◌≡◌, ℕ, ◌<◌, ◌+◌, ◌==◌, Bool, true, false, not, cond, List, [], ◌∷◌, ◌++◌, Result, Ok, Err, take, drop, get_or, length, refl, sym, ◌∙◌, ap, ap₂, subst, append_assoc, arith}
use Rattle.std.specs.List.{list_all}
use Rattle.std.proofs.lemmas.List.{append-nil, take-append-drop}
use Rattle.std.proofs.lemmas.List.Concat.{flat_map-append}
use Rattle.std.proofs.lemmas.List.Elements.{filter-append}
use Rattle.std.proofs.lemmas.Bool.{ne_eqb}
use Rattle.b2_props.specs.Sets.{Pair}
use Rattle.b2_props.specs.Membership.{has_all}
use Rattle.b2_props.specs.Indexing.{is_indexed, IsIndexOf}
use Rattle.b2_props.specs.declared.pair_index.PairIndex.{PairIndex}
use Rattle.b2_props.specs.declared.requirement.Requirement.{Requirement}
use Rattle.b2_props.specs.declared.requirement.Requirement.TheVariants.{Plain, Indirect}
use Rattle.b2_props.proofs.DraftHoldsEachGainedPair.{next_take}
use Rattle.b2_props.proofs.IndexTellsWhichAreThere.{index_all}
use Rattle.b2_refine.specs.Answers.{Answer}
use Rattle.b2_refine.specs.Conditions.{own_pairs, unconditional, is_other, others, gives, joined, given}
use Rattle.b2_refine.specs.Evaluating.{IsOutcome, is_given, plain_pairs}
use Rattle.b2_refine.specs.declared.fault.RefineFault.{RefineFault}
use Rattle.b2_refine.specs.declared.fault.RefineFault.TheVariants.{Unstable, Asked, OutOfMemory}

-- ---- one requirement

pub own_next : (xs : List Requirement) (i : ℕ) (x : Requirement) → i < length xs → x ≡ get_or xs i x → unconditional (take (i + 1) xs) ≡ unconditional (take i xs) ++ own_pairs x
own_next xs i x within is =
    ap unconditional (next_take xs i x within is) ∙ flat_map-append own_pairs (take i xs) (x ∷ []) ∙ ap (λ ps. unconditional (take i xs) ++ ps) (append-nil (own_pairs x))

-- a requirement is conditional where it has conditions
pub other_by_length : (conditions : List Pair) (property : Pair) → not (length conditions == 0) ≡ is_other (Plain conditions property)
other_by_length [] property = refl
other_by_length (c ∷ conditions) property = let differs : length (c ∷ conditions) ≡ 0 → ⊥ = λ e. omega arith in ap not (ne_eqb (length (c ∷ conditions)) 0 differs)

pub given_none : (conditions : List Pair) → length conditions ≡ 0 → (pairs : List Pair) → false ≡ is_given pairs conditions
given_none [] e pairs = refl
given_none (c ∷ conditions) e pairs = absurd (omega arith)

pub given_met : (conditions : List Pair) (index : PairIndex) → (length conditions ≡ 0 → ⊥) → (pairs : List Pair) → IsIndexOf pairs index → list_all (is_indexed index) conditions ≡ is_given pairs conditions
given_met [] index e pairs is = absurd (e refl)
given_met (c ∷ conditions) index e pairs is = index_all pairs (c ∷ conditions) index is

module _ {F : Type 0} (answer : Answer F) (set : List Pair) where
  plain_given : (conditions : List Pair) (property : Pair) → given answer set (others (Plain conditions property ∷ [])) ≡ Ok (plain_pairs set conditions property)
  plain_given [] property = refl
  plain_given (c ∷ conditions) property = go (has_all set (c ∷ conditions))
    where
      go : (b : Bool) → joined {F = F} (Ok (cond b (property ∷ []) [])) (Ok []) ≡ Ok (cond b (property ∷ []) [])
      go true = refl
      go false = refl

  -- what a plain requirement gives
  pub plain_outcome : (is_host is_memory : F → Bool) (conditions : List Pair) (property : Pair) (made : List Pair) → made ≡ plain_pairs set conditions property → IsOutcome is_host is_memory (given answer set (others (Plain conditions property ∷ []))) (Ok made)
  plain_outcome is_host is_memory conditions property made e = plain_given conditions property ∙ ap (λ (ps : List Pair). let r : Result (List Pair) F = Ok ps in r) (sym e)

  nothing_joined : (r : Result (List Pair) F) → joined r (Ok []) ≡ r
  nothing_joined (Ok pairs) = ap (λ (ps : List Pair). let r : Result (List Pair) F = Ok ps in r) (append-nil pairs)
  nothing_joined (Err fault) = refl

  -- what an indirect requirement gives is what its rule answers
  pub indirect_outcome : (is_host is_memory : F → Bool) (rule : ℕ) (r : Result (List Pair) (RefineFault F)) → IsOutcome is_host is_memory (answer rule set) r → IsOutcome is_host is_memory (given answer set (others (Indirect rule ∷ []))) r
  indirect_outcome is_host is_memory rule r is = subst (λ (o : Result (List Pair) F). IsOutcome is_host is_memory o r) (sym (nothing_joined (answer rule set))) is

  -- ---- some requirements, then others

  joined_assoc : (a b c : Result (List Pair) F) → joined (joined a b) c ≡ joined a (joined b c)
  joined_assoc (Ok a) (Ok b) (Ok c) = ap (λ (ps : List Pair). let r : Result (List Pair) F = Ok ps in r) (append_assoc a b c)
  joined_assoc (Ok a) (Ok b) (Err f) = refl
  joined_assoc (Ok a) (Err f) c = refl
  joined_assoc (Err f) b c = refl

  nothing_first : (r : Result (List Pair) F) → r ≡ joined (Ok []) r
  nothing_first (Ok pairs) = refl
  nothing_first (Err fault) = refl

  given-append : (xs ys : List Requirement) → given answer set (xs ++ ys) ≡ joined (given answer set xs) (given answer set ys)
  given-append [] ys = nothing_first (given answer set ys)
  given-append (x ∷ xs) ys = ap (joined (gives answer set x)) (given-append xs ys) ∙ sym (joined_assoc (gives answer set x) (given answer set xs) (given answer set ys))

  pub others_given-append : (xs ys : List Requirement) → given answer set (others (xs ++ ys)) ≡ joined (given answer set (others xs)) (given answer set (others ys))
  others_given-append xs ys = ap (given answer set) (filter-append is_other xs ys) ∙ given-append (others xs) (others ys)

  -- one requirement more
  pub given_next : (is_host is_memory : F → Bool) (xs : List Requirement) (i : ℕ) (x : Requirement) (made more : List Pair) → i < length xs → x ≡ get_or xs i x → given answer set (others (take i xs)) ≡ Ok made → IsOutcome is_host is_memory (given answer set (others (x ∷ []))) (Ok more) → given answer set (others (take (i + 1) xs)) ≡ Ok (made ++ more)
  given_next is_host is_memory xs i x made more within is before one =
      ap (λ (rs : List Requirement). given answer set (others rs)) (next_take xs i x within is) ∙ others_given-append (take i xs) (x ∷ []) ∙ ap₂ joined before one

  -- the first fault
  pub given_fault : (is_host is_memory : F → Bool) (xs : List Requirement) (i : ℕ) (x : Requirement) (made : List Pair) (fault : RefineFault F) → i < length xs → x ≡ get_or xs i x → given answer set (others (take i xs)) ≡ Ok made → IsOutcome is_host is_memory (given answer set (others (x ∷ []))) (Err fault) → IsOutcome is_host is_memory (given answer set (others xs)) (Err fault)
  given_fault is_host is_memory xs i x made (Unstable a b) within is before one = one
  given_fault is_host is_memory xs i x made OutOfMemory within is before one = tt
  given_fault is_host is_memory xs i x made (Asked fault) within is before one = λ not_host not_memory.
      ap (λ (rs : List Requirement). given answer set (others rs)) split ∙ others_given-append (take (i + 1) xs) (drop (i + 1) xs)
      ∙ ap (λ (r : Result (List Pair) F). joined r (given answer set (others (drop (i + 1) xs))))
      (ap (λ (rs : List Requirement). given answer set (others rs)) (next_take xs i x within is) ∙ others_given-append (take i xs) (x ∷ []) ∙ ap₂ joined before (one not_host not_memory))
    where
      split : xs ≡ take (i + 1) xs ++ drop (i + 1) xs
      split = sym (take-append-drop (i + 1) xs)
