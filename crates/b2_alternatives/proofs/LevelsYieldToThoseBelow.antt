-- Usage requirements give pairs where their conditions are met, and those of a level yield to the levels below it.
use Rattle.std.proofs.Common.{arith, ◌≡◌, ◌==◌, ℕ, ◌+◌, ◌<◌, Bool, true, false, cond, not, ◌&&◌, ◌||◌, List, [], ◌∷◌, ◌++◌, map, take, drop, get_or, length, refl, sym, ◌∙◌, ap, ap₂}
use Rattle.std.specs.Borrow.{Bor}
use Rattle.std.specs.List.{filter, flat_map, list_all}
use Rattle.std.proofs.lemmas.Bool.{false≢true, eqb-true}
use Rattle.std.proofs.lemmas.List.{append-nil, at_drop_more}
use Rattle.std.proofs.lemmas.List.Concat.{flat_map-append, flat_map-cons}
use Rattle.std.proofs.lemmas.List.Elements.{filter_agree}
use Rattle.b2_features.specs.declared.attribute.Attribute.TheVariants.{Free}
use Rattle.b2_features.specs.Table.{DeclaredFeature}
use Rattle.b2_features.specs.Faults.{is_with}
use Rattle.b2_props.specs.Sets.{Pair}
use Rattle.b2_props.specs.Refinement.{names}
use Rattle.b2_props.specs.Indexing.{is_indexed, IsIndexOf}
use Rattle.b2_props.specs.declared.pair_index.PairIndex.{PairIndex}
use Rattle.b2_props.specs.declared.requirement.Requirement.{Requirement}
use Rattle.b2_props.specs.declared.requirement.Requirement.TheVariants.{Plain}
use Rattle.b2_props.proofs.IndexTellsWhichAreThere.{index_all}
use Rattle.b2_props.proofs.CompletionGrowsPairByPair.{names-append}
use Rattle.b2_props.proofs.DraftHoldsEachGainedPair.{next_take}
use Rattle.b2_declared.specs.declared.place.Place.{Place}
use Rattle.b2_declared.specs.declared.place.Target.{Target}
use Rattle.b2_declared.specs.declared.whole.Declared.{Declared as Whole}
use Rattle.b2_references.specs.Names.{features, lineage}
use Rattle.b2_alternatives.specs.Usage.{usage_pairs, usage_in, yielding, own_levels, own_usage}
use Rattle.b2_alternatives.proofs.MapsComposeAndGrow.{map_after}

-- one usage requirement more
pub usage_next : (set : List Pair) (xs : List Requirement) (i : ℕ) (x : Requirement) → i < length xs → x ≡ get_or xs i x → usage_in set (take (i + 1) xs) ≡ usage_in set (take i xs) ++ usage_pairs set x
usage_next set xs i x within is =
    ap (usage_in set) (next_take xs i x within is) ∙ flat_map-append (usage_pairs set) (take i xs) (x ∷ [])
    ∙ ap (λ (ps : List Pair). usage_in set (take i xs) ++ ps) (append-nil (usage_pairs set x))

-- what stands of a level, where a test tells what the levels below it name
pub standing_by : (table : List DeclaredFeature) (below : List (List Pair)) (level : List Pair) (test : List ℕ → Bool) → ((q : List ℕ) → test q ≡ names (flat_map (λ (pairs : List Pair). pairs) below) q)
    → filter (λ p. is_with Free table p.0 || not (test p.0)) level ++ yielding table below ≡ yielding table (level ∷ below)
standing_by table below level test agree =
    ap (λ (ps : List Pair). ps ++ yielding table below)
    (filter_agree (λ (p : Pair). is_with Free table p.0 || not (test p.0)) (λ (p : Pair). is_with Free table p.0 || not (names (flat_map (λ (pairs : List Pair). pairs) below) p.0)) (λ p. ap (λ b. is_with Free table p.0 || not b) (agree p.0)) level)

-- what a usage requirement gives, where an index tells whether its conditions are met
module _ (set : List Pair) (index : PairIndex) (r : Requirement) (conditions slice : List Pair) (property : Pair) (met : Bool) (is : IsIndexOf set index) (plain : r ≡ Plain conditions property) (same : slice ≡ conditions) (tells : met ≡ list_all (is_indexed index) slice) where
  gives : usage_pairs set r ≡ cond met (property ∷ []) []
  gives =
      ap (usage_pairs set) plain
      ∙ ap (λ b. cond b (property ∷ []) []) (sym (index_all set conditions index is) ∙ ap (list_all (is_indexed index)) (sym same) ∙ sym tells)

  pub usage_met : met ≡ true → usage_pairs set r ≡ property ∷ []
  usage_met e = gives ∙ ap (λ b. cond b (property ∷ []) []) e

  pub usage_unmet : met ≡ false → usage_pairs set r ≡ []
  usage_unmet e = gives ∙ ap (λ b. cond b (property ∷ []) []) e

-- ---- one level more

or_swap : (a b : Bool) → (a || b) ≡ (b || a)
or_swap true true = refl
or_swap true false = refl
or_swap false true = refl
or_swap false false = refl

module _ (table : List DeclaredFeature) (levels : List (List Pair)) (place i : ℕ) (x level : List Pair) (next : i + 1 ≡ place) (within : i < length levels) (is : x ≡ get_or levels i x) (same : level ≡ x) where
  cut : {Y : Type 0} (F : List (List Pair) → Y) → F (drop i levels) ≡ F (x ∷ drop place levels)
  cut F =
      at_drop_more F levels i x within ∙ ap (λ (y : List Pair). F (y ∷ drop (i + 1) levels)) (sym is)
      ∙ ap (λ (n : ℕ). F (x ∷ drop n levels)) next

  -- what stands of a level goes before what stands of those below it
  pub yield_more : (test : List ℕ → Bool) (made kept : List Pair) → ((q : List ℕ) → test q ≡ names (flat_map (λ (pairs : List Pair). pairs) (drop place levels)) q) → made ≡ yielding table (drop place levels)
      → kept ≡ filter (λ p. is_with Free table p.0 || not (test p.0)) level → kept ++ made ≡ yielding table (drop i levels)
  yield_more test made kept agree so_far keeps =
      ap₂ (λ (a b : List Pair). a ++ b) (keeps ∙ ap (filter (λ (p : Pair). is_with Free table p.0 || not (test p.0))) same) so_far
      ∙ standing_by table (drop place levels) x test agree ∙ sym (cut (yielding table))

  -- and its features are taken
  pub taken_below : (q : List ℕ) (new old : Bool) → new ≡ (old || names level q) → old ≡ names (flat_map (λ (pairs : List Pair). pairs) (drop place levels)) q → new ≡ names (flat_map (λ (pairs : List Pair). pairs) (drop i levels)) q
  taken_below q new old e so_far =
      e ∙ ap₂ (λ (a b : Bool). a || b) so_far (ap (λ (ps : List Pair). names ps q) same) ∙ or_swap (names (flat_map (λ (pairs : List Pair). pairs) (drop place levels)) q) (names x q)
      ∙ sym (names-append x (flat_map (λ (pairs : List Pair). pairs) (drop place levels)) q)
      ∙ sym (ap (λ (ps : List Pair). names ps q) (flat_map-cons (λ (pairs : List Pair). pairs) x (drop place levels)))
      ∙ sym (cut (λ (ls : List (List Pair)). names (flat_map (λ (pairs : List Pair). pairs) ls) q))

-- ---- the levels of a main target

-- the levels that are made over what references point to are those of the definition
pub levels_are : (d : Whole) (t : Target) (set : List Pair) (items places : List (Bor Place)) → places ≡ items → map (λ p. p.now) items ≡ lineage d t.project
    → map (λ p. usage_in set p.now.usage) places ++ usage_in set t.usage ∷ [] ≡ own_levels d t set
levels_are d t set items places same are =
    ap (λ (ls : List (List Pair)). ls ++ usage_in set t.usage ∷ [])
    (ap (map (λ (p : Bor Place). usage_in set p.now.usage)) same ∙ map_after (λ (p : Place). usage_in set p.usage) (λ (p : Bor Place). p.now) items ∙ ap (map (λ (p : Place). usage_in set p.usage)) are)

both_so : (a b : Bool) → (a && b) ≡ true → (a ≡ true) × (b ≡ true)
both_so true b e = (refl, e)
both_so false b e = absurd (false≢true e)

no_usage : (set : List Pair) (usage : List Requirement) → (length usage == 0) ≡ true → usage_in set usage ≡ []
no_usage set [] e = refl
no_usage set (r ∷ usage) e = absurd (omega (arith, eqb-true (length (r ∷ usage)) 0 e))

-- levels without usage requirements give nothing
nothing_yields : (table : List DeclaredFeature) (set : List Pair) (places : List (Bor Place)) (own : List Requirement) → (length own == 0) ≡ true → list_all (λ p. length p.now.usage == 0) places ≡ true
    → yielding table (map (λ p. usage_in set p.now.usage) places ++ usage_in set own ∷ []) ≡ []
nothing_yields table set [] own none all = ap (λ (level : List Pair). yielding table (level ∷ [])) (no_usage set own none)
nothing_yields table set (p ∷ places) own none all =
    let both = both_so (length p.now.usage == 0) (list_all (λ (q : Bor Place). length q.now.usage == 0) places) all in
    ap (λ (level : List Pair). yielding table (level ∷ (map (λ (q : Bor Place). usage_in set q.now.usage) places ++ usage_in set own ∷ []))) (no_usage set p.now.usage both.0)
    ∙ nothing_yields table set places own none both.1

pub nothing_asked : (d : Whole) (t : Target) (set : List Pair) (items places : List (Bor Place)) → places ≡ items → map (λ p. p.now) items ≡ lineage d t.project
    → (length t.usage == 0 && list_all (λ p. length p.now.usage == 0) places) ≡ true → own_usage d t set ≡ []
nothing_asked d t set items places same are none =
    let both = both_so (length t.usage == 0) (list_all (λ (p : Bor Place). length p.now.usage == 0) places) none in
    ap (yielding (features d)) (sym (levels_are d t set items places same are)) ∙ nothing_yields (features d) set places t.usage both.0 both.1
