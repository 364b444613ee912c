-- The number that a full set chooses is that of an alternative, and the target at its place is the one chosen.
use Rattle.std.proofs.Common.{◌≡◌, ℕ, ◌-◌, ◌<◌, true, not, List, [], ◌∷◌, Some, length, map, get_or, refl, sym, ◌∙◌, ap, subst, arith}
use Rattle.std.specs.Prelude.{slice_get}
use Rattle.std.specs.Option.{option_map}
use Rattle.std.specs.Borrow.{Bor}
use Rattle.std.proofs.lemmas.Bool.{ne_eqb}
use Rattle.std.proofs.lemmas.List.{length-map}
use Rattle.std.proofs.lemmas.Option.{slice_get_within, slice_get_read, slice_get-map}
use Rattle.b2_props.specs.Sets.{Pair}
use Rattle.b2_refine.specs.Choices.{counted, IsChoice}
use Rattle.b2_refine.specs.declared.choice.Choice.{Choice}
use Rattle.b2_refine.specs.declared.choice.Choice.TheVariants as choices
use Rattle.b2_refine.proofs.BetterIsAStrictOrder.{viable_within}
use Rattle.b2_declared.specs.declared.place.Target.{Target}
use Rattle.b2_declared.specs.declared.whole.Declared.{Declared}
use Rattle.b2_references.specs.Names.{Name, features, alternatives, is_target}
use Rattle.b2_alternatives.specs.Choosing.{condition, conditions}
use Rattle.b2_alternatives.specs.Picking.{IsAt}
use Rattle.b2_alternatives.proofs.MapsComposeAndGrow.{map_after}

length_counted : (cs : List (List Pair)) → length (counted cs) ≡ length cs
length_counted [] = refl
length_counted (c ∷ []) = refl
length_counted (c ∷ next ∷ more) = refl

-- the number of a chosen alternative is that of one
pub number_within : (full : List Pair) (cs : List (List Pair)) (number : ℕ) → IsChoice full cs (choices.One number) → (0 < number) × (number - 1 < length cs)
number_within full cs number choice =
    let within = viable_within full (counted cs) choice.0 choice.2.viable in
    let size = length_counted cs in
    let is = choice.1 in
    (omega arith, omega arith)

module _ (d : Declared) (name : Name) (full : List Pair) (cs : List (List Pair)) (ts : List (Bor Target)) (are : cs ≡ map (λ t. condition (features d) t.now) ts) (alts : map (λ t. t.now) ts ≡ alternatives d name) where
  -- the conditions are those of the alternatives
  pub conditions_are : cs ≡ conditions d name
  conditions_are = are ∙ map_after (condition (features d)) (λ (t : Bor Target). t.now) ts ∙ ap (map (condition (features d))) alts

  pub choice_is : (choice : Choice) → IsChoice full cs choice → IsChoice full (conditions d name) choice
  choice_is choice is = subst (λ (xs : List (List Pair)). IsChoice full xs choice) conditions_are is

  -- the bound of the place of a chosen alternative
  pub place_within : (number : ℕ) → IsChoice full cs (choices.One number) → number - 1 < length ts
  place_within number choice =
      let within = (number_within full cs number choice).1 in
      let size : length cs ≡ length ts = ap length are ∙ length-map ts (λ (t : Bor Target). condition (features d) t.now) in
      omega arith

  -- the alternative at this place is the chosen one
  pub is_at : (number : ℕ) (t : Bor Target) → IsChoice full cs (choices.One number) → t ≡ get_or ts (number - 1) t → IsAt d name full number t.now
  is_at number t choice at = record {
    place = choice.0;
    number_is = choice.1;
    choice = subst (λ n. IsChoice full (conditions d name) (choices.One n)) choice.1 (choice_is (choices.One number) choice);
    at = ap (λ (xs : List Target). slice_get xs choice.0) (sym alts) ∙ slice_get-map (λ (u : Bor Target). u.now) ts choice.0 ∙ ap (option_map (λ (u : Bor Target). u.now)) (ap (slice_get ts) (sym same) ∙ here);
  }
    where
      same : number - 1 ≡ choice.0
      same = let is = choice.1 in omega arith

      here : slice_get ts (number - 1) ≡ Some t
      here = slice_get_read ts (length ts) (number - 1) t refl (place_within number choice) at

-- what stands at a place is a main target
pub target_at : (d : Declared) (name : Name) (place : ℕ) (t : Target) → slice_get (alternatives d name) place ≡ Some t → is_target d name ≡ true
target_at d name place t at =
    let within = slice_get_within (alternatives d name) place t at in
    ap not (ne_eqb (length (alternatives d name)) 0 (λ e. omega arith))
