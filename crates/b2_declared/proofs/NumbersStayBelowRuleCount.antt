-- Rule numbers lie below the count of rules, also as it grows; and what holds of each project as one is changed.
use Rattle.std.proofs.Common.{◌≡◌, ℕ, ◌+◌, ◌<◌, ◌≤◌, List, [], ◌∷◌, Option, Some, None, All, map, length, refl, sym, ◌∙◌, ap, subst, arith}
use Rattle.std.specs.Prelude.{slice_get, slice_set}
use Rattle.std.specs.Option.{option_map_or}
use Rattle.std.specs.List.{filter_map}
use Rattle.std.proofs.lemmas.List.Elements.{All-nil, All-cons, All-set, All-weaker, All-map, All-get_or}
use Rattle.std.proofs.lemmas.List.{length-set}
use Rattle.std.proofs.Math.Seq.{map-set_same}
use Rattle.std.proofs.lemmas.Option.{get_or_from_slice_get, slice_get_within}
use Rattle.b2_props.specs.declared.requirement.Requirement.{Requirement}
use Rattle.b2_props.specs.declared.requirement.Requirement.TheVariants as requirements
use Rattle.b2_property_texts.specs.declared.reading.Conditional.{Conditional}
use Rattle.b2_property_texts.specs.declared.reading.RequirementText.{RequirementText}
use Rattle.b2_property_texts.specs.declared.reading.RequirementText.TheVariants.{Plain, Indirect}
use Rattle.b2_declared.specs.declared.visit.Call.{Call}
use Rattle.b2_declared.specs.declared.place.Place.{Place}
use Rattle.b2_declared.specs.declared.place.IndirectRule.{IndirectRule}
use Rattle.b2_declared.specs.Gathering.{numbered, rule_of, rules_in, plain, with_place}
use Rattle.b2_declared.specs.Laws.{AreNumbered}
use Rattle.b2_props.specs.Requirements.{AsksBelow}

-- ---- requirements

more_rules : (m n : ℕ) → m ≤ n → (r : Requirement) → AsksBelow m r → AsksBelow n r
more_rules m n le (requirements.Plain conditions property) below = tt
more_rules m n le (requirements.Indirect rule) below = omega arith

-- the numbers of a list lie below the number of rules that stand after it
pub numbered_below : (c : Call) (first : ℕ) (xs : List RequirementText) → All (AsksBelow (first + length (rules_in c xs))) (numbered first xs)
unfolding numbered rules_in
numbered_below c first [] = All-nil (AsksBelow (first + 0))
numbered_below c first (Plain p ∷ xs) = All-cons (AsksBelow (first + length (filter_map (rule_of c) xs))) (requirements.Plain p.conditions p.property) (numbered first xs) tt (numbered_below c first xs)
numbered_below c first (Indirect rule ∷ xs) =
    let rest : ℕ = length (filter_map (rule_of c) xs) in
    let e : (first + 1) + rest ≡ first + length (filter_map (rule_of c) (Indirect rule ∷ xs)) = omega arith in
    let here : first < first + length (filter_map (rule_of c) (Indirect rule ∷ xs)) = omega arith in
    All-cons (AsksBelow (first + length (filter_map (rule_of c) (Indirect rule ∷ xs)))) (requirements.Indirect first) (numbered (first + 1) xs) here
    (subst (λ n. All (AsksBelow n) (numbered (first + 1) xs)) e (numbered_below c (first + 1) xs))

-- usage requirements name no rule
pub usage_plain : (us : List Conditional) → All (AsksBelow 0) (map plain us)
usage_plain us = All-map (AsksBelow 0) plain us (λ k d within. tt)

-- the rules of a call are those of its project
pub rules_of_project : (c : Call) (projects : ℕ) (xs : List RequirementText) → c.project < projects → All (λ r. r.project < projects) (rules_in c xs)
unfolding rules_in
rules_of_project c projects [] within = All-nil (λ (r : IndirectRule). r.project < projects)
rules_of_project c projects (Plain p ∷ xs) within = rules_of_project c projects xs within
rules_of_project c projects (Indirect rule ∷ xs) within =
    All-cons (λ (r : IndirectRule). r.project < projects) (record { project = c.project; rule = rule; line = c.line }) (filter_map (rule_of c) xs) within (rules_of_project c projects xs within)

-- numbers stay below a greater number of rules
pub below_more : (m n : ℕ) (rs : List Requirement) → m ≤ n → All (AsksBelow m) rs → All (AsksBelow n) rs
below_more m n rs le below = All-weaker (AsksBelow m) (AsksBelow n) (more_rules m n le) rs below

pub numbers_stay : (m n : ℕ) (rs us : List Requirement) → m ≤ n → AreNumbered m rs us → AreNumbered n rs us
numbers_stay m n rs us le are = record { below = All-weaker (AsksBelow m) (AsksBelow n) (more_rules m n le) rs are.below; plain = are.plain }

-- ---- a changed project

module _ (places : List Place) (project : ℕ) (change : Place → Place) where
  pub length_changed : length (with_place places project change) ≡ length places
  length_changed = go (slice_get places project)
    where
      go : (o : Option Place) → length (option_map_or (λ p. slice_set places project (change p)) o places) ≡ length places
      go None = refl
      go (Some p) = length-set places project (change p)

  -- what holds of each project, and stays after the change, holds of each one afterwards
  pub all_changed : (P : Place → Type 0) → ((p : Place) → P p → P (change p)) → All P places → All P (with_place places project change)
  all_changed P stays all = go (slice_get places project) refl
    where
      go : (o : Option Place) → slice_get places project ≡ o → All P (option_map_or (λ p. slice_set places project (change p)) o places)
      go None is = all
      go (Some p) is =
          let here : P p = subst P (get_or_from_slice_get places project p p is) (All-get_or P places project p (slice_get_within places project p is) all) in
          All-set P places project (change p) (stays p here) all

  -- what the change leaves, all projects keep
  pub map_changed : {X : Type 0} (f : Place → X) → ((p : Place) → f (change p) ≡ f p) → map f (with_place places project change) ≡ map f places
  map_changed f same = go (slice_get places project) refl
    where
      go : (o : Option Place) → slice_get places project ≡ o → map f (option_map_or (λ p. slice_set places project (change p)) o places) ≡ map f places
      go None is = refl
      go (Some p) is = map-set_same f places project (change p) p (same p ∙ ap f (sym (get_or_from_slice_get places project p p is)))
