-- The numbers of a second list of requirements begin after the rules of the first; for the loop over requirements.
use Rattle.std.proofs.Common.{◌≡◌, ℕ, ◌+◌, List, [], ◌∷◌, ◌++◌, length, sym, ◌∙◌, ap, arith, append_assoc, length-append}
use Rattle.std.specs.List.{filter_map}
use Rattle.std.proofs.lemmas.List.Elements.{filter_map-append}
use Rattle.b2_props.specs.declared.requirement.Requirement.{Requirement}
use Rattle.b2_props.specs.declared.requirement.Requirement.TheVariants as requirements
use Rattle.b2_property_texts.specs.declared.reading.RequirementText.{RequirementText}
use Rattle.b2_property_texts.specs.declared.reading.RequirementText.TheVariants.{Plain, Indirect}
use Rattle.b2_declared.specs.declared.visit.Call.{Call}
use Rattle.b2_declared.specs.declared.place.IndirectRule.{IndirectRule}
use Rattle.b2_declared.specs.Gathering.{numbered, rule_of, rules_in}

-- the rules of two lists
pub rules_in-append : (c : Call) (xs ys : List RequirementText) → rules_in c (xs ++ ys) ≡ rules_in c xs ++ rules_in c ys
unfolding rules_in
rules_in-append c xs ys = filter_map-append (rule_of c) xs ys

-- the numbers of a second list go on after the rules of the first one
pub numbered-append : (c : Call) (first : ℕ) (xs ys : List RequirementText) → numbered first (xs ++ ys) ≡ numbered first xs ++ numbered (first + length (rules_in c xs)) ys
unfolding numbered rules_in
numbered-append c first [] ys = let e : first ≡ first + 0 = omega arith in ap (λ n. numbered n ys) e
numbered-append c first (Plain p ∷ xs) ys = ap (λ made. requirements.Plain p.conditions p.property ∷ made) (numbered-append c first xs ys)
numbered-append c first (Indirect rule ∷ xs) ys =
    let e : (first + 1) + length (filter_map (rule_of c) xs) ≡ first + length (filter_map (rule_of c) (Indirect rule ∷ xs)) = omega arith in
    ap (λ made. requirements.Indirect first ∷ made)
    (numbered-append c (first + 1) xs ys ∙ ap (λ n. numbered (first + 1) xs ++ numbered n ys) e)

-- one more requirement
module _ (c : Call) (old new : List IndirectRule) (x : RequirementText) (rest : List RequirementText) (added : new ≡ old ++ rules_in c (x ∷ [])) where
  pub numbered_step : (made : List Requirement) (m : Requirement) → m ∷ [] ≡ numbered (length old) (x ∷ []) → (made ++ m ∷ []) ++ numbered (length new) rest ≡ made ++ numbered (length old) (x ∷ rest)
  numbered_step made m is =
      let longer : length new ≡ length old + length (rules_in c (x ∷ [])) = ap length added ∙ length-append old (rules_in c (x ∷ [])) in
      append_assoc made (m ∷ []) (numbered (length new) rest)
      ∙ ap (λ r. made ++ r)
      (ap (λ r. r ++ numbered (length new) rest) is ∙ ap (λ n. numbered (length old) (x ∷ []) ++ numbered n rest) longer
      ∙ sym (numbered-append c (length old) (x ∷ []) rest))

  pub rules_step : new ++ rules_in c rest ≡ old ++ rules_in c (x ∷ rest)
  rules_step =
      ap (λ r. r ++ rules_in c rest) added ∙ append_assoc old (rules_in c (x ∷ [])) (rules_in c rest) ∙ ap (λ r. old ++ r) (sym (rules_in-append c (x ∷ []) rest))
