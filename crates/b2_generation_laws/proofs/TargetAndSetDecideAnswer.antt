-- What a main target gives depends on the target and the set alone.
use Rattle.std.proofs.Common.{◌≡◌, ℕ, List, [], ◌∷◌, ◌++◌, Result, Ok, Err, refl, sym, ap, subst, ◌∙◌, arith}
use Rattle.b2_plan.specs.declared.step.Step.{Step}
use Rattle.b2_props.specs.Sets.{Pair}
use Rattle.b2_references.specs.Names.{Name}
use Rattle.b2_alternatives.specs.declared.fault.ChoiceFault.{ChoiceFault}
use Rattle.b2_alternatives.specs.declared.need.Next.{Next}
use Rattle.b2_alternatives.specs.declared.need.Next.TheVariants.{Complete, Missing, Due}
use Rattle.b2_alternatives.specs.Choosing.{Chosen}
use Rattle.b2_alternatives.proofs.TargetAndSetDecideChoice.{one_choice_law}
use Rattle.b2_generate.specs.Answers.{Generated}
use Rattle.b2_generate.specs.Generation.{Generates, Depends, generated, site, finished, complete_now, goes_on}
use Rattle.b2_generate.specs.Laws.{SameAnswer}
use Rattle.b2_generate.specs.LoadedProjects.{LoadedProject, returned, context}
use Rattle.b2_generate.specs.OpenTargets.{Standing, at_first, next, with_target, hands_on}
use Rattle.b2_generation_laws.proofs.TargetsComeFromTheirNeeds.{IsMadeOf, made_of, finished_of}
use Rattle.b2_generation_laws.proofs.EarlierStepsDoNotMatter.{made_once}

abbrev chosen_of : {E : Type 0} → Chosen → Result Chosen (ChoiceFault E) → Chosen
chosen_of c (Ok found) = found
chosen_of c (Err fault) = c

abbrev due_of : Name → Next → Name
due_of name (Due other) = other
due_of name Complete = name
due_of name (Missing text) = name

abbrev kind_of : Next → ℕ
kind_of Complete = 0
kind_of (Missing text) = 1
kind_of (Due name) = 2

-- how step 3 ends well
data EndsWell {E : Type 0} (l : LoadedProject E) (above : List Name) (c : Chosen) (s : Standing) (before : List Step) (last : Standing) (after : List Step) : Type 0 where
  at_once : next l.declared c s ≡ Complete → last ≡ s → EndsWell l above c s before last after
  later_on : (name : Name) (given : Generated) (between : List Step) → next l.declared c s ≡ Due name → Generates l above name (hands_on l.declared s) before (Ok (given, between))
      → Depends l above c (with_target l.declared s name given) between (Ok (last, after)) → EndsWell l above c s before last after

module _ {E : Type 0} (l : LoadedProject E) where
  ends_well : (above : List Name) (c : Chosen) (s : Standing) (before : List Step) (last : Standing) (after : List Step) → Depends l above c s before (Ok (last, after)) → EndsWell l above c s before last after
  ends_well above c s before last after (complete_now _ _ _ _ is) = at_once is refl
  ends_well above c s before last after (goes_on _ _ _ _ between name given _ is made fits depends) = later_on name given between is made depends

  -- the same was made of the same
  same_made : (c : Chosen) (s : Standing) (before after earlier later : List Step) (a b : Generated) → IsMadeOf l c s before a after → IsMadeOf l c s earlier b later → a ≡ b
  same_made c s before after earlier later a b one other =
      one.given_is
      ∙ ap (generated l c s) (made_once (context l) (site l c s) c.target.kind before after earlier later one.supply other.supply one.makes_it other.makes_it)
      ∙ sym other.given_is

  module _ (others : List Name) (c : Chosen) (s : Standing) (earlier later : List Step) (y : Standing) where
    at_end : next l.declared c s ≡ Complete → EndsWell l others c s earlier y later → s ≡ y
    at_end is (at_once e same) = sym same
    at_end is (later_on name given between e made depends) = absurd (omega (arith, ap kind_of (sym is ∙ e)))

    at_due : (x : Standing) (name : Name) (given : Generated) → next l.declared c s ≡ Due name
        → ((other : Generated) (between : List Step) → Generates l others name (hands_on l.declared s) earlier (Ok (other, between)) → given ≡ other)
        → ((between : List Step) → Depends l others c (with_target l.declared s name given) between (Ok (y, later)) → x ≡ y)
        → EndsWell l others c s earlier y later → x ≡ y
    at_due x name given is same rest (at_once e last) = absurd (omega (arith, ap kind_of (sym is ∙ e)))
    at_due x name given is same rest (later_on name₁ given₁ between e made depends) =
        let alike : name₁ ≡ name = sym (ap (due_of name) (sym is ∙ e)) in
        let gives : given ≡ given₁ = same given₁ between (subst (λ (n : Name). Generates l others n (hands_on l.declared s) earlier (Ok (given₁, between))) alike made) in
        rest between
        (subst (λ (g : Generated). Depends l others c (with_target l.declared s name g) between (Ok (y, later))) (sym gives)
        (subst (λ (n : Name). Depends l others c (with_target l.declared s n given₁) between (Ok (y, later))) alike depends))

  mutual
    same_generated : (above others : List Name) (name : Name) (set : List Pair) (before after earlier later : List Step) (a b : Generated)
        → Generates l above name set before (Ok (a, after)) → Generates l others name set earlier (Ok (b, later)) → a ≡ b
    same_generated above others name set before after earlier later a b (finished _ _ _ _ between c stands _ closed chooses depends finishes) second =
        let other = finished_of l others name set earlier later b second in
        let alike : other.chosen ≡ c = sym (ap (chosen_of c) (one_choice_law l.declared (returned l) name set (Ok c) (Ok other.chosen) chooses other.chooses)) in
        let stand : other.stands ≡ stands =
        sym
        (same_depended (above ++ name ∷ []) (others ++ name ∷ []) c (at_first c) before between earlier other.between stands other.stands depends
        (subst (λ (k : Chosen). Depends l (others ++ name ∷ []) k (at_first k) earlier (Ok (other.stands, other.between))) alike other.depends)) in
        same_made c stands between after other.between later a b (made_of l c stands between after a finishes)
        (subst (λ (s : Standing). IsMadeOf l c s other.between b later) stand (subst (λ (k : Chosen). IsMadeOf l k other.stands other.between b later) alike other.made))

    same_depended : (above others : List Name) (c : Chosen) (s : Standing) (before after earlier later : List Step) (x y : Standing)
        → Depends l above c s before (Ok (x, after)) → Depends l others c s earlier (Ok (y, later)) → x ≡ y
    same_depended above others c s before after earlier later x y (complete_now _ _ _ _ is) second = at_end others c s earlier later y is (ends_well others c s earlier y later second)
    same_depended above others c s before after earlier later x y (goes_on _ _ _ _ between name given _ is made fits depends) second =
        at_due others c s earlier later y x name given is
        (λ other mid generates. same_generated above others name (hands_on l.declared s) before between earlier mid given other made generates)
        (λ mid rest. same_depended above others c (with_target l.declared s name given) between after mid later x y depends rest)
        (ends_well others c s earlier y later second)

pub same_answer : {E : Type 0} → SameAnswer E
same_answer l above others name set before after earlier later a b one other = same_generated l above others name set before after earlier later a b one other
