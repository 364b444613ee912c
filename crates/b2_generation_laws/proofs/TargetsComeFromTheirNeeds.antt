-- A main target that gave something chose an alternative, generated what it depends on, and was made of this.
use Rattle.std.proofs.Common.{◌≡◌, List, [], ◌∷◌, ◌++◌, Result, Ok, Err, refl, sym, ap, subst}
use Rattle.b2_plan.specs.declared.step.Step.{Step}
use Rattle.b2_props.specs.Sets.{Pair}
use Rattle.b2_references.specs.Names.{Name}
use Rattle.b2_alternatives.specs.Choosing.{Chosen, Chooses}
use Rattle.b2_virtual.specs.declared.entry.Supply.{Supply}
use Rattle.b2_making.specs.Acts as making
use Rattle.b2_making.specs.Conversions.{makes}
use Rattle.b2_generate.specs.Answers.{Generated}
use Rattle.b2_generate.specs.Faults.{Fault}
use Rattle.b2_generate.specs.Generation.{Generates, Depends, Finishes, finished, finished_by, generated, site}
use Rattle.b2_generate.specs.LoadedProjects.{LoadedProject, returned, context}
use Rattle.b2_generate.specs.OpenTargets.{Standing, at_first}

unok : {A B : Type 0} (x y : A) (r : Result A B) → r ≡ Ok x → r ≡ Ok y → x ≡ y
unok x y r p q = cc

-- what was made of what it depends on
pub record IsMadeOf {E : Type 0} (l : LoadedProject E) (c : Chosen) (s : Standing) (before : List Step) (given : Generated) (after : List Step) : Type 0 where
  pub supply : Supply
  pub makes_it : makes (context l) (site l c s) before (Ok (supply, after))
  pub given_is : given ≡ generated l c s supply

module _ {E : Type 0} (l : LoadedProject E) where
  made_by : (c : Chosen) (s : Standing) (before : List Step) (given : Generated) (after : List Step) (made : making.Outcome E Supply) (r : Result (Generated × List Step) (Fault E))
      → makes (context l) (site l c s) before made → r ≡ Ok (given, after) → r ≡ finished_by l c s made → IsMadeOf l c s before given after
  made_by c s before given after (Ok (supply, end)) r makes_it p q =
      let same : (given, after) ≡ (generated l c s supply, end) = unok (given, after) (generated l c s supply, end) r p q in
      record {
        supply = supply;
        makes_it = subst (λ (steps : List Step). makes (context l) (site l c s) before (Ok (supply, steps))) (sym (ap (λ k. k.1) same)) makes_it;
        given_is = ap (λ k. k.0) same;
      }
  made_by c s before given after (Err fault) r makes_it p q = cc

  pub made_of : (c : Chosen) (s : Standing) (before after : List Step) (given : Generated) → Finishes l c s before (Ok (given, after)) → IsMadeOf l c s before given after
  made_of c s before after given f = made_by c s before given after f.made (Ok (given, after)) f.makes refl f.is

  -- it chose an alternative, generated what it depends on, and was made of this
  pub record IsFinished (above : List Name) (name : Name) (set : List Pair) (before : List Step) (given : Generated) (after : List Step) : Type 0 where
    pub chosen : Chosen
    pub stands : Standing
    pub between : List Step
    pub chooses : Chooses l.declared (returned l) name set (Ok chosen)
    pub depends : Depends l (above ++ name ∷ []) chosen (at_first chosen) before (Ok (stands, between))
    pub made : IsMadeOf l chosen stands between given after

  pub finished_of : (above : List Name) (name : Name) (set : List Pair) (before after : List Step) (given : Generated) → Generates l above name set before (Ok (given, after)) → IsFinished above name set before given after
  finished_of above name set before after given (finished _ _ _ _ between c s _ closed chooses depends finishes) = record {
    chosen = c;
    stands = s;
    between = between;
    chooses = chooses;
    depends = depends;
    made = made_of c s between after given finishes;
  }
