-- A due main target is new, and making one again where its steps stand adds none: laws that generation needs.
use Rattle.std.proofs.Common.{◌≡◌, false, List, Result, Ok, Err, refl, sym, ap, subst}
use Rattle.b2_plan.specs.declared.step.Step.{Step}
use Rattle.b2_references.specs.Names.{Name, is_among}
use Rattle.b2_alternatives.specs.Choosing.{Chosen}
use Rattle.b2_alternatives.specs.Needs as needs
use Rattle.b2_alternatives.specs.declared.need.Next.TheVariants.{Due}
use Rattle.b2_alternatives.proofs.TargetAndSetDecideChoice.{names_itself}
use Rattle.b2_alternatives.proofs.FirstUnmetNeedComesNext.{due_new}
use Rattle.b2_making.specs.Acts as making
use Rattle.b2_making.specs.Conversions.{makes}
use Rattle.b2_virtual.specs.declared.entry.Supply.{Supply}
use Rattle.b2_making.proofs.EarlierStepsAreKept.{steady_kind}
use Rattle.b2_declared.specs.declared.whole.Declared.{Declared}
use Rattle.b2_generate.specs.Answers.{Generated}
use Rattle.b2_generate.specs.Faults.{Fault}
use Rattle.b2_generate.specs.Generation.{Finishes, finished_by, generated, site}
use Rattle.b2_generate.specs.Laws.{IsLawful}
use Rattle.b2_making.specs.Laws.{StandIn}
use Rattle.b2_generate.specs.LoadedProjects.{LoadedProject, returned, context}
use Rattle.b2_generate.specs.Measure.{done_names}
use Rattle.b2_generate.specs.OpenTargets.{Standing, next}
use Rattle.b2_generate.specs.Supplies.{final_set}

-- a main target that is due was not generated before
pub due_is_new : (d : Declared) (c : Chosen) (s : Standing) (name : Name) → next d c s ≡ Due name → is_among (done_names s) name ≡ false
due_is_new d c s name e = due_new (done_names s) (needs.needs d c.target s.set) name e

unok : {A B : Type 0} (r : Result A B) (x y : A) → r ≡ Ok x → r ≡ Ok y → x ≡ y
unok r x y p q = cc

module _ {E : Type 0} (l : LoadedProject E) where
  -- what was made, where a main target finished
  record IsMadeOf (c : Chosen) (s : Standing) (before : List Step) (given : Generated) (after : List Step) : Type 0 where
    supply : Supply
    makes_it : makes (context l) (site l c s) before (Ok (supply, after))
    given_is : given ≡ generated l c s supply

  made_of : (c : Chosen) (s : Standing) (before : List Step) (given : Generated) (after : List Step) (made : making.Outcome E Supply) (r : Result (Generated × List Step) (Fault E))
      → makes (context l) (site l c s) before made → r ≡ Ok (given, after) → r ≡ finished_by l c s made → IsMadeOf c s before given after
  made_of c s before given after (Ok (supply, end)) r h p q =
      let same : (given, after) ≡ (generated l c s supply, end) = unok r (given, after) (generated l c s supply, end) p q in
      record {
        supply = supply;
        makes_it = subst (λ (steps : List Step). makes (context l) (site l c s) before (Ok (supply, steps))) (sym (ap (λ k. k.1) same)) h;
        given_is = ap (λ k. k.0) same;
      }
  made_of c s before given after (Err fault) r h p q = cc

  of_finished : (c : Chosen) (s : Standing) (before after : List Step) (given : Generated) → Finishes l c s before (Ok (given, after)) → IsMadeOf c s before given after
  of_finished c s before after given f = made_of c s before given after f.made (Ok (given, after)) f.makes refl f.is

  again_one : (c : Chosen) (s : Standing) (before after later : List Step) (given : Generated) → IsMadeOf c s before given after → StandIn later after → Finishes l c s later (Ok (given, later))
  again_one c s before after later given m stand = record {
    made = Ok (m.supply, later);
    makes = (steady_kind (context l) (site l c s) c.target.kind).repeats before after later m.supply m.makes_it stand;
    is = ap (λ (g : Generated). Ok (g, later)) m.given_is;
  }

  pub lawful : IsLawful l
  lawful = record {
    stays = λ c s before after given f. let m = of_finished c s before after given f in (steady_kind (context l) (site l c s) c.target.kind).stays before after m.supply m.makes_it;
    again = λ c s before after later given f stand. again_one c s before after later given (of_finished c s before after given f) stand;
    rows = λ c s before after given f. let m = of_finished c s before after given f in (record { name = c.name; alternative = c.number; set = final_set l.declared c s }, refl, ap (λ (g : Generated). g.rows) m.given_is);
    named = λ name set c chooses. names_itself l.declared (returned l) name set c chooses;
    done = λ s name given. refl;
  }
