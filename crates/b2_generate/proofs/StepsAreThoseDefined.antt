-- What the code makes for an open main target, or why it refuses to, is what the definition of making says.
use Rattle.std.proofs.Common.{◌≡◌, ℕ, Bool, true, false, List, [], ◌∷◌, ◌++◌, Ok, Err, refl, sym, ap, ◌∙◌}
use Rattle.std.specs.List.{flat_map}
use Rattle.std.proofs.lemmas.List.{append-nil}
use Rattle.b2_plan.specs.declared.step.Step.{Step}
use Rattle.b2_props.specs.Sets.{Pair}
use Rattle.b2_declared.specs.declared.whole.Declared.{Declared}
use Rattle.b2_evaluator.specs.Answers.{Answers, IsTellable}
use Rattle.b2_alternatives.specs.Choosing.{Chosen}
use Rattle.b2_alternatives.specs.Usage.{own_usage, passed_usage}
use Rattle.b2_making.specs.Answers.{IsRefused, Grows}
use Rattle.b2_making.specs.Contexts.{Site}
use Rattle.b2_making.specs.Conversions.{makes}
use Rattle.b2_making.specs.Faults as made
use Rattle.b2_virtual.specs.declared.entry.Supply.{Supply}
use Rattle.b2_making.specs.declared.fault.MakingFault.{MakingFault}
use Rattle.b2_making.specs.declared.fault.MakingFault.TheVariants.{NoChain, TwoChains, PathClash, LocationOutside, TooManySteps, Eval, OutOfMemory}
use Rattle.b2_generate.specs.Faults.{not_made}
use Rattle.b2_generate.specs.Generation.{site, Finishes}
use Rattle.b2_generate.specs.LoadedProjects.{LoadedProject, context}
use Rattle.b2_generate.specs.Making.{AreSupplied, IsHome, given_of, sources_in}
use Rattle.b2_generate.specs.OpenTargets.{Standing}
use Rattle.b2_generate.specs.Supplies.{final_set}
use Rattle.b2_generate.specs.ToldOutcomes.{loaded_of, unless, IfFault, IsRefusal}
use Rattle.b2_generate.specs.declared.fault.GenFault.TheVariants.{NotMade}
use Rattle.b2_generate.specs.declared.making.Home.{Home}
use Rattle.b2_generate.specs.declared.making.TargetInput.{TargetInput}

pub grows_none : (roots : List (List ℕ)) (steps : List Step) → Grows roots steps steps
grows_none roots steps = record { more = []; joined = sym (append-nil steps); housed = record {} }

-- the target as the code hands it over
abbrev pub site_with : Chosen → Home → List Supply → List Supply → List (List ℕ) → List Pair → Site
site_with c home sources parts order set = record {
  kind = c.target.kind;
  name = c.target.name;
  rule = c.target.rule;
  line = c.target.line;
  dir = home.dir.now;
  owner = home.owner.now;
  file = home.file.now;
  set = set;
  sources = sources;
  parts = parts;
  order = order;
}

pub site_is : {E : Type 0} (l : LoadedProject E) (c : Chosen) (s : Standing) (home : Home) (given : TargetInput) → IsHome l.declared c.target.project home → AreSupplied l.declared c s given
    → site_with c home (sources_in given) given.parts given.order given.set ≡ site l c s
site_is l c s home given at are = λ i. record {
  kind = c.target.kind;
  name = c.target.name;
  rule = c.target.rule;
  line = c.target.line;
  dir = at.dir i;
  owner = at.owner i;
  file = at.file i;
  set = are.set i;
  sources = are.sources i;
  parts = are.parts i;
  order = are.order i;
}

module _ {E : Type 0} (is_host is_out : E → Bool) (l : LoadedProject E) (c : Chosen) (s : Standing) (before : List Step) where
  refused_as : (fault : made.Fault E) → makes (context l) (site l c s) before (Err fault) → Finishes l c s before (Err (not_made fault))
  refused_as fault h = record { made = Err fault; makes = h; is = refl }

  of_eval : (host out : Bool) (fault : E) → is_host fault ≡ host → is_out fault ≡ out → (IsTellable is_host is_out fault → makes (context l) (site l c s) before (Err (made.eval fault)))
      → IfFault (λ f. Finishes l c s before (Err f)) (unless host out (not_made (made.eval fault)))
  of_eval true out fault host_is out_is h = record {}
  of_eval false true fault host_is out_is h = record {}
  of_eval false false fault host_is out_is h = refused_as (made.eval fault) (h (record { no_host_fault = host_is; no_memory_fault = out_is }))

  -- a refusal of the steps is one of the target
  pub refusal : (fault : MakingFault E) → IsRefused is_host is_out (makes (context l) (site l c s)) before fault → IsRefusal is_host is_out (λ f. Finishes l c s before (Err f)) (NotMade fault)
  refusal (NoChain from to) h = refused_as (made.no_chain from to) h
  refusal (TwoChains from to first second) h = refused_as (made.two_chains from to first second) h
  refusal (PathClash path) h = refused_as (made.path_clash path) h
  refusal (LocationOutside path) h = refused_as (made.location_outside path) h
  refusal (TooManySteps count) h = refused_as (made.too_many_steps count) h
  refusal (Eval fault) h = of_eval (is_host fault) (is_out fault) fault refl refl h
  refusal OutOfMemory h = record {}

-- what is made is what the target gives
pub finishes : {E : Type 0} (l : LoadedProject E) (c : Chosen) (s : Standing) (before after : List Step) (supply : Supply) (usage set : List Pair)
    → makes (context l) (site l c s) before (Ok (supply, after)) → set ≡ final_set l.declared c s → usage ≡ own_usage l.declared c.target set ++ passed_usage c.target.kind s.usage
    → Finishes l c s before (Ok (given_of c s (record { set = set; supply = supply; usage = usage }), after))
finishes l c s before after supply usage set h final used = record {
  made = Ok (supply, after);
  makes = h;
  is = λ i. Ok (
    record {
      supply = supply;
      usage = (used ∙ ap (λ x. own_usage l.declared c.target x ++ passed_usage c.target.kind s.usage) final) i;
      rows = record { name = c.name; alternative = c.number; set = final i } ∷ flat_map (λ d. d.1.rows) s.done;
    },
    after,
  );
}

-- the steps of the code's setting and site are those of the definition
pub acts_are : {E : Type 0} (d0 d : Declared) (roots : List (List ℕ)) (told : Answers E) (c : Chosen) (s : Standing) (home : Home) (given : TargetInput) (sources parts : List Supply) (order : List (List ℕ))
    → d0 ≡ d → IsHome d c.target.project home → AreSupplied d c s given → sources ≡ sources_in given → parts ≡ given.parts → order ≡ given.order
    → makes (context (loaded_of d0 roots told)) (site_with c home sources parts order given.set) ≡ makes (context (loaded_of d roots told)) (site (loaded_of d roots told) c s)
acts_are d0 d roots told c s home given sources parts order same at are first second third =
    ap (λ (k : Declared). makes (context (loaded_of k roots told)) (site_with c home sources parts order given.set)) same
    ∙ ap (λ (t : Site). makes (context (loaded_of d roots told)) t)
    ((λ i. site_with c home (first i) (second i) (third i) given.set) ∙ site_is (loaded_of d roots told) c s home given at are)
