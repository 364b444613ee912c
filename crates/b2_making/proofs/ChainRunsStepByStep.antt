-- Along a chain, one generator after another.
use Rattle.std.proofs.Common.{◌≡◌, ℕ, ◌<◌, ◌≤◌, ◌+◌, Bool, List, ◌∷◌, Option, Some, Result, Ok, Err, drop, get_or, length, refl, sym, ◌∙◌, ap, subst}
use Rattle.std.specs.List.{AllByRecursion}
use Rattle.std.proofs.lemmas.List.{drop_more, at_drop_all}
use Rattle.b2_plan.specs.declared.step.Step.{Step}
use Rattle.b2_evaluator.specs.Answers.{Answers}
use Rattle.b2_making.specs.declared.setting.Setting.{Setting}
use Rattle.b2_making.specs.declared.site.Site as code
use Rattle.b2_virtual.specs.declared.entry.Entry.{Entry}
use Rattle.b2_making.specs.declared.output.Output.{Output}
use Rattle.b2_making.specs.declared.fault.MakingFault.{MakingFault}
use Rattle.b2_making.specs.declared.fault.MakingFault.TheVariants.{OutOfMemory}
use Rattle.b2_making.specs.Acts.{Outcome}
use Rattle.b2_making.specs.Contexts.{context_of, site_of}
use Rattle.b2_making.specs.Answers.{Grows, Leaves}
use Rattle.b2_making.specs.MakingParts.{if_last, Did}
use Rattle.b2_making.specs.Steps.{runs}
use Rattle.b2_making.specs.Conversions.{outputs_of, naming, first_tail, along}
use Rattle.b2_making.proofs.ActsCompose.{refused_map}
use Rattle.b2_making.proofs.ChainGeneratorsGiveOutputs.{along_next, along_refused}
use Rattle.b2_making.proofs.PromisesCompose.{did_as, leaves_none, leaves_then, leaves_given, grows_none, grows_then}

-- what comes of the rest of a chain, from these entries, comes of all of it from the inputs
pub record GoesAlong {S E K : Type 0} (answers : S → Option (Answers E)) (kept : S → K) (faults : S → ℕ) (is_host is_memory : E → Bool) (CanFault : K → E → Type 0) (setting : Setting) (site : code.Site)
    (named : Option Output) (spare : List ℕ) (ids : List (List ℕ)) (place : ℕ) (ins entries : List Entry) (old now : S) (start here : List Step) : Type 0 where
  pub goes : (told : Answers E) → answers old ≡ Some told → (outcome : Outcome E (List Entry))
      → along (context_of told setting) (site_of site) named spare (drop place ids) entries here outcome → along (context_of told setting) (site_of site) named spare ids ins start outcome
  pub leaves : Leaves answers kept faults is_host is_memory CanFault old now (let r : Result (Unit {0}) (MakingFault E) = Ok tt in r)
  pub grows : Grows setting.roots.now start here

pub given_next : {X : Type 0} (P : X → Type 0) (xs : List X) (i : ℕ) (x : X) → i < length xs → x ≡ get_or xs i x → AllByRecursion P (drop i xs) → P x × AllByRecursion P (drop (i + 1) xs)
given_next {X} P xs i x within at all = subst (λ (ys : List X). AllByRecursion P ys) (drop_more xs i x within ∙ ap (λ (y : X). y ∷ drop (i + 1) xs) (sym at)) all

-- the outputs of the step of the generator at a place
pub outputs_at : (setting : Setting) (named : Option Output) (spare : List ℕ) (ids : List (List ℕ)) (place : ℕ) (id : List ℕ) (entries current : List Entry) (outs outputs : List Output) (here : Option Output) (tail : List ℕ)
    → current ≡ entries → outs ≡ outputs → outputs ≡ naming here (outputs_of setting.types.now.types setting.types.now.generators id tail) → here ≡ if_last (drop (place + 1) ids) named → tail ≡ first_tail spare current
    → outs ≡ naming (if_last (drop (place + 1) ids) named) (outputs_of setting.types.now.types setting.types.now.generators id (first_tail spare entries))
outputs_at setting named spare ids place id entries current outs outputs here tail same seen made is at =
    seen ∙ made ∙ ap (λ (o : Option Output). naming o (outputs_of setting.types.now.types setting.types.now.generators id tail)) is
    ∙ ap (λ (t : List ℕ). naming (if_last (drop (place + 1) ids) named) (outputs_of setting.types.now.types setting.types.now.generators id t)) (at ∙ ap (first_tail spare) same)

module _ {S E K : Type 0} (answers : S → Option (Answers E)) (kept : S → K) (faults : S → ℕ) (is_host is_memory : E → Bool) (CanFault : K → E → Type 0) (setting : Setting) (site : code.Site)
    (named : Option Output) (spare : List ℕ) (ids : List (List ℕ)) (ins : List Entry) where
  abbrev Way : ℕ → List Entry → S → S → List Step → List Step → Type 0
  Way place entries old now start here = GoesAlong answers kept faults is_host is_memory CanFault setting site named spare ids place ins entries old now start here

  abbrev Done : S → S → List Step → List Step → Result (List Entry) (MakingFault E) → Type 0
  Done old new start here r = Did answers kept faults is_host is_memory CanFault (λ c s. along c s named spare ids ins) setting site old new start here r

  -- the step of the generator at a place
  abbrev Step_at : ℕ → List ℕ → List Entry → S → S → List Step → List Step → Result (List Entry) (MakingFault E) → Type 0
  Step_at place id entries now next here there r =
      Did answers kept faults is_host is_memory CanFault (λ c s. runs c s id entries (naming (if_last (drop (place + 1) ids) named) (outputs_of c.file_types c.generators id (first_tail spare entries)))) setting site now next here there r

  pub step_at : (place : ℕ) (id : List ℕ) (entries ins_of : List Entry) (outputs : List Output) (now next : S) (here there : List Step) (r : Result (List Entry) (MakingFault E)) → ins_of ≡ entries
      → outputs ≡ naming (if_last (drop (place + 1) ids) named) (outputs_of setting.types.now.types setting.types.now.generators id (first_tail spare entries))
      → Did answers kept faults is_host is_memory CanFault (λ c s. runs c s id ins_of outputs) setting site now next here there r → Step_at place id entries now next here there r
  step_at place id entries ins_of outputs now next here there r same are did =
      did_as answers kept faults is_host is_memory CanFault setting site (λ c s. runs c s id ins_of outputs)
      (λ c s. runs c s id entries (naming (if_last (drop (place + 1) ids) named) (outputs_of c.file_types c.generators id (first_tail spare entries)))) now next here there r
      (λ told outcome is.
      subst (λ (os : List Output). runs (context_of told setting) (site_of site) id entries os here outcome) are
      (subst (λ (es : List Entry). runs (context_of told setting) (site_of site) id es outputs here outcome) same is)) did

  pub along_start : (old : S) (start : List Step) → Way 0 ins old old start start
  along_start old start = record {
    goes = λ told t outcome is. is;
    leaves = leaves_none answers kept faults is_host is_memory CanFault old (let r : Result (Unit {0}) (MakingFault E) = Ok tt in r) tt;
    grows = grows_none setting.roots.now start;
  }

  pub along_more : (place : ℕ) (id : List ℕ) (entries made : List Entry) (old now next : S) (start here there : List Step) → place < length ids → id ≡ get_or ids place id
      → Way place entries old now start here → Step_at place id entries now next here there (Ok made) → Way (place + 1) made old next start there
  along_more place id entries made old now next start here there within at before one = record {
    goes = λ told t outcome is.
        before.goes told t outcome
        (subst (λ (xs : List (List ℕ)). along (context_of told setting) (site_of site) named spare xs entries here outcome) (ap (λ (x : List ℕ). x ∷ drop (place + 1) ids) at ∙ sym (drop_more ids place id within))
        (along_next (context_of told setting) (site_of site) named spare id (drop (place + 1) ids) entries made here there outcome (one.exact told (before.leaves.same_answers ∙ t)) is));
    leaves = leaves_given answers kept faults is_host is_memory CanFault old next made tt (leaves_then answers kept faults is_host is_memory CanFault old now next tt (let r : Result (List Entry) (MakingFault E) = Ok made in r) before.leaves one.leaves);
    grows = grows_then setting.roots.now start here there before.grows one.grows;
  }

  pub along_end : (place : ℕ) (entries : List Entry) (old now : S) (start here : List Step) → length ids ≤ place → Way place entries old now start here → Done old now start here (Ok entries)
  along_end place entries old now start here over before = record {
    exact = λ told t.
        before.goes told t (Ok (entries, here))
        (subst (λ (xs : List (List ℕ)). along (context_of told setting) (site_of site) named spare xs entries here (Ok (entries, here))) (sym (at_drop_all (λ (xs : List (List ℕ)). xs) ids place over)) refl);
    leaves = leaves_given answers kept faults is_host is_memory CanFault old now tt entries before.leaves;
    grows = before.grows;
  }

  pub along_fault : (place : ℕ) (id : List ℕ) (entries : List Entry) (old now next : S) (start here there : List Step) (f : MakingFault E) → place < length ids → id ≡ get_or ids place id
      → Way place entries old now start here → Step_at place id entries now next here there (Err f) → Done old next start there (Err f)
  along_fault place id entries old now next start here there f within at before one = record {
    exact = λ told t.
        refused_map is_host is_memory
        (runs (context_of told setting) (site_of site) id entries
        (naming (if_last (drop (place + 1) ids) named) (outputs_of setting.types.now.types setting.types.now.generators id (first_tail spare entries))))
        (along (context_of told setting) (site_of site) named spare ids ins) here start f
        (λ fault is.
        before.goes told t (Err fault)
        (subst (λ (xs : List (List ℕ)). along (context_of told setting) (site_of site) named spare xs entries here (Err fault)) (ap (λ (x : List ℕ). x ∷ drop (place + 1) ids) at ∙ sym (drop_more ids place id within))
        (along_refused (context_of told setting) (site_of site) named spare id (drop (place + 1) ids) entries here fault is)))
        (one.exact told (before.leaves.same_answers ∙ t));
    leaves = leaves_then answers kept faults is_host is_memory CanFault old now next tt (let r : Result (List Entry) (MakingFault E) = Err f in r) before.leaves one.leaves;
    grows = grows_then setting.roots.now start here there before.grows one.grows;
  }

  pub along_memory : (place : ℕ) (entries : List Entry) (old now : S) (start here : List Step) → Way place entries old now start here → Done old now start here (Err OutOfMemory)
  along_memory place entries old now start here before = record {
    exact = λ told t. tt;
    leaves = record { same_answers = before.leaves.same_answers; same_kept = before.leaves.same_kept; counted = before.leaves.counted; known = tt };
    grows = before.grows;
  }
