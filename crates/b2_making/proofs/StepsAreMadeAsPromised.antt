-- A step that is made: its outputs get their paths, it gets its text, and it is joined.
use Rattle.std.proofs.Common.{◌≡◌, ◌≢◌, ℕ, Bool, true, false, List, [], Option, Result, Ok, Err, refl, sym, ◌∙◌, ap, subst}
use Rattle.std.proofs.lemmas.Bool.{false≢true}
use Rattle.b2_plan.specs.declared.step.Step.{Step}
use Rattle.b2_evaluator.specs.Answers.{Answers}
use Rattle.jam_meaning.specs.Rolled.{Job, StepAnswer}
use Rattle.jam_meaning.specs.declared.step.StepText.{StepText}
use Rattle.jam_meaning.specs.StepJobs.{step_answer}
use Rattle.b2_making.specs.declared.setting.Setting.{Setting}
use Rattle.b2_making.specs.declared.site.Site as code
use Rattle.b2_virtual.specs.declared.entry.Entry.{Entry}
use Rattle.b2_making.specs.declared.output.Output.{Output}
use Rattle.b2_making.specs.declared.fault.MakingFault.{MakingFault}
use Rattle.b2_making.specs.declared.fault.MakingFault.TheVariants.{NoChain, TwoChains, PathClash, LocationOutside, TooManySteps, Eval, OutOfMemory}
use Rattle.b2_making.specs.Faults.{Fault, no_chain, two_chains, path_clash, location_outside, too_many_steps, eval}
use Rattle.b2_making.specs.Acts.{Outcome, Act, for_each, Joins}
use Rattle.b2_making.specs.Contexts.{Context, Site, context_of, site_of}
use Rattle.b2_making.specs.Answers.{IsRefused, AreHoused}
use Rattle.b2_making.specs.MakingParts.{IsTexted, IsJoined, Asked, Alone, Did}
use Rattle.b2_making.specs.Steps.{paths_of, places, job, step_of, texted, asks, runs}
use Rattle.b2_making.proofs.ActsCompose.{refused_map, done_then}
use Rattle.b2_making.proofs.OutputsLieInRoots.{all_in, some_in}
use Rattle.b2_making.proofs.PromisesCompose.{grows_none, leaves_none, leaves_then, alone_did, did_first, did_then}

-- ---- outputs

-- an answer to all
abbrev pub silent : (E : Type 0) → Answers E
silent E = record { returned = λ project rule line properties. Ok []; step_text = λ j. Ok (record { text = []; depends = []; always = false; notfile = false }) }

pub housed : {E : Type 0} (setting : Setting) (site : code.Site) (outputs : List Output) (made : List Entry) → outputs ≢ [] → ((before : List Step) → Alone {E = E} (λ c s. for_each (places c s) outputs) setting site before before (Ok made)) → AreHoused setting.roots.now (paths_of made)
housed {E} setting site outputs made some placed =
    let is = (placed []).exact (silent E) (λ e. false) (λ e. false) in
    record {
      some_out = some_in (context_of (silent E) setting) (site_of site) outputs made [] [] some is;
      under_root = all_in (context_of (silent E) setting) (site_of site) outputs made [] [] is;
    }

-- the job of the outputs as they were read
pub job_read : (site : code.Site) (name : List ℕ) (outs made ins : List Entry) (j : Job) → j ≡ job (site_of site) name (paths_of outs) (paths_of ins) → outs ≡ made → j ≡ job (site_of site) name (paths_of made) (paths_of ins)
job_read site name outs made ins j is same = is ∙ ap (λ (es : List Entry). job (site_of site) name (paths_of es) (paths_of ins)) same

-- ---- another value

abbrev pub nothing : Unit {0}
nothing = tt

abbrev pub fault_in : {E A : Type 0} → Fault E → Outcome E A → Fault E
fault_in spare (Ok given) = spare
fault_in spare (Err fault) = fault

abbrev pub is_ok_in : {E A : Type 0} → Outcome E A → Bool
is_ok_in (Ok given) = true
is_ok_in (Err fault) = false

pub joins_fault : {E A B : Type 0} (value : A) (other : B) (step : Step) (before : List Step) (fault : Fault E) → Joins value step before (Err fault) → Joins other step before (Err fault)
joins_fault value other step before (path_clash path) is = is
joins_fault value other step before (too_many_steps count) is = is
joins_fault value other step before (no_chain a b) is = absurd is
joins_fault value other step before (two_chains a b d e) is = absurd is
joins_fault value other step before (location_outside path) is = absurd is
joins_fault value other step before (eval why) is = absurd is

module _ {S E K : Type 0} (answers : S → Option (Answers E)) (kept : S → K) (faults : S → ℕ) (is_host is_memory : E → Bool) (CanFault : K → E → Type 0) (setting : Setting) (site : code.Site) where
  abbrev Part : {A : Type 0} → (Context E → Site → Act E A) → S → S → List Step → List Step → Result A (MakingFault E) → Type 0
  Part act old new before after r = Did answers kept faults is_host is_memory CanFault act setting site old new before after r

  abbrev Text : Job → S → S → Result StepText (MakingFault E) → Type 0
  Text j old new r = Asked answers kept faults is_host is_memory CanFault j old new r

  -- ---- the text

  text_refused : (told : Answers E) (j : Job) (before : List Step) (f : MakingFault E) → IsTexted is_host is_memory (told.step_text j) (Err f) → IsRefused is_host is_memory (asks (context_of told setting) (site_of site) j nothing) before f
  text_refused told j before (NoChain a b) is = absurd is
  text_refused told j before (TwoChains a b d e) is = absurd is
  text_refused told j before (PathClash path) is = absurd is
  text_refused told j before (LocationOutside path) is = absurd is
  text_refused told j before (TooManySteps count) is = absurd is
  text_refused told j before (Eval why) is =
      λ tellable. (Err (eval why), subst (λ (a : Result StepAnswer E). texted (context_of told setting) (site_of site) j a before (Err (eval why))) (sym (is tellable)) refl, refl)
  text_refused told j before OutOfMemory is = absurd is

  pub asks_refused : (j : Job) (f : MakingFault E) (old new : S) (before : List Step) → Text j old new (Err f) → Part (λ c s. asks c s j nothing) old new before before (Err f)
  asks_refused j f old new before one = record {
    exact = λ told t. text_refused told j before f (one.exact told t);
    leaves = record { same_answers = one.leaves.same_answers; same_kept = one.leaves.same_kept; counted = one.leaves.counted; known = one.leaves.known };
    grows = grows_none setting.roots.now before;
  }

  pub asks_memory : (j : Job) (text : StepText) (old new : S) (before : List Step) → Text j old new (Ok text) → Part (λ c s. asks c s j nothing) old new before before (Err OutOfMemory)
  asks_memory j text old new before one = record {
    exact = λ told t. tt;
    leaves = record { same_answers = one.leaves.same_answers; same_kept = one.leaves.same_kept; counted = one.leaves.counted; known = tt };
    grows = grows_none setting.roots.now before;
  }

  pub asks_joined : (j : Job) (text : StepText) (step : Step) (old new : S) (before after : List Step) (r : Result (Unit {0}) (MakingFault E)) → step ≡ step_of (site_of site) j (step_answer text) → AreHoused setting.roots.now j.outs
      → Text j old new (Ok text) → IsJoined step before after r → Part (λ c s. asks c s j nothing) old new before after r
  asks_joined j text step old new before after r is roof one joined = record {
    exact = λ told t.
        done_then is_host is_memory (texted (context_of told setting) (site_of site) j (told.step_text j)) (λ x. Joins nothing x) before before after step r
        (subst (λ (a : Result StepAnswer E). texted (context_of told setting) (site_of site) j a before (Ok (step, before))) (sym (one.exact told t)) (ap (λ (x : Step). let o : Outcome E Step = Ok (x, before) in o) is))
        (joined.exact is_host is_memory);
    leaves = leaves_then answers kept faults is_host is_memory CanFault old new new text r one.leaves (leaves_none answers kept faults is_host is_memory CanFault new r joined.no_eval);
    grows = joined.grows setting.roots.now (subst (λ (x : Step). AreHoused setting.roots.now x.outs) (sym is) roof);
  }

  -- ---- the outputs as the value

  valued : (told : Answers E) (j : Job) (made : List Entry) (before after : List Step) → asks (context_of told setting) (site_of site) j nothing before (Ok (nothing, after)) → asks (context_of told setting) (site_of site) j made before (Ok (made, after))
  valued told j made before after (Ok (step, mid), p, f) = (Ok (step, mid), p, (refl, f.1, f.2))
  valued told j made before after (Err fault, p, f) = absurd (false≢true (sym (ap is_ok_in f)))

  faulted : (told : Answers E) (j : Job) (made : List Entry) (before : List Step) (fault : Fault E) → asks (context_of told setting) (site_of site) j nothing before (Err fault) → asks (context_of told setting) (site_of site) j made before (Err fault)
  faulted told j made before fault (Ok (step, mid), p, f) = (Ok (step, mid), p, joins_fault nothing made step mid fault f)
  faulted told j made before fault (Err other, p, f) = (Err other, p, ap (λ (x : Fault E). let o : Outcome E (List Entry) = Err x in o) (ap (fault_in fault) f))

  placed : (name : List ℕ) (ins : List Entry) (outputs : List Output) (made : List Entry) (old new : S) (before after : List Step) (r : Result (List Entry) (MakingFault E))
      → ((start : List Step) → Alone {E = E} (λ c s. for_each (places c s) outputs) setting site start start (Ok made))
      → Part (λ c s. asks c s (job s name (paths_of made) (paths_of ins)) made) old new before after r → Part (λ c s. runs c s name ins outputs) old new before after r
  placed name ins outputs made old new before after r alone did =
      did_then answers kept faults is_host is_memory CanFault setting site (λ c s. for_each (places c s) outputs) (λ given c s. asks c s (job s name (paths_of given) (paths_of ins)) given) old old new before before after made r
      (alone_did answers kept faults is_host is_memory CanFault setting site (λ c s. for_each (places c s) outputs) old before before (let x : Result (List Entry) (MakingFault E) = Ok made in x) (alone before) (grows_none setting.roots.now before)) did

  -- an output has no path
  pub runs_unplaced : (name : List ℕ) (ins : List Entry) (outputs : List Output) (f : MakingFault E) (old : S) (before : List Step) → ((start : List Step) → Alone {E = E} (λ c s. for_each (places c s) outputs) setting site start start (Err f))
      → Part (λ c s. runs c s name ins outputs) old old before before (Err f)
  runs_unplaced name ins outputs f old before alone =
      did_first answers kept faults is_host is_memory CanFault setting site (λ c s. for_each (places c s) outputs) (λ given c s. asks c s (job s name (paths_of given) (paths_of ins)) given) old old before before f
      (alone_did answers kept faults is_host is_memory CanFault setting site (λ c s. for_each (places c s) outputs) old before before (let x : Result (List Entry) (MakingFault E) = Err f in x) (alone before) (grows_none setting.roots.now before))

  -- the step is refused
  pub runs_refused : (name : List ℕ) (ins : List Entry) (outputs : List Output) (made : List Entry) (j : Job) (f : MakingFault E) (old new : S) (before after : List Step) → j ≡ job (site_of site) name (paths_of made) (paths_of ins)
      → ((start : List Step) → Alone {E = E} (λ c s. for_each (places c s) outputs) setting site start start (Ok made))
      → Part (λ c s. asks c s j nothing) old new before after (Err f) → Part (λ c s. runs c s name ins outputs) old new before after (Err f)
  runs_refused name ins outputs made j f old new before after is alone did = placed name ins outputs made old new before after (Err f) alone (record {
    exact = λ told t.
        subst (λ (x : Job). IsRefused is_host is_memory (asks (context_of told setting) (site_of site) x made) before f) is
        (refused_map is_host is_memory (asks (context_of told setting) (site_of site) j nothing) (asks (context_of told setting) (site_of site) j made) before before f (λ fault here. faulted told j made before fault here) (did.exact told t));
    leaves = record { same_answers = did.leaves.same_answers; same_kept = did.leaves.same_kept; counted = did.leaves.counted; known = did.leaves.known };
    grows = did.grows;
  })

  -- the step is made
  pub runs_made : (name : List ℕ) (ins : List Entry) (outputs : List Output) (made : List Entry) (j : Job) (old new : S) (before after : List Step) → j ≡ job (site_of site) name (paths_of made) (paths_of ins)
      → ((start : List Step) → Alone {E = E} (λ c s. for_each (places c s) outputs) setting site start start (Ok made))
      → Part (λ c s. asks c s j nothing) old new before after (Ok nothing) → Part (λ c s. runs c s name ins outputs) old new before after (Ok made)
  runs_made name ins outputs made j old new before after is alone did = placed name ins outputs made old new before after (Ok made) alone (record {
    exact = λ told t.
        subst (λ (x : Job). asks (context_of told setting) (site_of site) x made before (Ok (made, after))) is (valued told j made before after (did.exact told t));
    leaves = record { same_answers = did.leaves.same_answers; same_kept = did.leaves.same_kept; counted = did.leaves.counted; known = tt };
    grows = did.grows;
  })
