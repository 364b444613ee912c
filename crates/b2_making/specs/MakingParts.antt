-- What the parts of making steps promise.
use Rattle.std.specs.Prelude.{◌≡◌, ◌≢◌, ℕ, Bool, List, [], ◌∷◌, Option, Some, None, Result, Ok, Err, IfOk, IfErr, codes, map}
use Rattle.std.specs.Option.{option_copied, option_map_or}
use Rattle.b2_plan.specs.declared.step.Step.{Step}
use Rattle.b2_plan.specs.Sources.{IsInRoots}
use Rattle.b2_features.specs.Table.{DeclaredFeature}
use Rattle.b2_props.specs.Sets.{Pair}
use Rattle.b2_props.specs.Elements.{dir_text}
use Rattle.b2_props.specs.Texts.{property_text}
use Rattle.b2_virtual.specs.Paths.{output_path, located, IsPlaced}
use Rattle.b2_base.specs.Segments.{file_name}
use Rattle.b2_virtual.specs.declared.fault.VirtualFault.{VirtualFault}
use Rattle.b2_virtual.specs.declared.fault.VirtualFault.TheVariants as virtual
use Rattle.b2_generators.specs.declared.fault.ChainFault.{ChainFault}
use Rattle.b2_generators.specs.declared.fault.ChainFault.TheVariants as chain
use Rattle.b2_generators.specs.declared.generator.Generator.{Generator}
use Rattle.b2_generators.specs.Table.{generator_named}
use Rattle.b2_evaluator.specs.Answers.{Answers, IsTellable}
use Rattle.b2_evaluator.specs.declared.evaluate.Evaluate.{Ghosts as Evaluate}
use Rattle.jam_meaning.specs.declared.step.StepText.{StepText}
use Rattle.jam_meaning.specs.Rolled.{Job, StepAnswer}
use Rattle.jam_meaning.specs.StepJobs.{step_answer}
use Rattle.b2_making.specs.declared.along.Route.{Route}
use Rattle.b2_virtual.specs.declared.entry.Entry.{Entry}
use Rattle.b2_virtual.specs.declared.entry.Supply.{Supply}
use Rattle.b2_making.specs.declared.output.Output.{Output}
use Rattle.b2_making.specs.declared.set_texts.SetTexts.{SetTexts}
use Rattle.b2_making.specs.declared.setting.Setting.{Setting}
use Rattle.b2_making.specs.declared.site.Site as code
use Rattle.b2_making.specs.declared.fault.MakingFault.{MakingFault}
use Rattle.b2_making.specs.declared.fault.MakingFault.TheVariants.{NoChain, TwoChains, PathClash, LocationOutside, TooManySteps, Eval, OutOfMemory}
use Rattle.b2_making.specs.Acts.{Act, Joins}
use Rattle.b2_making.specs.Contexts.{Context, Site, context_of, site_of}
use Rattle.b2_making.specs.Conversions.{along, makes}
use Rattle.b2_making.specs.Answers.{IsRefused, IsDone, Leaves, AreHoused, Grows}

-- ---- faults

-- the fault of a step or a path
abbrev pub of_virtual : {E : Type 0} → VirtualFault → MakingFault E
of_virtual (virtual.PathClash path) = PathClash path
of_virtual (virtual.LocationOutside path) = LocationOutside path
of_virtual (virtual.TooManySteps count) = TooManySteps count
of_virtual virtual.OutOfMemory = OutOfMemory

-- the fault of a chain
abbrev pub of_chain : {E : Type 0} → ChainFault → MakingFault E
of_chain (chain.NoChain from to) = NoChain from to
of_chain (chain.TwoChains from to first second) = TwoChains from to first second
of_chain chain.OutOfMemory = OutOfMemory

-- nothing was evaluated
abbrev pub IsOfNoEval : {E : Type 0} → MakingFault E → Type 0
IsOfNoEval (NoChain from to) = Unit {0}
IsOfNoEval (TwoChains from to first second) = Unit {0}
IsOfNoEval (PathClash path) = Unit {0}
IsOfNoEval (LocationOutside path) = Unit {0}
IsOfNoEval (TooManySteps count) = Unit {0}
IsOfNoEval (Eval fault) = ⊥
IsOfNoEval OutOfMemory = Unit {0}

-- ---- sets

-- how a set shows in paths, and its properties as texts
abbrev pub texts_of : List DeclaredFeature → List Pair → SetTexts
texts_of table set = record { dir = dir_text table set; props = map property_text set }

-- ---- paths

-- a path that lies inside, or why it does not
abbrev pub IsInside : Type 0 → List ℕ → Result (List ℕ) VirtualFault → Type 0
IsInside Inside path (Ok made) = Inside × (made ≡ path)
IsInside Inside path (Err (virtual.PathClash other)) = ⊥
IsInside Inside path (Err (virtual.LocationOutside other)) = ¬ Inside × (other ≡ path)
IsInside Inside path (Err (virtual.TooManySteps count)) = ⊥
IsInside Inside path (Err virtual.OutOfMemory) = Unit {0}

-- the path of an output in `bin`
abbrev pub bin_path : Setting → code.Site → Output → List ℕ
bin_path setting site output = output_path (dir_text setting.registry.now site.set.now) output.tail

-- an output is placed at a location, or in `bin`, or lies outside
abbrev pub IsPlacedAt : Setting → code.Site → Output → Option (List ℕ) → Result (List ℕ) VirtualFault → Type 0
IsPlacedAt setting site output None result = IsInside (IsInRoots setting.roots.now (bin_path setting site output)) (bin_path setting site output) result
IsPlacedAt setting site output (Some location) result =
    IsInside (IsPlaced setting.roots.now (codes ".") location (file_name output.tail)) (located (codes ".") location (file_name output.tail)) result

-- a file of this name is copied to a location, or to the place of the target's name, or lies outside
abbrev pub IsCopiedTo : Setting → code.Site → Option (List ℕ) → List ℕ → Result (List ℕ) VirtualFault → Type 0
IsCopiedTo setting site None name result = IsInside (IsPlaced setting.roots.now site.dir.now site.name.now name) (located site.dir.now site.name.now name) result
IsCopiedTo setting site (Some location) name result = IsInside (IsPlaced setting.roots.now (codes ".") location name) (located (codes ".") location name) result

-- ---- chains

-- a step of this generator has an output
abbrev pub GivesSome : List Generator → List ℕ → Type 0
GivesSome generators id = option_map_or (λ g. g.targets) (generator_named generators id) [] ≢ []

-- the named output, where no generator follows
abbrev pub if_last : List (List ℕ) → Option Output → Option Output
if_last [] named = named
if_last (id ∷ more) named = None

-- ---- parts

-- a part that evaluates nothing does an act
pub record Alone {E A : Type 0} (act : Context E → Site → Act E A) (setting : Setting) (site : code.Site) (before after : List Step) (result : Result A (MakingFault E)) : Type 0 where
  pub exact : (told : Answers E) (is_host is_memory : E → Bool) → IsDone is_host is_memory (act (context_of told setting) (site_of site)) before after result
  pub no_eval : IfErr result IsOfNoEval

-- a part does an act, where answers are told, and leaves the evaluator and the steps as it may
pub record Did {S E K A : Type 0} (answers : S → Option (Answers E)) (kept : S → K) (faults : S → ℕ) (is_host is_memory : E → Bool) (CanFault : K → E → Type 0)
    (act : Context E → Site → Act E A) (setting : Setting) (site : code.Site) (old new : S) (before after : List Step) (result : Result A (MakingFault E)) : Type 0 where
  pub exact : (told : Answers E) → answers old ≡ Some told → IsDone is_host is_memory (act (context_of told setting) (site_of site)) before after result
  pub leaves : Leaves answers kept faults is_host is_memory CanFault old new result
  pub grows : Grows setting.roots.now before after

-- a step is joined to those before, or not
pub record IsJoined {E : Type 0} (step : Step) (before after : List Step) (result : Result (Unit {0}) (MakingFault E)) : Type 0 where
  pub exact : (is_host is_memory : E → Bool) → IsDone is_host is_memory (Joins tt step) before after result
  pub no_eval : IfErr result IsOfNoEval
  pub grows : (roots : List (List ℕ)) → AreHoused roots step.outs → Grows roots before after

-- the text of a step, or why it has none, unless that is the host or memory
abbrev pub IsTexted : {E : Type 0} → (E → Bool) → (E → Bool) → Result StepAnswer E → Result StepText (MakingFault E) → Type 0
IsTexted is_host is_memory answer (Ok text) = answer ≡ Ok (step_answer text)
IsTexted is_host is_memory answer (Err (NoChain from to)) = ⊥
IsTexted is_host is_memory answer (Err (TwoChains from to first second)) = ⊥
IsTexted is_host is_memory answer (Err (PathClash path)) = ⊥
IsTexted is_host is_memory answer (Err (LocationOutside path)) = ⊥
IsTexted is_host is_memory answer (Err (TooManySteps count)) = ⊥
IsTexted is_host is_memory answer (Err (Eval fault)) = IsTellable is_host is_memory fault → answer ≡ Err fault
IsTexted is_host is_memory answer (Err OutOfMemory) = ⊥

-- a text is asked for
pub record Asked {S E K : Type 0} (answers : S → Option (Answers E)) (kept : S → K) (faults : S → ℕ) (is_host is_memory : E → Bool) (CanFault : K → E → Type 0)
    (job : Job) (old new : S) (result : Result StepText (MakingFault E)) : Type 0 where
  pub exact : (told : Answers E) → answers old ≡ Some told → IsTexted is_host is_memory (told.step_text job) result
  pub leaves : Leaves answers kept faults is_host is_memory CanFault old new result

-- ---- the same over an evaluator of the code

-- a part does an act
abbrev pub Does : {S E A : Type 0} → Evaluate S E → (Context E → Site → Act E A) → Setting → code.Site → S → S → List Step → List Step → Result A (MakingFault E) → Type 0
Does e act setting site old new before after result =
    Did e.answers e.kept e.faults e.is_host_fault e.is_out_of_memory e.CanFault act setting site old new before after result

-- a step for each generator of a route
abbrev pub along_route : {E : Type 0} → Route → List Entry → Context E → Site → Act E (List Entry)
along_route route ins c s = along c s (option_copied route.named) route.spare.now route.ids.now ins

-- the steps of a main target are made, and joined to those before
abbrev pub Makes : {E : Type 0} → Answers E → Setting → code.Site → List Step → List Step → Result Supply (MakingFault E) → Type 0
Makes told setting site before after result = IfOk result (λ made. makes (context_of told setting) (site_of site) before (Ok (made, after)))

-- they are not, for the reason that is answered, unless that is the host or memory
abbrev pub RefusesToMake : {S E : Type 0} → Evaluate S E → Answers E → Setting → code.Site → List Step → Result Supply (MakingFault E) → Type 0
RefusesToMake e told setting site before result =
    IfErr result (IsRefused e.is_host_fault e.is_out_of_memory (makes (context_of told setting) (site_of site)) before)
