-- What an open main target gives, once nothing more is due.
use Rattle.std.specs.Prelude.{◌≡◌, ◌≤◌, ℕ, List, [], ◌∷◌, Option, Some, Result, Ok, Err, IfOk, IfErr, map, slice_get, codes, unwrap_or}
use Rattle.std.specs.List.{AllByRecursion, flat_map}
use Rattle.std.specs.Option.{option_map_or}
use Rattle.b2_plan.specs.declared.step.Step.{Step}
use Rattle.b2_props.specs.Sets.{IsSet}
use Rattle.b2_declared.specs.declared.whole.Declared.{Declared}
use Rattle.b2_references.specs.Names.{features, dir_of}
use Rattle.b2_evaluator.specs.Answers.{Answers}
use Rattle.b2_evaluator.specs.declared.evaluate.Evaluate.{Ghosts as Evaluate}
use Rattle.b2_alternatives.specs.Choosing.{Chosen}
use Rattle.b2_alternatives.specs.Picking.{seen}
use Rattle.b2_virtual.specs.declared.entry.Supply.{Supply}
use Rattle.b2_making.specs.Conversions.{makes}
use Rattle.b2_virtual.specs.Supplies.{entries_of}
use Rattle.b2_generate.specs.OpenTargets.{Standing}
use Rattle.b2_generate.specs.Supplies.{is_source, is_part, is_order, supplied_by, final_set}
use Rattle.b2_generate.specs.Answers.{Generated}
use Rattle.b2_generate.specs.Generation.{site, Finishes}
use Rattle.b2_generate.specs.LoadedProjects.{context}
use Rattle.b2_generate.specs.Machine.{standing_of}
use Rattle.b2_generate.specs.Nodes.{latest_in}
use Rattle.b2_generate.specs.ToldOutcomes.{loaded_of, IsRefusal}
use Rattle.b2_generate.specs.declared.fault.GenFault.{GenFault}
use Rattle.b2_generate.specs.declared.frame.Frame.{Frame}
use Rattle.b2_generate.specs.declared.node.Node.{Node}
use Rattle.b2_generate.specs.declared.making.TargetInput.{TargetInput}
use Rattle.b2_generate.specs.declared.making.Home.{Home}
use Rattle.b2_generate.specs.declared.making.TargetOutput.{TargetOutput}
use Rattle.b2_generate.specs.declared.supplies.Wanted.{Wanted}
use Rattle.b2_generate.specs.declared.supplies.Wanted.TheVariants.{Sources, Parts}

-- what the sources supply: what all parts do, where it is not kept apart
abbrev pub sources_in : TargetInput → List Supply
sources_in made = unwrap_or made.apart made.parts

-- What the sources supply stands apart where it may not be what all parts do.
abbrev pub IsApart : (Wanted → List Supply) → Option (List Supply) → Type 0
IsApart given apart = unwrap_or apart (given Parts) ≡ given Sources

-- what is supplied to a main target, and the final set of its properties
pub record AreSupplied (d : Declared) (c : Chosen) (s : Standing) (made : TargetInput) : Type 0 where
  pub sources : sources_in made ≡ supplied_by d is_source c s
  pub parts : made.parts ≡ supplied_by d is_part c s
  pub order : made.order ≡ map (λ e. e.path) (entries_of (supplied_by d is_order c s))
  pub set : made.set ≡ final_set d c s
  pub is_set : IsSet (features d) made.set

-- the project of a main target, as its steps take it
pub record IsHome (d : Declared) (project : ℕ) (home : Home) : Type 0 where
  pub dir : home.dir.now ≡ dir_of d project
  pub owner : home.owner.now ≡ option_map_or (λ p. p.«module») (slice_get d.places project) []
  pub file : home.file.now ≡ option_map_or (λ p. p.file) (slice_get d.places project) (codes ".")

-- what an open main target gives, by what the code made
abbrev pub given_of : Chosen → Standing → TargetOutput → Generated
given_of c s made =
    record { supply = made.supply; usage = made.usage; rows = record { name = c.name; alternative = c.number; set = made.set } ∷ flat_map (λ d. d.1.rows) s.done }

-- each main target that was opened for a node was generated first at this place or before it
pub record IsLatest (nodes : List Node) (children : List ℕ) (first latest : ℕ) : Type 0 where
  pub own : first ≤ latest
  pub others : AllByRecursion (λ place. latest_in nodes place ≤ latest) children

-- what was chosen for an open main target
abbrev pub chosen_of : Frame → Chosen
chosen_of f = seen f.name f.chosen

module _ {S E : Type 0} (e : Evaluate S E) (d : Declared) (roots : List (List ℕ)) (nodes : List Node) (f : Frame) where
  -- where the project's text is told, the steps of an open main target are made, and joined to those before
  abbrev pub StepsAreMade : S → List Step → List Step → Result Supply (GenFault E) → Type 0
  StepsAreMade old before after result =
      (told : Answers E) → e.answers old ≡ Some told
      → IfOk result (λ made. makes (context (loaded_of d roots told)) (site (loaded_of d roots told) (chosen_of f) (standing_of nodes f)) before (Ok (made, after)))

  -- where it is told, an open main target gives what is answered
  abbrev pub IsFinished : S → List Step → List Step → Result TargetOutput (GenFault E) → Type 0
  IsFinished old before after result =
      (told : Answers E) → e.answers old ≡ Some told
      → IfOk result (λ made. Finishes (loaded_of d roots told) (chosen_of f) (standing_of nodes f) before (Ok (given_of (chosen_of f) (standing_of nodes f) made, after)))

  -- where it is told, it gives nothing for the reason that is answered, unless that is the host or memory
  abbrev pub IsUnfinished : {T : Type 0} → S → List Step → Result T (GenFault E) → Type 0
  IsUnfinished old before result =
      (told : Answers E) → e.answers old ≡ Some told
      → IfErr result (IsRefusal e.is_host_fault e.is_out_of_memory (λ fault. Finishes (loaded_of d roots told) (chosen_of f) (standing_of nodes f) before (Err fault)))
