-- Generation: a main target is asked for with a set of properties, while others are open.
use Rattle.std.specs.Prelude.{◌≡◌, ℕ, true, false, List, [], ◌∷◌, ◌++◌, Some, None, Ok, Err, map, slice_get, codes, if◌then◌else◌}
use Rattle.std.specs.List.{flat_map}
use Rattle.std.specs.Option.{option_map_or}
use Rattle.b2_plan.specs.declared.step.Step.{Step}
use Rattle.b2_props.specs.Sets.{Pair}
use Rattle.b2_references.specs.Names.{Name, is_same, is_among, target_text, dir_of}
use Rattle.b2_alternatives.specs.declared.fault.ChoiceFault.{ChoiceFault}
use Rattle.b2_alternatives.specs.Choosing.{Chosen, Chooses}
use Rattle.b2_alternatives.specs.declared.need.Next.TheVariants.{Complete, Missing, Due}
use Rattle.b2_alternatives.specs.declared.conflict.Conflict.{Conflict}
use Rattle.b2_alternatives.specs.Usage.{own_usage, passed_usage}
use Rattle.b2_virtual.specs.declared.entry.Supply.{Supply}
use Rattle.b2_making.specs.Acts as making
use Rattle.b2_making.specs.Contexts.{Site}
use Rattle.b2_making.specs.Conversions.{makes}
use Rattle.b2_virtual.specs.Supplies.{entries_of}
use Rattle.b2_generate.specs.Faults.{Fault, target_cycle, usage_conflict, no_target, not_chosen, not_made}
use Rattle.b2_generate.specs.LoadedProjects.{LoadedProject, returned, context}
use Rattle.b2_generate.specs.Answers.{Row, Generated, Outcome}
use Rattle.b2_generate.specs.OpenTargets.{Standing, at_first, next, conflict, with_target, hands_on}
use Rattle.b2_generate.specs.Supplies.{is_source, is_part, is_order, supplied_by, final_set}

-- the open targets from one of them on
abbrev pub from_first : Name → List Name → List Name
from_first name [] = []
from_first name (other ∷ more) = if is_same name other then other ∷ more else from_first name more

module _ {E : Type 0} (l : LoadedProject E) where
  abbrev pub cycle_of : Name → List Name → Fault E
  cycle_of name above = target_cycle (map (target_text l.declared) (from_first name above))

  abbrev pub conflict_fault : Chosen → Conflict → Fault E
  conflict_fault c found = usage_conflict (target_text l.declared c.name) found.feature found.first found.second

  -- ---- what an alternative gives, once its dependencies are generated

  -- the module and the file of a main target's project
  abbrev pub owner_of : Chosen → List ℕ
  owner_of c = option_map_or (λ p. p.«module») (slice_get l.declared.places c.target.project) []

  abbrev pub file_of : Chosen → List ℕ
  file_of c = option_map_or (λ p. p.file) (slice_get l.declared.places c.target.project) (codes ".")

  -- the target as its steps are made
  abbrev pub site : Chosen → Standing → Site
  site c s = record {
    kind = c.target.kind;
    name = c.target.name;
    rule = c.target.rule;
    line = c.target.line;
    dir = dir_of l.declared c.target.project;
    owner = owner_of c;
    file = file_of c;
    set = final_set l.declared c s;
    sources = supplied_by l.declared is_source c s;
    parts = supplied_by l.declared is_part c s;
    order = map (λ e. e.path) (entries_of (supplied_by l.declared is_order c s));
  }

  -- its row, then those of what was generated for it, in order
  abbrev pub rows : Chosen → Standing → List Row
  rows c s = record { name = c.name; alternative = c.number; set = final_set l.declared c s } ∷ flat_map (λ d. d.1.rows) s.done

  abbrev pub generated : Chosen → Standing → Supply → Generated
  generated c s made = record {
    supply = made;
    usage = own_usage l.declared c.target (final_set l.declared c s) ++ passed_usage c.target.kind s.usage;
    rows = rows c s;
  }

  -- what comes of what is made
  abbrev pub finished_by : Chosen → Standing → making.Outcome E Supply → Outcome E Generated
  finished_by c s (Ok (made, after)) = Ok (generated c s made, after)
  finished_by c s (Err fault) = Err (not_made fault)

  pub record Finishes (c : Chosen) (s : Standing) (before : List Step) (outcome : Outcome E Generated) : Type 0 where
    pub made : making.Outcome E Supply
    pub makes : makes (context l) (site c s) before made
    pub is : outcome ≡ finished_by c s made

-- ---- all of it

mutual
  -- A main target is generated with a set while these are open, and its steps join those before. A target that is open already is
  -- a cycle. Else an alternative and its set are chosen, what it depends on is generated while it is open too, and its steps are made.
  -- The first refusal is the outcome.
  pub data Generates {E : Type 0} (l : LoadedProject E) : List Name → Name → List Pair → List Step → Outcome E Generated → Type 0 where
    is_open : (above : List Name) (name : Name) (set : List Pair) (before : List Step) →
        is_among above name ≡ true →
        Generates l above name set before (Err (cycle_of l name above))
    choice_refused : (above : List Name) (name : Name) (set : List Pair) (before : List Step) (fault : ChoiceFault E) →
        is_among above name ≡ false → Chooses l.declared (returned l) name set (Err fault) →
        Generates l above name set before (Err (not_chosen fault))
    not_supplied : (above : List Name) (name : Name) (set : List Pair) (before : List Step) (chosen : Chosen) (fault : Fault E) →
        is_among above name ≡ false → Chooses l.declared (returned l) name set (Ok chosen) → Depends l (above ++ name ∷ []) chosen (at_first chosen) before (Err fault) →
        Generates l above name set before (Err fault)
    finished : (above : List Name) (name : Name) (set : List Pair) (before between : List Step) (chosen : Chosen) (stands : Standing)
        (outcome : Outcome E Generated) →
        is_among above name ≡ false → Chooses l.declared (returned l) name set (Ok chosen) → Depends l (above ++ name ∷ []) chosen (at_first chosen) before (Ok (stands, between)) →
        Finishes l chosen stands between outcome →
        Generates l above name set before outcome

  -- The dependencies that are left, from where it stands. Where nothing is next it is complete. A text that names nothing is refused.
  -- A main target that is due is generated with what the set so far hands on; then its usage requirements must go with those before,
  -- and the next one is looked for.
  pub data Depends {E : Type 0} (l : LoadedProject E) : List Name → Chosen → Standing → List Step → Outcome E Standing → Type 0 where
    complete_now : (above : List Name) (chosen : Chosen) (stands : Standing) (before : List Step) →
        next l.declared chosen stands ≡ Complete →
        Depends l above chosen stands before (Ok (stands, before))
    names_nothing : (above : List Name) (chosen : Chosen) (stands : Standing) (before : List Step) (text : List ℕ) →
        next l.declared chosen stands ≡ Missing text →
        Depends l above chosen stands before (Err (no_target text))
    refused : (above : List Name) (chosen : Chosen) (stands : Standing) (before : List Step) (name : Name) (fault : Fault E) →
        next l.declared chosen stands ≡ Due name → Generates l above name (hands_on l.declared stands) before (Err fault) →
        Depends l above chosen stands before (Err fault)
    conflicts : (above : List Name) (chosen : Chosen) (stands : Standing) (before between : List Step) (name : Name) (given : Generated) (found : Conflict) →
        next l.declared chosen stands ≡ Due name → Generates l above name (hands_on l.declared stands) before (Ok (given, between)) →
        conflict l.declared stands given ≡ Some found →
        Depends l above chosen stands before (Err (conflict_fault l chosen found))
    goes_on : (above : List Name) (chosen : Chosen) (stands : Standing) (before between : List Step) (name : Name) (given : Generated) (outcome : Outcome E Standing) →
        next l.declared chosen stands ≡ Due name → Generates l above name (hands_on l.declared stands) before (Ok (given, between)) →
        conflict l.declared stands given ≡ None → Depends l above chosen (with_target l.declared stands name given) between outcome →
        Depends l above chosen stands before outcome
