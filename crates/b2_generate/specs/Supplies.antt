-- What the needs of a main target supply to it, once all was generated.
use Rattle.std.specs.Prelude.{Bool, true, false, not, ℕ, List, [], ◌∷◌, ◌++◌, Option, Some, None, filter, map, if◌then◌else◌}
use Rattle.std.specs.List.{flat_map}
use Rattle.b2_props.specs.Sets.{Pair}
use Rattle.b2_props.specs.Refinement.{refined}
use Rattle.b2_generators.specs.Table.{FileType}
use Rattle.b2_references.specs.Names.{Name, is_same, is_among, features}
use Rattle.b2_references.specs.declared.meaning.Meaning.{Meaning}
use Rattle.b2_references.specs.declared.meaning.Meaning.TheVariants.{File, Targets, Nothing}
use Rattle.b2_alternatives.specs.Choosing.{Chosen}
use Rattle.b2_alternatives.specs.declared.need.NeedKind.{NeedKind}
use Rattle.b2_alternatives.specs.Needs.{needs}
use Rattle.b2_alternatives.specs.declared.need.NeedKind.TheVariants.{Source, Library, Order}
use Rattle.b2_virtual.specs.declared.entry.Supply.{Supply}
use Rattle.b2_virtual.specs.Supplies.{file_entry, entries_of, header_directories}
use Rattle.b2_generate.specs.Answers.{Generated}
use Rattle.b2_declared.specs.declared.whole.Declared.{Declared}
use Rattle.b2_generate.specs.OpenTargets.{Standing}

abbrev pub is_source : NeedKind → Bool
is_source Source = true
is_source Library = false
is_source Order = false

abbrev pub is_library : NeedKind → Bool
is_library Source = false
is_library Library = true
is_library Order = false

abbrev pub is_order : NeedKind → Bool
is_order Source = false
is_order Library = false
is_order Order = true

abbrev pub is_part : NeedKind → Bool
is_part way = not (is_order way)

-- what main targets supply, by their names
abbrev pub supply_of : List (Name × Generated) → Name → Option Supply
supply_of [] name = None
supply_of (d ∷ done) name = if is_same name d.0 then Some d.1.supply else supply_of done name

-- a file, or a main target, that is needed
pub data Part : Type 0 where
  of_file : (path : List ℕ) → Part
  of_target : (name : Name) → Part

abbrev pub parts_of : Meaning → List Part
parts_of (File path) = of_file path ∷ []
parts_of (Targets names) = map of_target names
parts_of Nothing = []

abbrev pub supply_list : Option Supply → List Supply
supply_list None = []
supply_list (Some s) = s ∷ []

-- What some parts supply, in order: each file as often as it is named, each main target at its first place alone.
abbrev pub supplied : List FileType → List (Name × Generated) → List Name → List Part → List Supply
supplied types done seen [] = []
supplied types done seen (of_file path ∷ more) = record { entries = file_entry types path ∷ []; carried = [] } ∷ supplied types done seen more
supplied types done seen (of_target name ∷ more) =
    if is_among seen name then supplied types done seen more else supply_list (supply_of done name) ++ supplied types done (seen ++ name ∷ []) more

module _ (d : Declared) where
  -- what the needs of some ways supply
  abbrev pub supplied_by : (NeedKind → Bool) → Chosen → Standing → List Supply
  supplied_by test c s =
      supplied d.types.types s.done [] (flat_map (λ n. parts_of n.meaning) (filter (λ n. test n.way) (needs d c.target s.set)))

  -- the set of a main target: with the directories of the headers that were made for it
  abbrev pub final_set : Chosen → Standing → List Pair
  final_set c s = refined (features d) s.set (header_directories (entries_of (supplied_by is_part c s)))
