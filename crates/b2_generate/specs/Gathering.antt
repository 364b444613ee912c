-- What is gathered of supplies, step by step.
use Rattle.std.specs.Prelude.{◌≡◌, Bool, List, [], ◌++◌, filter, map}
use Rattle.std.specs.List.{flat_map}
use Rattle.b2_generators.specs.Table.{FileType}
use Rattle.b2_references.specs.Names.{Name}
use Rattle.b2_alternatives.specs.declared.need.NeedKind.{NeedKind}
use Rattle.b2_alternatives.specs.declared.need.Need.{Need}
use Rattle.b2_alternatives.specs.DependencyWork.{AreKnown}
use Rattle.b2_virtual.specs.declared.entry.Supply.{Supply}
use Rattle.b2_generate.specs.Answers.{Generated}
use Rattle.b2_generate.specs.Nodes.{entry_in}
use Rattle.b2_generate.specs.Supplies.{is_source, is_part, is_order, Part, parts_of, supplied}
use Rattle.b2_generate.specs.declared.frame.Frame.{Frame}
use Rattle.b2_generate.specs.declared.node.Node.{Node}
use Rattle.b2_generate.specs.declared.supplies.Wanted.{Wanted}
use Rattle.b2_generate.specs.declared.supplies.Wanted.TheVariants.{Sources, Parts, Order}
use Rattle.b2_generate.specs.declared.supplies.SuppliesSoFar.{SuppliesSoFar}

abbrev pub test_of : Wanted → NeedKind → Bool
test_of Sources = is_source
test_of Parts = is_part
test_of Order = is_order

-- what some needs name, in order
abbrev pub named_by : Wanted → List Need → List Part
named_by wanted needs = flat_map (λ n. parts_of n.meaning) (filter (λ n. test_of wanted n.way) needs)

-- what the needs of some ways supply to an open main target
abbrev pub supplied_to : List FileType → List Node → Frame → Wanted → List Supply
supplied_to types nodes f wanted = supplied types (map (entry_in nodes) f.done) [] (named_by wanted (f.needs.sources.needs ++ f.needs.properties.needs))

-- What some parts supply was added, where others were looked at before; whatever follows them, both together supply the same.
pub record Gathers (types : List FileType) (done : List (Name × Generated)) (parts : List Part) (old new : SuppliesSoFar) : Type 0 where
  pub adds : (seen : List Name) → AreKnown seen old.seen →
      (after : List Name) × AreKnown after new.seen
      × ((rest : List Part) → new.made ++ supplied types done after rest ≡ old.made ++ supplied types done seen (parts ++ rest))
