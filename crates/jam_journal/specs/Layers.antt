-- The layers that the code keeps between marks.
use Rattle.std.specs.Prelude.{List, map as each, reverse}
use Rattle.jam_journal.specs.declared.variables.Layer.{Layer}
use Rattle.jam_journal.specs.Stacks.{Layers}

-- the newest first, and in each the newest entry and change first
abbrev pub layers_of : List Layer → Layers
layers_of layers = each (λ layer. (reverse layer.entries.items, reverse layer.changes.items)) (reverse layers)
