use Rattle.std.proofs.Common.{length}
use Rattle.std.specs.Str.{IsUtf8}
use Rattle.jam_journal.specs.Tables.{Names}
use Rattle.jam_journal.specs.Stacks.{entries_of, unset_by, AreNoted}
use Rattle.jam_journal.specs.Layers.{layers_of}
use Rattle.jam_journal.proofs.variables.layers.note_unset.Given as goal

abbrev pub invariant-layers : goal.invariant-layers
invariant-layers l = record {
  utf8 : IsUtf8 l.owner;
  rest : (all : Names (Unit {0})) → AreNoted l.unset all (unset_by l.home l.owner (entries_of (layers_of l.left))) → AreNoted l.initial.unset all (unset_by l.home l.fn.owner (entries_of (layers_of l.layers)));
}

abbrev pub decreases-layers : goal.decreases-layers
decreases-layers l = length l.left
