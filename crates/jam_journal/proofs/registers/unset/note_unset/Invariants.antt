use Rattle.std.proofs.Common.{◌≡◌, reverse, length}
use Rattle.std.specs.Str.{IsUtf8}
use Rattle.jam_journal.specs.Tables.{Names}
use Rattle.jam_journal.specs.Stacks.{owner_before, unset_by, AreNoted}
use Rattle.jam_journal.proofs.registers.unset.note_unset.Given as goal

abbrev pub invariant-entries : goal.invariant-entries
invariant-entries l = record {
  owner : owner_before l.fn.owner (reverse l.entries) ≡ owner_before l.owner (reverse l.left);
  utf8 : IsUtf8 l.owner;
  rest : (all : Names (Unit {0})) → AreNoted l.unset all (unset_by l.home l.owner (reverse l.left)) → AreNoted l.initial.unset all (unset_by l.home l.fn.owner (reverse l.entries));
}

abbrev pub decreases-entries : goal.decreases-entries
decreases-entries l = length l.left
