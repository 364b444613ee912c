use Rattle.std.proofs.Common.{◌≡◌, ◌≢◌, [], take, map, string_bytes}
use Rattle.jam_journal.specs.Marks.{changed}
use Rattle.jam_journal.specs.Scopes.{bind_each}
use Rattle.jam_scope.proofs.world.project.bind_row.Given as goal

abbrev pub invariant-loop-name : goal.invariant-loop-name
invariant-loop-name l = record {
  framed : l.variables.0.frames ≢ [];
  bound : l.variables ≡ changed (bind_each (map (λ entry. (string_bytes entry.0.now, entry.1.now)) (take l.name-index l.row))) l.initial.variables;
}
