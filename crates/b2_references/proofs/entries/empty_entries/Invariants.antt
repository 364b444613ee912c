use Rattle.std.proofs.Common.{◌≡◌, All, length}
use Rattle.b2_references.specs.Indexing.{no_entry}
use Rattle.b2_references.proofs.entries.empty_entries.Given as goal

-- the entries so far have nothing
abbrev pub invariant-loop-project : goal.invariant-loop-project
invariant-loop-project l = record {
  none : All (λ e. e ≡ no_entry) l.made.items;
  projects : length l.made.items ≡ l.project;
}
