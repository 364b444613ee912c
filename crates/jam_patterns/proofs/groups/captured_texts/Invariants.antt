use Rattle.std.proofs.Common.{◌≡◌, ◌-◌}
use Rattle.jam_patterns.specs.Captured.{captured_first}
use Rattle.jam_patterns.proofs.groups.captured_texts.Given as goal

abbrev pub invariant-groups : goal.invariant-groups
invariant-groups l = l.texts ≡ captured_first l.captures (l.n - 1)
