use Rattle.std.proofs.Common.{◌≡◌, ◌++◌, take, string_bytes, codes}
use Rattle.std.specs.List.{flat_map}
use Rattle.b2_runs.specs.Reports.{first_out}
use Rattle.b2_refusals.proofs.lists.push_outs.Given as goal

abbrev pub invariant-loop-number : goal.invariant-loop-number
invariant-loop-number l = string_bytes l.line ≡ string_bytes l.fn.line ++ flat_map (λ number. codes " -> " ++ first_out l.steps number) (take l.number-index l.numbers)
