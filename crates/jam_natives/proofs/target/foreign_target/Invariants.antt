use Rattle.std.proofs.Common.{◌≡◌, not, drop}
use Rattle.std.specs.List.{find}
use Rattle.jam_natives.specs.Named.{paths_in}
use Rattle.jam_natives.specs.Targets.{names_one}
use Rattle.jam_natives.proofs.target.foreign_target.Given as goal

abbrev pub invariant-loop-target : goal.invariant-loop-target
invariant-loop-target l =
    find (λ target. not (names_one (paths_in l.named) target)) (drop l.target-index l.targets) ≡ find (λ target. not (names_one (paths_in l.named) target)) l.targets
