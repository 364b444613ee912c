use Rattle.std.proofs.Common.{◌≡◌, map, take}
use Rattle.b2_references.specs.Names.{target_text}
use Rattle.b2_generate.specs.Generation.{from_first}
use Rattle.b2_generate.proofs.opening.push_from.Given as goal

abbrev pub invariant-loop-frame : goal.invariant-loop-frame
invariant-loop-frame l = l.targets ≡ map (target_text l.index) (from_first l.name (map (λ f. f.name) (take l.frame-index l.frames)))
