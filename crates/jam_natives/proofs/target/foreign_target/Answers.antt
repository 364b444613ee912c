use Rattle.std.proofs.Common.{◌∙◌, not, sym, List, ℕ}
use Rattle.jam_natives.specs.Named.{paths_in}
use Rattle.jam_natives.specs.Targets.{names_one}
use Rattle.jam_natives.proofs.TakenListsGrowByOne.{found_here, found_later}
use Rattle.jam_natives.proofs.target.foreign_target.Goals as goal

pub returns-then-foreign : goal.returns-then-foreign
returns-then-foreign c =
    found_here (λ (target : List ℕ). not (names_one (paths_in c.args.named.now) target)) c.args.targets.now c.loop-target.target-index c.target-item.result
    c.loop-target-test.true c.target-item.is c.loop-target.invariant (sym c.in_ok-foreign.ensures ∙ c.if-foreign.true)

pub loop-target-preserved : goal.loop-target-preserved
loop-target-preserved c =
    found_later (λ (target : List ℕ). not (names_one (paths_in c.args.named.now) target)) c.args.targets.now c.loop-target.target-index c.target-item.result
    c.loop-target-test.true c.target-item.is c.loop-target.invariant (sym c.in_ok-foreign.ensures ∙ c.if-foreign.false)
