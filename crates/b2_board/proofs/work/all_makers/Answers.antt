use Rattle.std.proofs.Common.{◌↔◌, ℕ, List, get_or, subst}
use Rattle.std.specs.List.{Contains}
use Rattle.std.proofs.lemmas.List.{take_all}
use Rattle.std.proofs.lemmas.List.Elements.{Contains-get_or}
use Rattle.b2_runs.proofs.FirstElementOrLater.{Contains_nil}
use Rattle.b2_board.specs.Works.{HasOutputOf}
use Rattle.b2_board.proofs.MakersAreTold.{none_of_none, makers_more}
use Rattle.b2_board.proofs.work.all_makers.Goals as goal

pub loop-number-init : goal.loop-number-init
loop-number-init c = λ k. (λ among. absurd (Contains_nil k (subst (λ (l : List ℕ). Contains l k) c.new-makers.ensures.items among)), λ output. absurd (none_of_none c.args.facts.now k output))

pub file-requires : goal.file-requires
file-requires c = c.requires (get_or c.args.numbers.now c.loop-number.number-index 0) (Contains-get_or c.args.numbers.now c.loop-number.number-index 0 c.loop-number-test.true)

pub loop-number-preserved : goal.loop-number-preserved
loop-number-preserved c =
    makers_more c.args.facts.now c.args.numbers.now c.loop-number.number-index c.file.result.now c.loop-number.makers.items c.add.new.numbers.items c.loop-number-test.true c.file.ensures c.in_ok-add.ensures c.loop-number.invariant

pub returns : goal.returns
returns c = λ k. subst (λ (l : List ℕ). Contains c.loop-number.makers.items k ↔ HasOutputOf c.args.facts.now l k) (take_all c.loop-number.number-index c.args.numbers.now c.loop-number-test.false) (c.loop-number.invariant k)
