use Rattle.std.proofs.Common.{subst}
use Rattle.b2_declared.specs.declared.whole.Declared.{Declared}
use Rattle.b2_prepare.specs.PlanningParts.{Asks}
use Rattle.b2_prepare.proofs.RequestGetsPlanOrRefusal.{asks_handed}
use Rattle.b2_prepare.proofs.prepare.ask_equipped.Goals as goal

pub ask-planned-requires-clause-numbered : goal.ask-planned-requires-clause-numbered
ask-planned-requires-clause-numbered g c = c.requires.places

pub ask-planned-requires-clause-step : goal.ask-planned-requires-clause-step
ask-planned-requires-clause-step g c = c.requires.step

pub with_requested-asked-requires-clause-numbered : goal.with_requested-asked-requires-clause-numbered
with_requested-asked-requires-clause-numbered g c = c.requires.places

pub with_requested-asked-requires-clause-sets : goal.with_requested-asked-requires-clause-sets
with_requested-asked-requires-clause-sets g c = c.ask-planned.ensures.sets

pub returns : goal.returns
returns g c = λ found is.
    let from = g.F.Files.outside c.args.files.now in
    let to = g.F.Files.outside c.ask-planned.new.files in
    let words = c.args.words.now in
    let worlds = c.args.project.world in
    let hands = c.with_requested-asked.ensures found is in
    record {
      asks = subst (λ (d : Declared). Asks words d worlds from to c.with_requested-asked.result.result) is
          (asks_handed words c.args.project.declared worlds from to c.ask-planned.result c.with_requested-asked.result.result hands.same c.ask-planned.ensures);
      tests_are = hands.tests_are;
    }
