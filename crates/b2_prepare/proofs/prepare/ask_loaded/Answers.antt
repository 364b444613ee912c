use Rattle.std.proofs.Common.{length, refl, sym, ◌∙◌, subst}
use Rattle.b2_declared.specs.declared.whole.Declared.{Declared}
use Rattle.b2_declared.specs.Numbered.{IsNumbered}
use Rattle.b2_prepare.specs.PlanningParts.AsksLoaded.{asks_after, ran_out}
use Rattle.b2_prepare.proofs.prepare.ask_loaded.Goals as goal

pub add_tests-requires : goal.add_tests-requires
add_tests-requires g c = c.requires.places.of_tests

pub ask_equipped-requires : goal.ask_equipped-requires
ask_equipped-requires g c =
    let found = c.args.loaded.declared in
    record {
      places = subst (λ (d : Declared). IsNumbered d) (sym c.in-Ok.ensures.ok.ready.declared) (c.tests_are_added_soundly.ensures.sound (length found.places) found c.requires.places);
      step = c.add_tests.ensures.stays.step ∙ c.requires.step;
    }

pub returns-in-Ok : goal.returns-in-Ok
returns-in-Ok g c =
    let ready = c.in-Ok.ensures.ok.ready in
    asks_after c.add_tests.new.project.world ready.worlds (c.ask_equipped.ensures c.args.loaded.declared ready.declared)

pub returns-in-Err : goal.returns-in-Err
returns-in-Err g c = ran_out c.without_tests.ensures.result refl c.without_tests.ensures.tests
