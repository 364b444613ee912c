use Rattle.std.proofs.Common.{Err, refl, sym, ap, ◌∙◌, subst}
use Rattle.std.specs.Prelude.{IfOk}
use Rattle.b2_prepare.specs.PlanningParts.{IsReady, GoesOn}
use Rattle.b2_prepare.proofs.prepare.go_on.Goals as goal

pub ask_loaded-requires : goal.ask_loaded-requires
ask_loaded-requires g c = subst (λ l. IfOk l IsReady) c.in-Ok.is c.requires

pub returns-in-Ok : goal.returns-in-Ok
returns-in-Ok g c =
    let asked = c.ask_loaded.result in
    subst (λ l. GoesOn c.args.words.now l (g.F.Files.outside c.args.files.now) (g.F.Files.outside c.ask_loaded.new.files) asked.result asked.tests.items) (sym c.in-Ok.is) c.ask_loaded.ensures

pub returns-in-Err : goal.returns-in-Err
returns-in-Err g c =
    let o = g.F.Files.outside c.args.files.now in
    let asked = c.without_tests.result in
    subst (λ l. GoesOn c.args.words.now l o o asked.result asked.tests.items) (sym c.in-Err.is)
    (c.without_tests.ensures.result ∙ ap Err c.not_loaded.ensures, refl, c.without_tests.ensures.tests)
