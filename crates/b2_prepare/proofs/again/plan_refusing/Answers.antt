use Rattle.std.proofs.Common.{Err, refl, sym, ap, subst}
use Rattle.std.specs.Option.{option_map}
use Rattle.b2_own_text.specs.KeptState.{Given, given, held}
use Rattle.b2_own_text.specs.Questions.{with_fault}
use Rattle.b2_own_text.specs.Worlds.{told_in}
use Rattle.b2_prepare.specs.Again.{AnswersAgain}
use Rattle.b2_prepare.proofs.LentHostTellsTheSame.{bin_there}
use Rattle.b2_prepare.proofs.RefusedPatternGivesNoPlan.{refused_here, answers_again_refusing}
use Rattle.b2_prepare.proofs.again.plan_refusing.Goals as goal
use Rattle.std.proofs.Common.{Some, ◌≡◌}

pub plan_in-evaluator-requires-clause-numbered : goal.plan_in-evaluator-requires-clause-numbered
plan_in-evaluator-requires-clause-numbered g c = c.requires.numbered

pub plan_in-evaluator-requires-clause-bin : goal.plan_in-evaluator-requires-clause-bin
plan_in-evaluator-requires-clause-bin g c = bin_there c.copy_paths-roots.result c.roots.result.now c.roots.ensures.first.0 c.copy_paths-roots.ensures c.roots.ensures.first.1

pub returns-clause-answers_again : goal.returns-clause-answers_again
returns-clause-answers_again g c =
    let outside = g.F.Files.outside in
    let r = c.args.refusing in
    let planned = c.plan_in-evaluator in
    let from = outside r.own.host.files.now in
    let to = outside planned.result.evaluator.own.host.files.now in
    subst (λ stop. AnswersAgain c.args.declared.now r.own.loaded.world c.args.request.now.sets c.args.request.now.targets from to (Err stop)) (sym c.refusal_or_stop.ensures)
    (answers_again_refusing c.args.declared.now r.own.loaded.world c.args.request.now r.question r.fault (given (held r.own.projects.now r.own.loaded.world r.own.host.files.ghost_name from) r.fault) refl from to
    (refused_here c.args.declared.now r.own.loaded.world r.question r.fault r.own.projects.now from.disk c.requires.places r.refused c.requires.ends.refused)
    c.roots.result.now c.roots.ensures.same planned.result.result
    (λ told is. planned.ensures.told c.roots.result.now c.copy_paths-roots.ensures told
    (subst (λ ps. option_map (with_fault r.question r.fault) (told_in ps r.own.loaded.world from.disk) ≡ Some told) (sym c.requires.places) is))
    planned.ensures.leaves.known planned.ensures.leaves.counted)

pub returns-clause-same_reference : goal.returns-clause-same_reference
returns-clause-same_reference g c = ap (λ (k : Given). k.held.host) c.plan_in-evaluator.ensures.leaves.same_kept
