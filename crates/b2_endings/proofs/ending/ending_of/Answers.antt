use Rattle.std.proofs.Common.{List, ℕ, Option, MatchOption, subst}
use Rattle.b2_sched.specs.Schedules.{QuitsNow}
use Rattle.b2_sched.specs.Ends.{IsStepCycle}
use Rattle.b2_endings.specs.Missing.{NoneIsStuck}
use Rattle.b2_endings.proofs.EndingIsTold.{cycle_told, lists_told, none_goes_on}
use Rattle.b2_endings.proofs.ending.ending_of.Goals as goal

pub returns-in-Some-clause-told : goal.returns-in-Some-clause-told
returns-in-Some-clause-told g c =
    let l = c.args.looks.now in
    let s = l.board.sched in
    let quit = c.args.quit in
    let found = subst (λ (o : Option (List ℕ)). MatchOption o (NoneIsStuck s quit) (λ list. (QuitsNow s quit → ⊥) × IsStepCycle s list)) c.in-Some.is c.in_ok-cycle.ensures in
    cycle_told c.args.plan.now l quit c.args.sights.now (g.F.Files.outside c.args.files.now) c.in-Some.cycle found.0 found.1

pub returns-in_ok-lists-in-None-clause-told : goal.returns-in_ok-lists-in-None-clause-told
returns-in_ok-lists-in-None-clause-told g c =
    let l = c.args.looks.now in
    let s = l.board.sched in
    let quit = c.args.quit in
    let found = subst (λ (o : Option (List ℕ)). MatchOption o (NoneIsStuck s quit) (λ list. (QuitsNow s quit → ⊥) × IsStepCycle s list)) c.in-None.is c.in_ok-cycle.ensures in
    lists_told c.args.plan.now l quit c.args.sights.now (g.F.Files.outside c.args.files.now) c.name_lists.new.sights.facts (g.F.Files.outside c.name_lists.new.files) c.in_ok-lists-in-None.lists
    c.requires.looks c.in_ok-lists-in-None.ensures.asks c.in_ok-lists-in-None.ensures.named (none_goes_on s quit c.requires.none_looks c.requires.none_runs c.requires.none_starts found)
