use Rattle.std.proofs.Common.{◌≡◌, ℕ, List, Some, None, sym, subst, subst₂, ◌∙◌}
use Rattle.std.specs.List.{AllZip}
use Rattle.std.proofs.lemmas.List.{get_or_default}
use Rattle.b2_host.specs.ChildProcesses.{MayStart}
use Rattle.b2_facts.specs.Facts.{path_at}
use Rattle.b2_looks.specs.Looks.{ready_at}
use Rattle.b2_update.proofs.starting.start_child.Goals as goal

pub start-requires : goal.start-requires
start-requires g c =
    let kept : ready_at c.args.run.now.looks c.args.number ≡ Some c.in-Some.numbers = get_or_default c.args.run.now.looks.ready.items c.args.number None c.index.result.now c.requires.within ∙ sym c.index.ensures ∙ c.in-Some.is in
    let named = subst (λ (ns : List ℕ). AllZip (λ n path. path_at c.args.run.now.sights.facts n ≡ Some path) ns c.in_ok-ins.ins.items) c.as_slice.ensures c.in_ok-ins.ensures in
    subst₂ (MayStart (g.H.Files.outside c.args.host.now).children.running) (sym c.as_slice-2.ensures.value) (sym c.as_slice-3.ensures) (c.requires.may c.in-Some.numbers c.in_ok-ins.ins.items kept named)
