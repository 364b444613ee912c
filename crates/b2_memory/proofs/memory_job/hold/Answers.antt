use Rattle.std.proofs.Common.{◌++◌, ap, sym, ◌∙◌, take}
use Rattle.std.specs.Option.{option_to_list}
use Rattle.b2_host.specs.ChildProcesses.{read_at, read_all}
use Rattle.b2_files.specs.StoreDisks.{told}
use Rattle.b2_memory.proofs.LoopsAddOneMore.{read_more}
use Rattle.b2_memory.proofs.memory_job.hold.Goals as goal

pub loop-path-preserved : goal.loop-path-preserved
loop-path-preserved c =
    let folder = (told c.args.store.now).now in
    let so_far = read_all folder (take c.loop-path.path-index c.args.ins.now) in
    c.in_ok-hold_one.ensures
    ∙ ap (λ xs. xs ++ option_to_list (read_at folder c.path-item.result)) c.loop-path.invariant
    ∙ ap (λ p. so_far ++ option_to_list (read_at folder p)) c.path-item.is
    ∙ sym (read_more folder c.args.ins.now c.loop-path.path-index c.path-item.result c.loop-path-test.true)
