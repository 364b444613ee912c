use Rattle.std.proofs.Common.{ap, ◌∙◌}
use Rattle.b2_memory.proofs.LoopsAddOneMore.{by_name_more}
use Rattle.b2_memory.proofs.made.by_name.Goals as goal

pub loop-input-preserved : goal.loop-input-preserved
loop-input-preserved c =
    by_name_more c.args.held.now c.loop-input.input-index c.input-item.result c.loop-input.found c.insert.new.self c.as_bytes-name.result c.as_slice.result c.loop-input-test.true c.input-item.is
    c.in_ok-insert.ensures.updates (c.as_bytes-name.ensures.value ∙ c.as_str.ensures.value) (c.as_slice.ensures.value ∙ ap (λ v. v.items) c.as_ref.ensures) c.loop-input.invariant
