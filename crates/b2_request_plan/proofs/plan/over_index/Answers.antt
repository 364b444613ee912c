use Rattle.std.proofs.Common.{ap₂, ◌∙◌}
use Rattle.b2_references.specs.Requests.{asked}
use Rattle.b2_request_plan.proofs.plan.over_index.Goals as goal

pub for_pieces-requires-clause-numbered : goal.for_pieces-requires-clause-numbered
for_pieces-requires-clause-numbered g c = c.requires.numbered

pub for_pieces-requires-clause-bin : goal.for_pieces-requires-clause-bin
for_pieces-requires-clause-bin g c = c.requires.bin

pub returns-in-Ok : goal.returns-in-Ok
returns-in-Ok g c =
    c.for_pieces.ensures c.args.request.now
    (c.in-Ok.ensures.exact ∙ ap₂ (λ ss ws. asked c.args.index.now ss ws) c.as_slice.ensures c.as_slice-2.ensures)

pub returns-in-Err : goal.returns-in-Err
returns-in-Err g c = c.no_memory.ensures c.args.index.now c.args.roots.now c.args.request.now
