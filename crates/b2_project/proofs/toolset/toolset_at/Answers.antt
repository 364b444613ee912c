use Rattle.std.proofs.Common.{◌<◌, length, refl, sym, ◌∙◌, arith}
use Rattle.std.proofs.lemmas.Option.{slice_get_read}
use Rattle.b2_project.proofs.FirstToolsetCallDecides.{is_brought, is_not_brought}
use Rattle.b2_project.proofs.toolset.toolset_at.Goals as goal

pub returns-then-brings_toolset : goal.returns-then-brings_toolset
returns-then-brings_toolset c =
    let within : c.loop-place.place < length c.args.calls.now = omega arith in
    is_brought c.args.calls.now c.loop-place.place c.index-calls-place.result c.loop-place.invariant
    (slice_get_read c.args.calls.now (length c.args.calls.now) c.loop-place.place c.index-calls-place.result refl within c.index-calls-place.is) (sym c.brings_toolset.ensures ∙ c.if-brings_toolset.true)

pub loop-place-preserved : goal.loop-place-preserved
loop-place-preserved c =
    let within : c.loop-place.place < length c.args.calls.now = omega arith in
    is_not_brought c.args.calls.now c.loop-place.place c.index-calls-place.result c.loop-place.invariant
    (slice_get_read c.args.calls.now (length c.args.calls.now) c.loop-place.place c.index-calls-place.result refl within c.index-calls-place.is) (sym c.brings_toolset.ensures ∙ c.if-brings_toolset.false)
