use Rattle.std.proofs.Common.{◌∙◌, ◌+◌, map, length, sym, ap, arith}
use Rattle.std.proofs.lemmas.List.{length-map}
use Rattle.b2_log.specs.Finding.{path_of}
use Rattle.b2_explain.proofs.ChecksAreTold.{named_there, before_more, count_all}
use Rattle.b2_explain.proofs.checks.logged_before.Goals as goal

pub loop-input-preserved : goal.loop-input-preserved
loop-input-preserved c =
    let ins = c.args.last.now.ins in
    let so = c.loop-input.invariant in
    let at = named_there ins c.as_slice-input-items.result.now c.loop-input.input-index c.loop-input.count c.loop-input-item.result c.as_slice-input-items.ensures so.count c.loop-input-test.true c.loop-input-item.is in
    record { count = ap (λ n. n + 1) so.count; before = before_more (map path_of ins) c.args.path.now c.loop-input-item.result.0 c.loop-input.count at (sym c.cmp.ensures ∙ c.in-Less.is) so.before }

pub returns : goal.returns
returns c =
    let ins = c.args.last.now.ins in
    let counted = c.loop-input.invariant.count in
    let past = c.loop-input-test.false in
    let within = c.loop-input.auto.input-index-end in
    let given = ap length c.as_slice-input-items.ensures in
    let mapped = length-map ins path_of in
    count_all (map path_of ins) c.args.path.now c.loop-input.count (omega (arith, counted, past, within, given, mapped)) c.loop-input.invariant.before
