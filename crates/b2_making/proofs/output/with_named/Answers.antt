use Rattle.std.proofs.Common.{◌≡◌, ◌<◌, ◌≤◌, ◌∙◌, List, length, get_or, set, ap, sym, arith}
use Rattle.b2_making.specs.declared.output.Output.{Output}
use Rattle.b2_making.proofs.NamedOutputReplacesOne.{named_next, named_here, named_none}
use Rattle.b2_making.proofs.output.with_named.Goals as goal

pub loop-place-preserved : goal.loop-place-preserved
loop-place-preserved c =
    let output : Output = c.index.result.now in
    let within : c.loop-place.place < length c.args.outputs = omega (arith, c.loop-place-test.true, c.len-place-end.ensures, c.into_vec-outputs.result.ok, ap length c.into_vec-outputs.ensures) in
    let at : output ≡ get_or c.args.outputs c.loop-place.place output = c.index.ensures ∙ ap (λ (os : List Output). get_or os c.loop-place.place output) c.loop-place.invariant.same in
    record { same = c.loop-place.invariant.same; so_far = named_next c.args.named.now c.args.outputs c.loop-place.place output within at (sym c.eq.ensures ∙ c.if-eq.false) c.loop-place.invariant.so_far }

pub returns-then-eq : goal.returns-then-eq
returns-then-eq c =
    let output : Output = c.index.result.now in
    let within : c.loop-place.place < length c.args.outputs = omega (arith, c.loop-place-test.true, c.len-place-end.ensures, c.into_vec-outputs.result.ok, ap length c.into_vec-outputs.ensures) in
    let at : output ≡ get_or c.args.outputs c.loop-place.place output = c.index.ensures ∙ ap (λ (os : List Output). get_or os c.loop-place.place output) c.loop-place.invariant.same in
    c.from_vec.ensures ∙ ap (λ (os : List Output). set os c.loop-place.place c.in_ok-outputs.field-0) c.loop-place.invariant.same ∙ ap (λ (o : Output). set c.args.outputs c.loop-place.place o) c.in_ok-outputs.ensures
    ∙ named_here c.args.named.now c.args.outputs c.loop-place.place output within at (sym c.eq.ensures ∙ c.if-eq.true) c.loop-place.invariant.so_far

pub returns : goal.returns
returns c =
    let over : length c.args.outputs ≤ c.loop-place.place = omega (arith, c.loop-place-test.false, c.len-place-end.ensures, c.into_vec-outputs.result.ok, ap length c.into_vec-outputs.ensures) in
    c.from_vec-2.ensures ∙ c.loop-place.invariant.same ∙ named_none c.args.named.now c.args.outputs c.loop-place.place over c.loop-place.invariant.so_far
