use Rattle.std.proofs.Common.{length, arith, sym, ap, ◌<◌}
use Rattle.std.specs.Str.{bytes_eq}
use Rattle.std.proofs.lemmas.Slice.Eq.{bytes_eq-Decides}
use Rattle.jam_engine.proofs.ActsJoin.{texts_differ, texts_step}
use Rattle.jam_engine.proofs.AlikeFound.{differ_at, not_true, not_false}
use Rattle.jam_engine.proofs.joining.same_texts.Goals as goal

pub returns-then-one-other : goal.returns-then-one-other
returns-then-one-other c = sym (texts_differ c.args.one.now c.args.other.now (λ same. c.if-one-other.true (ap length same)))

pub returns-then-ne : goal.returns-then-ne
returns-then-ne c =
    let low : c.loop-place.place < length c.args.other.now = omega arith in
    let x = c.index-one-place.result in
    let y = c.index-other-place.result in
    sym (differ_at c.args.one.now c.args.other.now c.loop-place.place x y c.loop-place-test.true low c.index-one-place.is c.index-other-place.is (not_true (bytes_eq x y) c.ne.result c.ne.ensures c.if-ne.true))

pub loop-place-preserved : goal.loop-place-preserved
loop-place-preserved c =
    let low : c.loop-place.place < length c.args.other.now = omega arith in
    let x = c.index-one-place.result in
    let y = c.index-other-place.result in
    texts_step c.args.one.now c.args.other.now c.loop-place.place x y c.loop-place-test.true low c.index-one-place.is c.index-other-place.is ((bytes_eq-Decides x y).0 (not_false (bytes_eq x y) c.ne.result c.ne.ensures c.if-ne.false)) c.loop-place.invariant
