use Rattle.std.proofs.Common.{◌+◌, sym, subst}
use Rattle.jam_lexer.proofs.DepthCountsOpenBraces.{IsAtDepth, depth_open, depth_close, depth_other}
use Rattle.jam_lexer.proofs.body.body_end.Goals.{then-byte-eq123, else-byte-eq123+then-byte-eq125+else-depth-eq0, else-byte-eq123+else-byte-eq125}
use Rattle.jam_lexer.proofs.body.body_end.Goals as goal

pub loop-at-preserved : goal.loop-at-preserved
loop-at-preserved c =
    elim c.if-byte-eq123.branch [
      | then-byte-eq123 w ↦ subst (IsAtDepth c.args.bytes.now c.args.start (c.loop-at.at + 1)) (sym w.depth-is) (depth_open _ _ _ _ c.loop-at.invariant c.loop-at-test.true w.if-byte-eq123.true)
      | else-byte-eq123+then-byte-eq125+else-depth-eq0 w ↦ subst (IsAtDepth c.args.bytes.now c.args.start (c.loop-at.at + 1)) (sym w.depth-is) (depth_close _ _ _ _ c.loop-at.invariant c.loop-at-test.true w.if-byte-eq125.true w.if-depth-eq0.false)
      | else-byte-eq123+else-byte-eq125 w ↦ subst (IsAtDepth c.args.bytes.now c.args.start (c.loop-at.at + 1)) (sym w.depth-is) (depth_other _ _ _ _ c.loop-at.invariant c.loop-at-test.true w.if-byte-eq123.false w.if-byte-eq125.false)
    ]
