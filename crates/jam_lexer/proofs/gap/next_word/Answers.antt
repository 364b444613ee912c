use Rattle.std.proofs.Common.{◌≡◌, get_or, subst, sym, ◌∙◌, arith}
use Rattle.jam_lexer.specs.Gap.{IsGap}
use Rattle.jam_lexer.proofs.SpaceAndCommentsAreGaps.{gap_white, comment_white, gap_comment, comment_line_feed, gap_line}
use Rattle.jam_lexer.proofs.gap.next_word.Goals as goal

pub returns-then-end-bytes-clause-none : goal.returns-then-end-bytes-clause-none
returns-then-end-bytes-clause-none c =
    subst (IsGap c.args.bytes.now c.args.from) c.if-end-bytes.true
    (gap_comment _ _ c.loop-at.at _ c.loop-at.invariant.order c.loop-at.invariant.gap c.if-byte-eq35.true c.comment_end-end.ensures.one_line)

pub loop-at-preserved-then-byte-eq35 : goal.loop-at-preserved-then-byte-eq35
loop-at-preserved-then-byte-eq35 c =
    let feed : get_or c.args.bytes.now c.comment_end-end.result 0 ≡ 10 = c.comment_end-end.ensures.ends (omega arith) in
    record {
      order = omega arith;
      within = omega arith;
      gap = gap_line _ _ c.loop-at.at _ c.loop-at.invariant.order c.loop-at.invariant.gap c.if-byte-eq35.true c.comment_end-end.ensures.one_line feed;
      no_comment = comment_line_feed _ _ _ feed;
    }

pub loop-at-preserved : goal.loop-at-preserved
loop-at-preserved c =
    record {
      order = omega arith;
      within = omega arith;
      gap = gap_white _ _ _ c.loop-at.invariant.gap (sym c.is_white.ensures ∙ c.if-is_white.true);
      no_comment = comment_white _ _ _ c.loop-at.invariant.no_comment (sym c.is_white.ensures ∙ c.if-is_white.true);
    }
