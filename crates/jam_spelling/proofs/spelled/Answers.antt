use Rattle.std.proofs.Common.{arith, ap, ◌∙◌, ◌≡◌, ◌+◌, drop}
use Rattle.std.proofs.lemmas.List.{take_rest}
use Rattle.jam_spelling.specs.Spelling.{separator}
use Rattle.jam_spelling.proofs.WritingGoesLexemeByLexeme.{written_more, all_texts, all_written, read_back}
use Rattle.jam_spelling.proofs.spelled.Goals as goal

pub loop-place-preserved : goal.loop-place-preserved
loop-place-preserved c =
    let after : c.as_bytes.result.now ≡ separator c.index-lexemes-place.result (drop (c.loop-place.place + 1) c.args.lexemes.now) =
    c.as_bytes.ensures.value ∙ c.separator-after.ensures ∙ ap (separator c.index-lexemes-place.result) (take_rest c.args.lexemes.now (c.loop-place.place + 1)) in
    rw (c.in_ok-extend_from_slice.ensures.items, c.in_ok-push_spelling.ensures.pushes, after)
    (written_more c.args.lexemes.now c.loop-place.place c.index-lexemes-place.result c.loop-place.bytes.items c.loop-place-test.true c.index-lexemes-place.is c.push_spelling.ensures.text c.loop-place.invariant)

pub returns-clause-texts : goal.returns-clause-texts
returns-clause-texts c = all_texts _ _ _ (omega arith) c.loop-place.invariant

pub returns-clause-exact : goal.returns-clause-exact
returns-clause-exact c = all_written _ _ _ (omega arith) c.loop-place.invariant

pub returns-clause-reads_back : goal.returns-clause-reads_back
returns-clause-reads_back c = λ can. read_back _ _ _ (omega arith) c.loop-place.invariant can
