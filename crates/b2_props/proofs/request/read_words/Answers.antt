use Rattle.std.proofs.Common.{◌∙◌, ◌++◌, ◌∷◌, [], ap, sym, fold, List, ℕ}
use Rattle.std.proofs.lemmas.Result.{err_from_is_err_and}
use Rattle.b2_props.specs.Words.{target_words, word_fault}
use Rattle.b2_props.specs.Requests.{joined, word_ways}
use Rattle.b2_props.proofs.FirstFaultIsTheCause.{fine_next, first_cause}
use Rattle.b2_props.proofs.RowsDecideTheRequest.{targets_next, ways_next}
use Rattle.b2_props.proofs.request.read_words.Goals as goal

pub returns-in_err-take_word-clause-cause : goal.returns-in_err-take_word-clause-cause
returns-in_err-take_word-clause-cause c =
    let p = err_from_is_err_and c.from_residual.result c.from_residual.ensures.1 in
    rw (p.1, p.2) (first_cause (word_fault c.args.registry.now) c.args.words.now c.loop-place.place c.index-words-place.result _ c.loop-place-test.true c.index-words-place.is c.loop-place.invariant.fine c.in_err-take_word.ensures.cause)

pub loop-place-preserved : goal.loop-place-preserved
loop-place-preserved c =
    let table = c.args.registry.now in
    let words = c.args.words.now in
    let i = c.loop-place.place in
    let x = c.index-words-place.result in
    let l = c.loop-place-test.true in
    let is = c.index-words-place.is in
    record {
      targets = c.in_ok-take_word.ensures.targets ∙ ap (λ (ts : List (List ℕ)). ts ++ target_words table (x ∷ [])) c.loop-place.invariant.targets ∙ sym (targets_next table words i x l is);
      ways = c.in_ok-take_word.ensures.ways ∙ ap (λ ws. fold joined ws (word_ways table i x)) c.loop-place.invariant.ways ∙ sym (ways_next table words i x l is);
      placed = c.in_ok-take_word.ensures.placed;
      fine = fine_next (word_fault table) words i x l is c.loop-place.invariant.fine c.in_ok-take_word.ensures.ok;
    }
