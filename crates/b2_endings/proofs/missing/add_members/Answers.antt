use Rattle.std.proofs.Common.{◌∙◌, ap, [], Ok, Err, get_or}
use Rattle.std.proofs.lemmas.Result.{err_from_is_err_and}
use Rattle.b2_facts.proofs.FactsGrow.{number_grows}
use Rattle.b2_endings.proofs.FilesAreAskedFor.{asks_then, asks_err}
use Rattle.b2_endings.proofs.MissingFilesAreListed.{at_index, lists_member}
use Rattle.b2_endings.proofs.missing.add_members.Goals as goal

pub add_missing-requires : goal.add_missing-requires
add_missing-requires g c =
    let members = c.args.members.now in
    let i = c.loop-number.number-index in
    record { number = number_grows c.args.facts.now c.loop-number.facts (c.loop-number.invariant.asks [] []).learns.grows (get_or members i 0) (c.requires.numbered (get_or members i 0) (at_index members i 0 c.loop-number-test.true)) }

pub returns-in_err-add_missing-clause-asks : goal.returns-in_err-add_missing-clause-asks
returns-in_err-add_missing-clause-asks g c = λ steps roots.
    (let f = c.args.facts.now in
    let x = g.F.Files.outside c.args.files.now in
    let y = g.F.Files.outside c.loop-number.files in
    let z = g.F.Files.outside c.add_missing.new.files in
    let stop = c.in_err-add_missing.field-0.0 in
    let (s, e, q) = err_from_is_err_and c.from_residual.result c.from_residual.ensures.1 in
    asks_err steps roots (Unit {0}) f c.add_missing.new.facts x z c.from_residual.result stop (e ∙ ap Err q)
    (asks_then steps roots f c.loop-number.facts c.add_missing.new.facts x y z (Err stop) (c.loop-number.invariant.asks steps roots) (c.in_err-add_missing.ensures.asks steps roots)))

pub loop-number-preserved : goal.loop-number-preserved
loop-number-preserved g c =
    let f = c.args.facts.now in
    let h = c.loop-number.facts in
    let k = c.add_missing.new.facts in
    let members = c.args.members.now in
    let i = c.loop-number.number-index in
    let low = c.loop-number-test.true in
    record {
      asks = λ steps roots. asks_then steps roots f h k (g.F.Files.outside c.args.files.now) (g.F.Files.outside c.loop-number.files) (g.F.Files.outside c.add_missing.new.files) (Ok tt) (c.loop-number.invariant.asks steps roots) (c.in_ok-add_missing.ensures.asks steps roots);
      lists = lists_member f h k i c.args.missing.now c.loop-number.missing c.add_missing.new.missing (c.loop-number.invariant.asks [] []).learns.grows (c.in_ok-add_missing.ensures.asks [] []).learns.grows
          members low (c.requires.numbered (get_or members i 0) (at_index members i 0 low)) c.loop-number.invariant.lists c.in_ok-add_missing.ensures.lists;
    }
