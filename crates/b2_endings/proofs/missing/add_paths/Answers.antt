use Rattle.std.proofs.Common.{◌∙◌, ap, Ok, Err}
use Rattle.std.proofs.lemmas.Result.{err_from_is_err_and}
use Rattle.b2_endings.proofs.FilesAreAskedFor.{asks_quiet, asks_then, asks_err}
use Rattle.b2_endings.proofs.MissingFilesAreListed.{lists_path}
use Rattle.b2_endings.proofs.missing.add_paths.Goals as goal

pub returns-in_err-add_missing-clause-asks : goal.returns-in_err-add_missing-clause-asks
returns-in_err-add_missing-clause-asks g c =
    let steps = c.args.plan.now.steps in
    let roots = c.args.plan.now.roots in
    let f = c.args.facts.now in
    let h = c.loop-path.facts in
    let j = c.number_of.new.self in
    let k = c.add_missing.new.facts in
    let x = g.F.Files.outside c.args.files.now in
    let y = g.F.Files.outside c.loop-path.files in
    let z = g.F.Files.outside c.add_missing.new.files in
    let stop = c.in_err-add_missing.field-0.0 in
    let (s, e, q) = err_from_is_err_and c.from_residual-in_err-add_missing.result c.from_residual-in_err-add_missing.ensures.1 in
    let named = asks_quiet steps roots h j y c.number_of.ensures.learns (λ disk. c.number_of.ensures.told disk.now) in
    asks_err steps roots (Unit {0}) f k x z c.from_residual-in_err-add_missing.result stop (e ∙ ap Err q)
    (asks_then steps roots f h k x y z (Err stop) c.loop-path.invariant.asks (asks_then steps roots h j k y y z (Err stop) named (c.in_err-add_missing.ensures.asks steps roots)))

pub loop-path-preserved : goal.loop-path-preserved
loop-path-preserved g c =
    let steps = c.args.plan.now.steps in
    let roots = c.args.plan.now.roots in
    let f = c.args.facts.now in
    let h = c.loop-path.facts in
    let j = c.number_of.new.self in
    let k = c.add_missing.new.facts in
    let x = g.F.Files.outside c.args.files.now in
    let y = g.F.Files.outside c.loop-path.files in
    let z = g.F.Files.outside c.add_missing.new.files in
    let named = asks_quiet steps roots h j y c.number_of.ensures.learns (λ disk. c.number_of.ensures.told disk.now) in
    let more = c.in_ok-add_missing.ensures.asks steps roots in
    record {
      asks = asks_then steps roots f h k x y z (Ok tt) c.loop-path.invariant.asks (asks_then steps roots h j k y y z (Ok tt) named more);
      lists = lists_path h j k c.loop-path.path-index c.in_ok-number.number c.path-item.result c.args.paths.now c.args.missing.now c.loop-path.missing c.add_missing.new.missing
          c.number_of.ensures.learns.grows more.learns.grows c.loop-path-test.true c.path-item.is c.in_ok-number.ensures.place c.loop-path.invariant.lists c.in_ok-add_missing.ensures.lists;
    }
