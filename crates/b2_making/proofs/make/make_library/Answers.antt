use Rattle.std.proofs.lemmas.Result.{err_from_is_err_and}
use Rattle.b2_making.proofs.ExitsKeepThePromise.{exit, exit_first}
use Rattle.b2_making.proofs.KindsAreMadeAsPromised.{library_refused, library_made, library_memory}
use Rattle.b2_making.proofs.make.make_library.Goals as goal

pub returns-in_err-named : goal.returns-in_err-named
returns-in_err-named g c =
    let (y, e, q) = err_from_is_err_and c.from_residual.result c.from_residual.ensures.1 in
    exit_first e q

pub returns-in_err-texts : goal.returns-in_err-texts
returns-in_err-texts g c =
    let (y, e, q) = err_from_is_err_and c.from_residual-in_err-texts.result c.from_residual-in_err-texts.ensures.1 in
    exit_first e q

pub returns-in_err-entries : goal.returns-in_err-entries
returns-in_err-entries g c =
    let (y, e, q) = err_from_is_err_and c.from_residual-in_err-entries.result c.from_residual-in_err-entries.ensures.1 in
    exit e q
    (library_refused g.V.Evaluate.answers g.V.Evaluate.kept g.V.Evaluate.faults g.V.Evaluate.is_host_fault g.V.Evaluate.is_out_of_memory g.V.Evaluate.CanFault c.args.setting.now c.args.site.now c.in_ok-named.named c.is_shared.result c.in_err-entries.field-0.0 c.args.evaluator.now c.link.new.evaluator c.args.builder.now c.link.new.builder c.in_ok-named.ensures c.is_shared.ensures c.in_err-entries.ensures)

pub returns-in_err-carried : goal.returns-in_err-carried
returns-in_err-carried g c =
    let (y, e, q) = err_from_is_err_and c.from_residual-in_err-carried.result c.from_residual-in_err-carried.ensures.1 in
    exit e q
    (library_memory g.V.Evaluate.answers g.V.Evaluate.kept g.V.Evaluate.faults g.V.Evaluate.is_host_fault g.V.Evaluate.is_out_of_memory g.V.Evaluate.CanFault c.args.setting.now c.args.site.now c.in_ok-named.named c.is_shared.result c.in_ok-entries.entries c.args.evaluator.now c.link.new.evaluator c.args.builder.now c.link.new.builder c.in_ok-entries.ensures)

pub returns : goal.returns
returns g c =
    library_made g.V.Evaluate.answers g.V.Evaluate.kept g.V.Evaluate.faults g.V.Evaluate.is_host_fault g.V.Evaluate.is_out_of_memory g.V.Evaluate.CanFault c.args.setting.now c.args.site.now c.in_ok-named.named c.is_shared.result c.in_ok-entries.entries c.in_ok-carried.carried c.args.evaluator.now c.link.new.evaluator c.args.builder.now c.link.new.builder c.in_ok-named.ensures c.is_shared.ensures c.in_ok-carried.ensures c.in_ok-entries.ensures
