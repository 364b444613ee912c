use Rattle.std.proofs.Common.{Ok}
use Rattle.std.proofs.lemmas.Result.{err_from_is_err_and}
use Rattle.b2_declaring_calls.specs.declared.declaration.Kind.TheVariants.{Exe, Lib, Obj, Alias, Make, Install}
use Rattle.b2_making.specs.Conversions.{makes_copies}
use Rattle.b2_making.proofs.ExitsKeepThePromise.{exit_first}
use Rattle.b2_making.proofs.PromisesCompose.{alone_did}
use Rattle.b2_making.proofs.KindsAreMadeAsPromised.{kind_is, passed}
use Rattle.b2_making.proofs.make.make_kind.Goals as goal

pub returns-in-Obj : goal.returns-in-Obj
returns-in-Obj g c =
    kind_is g.V.Evaluate.answers g.V.Evaluate.kept g.V.Evaluate.faults g.V.Evaluate.is_host_fault g.V.Evaluate.is_out_of_memory g.V.Evaluate.CanFault c.args.setting.now c.args.site.now Obj c.args.evaluator.now c.make_objects.new.evaluator c.args.builder.now c.make_objects.new.builder c.make_objects.result c.in-Obj.is c.make_objects.ensures

pub returns-in-Exe : goal.returns-in-Exe
returns-in-Exe g c =
    kind_is g.V.Evaluate.answers g.V.Evaluate.kept g.V.Evaluate.faults g.V.Evaluate.is_host_fault g.V.Evaluate.is_out_of_memory g.V.Evaluate.CanFault c.args.setting.now c.args.site.now Exe c.args.evaluator.now c.make_program.new.evaluator c.args.builder.now c.make_program.new.builder c.make_program.result c.in-Exe.is c.make_program.ensures

pub returns-in-Lib : goal.returns-in-Lib
returns-in-Lib g c =
    kind_is g.V.Evaluate.answers g.V.Evaluate.kept g.V.Evaluate.faults g.V.Evaluate.is_host_fault g.V.Evaluate.is_out_of_memory g.V.Evaluate.CanFault c.args.setting.now c.args.site.now Lib c.args.evaluator.now c.make_library.new.evaluator c.args.builder.now c.make_library.new.builder c.make_library.result c.in-Lib.is c.make_library.ensures

pub returns-in-Make : goal.returns-in-Make
returns-in-Make g c =
    kind_is g.V.Evaluate.answers g.V.Evaluate.kept g.V.Evaluate.faults g.V.Evaluate.is_host_fault g.V.Evaluate.is_out_of_memory g.V.Evaluate.CanFault c.args.setting.now c.args.site.now Make c.args.evaluator.now c.make_file.new.evaluator c.args.builder.now c.make_file.new.builder c.make_file.result c.in-Make.is c.make_file.ensures

pub returns-in-Install : goal.returns-in-Install
returns-in-Install g c =
    kind_is g.V.Evaluate.answers g.V.Evaluate.kept g.V.Evaluate.faults g.V.Evaluate.is_host_fault g.V.Evaluate.is_out_of_memory g.V.Evaluate.CanFault c.args.setting.now c.args.site.now Install c.args.evaluator.now c.args.evaluator.now c.args.builder.now c.make_copies.new.builder c.make_copies.result c.in-Install.is
    (alone_did g.V.Evaluate.answers g.V.Evaluate.kept g.V.Evaluate.faults g.V.Evaluate.is_host_fault g.V.Evaluate.is_out_of_memory g.V.Evaluate.CanFault c.args.setting.now c.args.site.now makes_copies c.args.evaluator.now c.args.builder.now c.make_copies.new.builder c.make_copies.result c.make_copies.ensures.copies c.make_copies.ensures.grows)

pub returns-in_ok-made-in-Alias : goal.returns-in_ok-made-in-Alias
returns-in_ok-made-in-Alias g c =
    kind_is g.V.Evaluate.answers g.V.Evaluate.kept g.V.Evaluate.faults g.V.Evaluate.is_host_fault
    g.V.Evaluate.is_out_of_memory g.V.Evaluate.CanFault c.args.setting.now c.args.site.now Alias
    c.args.evaluator.now c.args.evaluator.now c.args.builder.now c.args.builder.now (Ok
    c.in_ok-made-in-Alias.made) c.in-Alias.is (passed g.V.Evaluate.answers g.V.Evaluate.kept g.V.Evaluate.faults
    g.V.Evaluate.is_host_fault g.V.Evaluate.is_out_of_memory g.V.Evaluate.CanFault c.args.setting.now
    c.args.site.now c.in_ok-made-in-Alias.made c.args.evaluator.now c.args.builder.now
    c.in_ok-made-in-Alias.ensures)

pub returns-in_err-made-in-Alias : goal.returns-in_err-made-in-Alias
returns-in_err-made-in-Alias g c =
    let (y, e, q) = err_from_is_err_and c.from_residual.result c.from_residual.ensures.1 in
    exit_first e q
