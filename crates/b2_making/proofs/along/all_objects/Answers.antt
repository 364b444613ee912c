use Rattle.std.proofs.lemmas.Result.{err_from_is_err_and}
use Rattle.std.proofs.Common.{◌+◌, ◌++◌, List, Err, refl, sym, subst, drop}
use Rattle.b2_virtual.specs.declared.entry.Entry.{Entry}
use Rattle.b2_making.specs.Acts.{for_all}
use Rattle.b2_making.specs.Conversions.{to_objects}
use Rattle.b2_making.proofs.ActsCompose.{for_all_next}
use Rattle.b2_making.proofs.PromisesCompose.{UnderWay, under_way_start, under_way_next, under_way_end, under_way_refused, under_way_memory}
use Rattle.b2_making.proofs.ExitsKeepThePromise.{exit}
use Rattle.b2_making.proofs.along.all_objects.Goals as goal

pub loop-entry-init : goal.loop-entry-init
loop-entry-init g c =
    subst (λ (es : List Entry). UnderWay g.V.Evaluate.answers g.V.Evaluate.kept g.V.Evaluate.faults g.V.Evaluate.is_host_fault g.V.Evaluate.is_out_of_memory g.V.Evaluate.CanFault c.args.setting.now c.args.site.now (λ x s. for_all (to_objects x s)) c.args.entries.now 0 es c.args.evaluator.now c.args.evaluator.now c.args.builder.now c.args.builder.now) (sym c.new-made.ensures)
    (under_way_start g.V.Evaluate.answers g.V.Evaluate.kept g.V.Evaluate.faults g.V.Evaluate.is_host_fault g.V.Evaluate.is_out_of_memory g.V.Evaluate.CanFault c.args.setting.now c.args.site.now (λ x s. for_all (to_objects x s)) c.args.entries.now c.args.evaluator.now c.args.builder.now)

pub loop-entry-preserved : goal.loop-entry-preserved
loop-entry-preserved g c =
    subst (λ (es : List Entry). UnderWay g.V.Evaluate.answers g.V.Evaluate.kept g.V.Evaluate.faults g.V.Evaluate.is_host_fault g.V.Evaluate.is_out_of_memory g.V.Evaluate.CanFault c.args.setting.now c.args.site.now (λ x s. for_all (to_objects x s)) c.args.entries.now (c.loop-entry.entry-index + 1) es c.args.evaluator.now c.to_objects.new.evaluator c.args.builder.now c.to_objects.new.builder) (sym c.in_ok-made.ensures)
    (under_way_next g.V.Evaluate.answers g.V.Evaluate.kept g.V.Evaluate.faults g.V.Evaluate.is_host_fault
    g.V.Evaluate.is_out_of_memory g.V.Evaluate.CanFault c.args.setting.now c.args.site.now (λ x s. for_all
    (to_objects x s)) c.args.entries.now (λ x s. to_objects x s c.entry-item.result) c.loop-entry.entry-index
    c.entry-item.result c.loop-entry.made c.in_ok-objects.objects c.args.evaluator.now c.loop-entry.evaluator
    c.to_objects.new.evaluator c.args.builder.now c.loop-entry.builder c.to_objects.new.builder
    c.in_ok-objects.objects
    c.loop-entry-test.true c.entry-item.is (λ x s outcome one rest. for_all_next (to_objects x s) c.entry-item.result (drop (c.loop-entry.entry-index + 1) c.args.entries.now) c.loop-entry.builder c.to_objects.new.builder c.in_ok-objects.objects outcome one rest) c.loop-entry.invariant c.in_ok-objects.ensures)

pub returns : goal.returns
returns g c =
    under_way_end g.V.Evaluate.answers g.V.Evaluate.kept g.V.Evaluate.faults g.V.Evaluate.is_host_fault g.V.Evaluate.is_out_of_memory g.V.Evaluate.CanFault c.args.setting.now c.args.site.now (λ x s. for_all (to_objects x s)) c.args.entries.now c.loop-entry.entry-index c.loop-entry.made c.args.evaluator.now c.loop-entry.evaluator c.args.builder.now c.loop-entry.builder c.loop-entry-test.false (λ x s. refl) c.loop-entry.invariant

pub returns-in_err-objects : goal.returns-in_err-objects
returns-in_err-objects g c =
    let (y, e, q) = err_from_is_err_and c.from_residual.result c.from_residual.ensures.1 in
    exit e q
    (under_way_refused g.V.Evaluate.answers g.V.Evaluate.kept g.V.Evaluate.faults g.V.Evaluate.is_host_fault
    g.V.Evaluate.is_out_of_memory g.V.Evaluate.CanFault c.args.setting.now c.args.site.now (λ x s. for_all
    (to_objects x s)) c.args.entries.now (λ x s. to_objects x s c.entry-item.result) c.loop-entry.entry-index
    c.entry-item.result c.loop-entry.made c.args.evaluator.now c.loop-entry.evaluator c.to_objects.new.evaluator
    c.args.builder.now c.loop-entry.builder c.to_objects.new.builder c.in_err-objects.field-0.0
    c.loop-entry-test.true c.entry-item.is (λ x s fault is. (Err fault, is, refl)) c.loop-entry.invariant c.in_err-objects.ensures)

pub returns-in_err-made : goal.returns-in_err-made
returns-in_err-made g c =
    let (y, e, q) = err_from_is_err_and c.from_residual-in_err-made.result c.from_residual-in_err-made.ensures.1 in
    exit e q
    (under_way_memory g.V.Evaluate.answers g.V.Evaluate.kept g.V.Evaluate.faults g.V.Evaluate.is_host_fault g.V.Evaluate.is_out_of_memory g.V.Evaluate.CanFault c.args.setting.now c.args.site.now (λ x s. for_all (to_objects x s)) c.args.entries.now (λ x s. for_all (to_objects x s) c.args.entries.now) (c.loop-entry.entry-index + 1) (c.loop-entry.made ++ c.in_ok-objects.objects) c.args.evaluator.now c.to_objects.new.evaluator c.args.builder.now c.to_objects.new.builder
    (under_way_next g.V.Evaluate.answers g.V.Evaluate.kept g.V.Evaluate.faults g.V.Evaluate.is_host_fault
    g.V.Evaluate.is_out_of_memory g.V.Evaluate.CanFault c.args.setting.now c.args.site.now (λ x s. for_all
    (to_objects x s)) c.args.entries.now (λ x s. to_objects x s c.entry-item.result) c.loop-entry.entry-index
    c.entry-item.result c.loop-entry.made c.in_ok-objects.objects c.args.evaluator.now c.loop-entry.evaluator
    c.to_objects.new.evaluator c.args.builder.now c.loop-entry.builder c.to_objects.new.builder
    c.in_ok-objects.objects
    c.loop-entry-test.true c.entry-item.is (λ x s outcome one rest. for_all_next (to_objects x s) c.entry-item.result (drop (c.loop-entry.entry-index + 1) c.args.entries.now) c.loop-entry.builder c.to_objects.new.builder c.in_ok-objects.objects outcome one rest) c.loop-entry.invariant c.in_ok-objects.ensures))
