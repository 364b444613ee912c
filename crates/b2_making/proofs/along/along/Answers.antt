use Rattle.std.proofs.Common.{◌≢◌, ◌+◌, [], List, Ok, Err, drop, refl, sym, subst}
use Rattle.std.specs.Option.{option_copied}
use Rattle.std.proofs.lemmas.Result.{err_from_is_err_and}
use Rattle.b2_making.specs.declared.output.Output.{Output}
use Rattle.b2_making.specs.MakingParts.{GivesSome, if_last}
use Rattle.b2_making.specs.Conversions.{first_tail}
use Rattle.b2_making.proofs.ChainGeneratorsGiveOutputs.{naming_some}
use Rattle.b2_making.proofs.ChainRunsStepByStep.{given_next, step_at, outputs_at, along_start, along_more, along_end, along_fault, along_memory}
use Rattle.b2_making.proofs.ExitsKeepThePromise.{exit}
use Rattle.b2_making.proofs.along.along.Goals as goal

pub loop-place-init : goal.loop-place-init
loop-place-init g c =
    record { given = c.requires.given; goes = along_start g.V.Evaluate.answers g.V.Evaluate.kept g.V.Evaluate.faults g.V.Evaluate.is_host_fault g.V.Evaluate.is_out_of_memory g.V.Evaluate.CanFault c.args.setting.now c.args.site.now (option_copied c.args.route.now.named) c.args.route.now.spare.now c.args.route.now.ids.now c.args.ins c.args.evaluator.now c.args.builder.now }

pub run-requires : goal.run-requires
run-requires g c =
    let id = c.index-ids-place.result in
    let next = given_next (GivesSome c.args.setting.now.types.now.generators) c.args.route.now.ids.now c.loop-place.place id c.loop-place-test.true c.index-ids-place.is c.loop-place.invariant.given in
    record {
      texts = c.requires.texts;
      some =
          subst (λ (os : List Output). os ≢ [])
          (sym (outputs_at c.args.setting.now (option_copied c.args.route.now.named) c.args.route.now.spare.now c.args.route.now.ids.now c.loop-place.place id c.loop-place.entries c.as_slice.result.now c.as_slice-outs.result.now c.in_ok-outputs.outputs (option_copied c.named_at-named.result) c.first_tail-tail.result.now c.as_slice.ensures c.as_slice-outs.ensures c.in_ok-outputs.ensures c.named_at-named.ensures c.first_tail-tail.ensures))
          (naming_some c.args.setting.now.types.now.types c.args.setting.now.types.now.generators id (first_tail c.args.route.now.spare.now c.loop-place.entries) (if_last (drop (c.loop-place.place + 1) c.args.route.now.ids.now) (option_copied c.args.route.now.named)) next.0);
    }

pub loop-place-preserved : goal.loop-place-preserved
loop-place-preserved g c =
    let id = c.index-ids-place.result in
    let next = given_next (GivesSome c.args.setting.now.types.now.generators) c.args.route.now.ids.now c.loop-place.place id c.loop-place-test.true c.index-ids-place.is c.loop-place.invariant.given in
    record {
      given = next.1;
      goes =
          along_more g.V.Evaluate.answers g.V.Evaluate.kept g.V.Evaluate.faults g.V.Evaluate.is_host_fault
          g.V.Evaluate.is_out_of_memory g.V.Evaluate.CanFault c.args.setting.now c.args.site.now (option_copied
          c.args.route.now.named) c.args.route.now.spare.now c.args.route.now.ids.now c.args.ins
          c.loop-place.place id c.loop-place.entries c.in_ok-entries.entries c.args.evaluator.now
          c.loop-place.evaluator c.run.new.evaluator c.args.builder.now c.loop-place.builder c.run.new.builder
          c.loop-place-test.true c.index-ids-place.is c.loop-place.invariant.goes
          (step_at g.V.Evaluate.answers g.V.Evaluate.kept g.V.Evaluate.faults g.V.Evaluate.is_host_fault g.V.Evaluate.is_out_of_memory g.V.Evaluate.CanFault c.args.setting.now c.args.site.now (option_copied c.args.route.now.named) c.args.route.now.spare.now c.args.route.now.ids.now c.args.ins c.loop-place.place id c.loop-place.entries c.loop-place.entries c.as_slice-outs.result.now c.loop-place.evaluator c.run.new.evaluator c.loop-place.builder c.run.new.builder (Ok c.in_ok-entries.entries) refl
          (outputs_at c.args.setting.now (option_copied c.args.route.now.named) c.args.route.now.spare.now c.args.route.now.ids.now c.loop-place.place id c.loop-place.entries c.as_slice.result.now c.as_slice-outs.result.now c.in_ok-outputs.outputs (option_copied c.named_at-named.result) c.first_tail-tail.result.now c.as_slice.ensures c.as_slice-outs.ensures c.in_ok-outputs.ensures c.named_at-named.ensures c.first_tail-tail.ensures)
          c.in_ok-entries.ensures);
    }

pub returns : goal.returns
returns g c =
    along_end g.V.Evaluate.answers g.V.Evaluate.kept g.V.Evaluate.faults g.V.Evaluate.is_host_fault g.V.Evaluate.is_out_of_memory g.V.Evaluate.CanFault c.args.setting.now c.args.site.now (option_copied c.args.route.now.named) c.args.route.now.spare.now c.args.route.now.ids.now c.args.ins c.loop-place.place c.loop-place.entries c.args.evaluator.now c.loop-place.evaluator c.args.builder.now c.loop-place.builder c.loop-place-test.false c.loop-place.invariant.goes

pub returns-in_err-outputs : goal.returns-in_err-outputs
returns-in_err-outputs g c =
    let (y, e, q) = err_from_is_err_and c.from_residual.result c.from_residual.ensures.1 in
    exit e q (along_memory g.V.Evaluate.answers g.V.Evaluate.kept g.V.Evaluate.faults g.V.Evaluate.is_host_fault g.V.Evaluate.is_out_of_memory g.V.Evaluate.CanFault c.args.setting.now c.args.site.now (option_copied c.args.route.now.named) c.args.route.now.spare.now c.args.route.now.ids.now c.args.ins c.loop-place.place c.loop-place.entries c.args.evaluator.now c.loop-place.evaluator c.args.builder.now c.loop-place.builder c.loop-place.invariant.goes)

pub returns-in_err-entries : goal.returns-in_err-entries
returns-in_err-entries g c =
    let (y, e, q) = err_from_is_err_and c.from_residual-in_err-entries.result c.from_residual-in_err-entries.ensures.1 in
    let id = c.index-ids-place.result in
    exit e q
    (along_fault g.V.Evaluate.answers g.V.Evaluate.kept g.V.Evaluate.faults g.V.Evaluate.is_host_fault
    g.V.Evaluate.is_out_of_memory g.V.Evaluate.CanFault c.args.setting.now c.args.site.now (option_copied
    c.args.route.now.named) c.args.route.now.spare.now c.args.route.now.ids.now c.args.ins c.loop-place.place id
    c.loop-place.entries c.args.evaluator.now c.loop-place.evaluator c.run.new.evaluator c.args.builder.now
    c.loop-place.builder c.run.new.builder c.in_err-entries.field-0.0 c.loop-place-test.true c.index-ids-place.is
    c.loop-place.invariant.goes
    (step_at g.V.Evaluate.answers g.V.Evaluate.kept g.V.Evaluate.faults g.V.Evaluate.is_host_fault g.V.Evaluate.is_out_of_memory g.V.Evaluate.CanFault c.args.setting.now c.args.site.now (option_copied c.args.route.now.named) c.args.route.now.spare.now c.args.route.now.ids.now c.args.ins c.loop-place.place id c.loop-place.entries c.loop-place.entries c.as_slice-outs.result.now c.loop-place.evaluator c.run.new.evaluator c.loop-place.builder c.run.new.builder (Err c.in_err-entries.field-0.0) refl
    (outputs_at c.args.setting.now (option_copied c.args.route.now.named) c.args.route.now.spare.now c.args.route.now.ids.now c.loop-place.place id c.loop-place.entries c.as_slice.result.now c.as_slice-outs.result.now c.in_ok-outputs.outputs (option_copied c.named_at-named.result) c.first_tail-tail.result.now c.as_slice.ensures c.as_slice-outs.ensures c.in_ok-outputs.ensures c.named_at-named.ensures c.first_tail-tail.ensures)
    c.in_err-entries.ensures))
