use Rattle.std.proofs.lemmas.Result.{err_from_is_err_and}
use Rattle.std.proofs.Common.{◌∷◌, ◌+◌, [], List, Err, false, refl, sym, subst, drop}
use Rattle.b2_virtual.specs.declared.entry.Entry.{Entry}
use Rattle.b2_making.specs.Acts.{for_each}
use Rattle.b2_making.specs.Contexts.{context_of, site_of}
use Rattle.b2_making.specs.Steps.{places}
use Rattle.b2_making.proofs.ActsCompose.{IsSoFar, for_each_next, so_far_start, so_far_next, so_far_end, so_far_refused, refused_map}
use Rattle.b2_making.proofs.ExitsKeepThePromise.{exit_alone, exit_alone_memory}
use Rattle.b2_making.proofs.place.place_all.Goals as goal

pub loop-output-init : goal.loop-output-init
loop-output-init g c =
    λ told before.
    subst (λ (made : List Entry). IsSoFar (for_each (places (context_of told c.args.setting.now) (site_of c.args.site.now))) c.args.outputs.now 0 made before before) (sym c.new-made.ensures)
    (so_far_start (for_each (places (context_of told c.args.setting.now) (site_of c.args.site.now))) c.args.outputs.now before)

pub loop-output-preserved : goal.loop-output-preserved
loop-output-preserved g c =
    λ told before.
    subst (λ (made : List Entry). IsSoFar (for_each (places (context_of told c.args.setting.now) (site_of c.args.site.now))) c.args.outputs.now (c.loop-output.output-index + 1) made before before) (sym c.in_ok-push.ensures.ok)
    (so_far_next (for_each (places (context_of told c.args.setting.now) (site_of c.args.site.now))) c.args.outputs.now before c.loop-output.output-index c.output-item.result c.loop-output.made (c.in_ok-entry.entry ∷ []) before before c.loop-output-test.true c.output-item.is
    (λ outcome rest. for_each_next (places (context_of told c.args.setting.now) (site_of c.args.site.now)) c.output-item.result (drop (c.loop-output.output-index + 1) c.args.outputs.now) before before c.in_ok-entry.entry outcome ((c.in_ok-entry.ensures before).exact told (λ x. false) (λ x. false)) rest)
    (c.loop-output.invariant told before))

pub returns : goal.returns
returns g c =
    λ before. record {
      exact = λ told is_host is_memory. so_far_end (for_each (places (context_of told c.args.setting.now) (site_of c.args.site.now))) c.args.outputs.now before c.loop-output.output-index c.loop-output.made before c.loop-output-test.false refl (c.loop-output.invariant told before);
      no_eval = tt;
    }

pub returns-in_err-entry : goal.returns-in_err-entry
returns-in_err-entry g c =
    let (y, e, q) = err_from_is_err_and c.from_residual.result c.from_residual.ensures.1 in
    λ before.
    exit_alone e q (record {
      exact = λ told is_host is_memory.
          so_far_refused (for_each (places (context_of told c.args.setting.now) (site_of c.args.site.now))) c.args.outputs.now before is_host is_memory c.loop-output.output-index c.output-item.result c.loop-output.made before c.in_err-entry.field-0.0 c.loop-output-test.true c.output-item.is (c.loop-output.invariant told before)
          (refused_map is_host is_memory ((places (context_of told c.args.setting.now) (site_of c.args.site.now)) c.output-item.result) (for_each (places (context_of told c.args.setting.now) (site_of c.args.site.now)) (c.output-item.result ∷ drop (c.loop-output.output-index + 1) c.args.outputs.now)) before before c.in_err-entry.field-0.0 (λ fault is. (Err fault, is, refl))
          ((c.in_err-entry.ensures before).exact told is_host is_memory));
      no_eval = (c.in_err-entry.ensures before).no_eval;
    })

pub returns-in_err-push : goal.returns-in_err-push
returns-in_err-push g c =
    let (y, e, q) = err_from_is_err_and c.from_residual-in_err-push.result c.from_residual-in_err-push.ensures.1 in
    λ before. exit_alone_memory e q
