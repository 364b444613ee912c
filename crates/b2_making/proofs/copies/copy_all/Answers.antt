use Rattle.std.proofs.lemmas.Result.{err_from_is_err_and}
use Rattle.std.proofs.Common.{◌+◌, List, sym, subst}
use Rattle.std.specs.Option.{option_copied}
use Rattle.b2_virtual.specs.declared.entry.Entry.{Entry}
use Rattle.b2_making.specs.Acts.{for_each}
use Rattle.b2_making.specs.Contexts.{context_of, site_of}
use Rattle.b2_making.specs.Steps.{location_of}
use Rattle.b2_making.specs.Conversions.{copies_at}
use Rattle.b2_making.proofs.ActsCompose.{IsSoFar, so_far_start}
use Rattle.b2_making.proofs.PromisesCompose.{grows_none, grows_then}
use Rattle.b2_making.proofs.CopiesAreMadeInTurn.{copy_stops, copy_next, copy_ends}
use Rattle.b2_making.proofs.ExitsKeepThePromise.{exit_alone, exit_alone_memory}
use Rattle.b2_making.proofs.copies.copy_all.Goals as goal

pub loop-entry-init : goal.loop-entry-init
loop-entry-init g c =
    record {
      copies = λ told.
          subst (λ (made : List Entry). IsSoFar (for_each (copies_at (context_of told c.args.setting.now) (site_of c.args.site.now) (location_of c.args.site.now.set.now))) c.args.entries.now 0 made c.args.builder.now c.args.builder.now) (sym c.new-made.ensures)
          (so_far_start (for_each (copies_at (context_of told c.args.setting.now) (site_of c.args.site.now) (location_of c.args.site.now.set.now))) c.args.entries.now c.args.builder.now);
      grows = grows_none c.args.setting.now.roots.now c.args.builder.now;
    }

pub loop-entry-preserved : goal.loop-entry-preserved
loop-entry-preserved g c =
    record {
      copies = λ told.
          subst (λ (made : List Entry). IsSoFar (for_each (copies_at (context_of told c.args.setting.now) (site_of c.args.site.now) (location_of c.args.site.now.set.now))) c.args.entries.now (c.loop-entry.entry-index + 1) made c.args.builder.now c.copy_one.new.builder) (sym c.in_ok-push.ensures.ok)
          (copy_next c.args.setting.now c.args.site.now told c.args.entries.now c.loop-entry.entry-index c.entry-item.result c.in_ok-copy.copy (option_copied c.location_of-location.result) c.loop-entry.made c.args.builder.now c.loop-entry.builder c.copy_one.new.builder c.loop-entry-test.true c.entry-item.is c.location_of-location.ensures (c.loop-entry.invariant.copies told) c.in_ok-copy.ensures.copies);
      grows = grows_then c.args.setting.now.roots.now c.args.builder.now c.loop-entry.builder c.copy_one.new.builder c.loop-entry.invariant.grows c.in_ok-copy.ensures.grows;
    }

pub returns : goal.returns
returns g c =
    record { copies = copy_ends c.args.setting.now c.args.site.now c.args.entries.now c.loop-entry.entry-index c.loop-entry.made c.args.builder.now c.loop-entry.builder c.loop-entry-test.false c.loop-entry.invariant.copies; grows = c.loop-entry.invariant.grows }

pub returns-in_err-copy : goal.returns-in_err-copy
returns-in_err-copy g c =
    let (y, e, q) = err_from_is_err_and c.from_residual.result c.from_residual.ensures.1 in
    record {
      copies = exit_alone e q (copy_stops c.args.setting.now c.args.site.now c.args.entries.now c.loop-entry.entry-index c.entry-item.result (option_copied c.location_of-location.result) c.loop-entry.made c.in_err-copy.field-0.0 c.args.builder.now c.loop-entry.builder c.copy_one.new.builder c.loop-entry-test.true c.entry-item.is c.location_of-location.ensures c.loop-entry.invariant.copies c.in_err-copy.ensures.copies);
      grows = grows_then c.args.setting.now.roots.now c.args.builder.now c.loop-entry.builder c.copy_one.new.builder c.loop-entry.invariant.grows c.in_err-copy.ensures.grows;
    }

pub returns-in_err-push : goal.returns-in_err-push
returns-in_err-push g c =
    let (y, e, q) = err_from_is_err_and c.from_residual-in_err-push.result c.from_residual-in_err-push.ensures.1 in
    record {
      copies = exit_alone_memory e q;
      grows = grows_then c.args.setting.now.roots.now c.args.builder.now c.loop-entry.builder c.copy_one.new.builder c.loop-entry.invariant.grows c.in_ok-copy.ensures.grows;
    }
