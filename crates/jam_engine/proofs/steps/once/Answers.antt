use Rattle.std.proofs.Common.{ap, sym, ◌∙◌, is_some}
use Rattle.std.specs.List.{list_any}
use Rattle.std.specs.Str.{bytes_eq}
use Rattle.std.specs.FinMap.{get}
use Rattle.jam_natives.proofs.SeenTextsAreAddedOnce.{seen_none, fold_step}
use Rattle.jam_engine.proofs.steps.once.Goals as goal

pub loop-path-init : goal.loop-path-init
loop-path-init c = record {
  so_far = c.new-made.ensures;
  seen = λ path. ap (λ m. is_some (get m path)) c.new-seen.ensures ∙ seen_none path ∙ ap (list_any (bytes_eq path)) (sym c.new-made.ensures);
}

pub loop-path-preserved : goal.loop-path-preserved
loop-path-preserved c = record {
  so_far = fold_step c.args.paths.now c.loop-path.path-index c.path-item.result _ _ c.loop-path-test.true c.path-item.is c.loop-path.invariant.so_far (c.in_ok-add_once.ensures.made c.loop-path.invariant.seen);
  seen = c.in_ok-add_once.ensures.seen c.loop-path.invariant.seen;
}
