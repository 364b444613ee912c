use Rattle.std.proofs.Common.{ap, sym, ◌∙◌, is_some}
use Rattle.std.specs.List.{list_any}
use Rattle.std.specs.Str.{bytes_eq}
use Rattle.std.specs.FinMap.{get}
use Rattle.jam_natives.proofs.SeenTextsAreAddedOnce.{seen_none, fold_step}
use Rattle.jam_natives.proofs.texts.without_repeats.Goals as goal

pub loop-text-init : goal.loop-text-init
loop-text-init c = record {
  so_far = c.new-made.ensures;
  seen = λ text. ap (λ m. is_some (get m text)) c.new-seen.ensures ∙ seen_none text ∙ ap (list_any (bytes_eq text)) (sym c.new-made.ensures);
}

pub loop-text-preserved : goal.loop-text-preserved
loop-text-preserved c = record {
  so_far = fold_step c.args.texts.now c.loop-text.text-index c.text-item.result _ _ c.loop-text-test.true c.text-item.is c.loop-text.invariant.so_far (c.in_ok-add_new.ensures.made c.loop-text.invariant.seen);
  seen = c.in_ok-add_new.ensures.seen c.loop-text.invariant.seen;
}
