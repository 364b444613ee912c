use Rattle.std.proofs.Common.{◌∙◌, ap, sym}
use Rattle.std.specs.FinMap.{get, get-empty}
use Rattle.std.specs.Ordering.{nat_cmp}
use Rattle.std.specs.Cmp.Lexicographic.{slice_cmp}
use Rattle.std.specs.Option.{option_or}
use Rattle.std.specs.Str.{bytes_eq}
use Rattle.std.proofs.Common.{cond, Some, None}
use Rattle.b2_references.proofs.LoopsTakeOneMore.{dirs_next}
use Rattle.b2_references.proofs.index.dirs_of.Goals as goal

pub loop-place-init : goal.loop-place-init
loop-place-init c = λ dir. ap (λ m. get m dir) c.new-made.ensures ∙ get-empty (slice_cmp nat_cmp) dir

pub loop-place-preserved : goal.loop-place-preserved
loop-place-preserved c = λ dir.
    c.in_ok-add_dir.ensures dir ∙ ap (λ o. option_or o (cond (bytes_eq c.index-places-place.result.dir dir) (Some c.loop-place.place) None)) (c.loop-place.invariant dir)
    ∙ sym (dirs_next c.args.places.now c.loop-place.place c.index-places-place.result dir c.loop-place-test.true c.index-places-place.is)
