use Rattle.std.proofs.Common.{◌∙◌, ◌++◌, ap₂, sym}
use Rattle.std.specs.Option.{option_to_list}
use Rattle.b2_references.specs.References.{place_at}
use Rattle.b2_references.proofs.LoopsTakeOneMore.{options_next}
use Rattle.b2_references.proofs.project_search.places_at.Goals as goal

pub loop-dir-preserved : goal.loop-dir-preserved
loop-dir-preserved c =
    c.in_ok-push_some.ensures ∙ ap₂ (λ xs o. xs ++ option_to_list o) c.loop-dir.invariant c.place_at.ensures
    ∙ sym (options_next c.args.dirs.now c.loop-dir.dir-index c.dir-item.result c.loop-dir-test.true c.dir-item.is (place_at c.args.index.now))
