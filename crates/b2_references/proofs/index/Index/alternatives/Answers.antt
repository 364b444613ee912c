use Rattle.std.proofs.Common.{◌∙◌, ◌∷◌, [], map, ap}
use Rattle.std.specs.Borrow.{Bor}
use Rattle.std.specs.List.{filter_map, slice_get}
use Rattle.std.proofs.lemmas.List.{map-append, take_all}
use Rattle.b2_declared.specs.declared.place.Target.{Target}
use Rattle.b2_references.specs.Names.{numbers, alternatives}
use Rattle.b2_references.proofs.EntriesGrowByOneTarget.{numbers_found}
use Rattle.b2_references.proofs.LoopsTakeOneMore.{found_next}
use Rattle.b2_references.proofs.index.Index.alternatives.Goals as goal

pub loop-number-preserved : goal.loop-number-preserved
loop-number-preserved c =
    ap (map (λ (t : Bor Target). t.now)) c.in_ok-push.ensures.items ∙ map-append (λ (t : Bor Target). t.now) c.loop-number.made.items (c.target_at.result ∷ [])
    ∙ found_next c.as_slice-targets.result.now c.numbers-numbers.result.now c.loop-number.number-index c.target_at.result.now (map (λ (t : Bor Target). t.now) c.loop-number.made.items) c.loop-number-test.true c.target_at.ensures
    c.loop-number.invariant

pub returns : goal.returns
unfolding numbers alternatives
returns c =
    c.loop-number.invariant ∙ ap (filter_map (slice_get c.as_slice-targets.result.now)) (take_all c.loop-number.number-index c.numbers-numbers.result.now c.loop-number-test.false ∙ c.numbers-numbers.ensures.exact)
    ∙ ap (λ ts. filter_map (slice_get ts) (numbers c.args.self.now (c.args.project, c.args.name.now))) (c.as_slice-targets.ensures ∙ ap (λ d. d.targets) c.declared.ensures) ∙ numbers_found (c.args.project, c.args.name.now) c.args.self.now.targets
