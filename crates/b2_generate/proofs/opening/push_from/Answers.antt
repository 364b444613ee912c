use Rattle.std.proofs.Common.{◌≡◌, ◌++◌, ◌∷◌, [], map, take, subst}
use Rattle.std.specs.Prelude.{OnOk}
use Rattle.b2_references.specs.Names.{target_text}
use Rattle.b2_generate.specs.Generation.{from_first}
use Rattle.b2_generate.proofs.CycleListsOpenTargets.{from_next, from_all}
use Rattle.b2_generate.proofs.opening.push_from.Goals as goal

pub loop-frame-init : goal.loop-frame-init
loop-frame-init c = c.requires

pub loop-frame-preserved : goal.loop-frame-preserved
loop-frame-preserved c =
    let names = map (λ f. f.name) (take c.loop-frame.frame-index c.args.frames.now) in
    from_next (target_text c.args.index.now) c.args.name.now c.args.frames.now c.loop-frame.frame-index c.frame-item.result c.push_next.new.targets c.loop-frame-test.true c.frame-item.is
    (subst (λ r. OnOk r (c.push_next.new.targets ≡ map (target_text c.args.index.now) (from_first c.args.name.now (names ++ c.frame-item.result.name ∷ [])))) c.in_ok-push_next.was
    (c.push_next.ensures names c.loop-frame.invariant))

pub returns : goal.returns
returns c = from_all (target_text c.args.index.now) c.args.name.now c.args.frames.now c.loop-frame.frame-index c.loop-frame.targets c.loop-frame-test.false c.loop-frame.invariant
