use Rattle.std.proofs.Common.{◌≡◌, ◌<◌, ◌≤◌, ◌-◌, ℕ, List, [], suc, length, get_or, refl, ◌∙◌, ap, arith}
use Rattle.std.proofs.lemmas.List.{get_or_read}
use Rattle.b2_generators.specs.Places.{layer_at}
use Rattle.b2_generators.proofs.WalkDownGivesFirstList.{walking_start, walking_finds, walking_step, walking_end}
use Rattle.b2_generators.proofs.walk.descend.Goals as goal

pub loop-left-init : goal.loop-left-init
loop-left-init c = walking_start c.args.generators.now c.args.layers.now c.args.depth c.args.types.now c.new-places.result _ c.requires.within c.requires.start c.new-places.ensures refl

-- one layer less
less : (left : ℕ) → 0 < left → left ≡ suc (left - 1)
less left some = omega arith

-- the layer that was read
read : (layers : List (List ℕ)) (left : ℕ) (found layer : List ℕ) → 0 < left → left ≤ length layers → found ≡ get_or layers (left - 1) found → layer ≡ found → layer ≡ layer_at layers (left - 1)
read layers left found layer some within is same = same ∙ get_or_read layers (left - 1) found (omega arith) is []

pub unreachable-requires : goal.unreachable-requires
unreachable-requires c =
    walking_finds c.args.generators.now c.args.layers.now c.args.depth c.args.types.now c.loop-left.left (c.loop-left.left - 1) c.loop-left.types.now c.loop-left.places c.loop-left.branch c.as_slice-layer.result.now (less c.loop-left.left c.loop-left-test.true)
    (read c.args.layers.now c.loop-left.left c.index-layers-left.result c.as_slice-layer.result.now c.loop-left-test.true c.loop-left.invariant.within c.index-layers-left.is c.as_slice-layer.ensures) c.loop-left.invariant c.lowest.result c.lowest.ensures c.in_default.is

pub loop-left-preserved : goal.loop-left-preserved
loop-left-preserved c =
    walking_step c.args.generators.now c.args.layers.now c.args.depth c.args.types.now c.loop-left.left (c.loop-left.left - 1) c.loop-left.types.now c.loop-left.places c.loop-left.branch c.as_slice-layer.result.now (less c.loop-left.left c.loop-left-test.true)
    (read c.args.layers.now c.loop-left.left c.index-layers-left.result c.as_slice-layer.result.now c.loop-left-test.true c.loop-left.invariant.within c.index-layers-left.is c.as_slice-layer.ensures) c.loop-left.invariant c.lowest.result c.lowest-next.result c.in-Some.place
    _ c.targets_at-types.result.now c.push.new.self c.branch_after-branch.result c.requires.connected c.in-Some.is c.lowest.ensures c.lowest-next.ensures (ap length c.as_slice.ensures) c.branch_after-branch.ensures c.in_ok-push.ensures.ok c.targets_at-types.ensures

pub loop-left-smaller : goal.loop-left-smaller
loop-left-smaller c = omega arith

pub returns : goal.returns
returns c = walking_end c.args.generators.now c.args.layers.now c.args.depth c.args.types.now c.loop-left.left c.loop-left.types.now c.loop-left.places c.loop-left.branch c.loop-left.invariant (omega arith)
