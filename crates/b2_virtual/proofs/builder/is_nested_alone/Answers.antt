use Rattle.std.proofs.Common.{List, ℕ, Option, map, subst}
use Rattle.std.specs.Option.{IfSome}
use Rattle.b2_virtual.specs.declared.own_spots.OwnSpots.{OwnSpots}
use Rattle.b2_virtual.specs.Spots.{spot, AreOwnSpots}
use Rattle.b2_virtual.proofs.NestedOutputsShowInSpots.{HasNested, Shows, own_nested}
use Rattle.std.specs.Prelude.{◌↔◌}
use Rattle.b2_virtual.proofs.builder.is_nested_alone.Goals as goal

pub returns-in-Some : goal.returns-in-Some
returns-in-Some c =
    let outs : List (List ℕ) = c.args.step.now.outs in
    let own : OwnSpots = c.in-Some.own in
    let known : AreOwnSpots (map spot outs) own.every own.outermost = subst (λ (o : Option OwnSpots). IfSome o (λ w. AreOwnSpots (map spot outs) w.every w.outermost)) c.in-Some.is c.requires.own in
    let told : Shows own.every own.outermost c.args.place.now ↔ HasNested outs c.args.out.now = own_nested outs own.every own.outermost c.args.out.now c.args.place.now known c.requires.normal c.requires.among c.requires.place in
    (λ t. told.0 (c.is_nested-in-Some.ensures.0 t), λ h. c.is_nested-in-Some.ensures.1 (told.1 h))
