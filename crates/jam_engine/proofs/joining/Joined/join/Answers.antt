use Rattle.std.proofs.Common.{List, length, ◌<◌, arith, refl, subst, ◌∙◌}
use Rattle.jam_graph.specs.declared.graph.Act.{Act}
use Rattle.jam_engine.proofs.AlikeFound.{at_get, together_within, found_within, found_joins, none_joins}
use Rattle.jam_engine.proofs.joining.Joined.join.Goals as goal

pub alike_at-requires : goal.alike_at-requires
alike_at-requires c =
    together_within c.args.world.now.now c.as_slice.result.now c.args.self.now.acts.items c.args.first.now c.numbers_of-places.result.now c.as_slice.ensures.value (c.numbers_of-places.ensures ∙ c.requires.joined.1.places c.args.first.now)

pub index_mut-requires : goal.index_mut-requires
index_mut-requires c =
    omega (arith, found_within c.as_slice.result.now c.numbers_of-places.result.now c.args.act.now c.in-Some.place c.in-Some.ensures, c.as_slice.ensures.len)

pub returns-in-Some : goal.returns-in-Some
returns-in-Some c before h =
    let self = c.args.self.now in
    let acts = c.as_slice.result.now in
    let places = c.numbers_of-places.result.now in
    let place = c.in-Some.place in
    let low = found_within acts places c.args.act.now place c.in-Some.ensures in
    found_joins c.push_copies.result c.args.world.now.now c.args.act.now c.args.first.now acts places place c.index_mut.result.now c.push_copies.new.made c.as_slice-in-Some.result.now before self _ c.push_copies.ensures c.as_slice-in-Some.ensures
    c.requires.first c.in-Some.ensures c.as_slice.ensures.value c.numbers_of-places.ensures (at_get self.acts.items place c.index_mut.result.now (subst (λ (l : List Act). place < length l) c.as_slice.ensures.value low) c.index_mut.ensures.value) refl refl h

pub returns-in-None : goal.returns-in-None
returns-in-None c before h =
    none_joins c.begin.result c.args.world.now.now c.args.act.now c.args.first.now c.as_slice.result.now c.numbers_of-places.result.now before c.args.self.now c.begin.new.self c.begin.ensures.acts c.begin.ensures.places c.requires.first
    c.requires.together c.in-None.ensures c.as_slice.ensures.value c.numbers_of-places.ensures h
