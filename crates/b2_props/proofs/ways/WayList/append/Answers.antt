use Rattle.std.proofs.Common.{◌<◌, refl, subst}
use Rattle.std.proofs.lemmas.List.{length-map}
use Rattle.b2_props.specs.Ways.{ways_of}
use Rattle.b2_props.proofs.WaysJoinFirstOfKey.{longer_set, placed_longer}
use Rattle.b2_props.proofs.ways.WayList.append.Goals as goal

pub returns-clause-ways : goal.returns-clause-ways
returns-clause-ways c =
    let olds = c.args.self.now.factors.items in
    longer_set olds c.args.place c.index_mut.result.now record { key = c.index_mut.result.now.key; choices = c.append.new.self } c.args.choices.items (subst (λ n. c.args.place < n) (length-map olds ways_of) c.requires.within) c.index_mut.ensures.value refl
    c.in_ok-append.ensures.items

pub returns-clause-placed : goal.returns-clause-placed
returns-clause-placed c = record { places = λ q. placed_longer c.args.self.now c.args.place c.args.choices.items _ (returns-clause-ways c) c.requires.placed q }
