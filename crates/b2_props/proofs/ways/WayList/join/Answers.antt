use Rattle.std.proofs.Common.{◌≡◌, OnOk, sym, subst}
use Rattle.b2_props.specs.Ways.{ways_of, ways_in}
use Rattle.b2_props.proofs.WaysJoinFirstOfKey.{place_within, joined_new, joined_at}
use Rattle.b2_props.proofs.ways.WayList.join.Goals as goal

pub append-requires-clause-within : goal.append-requires-clause-within
append-requires-clause-within c = place_within c.args.factor.key (ways_in c.args.self.now) c.in-Some.place (sym (c.in-Some.ensures c.requires))

pub returns-in-None-clause-ways : goal.returns-in-None-clause-ways
returns-in-None-clause-ways c =
    subst (λ ws. OnOk c.push.result (ways_in c.push.new.self ≡ ws)) (sym (joined_new (ways_in c.args.self.now) (ways_of c.args.factor) (sym (c.in-None.ensures c.requires)))) c.push.ensures.ways

pub returns-in-Some-clause-ways : goal.returns-in-Some-clause-ways
returns-in-Some-clause-ways c =
    subst (λ ws. OnOk c.append.result (ways_in c.append.new.self ≡ ws)) (sym (joined_at (ways_in c.args.self.now) (ways_of c.args.factor) c.in-Some.place (sym (c.in-Some.ensures c.requires)))) c.append.ensures.ways
