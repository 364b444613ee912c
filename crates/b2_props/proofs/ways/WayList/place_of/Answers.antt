use Rattle.std.proofs.Common.{◌∙◌, sym, ap}
use Rattle.b2_props.specs.Ways.{ways_in, place_of}
use Rattle.b2_props.proofs.WaysJoinFirstOfKey.{no_key}
use Rattle.b2_props.proofs.ways.WayList.place_of.Goals as goal

pub returns-in-None : goal.returns-in-None
returns-in-None c = λ placed. sym (ap (λ k. place_of k (ways_in c.args.self.now)) c.in-None.is ∙ no_key (ways_in c.args.self.now))
