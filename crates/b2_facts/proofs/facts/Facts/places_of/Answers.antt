use Rattle.b2_facts.proofs.IncludesAreLookedFor.{include_within, places_are}
use Rattle.b2_facts.proofs.facts.Facts.places_of.Goals as goal

pub include_at-include-requires : goal.include_at-include-requires
include_at-include-requires c = include_within c.args.self.now c.args.number c.args.at c.includes.result.now c.requires.number c.requires.read c.includes.ensures

pub returns : goal.returns
returns c = places_are c.args.self.now c.args.list c.args.number c.args.at c.path.result.now c.dirs.result.now c.includes.result.now c.include_at-include.result.now c.path.ensures c.dirs.ensures c.includes.ensures c.include_at-include.ensures c.candidates.result c.candidates.ensures
