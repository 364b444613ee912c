use Rattle.jam_journal.proofs.SlotsActLikeMapEntries.{grown_none, grown_then}
use Rattle.jam_journal.proofs.slots.grow.Goals as goal

pub slots-init : goal.slots-init
slots-init g c = grown_none c.args.slots.now.items c.requires.slots

pub add_vacant-requires-clause-slots : goal.add_vacant-requires-clause-slots
add_vacant-requires-clause-slots g c = c.slots.invariant.slots

pub slots-preserved : goal.slots-preserved
slots-preserved g c = grown_then c.args.slots.now.items c.slots.slots.items c.add_vacant.new.slots.items c.slots.invariant c.add_vacant.ensures.grown

pub returns-in_err-add_vacant-clause-grown : goal.returns-in_err-add_vacant-clause-grown
returns-in_err-add_vacant-clause-grown g c = grown_then c.args.slots.now.items c.slots.slots.items c.add_vacant.new.slots.items c.slots.invariant c.add_vacant.ensures.grown

pub returns-clause-grown : goal.returns-clause-grown
returns-clause-grown g c = c.slots.invariant
