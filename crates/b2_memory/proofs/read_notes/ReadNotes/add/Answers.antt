use Rattle.b2_memory.proofs.ReadsKeepTheirPaths.{reads_more}
use Rattle.b2_memory.proofs.read_notes.ReadNotes.add.Goals as goal

pub returns-clause-ok : goal.returns-clause-ok
returns-clause-ok c =
    rw (c.push_reserved.ensures.items, c.push_reserved-2.ensures.items, c.reserve.ensures.items, c.reserve-2.ensures.items, c.in_ok-path.ensures)
    (reads_more c.args.self.now.paths.items c.args.self.now.stamps.items c.args.path.now c.args.stamps c.args.self.now.as_many)
