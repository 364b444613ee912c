use Rattle.std.specs.Prelude.{List}
use Rattle.b2_host.specs.Outside.{Read}
use Rattle.b2_memory.specs.ReadNotes.{reads_of}
use Rattle.b2_memory.specs.declared.read_notes.ReadNotes.{ReadNotes}

-- the reads that were noted
abbrev pub noted_reads : ReadNotes → List Read
noted_reads notes = reads_of notes.paths.items notes.stamps.items
