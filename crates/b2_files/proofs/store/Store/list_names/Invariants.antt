use Rattle.std.proofs.Common.{take, drop}
use Rattle.b2_base.specs.Segments.{texts}
use Rattle.b2_files.specs.Names.{Gathered}
use Rattle.b2_files.specs.StoreDisks.{told}
use Rattle.b2_files.proofs.store.Store.list_names.Given as goal

-- the names of the paths so far
abbrev pub invariant-loop-path : goal.invariant-loop-path
invariant-loop-path l = Gathered (told l.self).now l.dir (take l.path-index (texts l.paths)) (drop l.path-index (texts l.paths)) l.names
