use Rattle.jam_values.specs.FileReadings.{reading_of}
use Rattle.jam_graph.proofs.FilesLoad.{found_nothing}
use Rattle.jam_graph.proofs.load.load_found.Goals as goal

pub returns-in-Ok : goal.returns-in-Ok
returns-in-Ok g c = record { told = c.in-Ok.ensures.told; ready = c.in-Ok.ensures.ready; whole = c.in-Ok.ensures.whole; leaves = c.in-Ok.ensures.leaves; counts = c.in-Ok.ensures.counts }

pub returns-in-Err : goal.returns-in-Err
returns-in-Err g c =
    found_nothing (reading_of c.args.reading) (g.F.Files.outside c.args.files.now) (g.F.Files.outside c.load_reading.new.files) c.args.path.now c.args.turns.now c.load_reading.new.turns c.refused.result.echoes c.refused.result.result
    c.refused.ensures.result c.in-Err.ensures.leaves
