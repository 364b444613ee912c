use Rattle.jam_values.specs.FileReadings.{reading_of}
use Rattle.jam_graph.proofs.FilesLoad.{file_loaded, file_unread}
use Rattle.jam_graph.proofs.load.load_file.Goals as goal

pub returns-in-Ok : goal.returns-in-Ok
returns-in-Ok g c =
    file_loaded c.args.path.now (reading_of c.in-Ok.reading) (g.F.Files.outside c.args.files.now) (g.F.Files.outside c.read_file.new.files) (g.F.Files.outside c.load_found.new.files) c.args.turns.now c.load_found.new.turns c.load_found.result.echoes
    c.load_found.result.result c.in-Ok.ensures.effect c.in-Ok.ensures.answer c.load_found.ensures

pub returns-in-Err : goal.returns-in-Err
returns-in-Err g c =
    file_unread c.in-Err.fault c.args.path.now (g.F.Files.outside c.args.files.now) (g.F.Files.outside c.read_file.new.files) c.args.turns.now c.unread.result.echoes c.unread.result.result c.in-Err.ensures.effect c.unread.ensures.echoes
    c.unread.ensures.result
