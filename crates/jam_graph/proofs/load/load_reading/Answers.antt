use Rattle.std.proofs.Common.{IfOk, sym, subst}
use Rattle.jam_values.specs.FileReadings.{reading_of}
use Rattle.jam_graph.specs.Loading.{TellsReading}
use Rattle.jam_graph.proofs.load.load_reading.Goals as goal

pub returns-in-File-clause-told : goal.returns-in-File-clause-told
returns-in-File-clause-told g c =
    subst (λ r. IfOk c.run_tree.result (λ loaded. TellsReading (reading_of r) (g.F.Files.outside c.args.files.now) c.args.path.now c.args.turns.now c.run_tree.new.turns loaded.echoes loaded.result)) (sym c.in-File.is) c.run_tree.ensures.told
