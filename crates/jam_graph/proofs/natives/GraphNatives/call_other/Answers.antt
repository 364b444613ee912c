use Rattle.std.proofs.Common.{refl, sym, ◌∙◌}
use Rattle.jam_natives.specs.Seeing as jam
use Rattle.jam_natives.specs.Rows.{jam_meaning}
use Rattle.jam_graph.specs.Calling.{kept_of}
use Rattle.jam_graph.proofs.CallsGoThrough.{goes_through}
use Rattle.jam_graph.proofs.natives.GraphNatives.call_other.Goals as goal

pub returns : goal.returns
returns g c =
    goes_through c.args.name.now c.args.lists.now c.args.line c.args.world.now c.call.new.world (kept_of c.args.self.now) (jam.kept_of c.call.new.self) (g.F.Files.outside c.args.files.now) (g.F.Files.outside c.call.new.files) c.call.result
    (sym c.is_declaring.ensures ∙ c.if-is_declaring.false)
    (c.call.ensures.told jam_meaning refl) c.call.ensures.kept c.call.ensures.frames c.call.ensures.part c.call.ensures.outside
