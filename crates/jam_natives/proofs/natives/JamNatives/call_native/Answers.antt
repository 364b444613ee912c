use Rattle.jam_natives.specs.Seeing.{kept_of}
use Rattle.jam_natives.proofs.natives.JamNatives.call_native.Goals as goal

pub returns-in-Glob : goal.returns-in-Glob
returns-in-Glob g c = rw c.in-Glob.is (c.glob_call.ensures (kept_of c.args.self.now))

pub returns-in-ProjectGlob : goal.returns-in-ProjectGlob
returns-in-ProjectGlob g c = rw c.in-ProjectGlob.is (c.project_glob_call.ensures (kept_of c.args.self.now))
