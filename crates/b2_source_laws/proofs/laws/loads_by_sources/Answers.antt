use Rattle.b2_source_laws.proofs.RootsStayInWalks.{load_settles}
use Rattle.b2_source_laws.proofs.WalksBySources.{loads_agree}
use Rattle.b2_project.specs.Loads.{loaded}
use Rattle.std.proofs.Common.{refl}
use Rattle.b2_source_laws.proofs.laws.loads_by_sources.Goals as goal

pub returns : goal.returns
returns c = λ setting folder names reading left words w found natives show loads.
    loads_agree w.state.worlds.now.roots setting folder names reading natives show (load_settles setting natives left words w found loads).1 left words (loaded w found) loads (λ frozen. refl)
