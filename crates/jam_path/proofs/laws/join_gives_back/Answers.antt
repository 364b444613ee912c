use Rattle.jam_path.proofs.JoinGivesBack.{gives_back}
use Rattle.jam_path.proofs.laws.join_gives_back.Goals as goal

pub returns : goal.returns
returns c = gives_back
