use Rattle.b2_top.proofs.JobsAreFromOne.{few_jam_jobs}
use Rattle.b2_top.proofs.laws.few_jam_jobs.Goals as goal

pub returns : goal.returns
returns c = few_jam_jobs
