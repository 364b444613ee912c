use Rattle.b2_runs.proofs.ScanTells.{scan_tells}
use Rattle.b2_runs.proofs.scan_lines_tell.scan_tells.Goals as goal

pub returns : goal.returns
returns c = scan_tells
