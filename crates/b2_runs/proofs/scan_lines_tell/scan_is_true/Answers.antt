use Rattle.b2_runs.proofs.ScanTells.{scan_is_true}
use Rattle.b2_runs.proofs.scan_lines_tell.scan_is_true.Goals as goal

pub returns : goal.returns
returns c = scan_is_true
