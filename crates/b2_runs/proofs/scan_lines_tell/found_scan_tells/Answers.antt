use Rattle.b2_runs.proofs.ScanTells.{found_scan_tells}
use Rattle.b2_runs.proofs.scan_lines_tell.found_scan_tells.Goals as goal

pub returns : goal.returns
returns c = found_scan_tells
