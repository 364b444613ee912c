use Rattle.std.proofs.Common.{◌≡◌, refl, sym, ap, subst, subst₂, ◌∙◌, Some}
use Rattle.b2_host.specs.Disks.{bytes_at}
use Rattle.b2_host.specs.FileCalls.{stamp_at}
use Rattle.b2_runs.specs.ScanLaws.{ScanIsTrue, ScanTells, FoundScanTells}
use Rattle.b2_runs.proofs.LastLineIsFound.{scan_is_there}
use Rattle.b2_runs.proofs.SameByStamp.{whole_file}

-- the scan line of a file that was read is true
pub scan_is_true : ScanIsTrue
scan_is_true m disk path file keeps at = record { bytes = file.bytes; stood = keeps.stands path file at; includes = refl }

-- a true scan line with the stamp of the file that stands tells its includes
pub scan_tells : ScanTells
scan_tells m disk s bytes keeps t stamp at =
    let now = keeps.stands s.path _ (whole_file disk.now s.path s.stamp bytes stamp at) in
    t.includes ∙ ap (m.inc s.path) (keeps.one_each s.path s.stamp t.bytes bytes t.stood now)

-- so does the one that is found
pub found_scan_tells : FoundScanTells
found_scan_tells m disk log path stamp s bytes keeps whole found has at =
    let (c, p, e) = scan_is_there path stamp log s found in
    scan_tells m disk s bytes keeps (whole s c) (subst₂ (λ q n. stamp_at disk.now q ≡ Some n) (sym p) (sym e) has) (subst (λ q. bytes_at disk.now q ≡ Some bytes) (sym p) at)
    ∙ ap (λ q. m.inc q bytes) p
