-- The log has the scan line of each file of which is known what it includes.
use Rattle.std.proofs.Common.{◌≡◌, inl, inr, ℕ, Bool, true, false, List, [], ◌∷◌, ◌++◌, Some, None, map, refl, sym, ap, subst, subst₂, ◌∙◌}
use Rattle.std.specs.Str.{bytes_eq}
use Rattle.std.proofs.lemmas.Bool.{cases_eq}
use Rattle.std.proofs.lemmas.Slice.Eq.{bytes_eq-Decides}
use Rattle.b2_host.specs.Disks.{Folder}
use Rattle.b2_host.specs.FileCalls.{stamp_at}
use Rattle.b2_plan.specs.declared.step.Step.{Step}
use Rattle.b2_log.specs.declared.line.ScanLine.{ScanLine}
use Rattle.b2_log.specs.declared.line.LogLine.{LogLine}
use Rattle.b2_log.specs.declared.line.LogLine.TheVariants as lines
use Rattle.b2_log.specs.Finding.{path_of, find_scan}
use Rattle.b2_runs.proofs.LastLineIsFound.{last_scan, path_same, scans_unsaid, outs_not_scanned}
use Rattle.b2_facts.specs.declared.file_facts.FileFacts.{FileFacts}
use Rattle.b2_facts.specs.declared.file_facts.FileLook.TheVariants as seen
use Rattle.b2_facts.specs.Facts.{Knowledge, IsFile, IsRead, WasRead, IsAbout, path_at, file_at, with_file}
use Rattle.b2_facts.specs.Growth.{FileGrows, Learns, OfNone, OfOne}
use Rattle.b2_facts.specs.Growth as facts
use Rattle.b2_facts.specs.Truth.{IsSeen}
use Rattle.b2_facts.proofs.ListsAtPlaces.{some_is, none_some, set_here, set_there}
use Rattle.b2_facts.proofs.FactsGrow.{seen_known}
use Rattle.b2_reach.specs.Sightings.{HasScanLine, AreLined}
use Rattle.b2_reach.specs.Laws.{LinedAsFactsGrow, LinedAsOneGrows, LinedAfterLine, LinedAsForgotten}
use Rattle.b2_reach.proofs.ReachGrows.{has_path, was_file}

-- ---- a line is noted

module _ (now : Folder) (log : List LogLine) (path : List ℕ) (file : FileFacts) (at_now : IsSeen file.seen (stamp_at now path)) (h : HasScanLine log path file) where
  stands_now : stamp_at now path ≡ Some h.stamp
  stands_now = subst (λ x. IsSeen x (stamp_at now path)) h.stands at_now

  unsaid : (x : LogLine) → find_scan path h.stamp (log ++ x ∷ []) ≡ find_scan path h.stamp log → HasScanLine (log ++ x ∷ []) path file
  unsaid x same = record { stamp = h.stamp; stands = h.stands; line = h.line; found = same ∙ h.found }

  by_path : (s : ScanLine) (same : Bool) → bytes_eq s.path path ≡ same → stamp_at now s.path ≡ Some s.stamp → HasScanLine (log ++ lines.Scan s ∷ []) path file
  by_path s true e stands =
      let here : s.path ≡ path = (bytes_eq-Decides s.path path).0 e in
      let f : Some s.stamp ≡ Some h.stamp = sym stands ∙ ap (stamp_at now) here ∙ stands_now in
      let n : s.stamp ≡ h.stamp = cc in
      record { stamp = h.stamp; stands = h.stands; line = s; found = subst₂ (λ p m. find_scan p m (log ++ lines.Scan s ∷ []) ≡ Some s) here n (last_scan log s) }
  by_path s false e stands =
      let differ : s.path ≡ path → ⊥ = λ here. let f : false ≡ true = sym e ∙ (bytes_eq-Decides s.path path).1 here in cc in
      unsaid (lines.Scan s) (scans_unsaid path h.stamp log (lines.Scan s) (λ g. differ (path_same s.path path g)))

  line_after : (x : LogLine) → ((s : ScanLine) → x ≡ lines.Scan s → stamp_at now s.path ≡ Some s.stamp) → HasScanLine (log ++ x ∷ []) path file
  line_after (lines.Record r) stands = unsaid (lines.Record r) (scans_unsaid path h.stamp log (lines.Record r) (outs_not_scanned (map path_of r.outs) path))
  line_after (lines.Drop outs) stands = unsaid (lines.Drop outs) (scans_unsaid path h.stamp log (lines.Drop outs) (outs_not_scanned outs path))
  line_after (lines.Scan s) stands = by_path s (bytes_eq s.path path) refl (stands s refl)

pub lined_after_line : LinedAfterLine
lined_after_line b now f log line truth stands lined n path file is read = line_after now log path file (truth.files n path file is).seen (lined n path file is read) line stands

-- ---- what is known grows

-- the line of a file of which was known what it includes
pub line_still : (steps : List Step) (roots : List (List ℕ)) (f g : Knowledge) (log : List LogLine) (n : ℕ) (path : List ℕ) (file : FileFacts) → IsAbout steps roots f → facts.Grows f g → AreLined f log → IsFile g n path file → WasRead f n → HasScanLine log path file
line_still steps roots f g log n path file about grown lined is before =
    let (was, at, read) = before in
    let (old, old_at) = has_path steps roots f n was about at in
    let same : old ≡ path = some_is old path (sym (grown.paths n old old_at) ∙ is.path_is) in
    let h = lined n path was (record { path_is = subst (λ p. path_at f n ≡ Some p) same old_at; file_is = at }) read in
    record { stamp = h.stamp; stands = seen_known was.seen file.seen h.stamp h.stands (was_file f g n was file grown at is.file_is).seen; line = h.line; found = h.found }

-- what files include is learned of some alone, which have their lines
pub lined_grows : (steps : List Step) (roots : List (List ℕ)) (P : ℕ → Type 0) (f g : Knowledge) (log : List LogLine) → IsAbout steps roots f → Learns steps roots P f g → ((n : ℕ) (path : List ℕ) (file : FileFacts) → P n → IsFile g n path file → IsRead file → HasScanLine log path file) → AreLined f log → AreLined g log
lined_grows steps roots P f g log about learns new lined n path file is read = elim (learns.only n file is.file_is) [
  | inl looked ↦ line_still steps roots f g log n path file about learns.grows lined is (looked.read read)
  | inr more ↦ elim more [
    | inl p ↦ new n path file p is read
    | inr last ↦ elim last [
      | inl same ↦ line_still steps roots f g log n path file about learns.grows lined is (file, same, read)
      | inr blank ↦ absurd (none_some read.0 (sym blank.unread ∙ read.1))
    ]
  ]
]

pub lined_as_facts_grow : LinedAsFactsGrow
lined_as_facts_grow steps roots f g log about learns lined = lined_grows steps roots OfNone f g log about learns (λ n path file none. absurd none) lined

pub lined_as_one_grows : LinedAsOneGrows
lined_as_one_grows steps roots f g log n file about learns at same lined = lined_grows steps roots (OfOne n) f g log about learns
    (λ k path later one is read. (
    let there : IsFile g n path later = subst (λ m. IsFile g m path later) one is in
    let was : IsRead file = (read.0, sym (same later there.file_is) ∙ read.1) in
    line_still steps roots f g log n path later about learns.grows lined there (file, at, was)))
    lined

-- ---- what was seen is forgotten

pub lined_as_forgotten : LinedAsForgotten
lined_as_forgotten f log n file at unread lined k path x is read = elim (cases_eq k n) [
  | inl same ↦ (
      let blind = record file { seen = seen.Unasked; digest = None } in
      let e : blind ≡ x = some_is blind x (sym (set_here f.files n blind file at) ∙ subst (λ m. file_at (with_file f n blind) m ≡ Some x) same is.file_is) in
      let none : x.includes ≡ None = ap (λ (y : FileFacts). y.includes) (sym e) ∙ unread in
      absurd (none_some read.0 (sym none ∙ read.1)))
  | inr other ↦ lined k path x (record { path_is = is.path_is; file_is = sym (set_there f.files n k (record file { seen = seen.Unasked; digest = None }) other) ∙ is.file_is }) read
]
