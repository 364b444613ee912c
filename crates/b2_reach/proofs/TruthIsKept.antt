-- What is known stays true as it grows, and as a line is noted in the log.
use Rattle.std.proofs.Common.{◌≡◌, ◌≢◌, ◌⊎◌, inl, inr, ℕ, Bool, true, false, List, [], ◌∷◌, ◌++◌, Option, Some, None, option_map, refl, sym, ap, subst, ◌∙◌}
use Rattle.std.specs.List.{Contains}
use Rattle.std.specs.Str.{bytes_eq}
use Rattle.std.proofs.lemmas.Slice.Eq.{bytes_eq-Decides}
use Rattle.std.proofs.lemmas.List.Elements.{Contains-append_cases, Contains-append_left}
use Rattle.b2_host.specs.Disks.{File, Folder, Disk, Past, IsConsistent, bytes_at}
use Rattle.b2_host.specs.FileCalls.{log_path, stamp_at}
use Rattle.b2_host.specs.LogChanges.{ChangesOnlyAt}
use Rattle.b2_host.specs.OutsideLaws.{only_one}
use Rattle.b2_plan.specs.declared.step.Step.{Step}
use Rattle.b2_plan.specs.Plans.{Apart}
use Rattle.b2_plan.specs.Sources.{Build, IsInRoots}
use Rattle.b2_log.specs.declared.line.ScanLine.{ScanLine}
use Rattle.b2_log.specs.declared.line.LogLine.{LogLine}
use Rattle.b2_log.specs.declared.line.LogLine.TheVariants as lines
use Rattle.b2_runs.specs.Logs.{IsTrueScan, ScansTrue}
use Rattle.b2_runs.specs.Staleness.{Update, making}
use Rattle.b2_runs.proofs.SourcesAreKept.{log_in_roots}
use Rattle.b2_runs.proofs.ScanTells.{found_scan_tells}
use Rattle.b2_facts.specs.declared.file_facts.FileFacts.{FileFacts}
use Rattle.b2_facts.specs.declared.file_facts.FileLook.{FileLook}
use Rattle.b2_facts.specs.declared.file_facts.FileLook.TheVariants as seen
use Rattle.b2_facts.specs.Facts.{Knowledge, IsFile, IsBlank, IsAbout, path_at}
use Rattle.b2_facts.specs.Growth.{Learns}
use Rattle.b2_facts.specs.Truth.{IsBuildOf, IsSeen, IsReadAs, AreTrueOfFile, AreTrue, StaysTrueOf, ScansTell}
use Rattle.b2_facts.specs.Digests.{digest_of}
use Rattle.b2_facts.proofs.ListsAtPlaces.{some_is, none_some}
use Rattle.b2_reach.specs.declared.sights.Sights.{Sights}
use Rattle.b2_reach.specs.Sightings.{NothingOfLog, IsTrueSight}
use Rattle.b2_reach.proofs.ReachGrows.{has_file, has_path}

same_or_not : (p q : List ℕ) → (p ≡ q) ⊎ (p ≢ q)
same_or_not p q = go (bytes_eq p q) refl
  where
    go : (b : Bool) → bytes_eq p q ≡ b → (p ≡ q) ⊎ (p ≢ q)
    go true e = inl ((bytes_eq-Decides p q).0 e)
    go false e = inr (λ same. let f : true ≡ false = sym ((bytes_eq-Decides p q).1 same) ∙ e in cc)

-- ---- one file

pub no_stamp_no_bytes : (o : Option File) (bytes : List ℕ) → option_map (λ (x : File). x.stamp) o ≡ None → option_map (λ (x : File). x.bytes) o ≡ Some bytes → ⊥
no_stamp_no_bytes None bytes e f = none_some bytes f
no_stamp_no_bytes (Some file) bytes e f = none_some file.stamp (sym e)

pub seen_gone : (s : FileLook) (stamp : Option ℕ) → s ≡ seen.Gone → IsSeen s stamp → stamp ≡ None
seen_gone s stamp e is = subst (λ x. IsSeen x stamp) e is

pub seen_stands : (s : FileLook) (known : ℕ) (stamp : Option ℕ) → s ≡ seen.Stands known → IsSeen s stamp → stamp ≡ Some known
seen_stands s known stamp e is = subst (λ x. IsSeen x stamp) e is

-- ---- all

-- what is known is about the same plan
pub about_plan : (steps : List Step) (roots : List (List ℕ)) (b : Build) (f : Knowledge) → IsBuildOf steps roots b → IsAbout b.steps b.roots f → IsAbout steps roots f
about_plan steps roots b f build about = subst (λ r. IsAbout steps r f) build.roots_are (subst (λ p. IsAbout p b.roots f) build.steps_are about)

pub about_build : (steps : List Step) (roots : List (List ℕ)) (b : Build) (f : Knowledge) → IsBuildOf steps roots b → IsAbout steps roots f → IsAbout b.steps b.roots f
about_build steps roots b f build about = subst (λ p. IsAbout p b.roots f) (sym build.steps_are) (subst (λ r. IsAbout steps r f) (sym build.roots_are) about)

-- nothing is learned of the log's own file
log_unseen_stays : (steps : List Step) (roots : List (List ℕ)) (P : ℕ → Type 0) (f g : Knowledge) → IsInRoots roots log_path → IsAbout steps roots f → Learns steps roots P f g → ((n : ℕ) → P n → path_at g n ≡ Some log_path → ⊥) → NothingOfLog f → NothingOfLog g
log_unseen_stays steps roots P f g inside about learns none before n file is = elim (learns.only n file is.file_is) [
  | inl looked ↦ (let told : file.rooted ≡ true = ((learns.about about).planned n log_path file is).rooted.1 inside in let e : false ≡ true = sym looked.outside.1 ∙ told in cc)
  | inr more ↦ elim more [
    | inl p ↦ absurd (none n p is.path_is)
    | inr last ↦ elim last [
      | inl same ↦ (let (path, at) = has_path steps roots f n file about same in
          let path_is : path ≡ log_path = some_is path log_path (sym (learns.grows.paths n path at) ∙ is.path_is) in
          before n file (record { path_is = subst (λ p. path_at f n ≡ Some p) path_is at; file_is = same }))
      | inr blank ↦ blank
    ]
  ]
]

-- what is known stays true as it grows
pub sight_grows : (steps : List Step) (roots : List (List ℕ)) (u : Update) (disk : Disk) (s t : Sights) (P : ℕ → Type 0) → Apart u.build.steps u.build.roots → IsBuildOf steps roots u.build → Learns steps roots P s.facts t.facts → StaysTrueOf steps roots disk.now s.facts t.facts u.build → t.journal ≡ s.journal
    → ((n : ℕ) → P n → path_at t.facts n ≡ Some log_path → ⊥) → IsTrueSight u disk s → IsTrueSight u disk t
sight_grows steps roots u disk s t P apart build learns stays same none is =
    let about : IsAbout steps roots s.facts = about_plan steps roots u.build s.facts build is.about in
    let inside : IsInRoots roots log_path = subst (λ r. IsInRoots r log_path) build.roots_are (log_in_roots u.build apart) in
    record {
      consistent = is.consistent;
      sources = is.sources;
      about = about_build steps roots u.build t.facts build (learns.about about);
      facts = stays build is.sources about is.facts;
      log_unseen = log_unseen_stays steps roots P s.facts t.facts inside about learns none is.log_unseen;
      scans = subst (ScansTrue (making u) disk.past) (sym same) is.scans;
    }

-- the scan lines of a log that are true tell
pub scans_tell : (u : Update) (disk : Disk) (s : Sights) → IsTrueSight u disk s → ScansTell u.build disk.now s.journal
scans_tell u disk s is path stamp line bytes at stands has = found_scan_tells (making u) disk s.journal path stamp line bytes is.consistent is.scans at stands has

-- ---- a line is noted

seen_blank : (s : FileLook) (stamp : Option ℕ) → s ≡ seen.Unasked → IsSeen s stamp
seen_blank s stamp e = subst (λ x. IsSeen x stamp) (sym e) tt

read_blank : {X : Type 0} (of : List ℕ → X) (bytes : Option (List ℕ)) (known : Option X) → known ≡ None → IsReadAs of bytes known
read_blank of bytes known e = subst (IsReadAs of bytes) (sym e) tt

blank_true : (b : Build) (now : Folder) (path : List ℕ) (file : FileFacts) → IsBlank file → AreTrueOfFile b now path file
blank_true b now path file blank = record {
  seen = seen_blank file.seen (stamp_at now path) blank.unseen;
  includes = read_blank (b.inc path) (bytes_at now path) file.includes blank.unread;
  digest = read_blank digest_of (bytes_at now path) file.digest blank.undigested;
}

moved_true : (b : Build) (before after : Folder) (path : List ℕ) (file : FileFacts) → after path ≡ before path → AreTrueOfFile b before path file → AreTrueOfFile b after path file
moved_true b before after path file same is = record {
  seen = subst (λ (o : Option File). IsSeen file.seen (option_map (λ (x : File). x.stamp) o)) (sym same) is.seen;
  includes = subst (λ (o : Option File). IsReadAs (b.inc path) (option_map (λ (x : File). x.bytes) o) file.includes) (sym same) is.includes;
  digest = subst (λ (o : Option File). IsReadAs digest_of (option_map (λ (x : File). x.bytes) o) file.digest) (sym same) is.digest;
}

-- facts of which none is about the log's file stay true as it changes
facts_moved : (b : Build) (before after : Folder) (f : Knowledge) → IsAbout b.steps b.roots f → ((path : List ℕ) → path ≢ log_path → after path ≡ before path) → NothingOfLog f → AreTrue b before f → AreTrue b after f
facts_moved b before after f about others unseen is = record {
  files = λ n path file at. elim (same_or_not path log_path) [
    | inl log ↦ blank_true b after path file (unseen n file (record { path_is = subst (λ p. path_at f n ≡ Some p) log at.path_is; file_is = at.file_is }))
    | inr other ↦ moved_true b before after path file (others path other) (is.files n path file at)
  ];
  found = λ list n path dirs targets at dirs_at found.
      (let a = is.found list n path dirs targets at dirs_at found in
      let asked = about.found list n targets found in
      let (file, known) = has_file b.steps b.roots f n about asked.numbered in
      let other : path ≢ log_path = λ log. (let blank = unseen n file (record { path_is = subst (λ p. path_at f n ≡ Some p) log at; file_is = known }) in let (includes, read) = asked.read file known in none_some includes (sym blank.unread ∙ read)) in
      record { bytes = a.bytes; stands = ap (option_map (λ (x : File). x.bytes)) (others path other) ∙ a.stands; each = a.each; whole = a.whole });
}

past_grows : (u : Update) (past more : List Past) (log : List LogLine) → ScansTrue (making u) past log → ScansTrue (making u) (past ++ more) log
past_grows u past more log is s among =
    let t = is s among in
    record { bytes = t.bytes; stood = Contains-append_left past more (record { path = s.path; file = record { stamp = s.stamp; bytes = t.bytes } }) t.stood; includes = t.includes }

-- what is known stays true as the log's file changes
pub sight_moved : (u : Update) (before after : Disk) (s : Sights) → Apart u.build.steps u.build.roots → ChangesOnlyAt log_path before after → IsConsistent after → IsTrueSight u before s → IsTrueSight u after s
sight_moved u before after s apart moved consistent is = record {
  consistent = consistent;
  sources = λ path outside. moved.others path (λ log. outside (subst (IsInRoots u.build.roots) (sym log) (log_in_roots u.build apart))) ∙ is.sources path outside;
  about = is.about;
  facts = facts_moved u.build before.now after.now s.facts is.about moved.others is.log_unseen is.facts;
  log_unseen = is.log_unseen;
  scans = subst (λ p. ScansTrue (making u) p s.journal) (sym moved.past) (past_grows u before.past moved.more s.journal is.scans);
}

-- what is known stays true as a true line is noted
pub sight_line : (u : Update) (disk : Disk) (s t : Sights) (line : ScanLine) → IsTrueScan (making u) disk.past line → t.facts ≡ s.facts → t.journal ≡ s.journal ++ lines.Scan line ∷ [] → IsTrueSight u disk s → IsTrueSight u disk t
sight_line u disk s t line told facts_same longer is = record {
  consistent = is.consistent;
  sources = is.sources;
  about = subst (IsAbout u.build.steps u.build.roots) (sym facts_same) is.about;
  facts = subst (AreTrue u.build disk.now) (sym facts_same) is.facts;
  log_unseen = subst NothingOfLog (sym facts_same) is.log_unseen;
  scans = subst (ScansTrue (making u) disk.past) (sym longer) (λ x among. elim (Contains-append_cases s.journal (lines.Scan line ∷ []) (lines.Scan x) among) [
    | inl before ↦ is.scans x before
    | inr last ↦ (let same : lines.Scan line ≡ lines.Scan x = only_one (lines.Scan line) (lines.Scan x) last in subst (IsTrueScan (making u) disk.past) (scan_is line x same) told)
  ]);
}
  where
    scan_or : ScanLine → LogLine → ScanLine
    scan_or d (lines.Record r) = d
    scan_or d (lines.Drop outs) = d
    scan_or d (lines.Scan s) = s

    scan_is : (x y : ScanLine) → lines.Scan x ≡ lines.Scan y → x ≡ y
    scan_is x y e = ap (scan_or x) e

-- the line of a file that was read is true
pub line_true : (u : Update) (disk : Disk) (s : Sights) (n : ℕ) (file : FileFacts) (line : ScanLine) → IsFile s.facts n line.path file → file.seen ≡ seen.Stands line.stamp → file.includes ≡ Some line.includes → IsTrueSight u disk s → IsTrueScan (making u) disk.past line
line_true u disk s n file line at stands includes is =
    let told = is.facts.files n line.path file at in
    go (disk.now line.path) refl (subst (λ x. IsSeen x (stamp_at disk.now line.path)) stands told.seen) (subst (IsReadAs (u.build.inc line.path) (bytes_at disk.now line.path)) includes told.includes)
  where
    go : (o : Option File) → disk.now line.path ≡ o → stamp_at disk.now line.path ≡ Some line.stamp → IsReadAs (u.build.inc line.path) (bytes_at disk.now line.path) (Some line.includes) → IsTrueScan (making u) disk.past line
    go None e stamp read = absurd (none_some line.stamp (sym (ap (option_map (λ (x : File). x.stamp)) e) ∙ stamp))
    go (Some x) e stamp read =
        let (bytes, has, made) = read in
        let stamp_is : x.stamp ≡ line.stamp = some_is x.stamp line.stamp (sym (ap (option_map (λ (y : File). y.stamp)) e) ∙ stamp) in
        let bytes_is : x.bytes ≡ bytes = some_is x.bytes bytes (sym (ap (option_map (λ (y : File). y.bytes)) e) ∙ has) in
        record {
          bytes = x.bytes;
          stood = subst (λ k. Contains disk.past (record { path = line.path; file = record { stamp = k; bytes = x.bytes } })) stamp_is (is.consistent.stands line.path x e);
          includes = made ∙ ap (u.build.inc line.path) (sym bytes_is);
        }
