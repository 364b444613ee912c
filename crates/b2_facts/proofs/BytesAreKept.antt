-- What the bytes of a file tell is kept: its includes, and its digest.
use Rattle.std.proofs.Common.{◌≡◌, ◌⊎◌, inl, inr, ℕ, Bool, true, false, is_some, List, Option, Some, None, Result, Ok, Err, refl, sym, ap, subst, ◌∙◌}
use Rattle.std.specs.Option.{option_map}
use Rattle.b2_host.specs.declared.fault.IoFault.{IoFault}
use Rattle.b2_host.specs.declared.fault.IoFault.TheVariants as io
use Rattle.b2_host.specs.Disks.{File, Folder, bytes_at}
use Rattle.b2_host.specs.Outside.{Outside}
use Rattle.b2_host.specs.FileCalls.{stamp_at, Reads}
use Rattle.b2_plan.specs.declared.step.Step.{Step}
use Rattle.b2_plan.specs.Sources.{Build, Include}
use Rattle.b2_log.specs.Good.{IsDigest}
use Rattle.b2_log.specs.declared.line.ScanLine.{ScanLine}
use Rattle.b2_log.specs.declared.line.LogLine.{LogLine}
use Rattle.b2_log.specs.Finding.{find_scan}
use Rattle.jam_scan.specs.Scans.{is_scanned, scan_of}
use Rattle.jam_scan.specs.IncludeLines.{includes_of}
use Rattle.b2_facts.specs.declared.file_facts.FileLook.{FileLook}
use Rattle.b2_facts.specs.declared.file_facts.FileLook.TheVariants as seen
use Rattle.b2_facts.specs.declared.file_facts.FileFacts.{FileFacts}
use Rattle.b2_facts.specs.declared.fault.ReadFault.{ReadFault}
use Rattle.b2_facts.specs.declared.fault.ReadFault.TheVariants as faults
use Rattle.b2_facts.specs.declared.scans.ScanAnswer.{ScanAnswer}
use Rattle.b2_facts.specs.declared.scans.ScanAnswer.TheVariants as scanned
use Rattle.b2_facts.specs.ReadFaults.{of_io}
use Rattle.b2_facts.specs.Digests.{digest_of}
use Rattle.b2_facts.specs.Facts.{Knowledge, with_file, IsFile, IsPlanned, IsRead, path_at, file_at}
use Rattle.b2_facts.specs.Growth.{Stays, Grows, Learns, OfOne}
use Rattle.b2_facts.specs.Truth.{IsBuildOf, IsSeen, IsReadAs, AreTrueOfFile, StaysTrueOf, ScansTell}
use Rattle.b2_facts.specs.Asks.{taken, with_bytes, Scans, ReadsForAnswer, ReadsAtMost, IsTooBigFor}
use Rattle.b2_facts.proofs.ListsAtPlaces.{some_is, none_some, set_here}
use Rattle.b2_facts.proofs.FactsGrow.{file_same, stays_same, seen_known}
use Rattle.b2_facts.proofs.OneFileChanges.{learns_file, true_file, file_as_was, file_again}
use Rattle.b2_facts.proofs.DigestsAreHexadecimal.{digest_good}

-- ---- what is known of the bytes of one file

-- the facts of a file with these includes and this digest
abbrev pub with_read : FileFacts → Option (List Include) → Option (List ℕ) → FileFacts
with_read file i d = record file { includes = i; digest = d }

-- of a scanned file the includes are known, and the digest is one
pub record IsReadWell (file : FileFacts) (i : Option (List Include)) (d : Option (List ℕ)) : Type 0 where
  pub includes_stay : Stays file.includes i
  pub digest_stays : Stays file.digest d
  pub scanned : (includes : List Include) → i ≡ Some includes → (file.includes ≡ Some includes) ⊎ (file.scanned ≡ true)
  pub digested : (digest : List ℕ) → d ≡ Some digest → (file.digest ≡ Some digest) ⊎ IsDigest digest

pub read_learns : (steps : List Step) (roots : List (List ℕ)) (f g : Knowledge) (n : ℕ) (file : FileFacts) (i : Option (List Include)) (d : Option (List ℕ)) → file_at f n ≡ Some file → IsReadWell file i d → g ≡ with_file f n (with_read file i d) → Learns steps roots (OfOne n) f g
read_learns steps roots f g n file i d was well after = subst (Learns steps roots (OfOne n) f) (sym after) (learns_file steps roots (OfOne n) f n file (with_read file i d) was
    (let s = file_same file in record { maker = refl; rooted = refl; scanned = refl; seen = s.seen; includes = well.includes_stay; digest = well.digest_stays })
    (λ path p. record {
      maker = p.maker;
      rooted = p.rooted;
      scanned = p.scanned;
      read = λ includes e. elim (well.scanned includes e) [ inl before ↦ p.read includes before | inr so ↦ so ];
      digested = λ digest e. elim (well.digested digest e) [ inl before ↦ p.digested digest before | inr so ↦ so ];
    }) refl)

pub read_true : (steps : List Step) (roots : List (List ℕ)) (now : Folder) (b : Build) (f g : Knowledge) (n : ℕ) (file : FileFacts) (i : Option (List Include)) (d : Option (List ℕ)) → file_at f n ≡ Some file → g ≡ with_file f n (with_read file i d)
    → ((path : List ℕ) → IsBuildOf steps roots b → path_at f n ≡ Some path → IsPlanned steps roots path file → AreTrueOfFile b now path file → IsReadAs (b.inc path) (bytes_at now path) i × IsReadAs digest_of (bytes_at now path) d) → StaysTrueOf steps roots now f g b
read_true steps roots now b f g n file i d was after so = subst (λ (h : Knowledge). StaysTrueOf steps roots now f h b) (sym after) (λ build kept about holds. true_file b now f n file (with_read file i d) was
    (λ path is t. let r = so path build is (about.planned n path file (record { path_is = is; file_is = was })) t in record { seen = t.seen; includes = r.0; digest = r.1 }) holds)

-- ---- a digest

pub digest_well : (file : FileFacts) (digest : List ℕ) → file.digest ≡ None → IsDigest digest → IsReadWell file file.includes (Some digest)
digest_well file digest unknown is = record {
  includes_stay = stays_same file.includes;
  digest_stays = subst (λ o. Stays o (Some digest)) (sym unknown) tt;
  scanned = λ includes e. inl e;
  digested = λ other e. inr (subst IsDigest (some_is digest other e) is);
}

pub digest_so : (now : Folder) (path bytes digest : List ℕ) → bytes_at now path ≡ Some bytes → digest ≡ digest_of bytes → IsReadAs digest_of (bytes_at now path) (Some digest)
digest_so now path bytes digest there is = (bytes, there, is)

-- ---- includes of the log

pub line_well : (file : FileFacts) (includes : List Include) → file.includes ≡ None → file.scanned ≡ true → IsReadWell file (Some includes) file.digest
line_well file includes unknown so = record {
  includes_stay = subst (λ o. Stays o (Some includes)) (sym unknown) tt;
  digest_stays = stays_same file.digest;
  scanned = λ other e. inr so;
  digested = λ digest e. inl e;
}

-- a file with a stamp has bytes
pub stands_bytes : (now : Folder) (path : List ℕ) (stamp : ℕ) → stamp_at now path ≡ Some stamp → (bytes : List ℕ) × (bytes_at now path ≡ Some bytes)
stands_bytes now path stamp e = go (now path) refl e
  where
    go : (o : Option File) → now path ≡ o → option_map (λ (file : File). file.stamp) o ≡ Some stamp → (bytes : List ℕ) × (bytes_at now path ≡ Some bytes)
    go None is h = absurd (none_some stamp h)
    go (Some file) is h = (file.bytes, ap (option_map (λ (x : File). x.bytes)) is)

pub seen_stamp : (b : Build) (now : Folder) (path : List ℕ) (file : FileFacts) (stamp : ℕ) → file.seen ≡ seen.Stands stamp → AreTrueOfFile b now path file → stamp_at now path ≡ Some stamp
seen_stamp b now path file stamp stands t = subst (λ (s : FileLook). IsSeen s (stamp_at now path)) stands t.seen

pub line_so : (b : Build) (now : Folder) (lines : List LogLine) (path : List ℕ) (file : FileFacts) (stamp : ℕ) (line : ScanLine) → file.seen ≡ seen.Stands stamp → AreTrueOfFile b now path file → ScansTell b now lines → find_scan path stamp lines ≡ Some line → IsReadAs (b.inc path) (bytes_at now path) (Some line.includes)
line_so b now lines path file stamp line stands t tells found =
    let there = seen_stamp b now path file stamp stands t in
    let read = stands_bytes now path stamp there in
    (read.0, read.1, tells path stamp line read.0 found there read.1)

-- ---- a read

taken_stays : (by_digest : Bool) (bytes : List ℕ) (d : Option (List ℕ)) → Stays d (taken by_digest bytes d)
taken_stays by_digest bytes (Some digest) = refl
taken_stays true bytes None = tt
taken_stays false bytes None = tt

taken_well : (by_digest : Bool) (bytes : List ℕ) (d : Option (List ℕ)) (digest : List ℕ) → taken by_digest bytes d ≡ Some digest → (d ≡ Some digest) ⊎ IsDigest digest
taken_well by_digest bytes (Some known) digest e = inl e
taken_well true bytes None digest e = inr (subst IsDigest (some_is (digest_of bytes) digest e) (digest_good bytes))
taken_well false bytes None digest e = absurd (none_some digest e)

pub taken_not : (by_digest : Bool) (bytes : List ℕ) (d : Option (List ℕ)) → by_digest ≡ false → taken by_digest bytes d ≡ d
taken_not by_digest bytes d none = subst (λ (b : Bool). taken b bytes d ≡ d) (sym none) (go d)
  where
    go : (d : Option (List ℕ)) → taken false bytes d ≡ d
    go None = refl
    go (Some digest) = refl

pub taken_known : (by_digest : Bool) (bytes : List ℕ) (d : Option (List ℕ)) → is_some d ≡ true → taken by_digest bytes d ≡ d
taken_known by_digest bytes (Some digest) known = refl
taken_known by_digest bytes None known = absurd (let x : false ≡ true = known in cc)

-- a digest that is taken is known
pub taken_some : (by_digest : Bool) (bytes : List ℕ) (d : Option (List ℕ)) → by_digest ≡ true → (digest : List ℕ) × (taken by_digest bytes d ≡ Some digest)
taken_some by_digest bytes (Some known) so = (known, refl)
taken_some true bytes None so = (digest_of bytes, refl)
taken_some false bytes None so = absurd (let x : false ≡ true = so in cc)

taken_so : (by_digest : Bool) (bytes : List ℕ) (d there : Option (List ℕ)) → there ≡ Some bytes → IsReadAs digest_of there d → IsReadAs digest_of there (taken by_digest bytes d)
taken_so by_digest bytes (Some known) there e h = h
taken_so true bytes None there e h = (bytes, e, refl)
taken_so false bytes None there e h = tt

pub bytes_well : (by_digest : Bool) (bytes : List ℕ) (file : FileFacts) → file.includes ≡ None → file.scanned ≡ true → IsReadWell file (Some (includes_of bytes)) (taken by_digest bytes file.digest)
bytes_well by_digest bytes file unknown so = record {
  includes_stay = subst (λ o. Stays o (Some (includes_of bytes))) (sym unknown) tt;
  digest_stays = taken_stays by_digest bytes file.digest;
  scanned = λ other e. inr so;
  digested = λ digest e. taken_well by_digest bytes file.digest digest e;
}

-- a digest that is not taken stays unknown, and a known one stays
pub digest_as_was : (f : Knowledge) (n : ℕ) (by_digest : Bool) (bytes : List ℕ) → ((file : FileFacts) → file_at f n ≡ Some file → taken by_digest bytes file.digest ≡ file.digest)
    → (file : FileFacts) → file_at f n ≡ Some file → f ≡ with_file f n (record file { digest = taken by_digest bytes file.digest })
digest_as_was f n by_digest bytes same file was = sym (ap (λ (d : Option (List ℕ)). with_file f n (record file { digest = d })) (same file was) ∙ file_as_was f n file was)

-- the digest is kept, and then the includes
pub bytes_kept : (f g h : Knowledge) (n : ℕ) (by_digest : Bool) (bytes : List ℕ) (includes : List Include) (file : FileFacts) → file_at f n ≡ Some file → g ≡ with_file f n (record file { digest = taken by_digest bytes file.digest }) → includes ≡ includes_of bytes
    → ((x : FileFacts) → file_at g n ≡ Some x → h ≡ with_file g n (record x { includes = Some includes })) → h ≡ with_file f n (with_bytes by_digest bytes file)
bytes_kept f g h n by_digest bytes includes file was digested are put =
    let new : FileFacts = record file { digest = taken by_digest bytes file.digest } in
    let there : file_at g n ≡ Some new = subst (λ (k : Knowledge). file_at k n ≡ Some new) (sym digested) (set_here f.files n new file was) in
    put new there ∙ ap (λ (k : Knowledge). with_file k n (record new { includes = Some includes })) digested ∙ file_again f n new (record new { includes = Some includes }) ∙ ap (λ (is : List Include). with_file f n (record new { includes = Some is })) are

pub scan_so : (steps : List Step) (roots : List (List ℕ)) (b : Build) (now : Folder) (path bytes : List ℕ) (file : FileFacts) → IsBuildOf steps roots b → IsPlanned steps roots path file → file.scanned ≡ true → bytes_at now path ≡ Some bytes → IsReadAs (b.inc path) (bytes_at now path) (Some (includes_of bytes))
scan_so steps roots b now path bytes file build planned so there =
    let yes_scanned : is_scanned path ≡ true = sym planned.scanned ∙ so in
    (bytes, there, sym (ap (λ (inc : List ℕ → List ℕ → List Include). inc path bytes) build.inc ∙ scanned_of path bytes yes_scanned))
  where
    scanned_of : (path bytes : List ℕ) → is_scanned path ≡ true → scan_of path bytes ≡ includes_of bytes
    scanned_of path bytes e = rw e refl

pub bytes_so : (steps : List Step) (roots : List (List ℕ)) (b : Build) (now : Folder) (by_digest : Bool) (path bytes : List ℕ) (file : FileFacts) → file.scanned ≡ true → bytes_at now path ≡ Some bytes → IsBuildOf steps roots b → IsPlanned steps roots path file → AreTrueOfFile b now path file
    → IsReadAs (b.inc path) (bytes_at now path) (Some (includes_of bytes)) × IsReadAs digest_of (bytes_at now path) (taken by_digest bytes file.digest)
bytes_so steps roots b now by_digest path bytes file so there build planned t = (scan_so steps roots b now path bytes file build planned so there, taken_so by_digest bytes file.digest (bytes_at now path) there t.digest)

-- a file that was seen to stand is not missing where files are visible
pub not_missing : (b : Build) (now : Folder) (path : List ℕ) (file : FileFacts) (stamp : ℕ) → file.seen ≡ seen.Stands stamp → AreTrueOfFile b now path file → now path ≡ None → ⊥
not_missing b now path file stamp stands t none = none_some stamp (sym (ap (option_map (λ (x : File). x.stamp)) none) ∙ seen_stamp b now path file stamp stands t)

-- ---- what is done to the host

-- the file of a number after its facts changed
pub file_now : (f g : Knowledge) (n : ℕ) (old new : FileFacts) → file_at f n ≡ Some old → g ≡ with_file f n new → (file : FileFacts) → file_at g n ≡ Some file → new ≡ file
file_now f g n old new was after file e = some_is new file (sym (set_here f.files n new old was) ∙ subst (λ (h : Knowledge). file_at h n ≡ Some file) after e)

pub reads_fail : (T : Type 0) (path : List ℕ) (before after : Outside) (e : IoFault) → Reads {T = T} path before after (Err e) → ReadsForAnswer path before after (Err (of_io e))
reads_fail T path before after io.Failed h = h
reads_fail T path before after io.OutOfMemory h = inl h

pub reads_fail_most : (T U : Type 0) (path : List ℕ) (before after : Outside) (e : IoFault) → Reads {T = T} path before after (Err e) → ReadsAtMost {T = U} path before after (Err (of_io e))
reads_fail_most T U path before after io.Failed h = h
reads_fail_most T U path before after io.OutOfMemory h = inl h

pub not_too_big : (most : ℕ) (path : List ℕ) (now : Folder) (e : IoFault) → IsTooBigFor most path now (of_io e)
not_too_big most path now io.Failed = tt
not_too_big most path now io.OutOfMemory = tt

-- a scan that reads
pub scans_read : (g : Knowledge) (n : ℕ) (lines : List LogLine) (path : List ℕ) (file : FileFacts) (stamp : ℕ) (before after : Outside) → IsFile g n path file → file.seen ≡ seen.Stands stamp → find_scan path stamp lines ≡ None → (r : Result ScanAnswer ReadFault) → ReadsForAnswer path before after r → Scans g n lines before after r
scans_read g n lines path file stamp before after is stands unknown (Ok scanned.Known) h = absurd h
scans_read g n lines path file stamp before after is stands unknown (Ok (scanned.Read line)) h = record { path = path; file = file; is_file = is; stamp = stamp; stands = stands; unknown = unknown; read = h }
scans_read g n lines path file stamp before after is stands unknown (Ok scanned.Gone) h = inr (record { path = path; file = file; is_file = is; stamp = stamp; stands = stands; unknown = unknown; read = h })
scans_read g n lines path file stamp before after is stands unknown (Err faults.Failed) h = h
scans_read g n lines path file stamp before after is stands unknown (Err faults.OutOfMemory) (inl same) = inl same
scans_read g n lines path file stamp before after is stands unknown (Err faults.OutOfMemory) (inr h) = inr (record { path = path; file = file; is_file = is; stamp = stamp; stands = stands; unknown = unknown; read = h })
scans_read g n lines path file stamp before after is stands unknown (Err (faults.TooBig size)) h = record { path = path; file = file; is_file = is; stamp = stamp; stands = stands; unknown = unknown; read = h }

pub scans_after : (f g : Knowledge) (n : ℕ) (lines : List LogLine) (path : List ℕ) (file : FileFacts) (stamp : ℕ) (before after : Outside) → Grows f g → path_at f n ≡ Some path → file_at f n ≡ Some file → file.seen ≡ seen.Stands stamp → None ≡ find_scan path stamp lines → (r : Result ScanAnswer ReadFault) → ReadsForAnswer path before after r → Scans g n lines before after r
scans_after f g n lines path file stamp before after grows there was stands unknown r h =
    let later = grows.files n file was in
    scans_read g n lines path later.0 stamp before after (record { path_is = grows.paths n path there; file_is = later.1 }) (seen_known file.seen later.0.seen stamp stands later.2.seen) (sym unknown) r h

-- what is known to include something is read
pub is_read : (file : FileFacts) → is_some file.includes ≡ true → IsRead file
is_read file e = go file.includes refl e
  where
    go : (i : Option (List Include)) → file.includes ≡ i → is_some i ≡ true → IsRead file
    go None is h = absurd (let x : false ≡ true = h in cc)
    go (Some includes) is h = (includes, is)

pub not_read : (file : FileFacts) → is_some file.includes ≡ false → file.includes ≡ None
not_read file e = go file.includes e
  where
    go : (i : Option (List Include)) → is_some i ≡ false → i ≡ None
    go None h = refl
    go (Some includes) h = absurd (let x : true ≡ false = h in cc)
