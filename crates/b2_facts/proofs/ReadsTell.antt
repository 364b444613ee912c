-- What a read of a file tells, by its answer.
use Rattle.std.proofs.Common.{◌≡◌, inl, inr, ℕ, Bool, true, List, [], Option, Some, None, Result, Ok, Err, refl, sym, ap, subst, ◌∙◌}
use Rattle.std.specs.Prelude.{IfOk, IfErr}
use Rattle.std.specs.Option.{IfSome}
use Rattle.b2_host.specs.Disks.{Disk, Folder, bytes_at}
use Rattle.b2_plan.specs.declared.step.Step.{Step}
use Rattle.b2_plan.specs.Sources.{Build, Include}
use Rattle.b2_log.specs.declared.line.ScanLine.{ScanLine}
use Rattle.b2_log.specs.declared.line.LogLine.{LogLine}
use Rattle.b2_log.specs.Finding.{find_scan}
use Rattle.b2_log.specs.Good.{IsDigest}
use Rattle.jam_scan.specs.IncludeLines.{includes_of}
use Rattle.b2_facts.specs.declared.file_facts.FileLook.TheVariants as seen
use Rattle.b2_facts.specs.declared.file_facts.FileFacts.{FileFacts}
use Rattle.b2_facts.specs.declared.fault.ReadFault.{ReadFault}
use Rattle.b2_facts.specs.declared.scans.ScanAnswer.{ScanAnswer}
use Rattle.b2_facts.specs.declared.scans.ScanAnswer.TheVariants as scanned
use Rattle.b2_facts.specs.Digests.{digest_of}
use Rattle.b2_facts.specs.Facts.{Knowledge, with_file, IsFile, IsNumber, IsRead, path_at, file_at, WasRead}
use Rattle.b2_facts.specs.Growth.{Grows, Learns, OfOne}
use Rattle.b2_facts.specs.Truth.{IsReadAs, StaysTrueOf, StaysTrue, ScansTell}
use Rattle.b2_facts.specs.Asks.{seen_of, IsToRead, with_bytes, taken, IsToldByLog, IsLineOf, IsGoneAtRead, IsReadAnswer, IsScannedAs, IsTooBigFor}
use Rattle.b2_facts.proofs.ListsAtPlaces.{some_is}
use Rattle.b2_facts.proofs.FactsGrow.{told_map}
use Rattle.b2_facts.proofs.DigestsAreHexadecimal.{digest_good}
use Rattle.b2_facts.proofs.LooksAreKept.{number_file}
use Rattle.b2_facts.proofs.BytesAreKept.{read_learns, read_true, digest_well, digest_so, line_well, line_so, bytes_well, bytes_so, taken_some, not_missing, file_now}

-- no includes are set
pub none_included : (f g : Knowledge) (n : ℕ) (includes : List Include) → includes ≡ [] → ((file : FileFacts) → file_at f n ≡ Some file → g ≡ with_file f n (record file { includes = Some includes }))
    → (file : FileFacts) → file_at f n ≡ Some file → g ≡ with_file f n (record file { includes = Some [] })
none_included f g n includes none set = subst (λ (is : List Include). (file : FileFacts) → file_at f n ≡ Some file → g ≡ with_file f n (record file { includes = Some is })) none set

module _ (f g : Knowledge) (n : ℕ) (number : IsNumber f n) where
  -- ---- a digest

  module _ (digest : List ℕ) (bytes : List ℕ) (digest_is : digest ≡ digest_of bytes) (unknown : (file : FileFacts) → file_at f n ≡ Some file → file.digest ≡ None) (after : (file : FileFacts) → file_at f n ≡ Some file → g ≡ with_file f n (record file { digest = Some digest })) where
    pub digest_learns : (steps : List Step) (roots : List (List ℕ)) → Learns steps roots (OfOne n) f g
    digest_learns steps roots =
        let file = number_file f n number in
        read_learns steps roots f g n file.0 file.0.includes (Some digest) file.1 (digest_well file.0 digest (unknown file.0 file.1) (subst IsDigest (sym digest_is) (digest_good bytes))) (after file.0 file.1)

    pub digest_true : (path : List ℕ) → path_at f n ≡ Some path → (now : Folder) → bytes_at now path ≡ Some bytes → (steps : List Step) (roots : List (List ℕ)) → StaysTrue steps roots now f g
    digest_true path there now stands steps roots b =
        let file = number_file f n number in
        read_true steps roots now b f g n file.0 file.0.includes (Some digest) file.1 (after file.0 file.1)
        (λ other build is planned t. (t.includes, subst (λ (p : List ℕ). IsReadAs digest_of (bytes_at now p) (Some digest)) (some_is path other (sym there ∙ is)) (digest_so now path bytes digest stands digest_is)))

    -- so it is known
    pub digest_known : (file : FileFacts) → file_at g n ≡ Some file → file.digest ≡ None → ⊥
    digest_known file e none =
        let old = number_file f n number in
        let same = file_now f g n old.0 (record old.0 { digest = Some digest }) old.1 (after old.0 old.1) file e in
        let x : Some digest ≡ None = subst (λ (y : FileFacts). y.digest ≡ None) (sym same) none in
        cc

  -- ---- bytes

  module _ (by_digest : Bool) (bytes : List ℕ) (stamp : ℕ) (to_read : (file : FileFacts) → file_at f n ≡ Some file → IsToRead file stamp) (after : (file : FileFacts) → file_at f n ≡ Some file → g ≡ with_file f n (with_bytes by_digest bytes file)) where
    pub bytes_learns : (steps : List Step) (roots : List (List ℕ)) → Learns steps roots (OfOne n) f g
    bytes_learns steps roots =
        let file = number_file f n number in
        let r = to_read file.0 file.1 in
        read_learns steps roots f g n file.0 (Some (includes_of bytes)) (taken by_digest bytes file.0.digest) file.1 (bytes_well by_digest bytes file.0 r.unread r.scanned) (after file.0 file.1)

    pub bytes_true : (path : List ℕ) → path_at f n ≡ Some path → (now : Folder) → bytes_at now path ≡ Some bytes → (steps : List Step) (roots : List (List ℕ)) → StaysTrue steps roots now f g
    bytes_true path there now stands steps roots b =
        let file = number_file f n number in
        let r = to_read file.0 file.1 in
        read_true steps roots now b f g n file.0 (Some (includes_of bytes)) (taken by_digest bytes file.0.digest) file.1 (after file.0 file.1)
        (λ other build is planned t. bytes_so steps roots b now by_digest other bytes file.0 r.scanned (subst (λ (p : List ℕ). bytes_at now p ≡ Some bytes) (some_is path other (sym there ∙ is)) stands) build planned t)

    -- by digests the digest is known
    pub bytes_digested : (file : FileFacts) → file_at g n ≡ Some file → by_digest ≡ true → (digest : List ℕ) × (file.digest ≡ Some digest)
    bytes_digested file e so =
        let old = number_file f n number in
        let same = file_now f g n old.0 (with_bytes by_digest bytes old.0) old.1 (after old.0 old.1) file e in
        let known = taken_some by_digest bytes old.0.digest so in
        (known.0, subst (λ (x : FileFacts). x.digest ≡ Some known.0) same known.1)

    pub bytes_answer : (line : ScanLine) → ((path : List ℕ) → path_at f n ≡ Some path → line ≡ record { path = path; stamp = stamp; includes = includes_of bytes }) → (path : List ℕ) (file : FileFacts) → IsFile g n path file → IsLineOf line path file
    bytes_answer line line_is path file is =
        let old = number_file f n number in
        let r = to_read old.0 old.1 in
        let same = file_now f g n old.0 (with_bytes by_digest bytes old.0) old.1 (after old.0 old.1) file is.file_is in
        let there : path_at f n ≡ Some path = subst (λ (h : Knowledge). path_at h n ≡ Some path) (after old.0 old.1) is.path_is in
        let e = line_is path there in
        record {
          path_is = ap (λ (l : ScanLine). l.path) e;
          stands = subst (λ (x : FileFacts). x.seen ≡ seen.Stands line.stamp) same (r.stands ∙ ap (λ (l : ScanLine). seen.Stands l.stamp) (sym e));
          includes = subst (λ (x : FileFacts). x.includes ≡ Some line.includes) same (ap (λ (l : ScanLine). Some l.includes) (sym e));
        }

  -- ---- a file that is gone

  module _ (stamp : ℕ) (to_read : (file : FileFacts) → file_at f n ≡ Some file → IsToRead file stamp) (after : (file : FileFacts) → file_at f n ≡ Some file → g ≡ with_file f n (record file { includes = Some [] })) where
    pub gone_learns : (steps : List Step) (roots : List (List ℕ)) → Learns steps roots (OfOne n) f g
    gone_learns steps roots =
        let file = number_file f n number in
        let r = to_read file.0 file.1 in
        read_learns steps roots f g n file.0 (Some []) file.0.digest file.1 (line_well file.0 [] r.unread r.scanned) (after file.0 file.1)

    pub gone_true : (path : List ℕ) → path_at f n ≡ Some path → (now : Folder) → now path ≡ None → (steps : List Step) (roots : List (List ℕ)) → StaysTrue steps roots now f g
    gone_true path there now none steps roots b build kept about holds =
        let file = number_file f n number in
        let r = to_read file.0 file.1 in
        absurd (not_missing b now path file.0 stamp r.stands (holds.files n path file.0 (record { path_is = there; file_is = file.1 })) none)

    pub gone_read : (disk : Option Disk) (there : List ℕ) → path_at f n ≡ Some there → IfSome disk (λ (d : Disk). d.now there ≡ None) → (path : List ℕ) (file : FileFacts) → IsFile g n path file → IsGoneAtRead disk path file
    gone_read disk there at none path file is =
        let old = number_file f n number in
        let same = file_now f g n old.0 (record old.0 { includes = Some [] }) old.1 (after old.0 old.1) file is.file_is in
        let path_was : path_at f n ≡ Some path = subst (λ (h : Knowledge). path_at h n ≡ Some path) (after old.0 old.1) is.path_is in
        record {
          read = subst IsRead same ([], refl);
          gone = subst (λ (p : List ℕ). IfSome disk (λ (d : Disk). d.now p ≡ None)) (some_is there path (sym at ∙ path_was)) none;
        }

  -- ---- a line of the log

  module _ (lines : List LogLine) (line : ScanLine) (stamp : ℕ) (to_read : (file : FileFacts) → file_at f n ≡ Some file → IsToRead file stamp) (path : List ℕ) (there : path_at f n ≡ Some path) (found : find_scan path stamp lines ≡ Some line) (after : (file : FileFacts) → file_at f n ≡ Some file → g ≡ with_file f n (record file { includes = Some line.includes })) where
    pub line_learns : (steps : List Step) (roots : List (List ℕ)) → Learns steps roots (OfOne n) f g
    line_learns steps roots =
        let file = number_file f n number in
        let r = to_read file.0 file.1 in
        read_learns steps roots f g n file.0 (Some line.includes) file.0.digest file.1 (line_well file.0 line.includes r.unread r.scanned) (after file.0 file.1)

    pub line_true : (now : Folder) (steps : List Step) (roots : List (List ℕ)) (b : Build) → ScansTell b now lines → StaysTrueOf steps roots now f g b
    line_true now steps roots b tells =
        let file = number_file f n number in
        let r = to_read file.0 file.1 in
        read_true steps roots now b f g n file.0 (Some line.includes) file.0.digest file.1 (after file.0 file.1)
        (λ other build is planned t. (line_so b now lines other file.0 stamp line r.stands t tells (subst (λ (p : List ℕ). find_scan p stamp lines ≡ Some line) (some_is path other (sym there ∙ is)) found), t.digest))

    pub line_read : (other : List ℕ) (file : FileFacts) → IsFile g n other file → IsToldByLog lines other file
    line_read other file is =
        let old = number_file f n number in
        let r = to_read old.0 old.1 in
        let same = file_now f g n old.0 (record old.0 { includes = Some line.includes }) old.1 (after old.0 old.1) file is.file_is in
        let other_was : path_at f n ≡ Some other = subst (λ (h : Knowledge). path_at h n ≡ Some other) (after old.0 old.1) is.path_is in
        record {
          stamp = stamp;
          stands = subst (λ (x : FileFacts). x.seen ≡ seen.Stands stamp) same r.stands;
          line = line;
          found = subst (λ (p : List ℕ). find_scan p stamp lines ≡ Some line) (some_is path other (sym there ∙ other_was)) found;
          includes = subst (λ (x : FileFacts). x.includes ≡ Some line.includes) same refl;
        }

-- ---- what a scan answers

-- a read answers a scan
pub read_scans : (disk : Option Disk) (lines : List LogLine) (f g : Knowledge) (n : ℕ) (r : Result ScanAnswer ReadFault)
    → IfOk r (λ answer. (path : List ℕ) (file : FileFacts) → IsFile g n path file → IsReadAnswer disk path file answer)
    → IfOk r (λ answer. (path : List ℕ) (file : FileFacts) → IsFile g n path file → IsScannedAs disk lines f n path file answer)
read_scans disk lines f g n (Ok scanned.Known) h = λ path file is. absurd (h path file is)
read_scans disk lines f g n (Ok (scanned.Read line)) h = h
read_scans disk lines f g n (Ok scanned.Gone) h = λ path file is. inr (h path file is)
read_scans disk lines f g n (Err fault) h = tt

-- what was read after a stamp was asked for was read before
pub read_before : (f g : Knowledge) (n : ℕ) (file : FileFacts) (stamp : Option ℕ) → file_at f n ≡ Some file → g ≡ with_file f n (record file { seen = seen_of stamp }) → WasRead g n → WasRead f n
read_before f g n file stamp was after (later, at, read) =
    let same = file_now f g n file (record file { seen = seen_of stamp }) was after later at in
    (file, was, (read.0, subst (λ (x : FileFacts). x.includes ≡ Some read.0) (sym same) read.1))

-- a scan of a file whose stamp was asked for
pub scans_later : (disk later : Option Disk) (lines : List LogLine) (f g h : Knowledge) (n : ℕ) → later ≡ disk → (WasRead g n → WasRead f n) → (r : Result ScanAnswer ReadFault)
    → IfOk r (λ answer. (path : List ℕ) (file : FileFacts) → IsFile h n path file → IsScannedAs later lines g n path file answer)
    → IfOk r (λ answer. (path : List ℕ) (file : FileFacts) → IsFile h n path file → IsScannedAs disk lines f n path file answer)
scans_later disk later lines f g h n same before (Ok scanned.Known) a = λ path file is. elim (a path file is) [ inl read ↦ inl (before read) | inr told ↦ inr told ]
scans_later disk later lines f g h n same before (Ok (scanned.Read line)) a = a
scans_later disk later lines f g h n same before (Ok scanned.Gone) a = λ path file is. subst (λ (d : Option Disk). IsScannedAs d lines f n path file scanned.Gone) same (a path file is)
scans_later disk later lines f g h n same before (Err fault) a = tt

-- a file that is too big is so by the path that its number had before
pub too_big_later : (disk later : Option Disk) (f g : Knowledge) (n most : ℕ) → later ≡ disk → Grows f g → (r : Result ScanAnswer ReadFault)
    → IfErr r (λ fault. IfSome later (λ (d : Disk). (path : List ℕ) → path_at g n ≡ Some path → IsTooBigFor most path d.now fault))
    → IfErr r (λ fault. IfSome disk (λ (d : Disk). (path : List ℕ) → path_at f n ≡ Some path → IsTooBigFor most path d.now fault))
too_big_later disk later f g n most same grows (Ok answer) a = tt
too_big_later disk later f g n most same grows (Err fault) a =
    told_map disk (λ (d : Disk). (path : List ℕ) → path_at g n ≡ Some path → IsTooBigFor most path d.now fault) (λ (d : Disk). (path : List ℕ) → path_at f n ≡ Some path → IsTooBigFor most path d.now fault)
    (λ d big path there. big path (grows.paths n path there))
    (subst (λ (o : Option Disk). IfSome o (λ (d : Disk). (path : List ℕ) → path_at g n ≡ Some path → IsTooBigFor most path d.now fault)) same a)
