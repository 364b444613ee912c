-- What true facts tell of the files as they stand.
use Rattle.std.proofs.Common.{◌≡◌, inl, inr, ℕ, zero, suc, ◌<◌, List, [], ◌∷◌, Option, Some, None, length, get_or, slice_get, map, refl, sym, ap, subst, ◌∙◌, arith, option_map}
use Rattle.std.specs.List.{Contains, AllZip}
use Rattle.std.proofs.lemmas.Option.{slice_get_within, slice_get-map, get_or_from_slice_get}
use Rattle.b2_host.specs.Disks.{File, Folder, Disk, bytes_at}
use Rattle.b2_host.specs.FileCalls.{stamp_at}
use Rattle.b2_plan.specs.Sources.{Build}
use Rattle.b2_plan.specs.Closures.{Value, with_bytes}
use Rattle.b2_log.specs.Finding.{path_of}
use Rattle.b2_runs.specs.Staleness.{AreStamped, AreDigested, path_in, paths_with_bytes}
use Rattle.b2_runs.proofs.SameByStamp.{with_bytes_in as with_bytes_out}
use Rattle.b2_facts.specs.declared.file_facts.FileLook.{FileLook}
use Rattle.b2_facts.specs.declared.file_facts.FileLook.TheVariants as seen
use Rattle.b2_facts.specs.declared.file_facts.FileFacts.{FileFacts}
use Rattle.b2_facts.specs.Digests.{digest_of}
use Rattle.b2_facts.specs.Facts.{Knowledge, path_at, file_at}
use Rattle.b2_facts.specs.Asks.{seen_of}
use Rattle.b2_facts.specs.Truth.{IsSeen, IsReadAs, AreTrue}
use Rattle.b2_facts.proofs.ListsAtPlaces.{some_is, none_some, at_place, among_at}
use Rattle.b2_verdicts.specs.Sights.{seen_in, stamp_in, stamp_of, IsAsked, digest_in, digest_at, AllAsked}
use Rattle.b2_verdicts.specs.Stamps.{AreLogged, IsFirstOther}
use Rattle.b2_verdicts.specs.Points.{HavePaths, HaveDigests, IsOtherDigest}
use Rattle.b2_verdicts.proofs.WhatIsKnownStays.{unasked_gone, standing_asked}
use Rattle.b2_verdicts.proofs.ListsAtPlaces.{index_at, zip_forth, zip_back, zip_count, zip_made}

-- each number stands for a path, in order
abbrev pub Names : Knowledge → List ℕ → List (List ℕ) → Type 0
Names g = AllZip (λ n path. path_at g n ≡ Some path)

-- ---- one file

seen_tells : (s : FileLook) (stamp : Option ℕ) → s ≡ seen_of (stamp_in s) → IsSeen s stamp → stamp ≡ stamp_in s
seen_tells seen.Unasked stamp asked is = unasked_gone asked
seen_tells seen.Gone stamp asked is = is
seen_tells (seen.Stands own) stamp asked is = is

-- a file that was asked for has the stamp that was seen
pub stamp_tells : (b : Build) (now : Folder) (g : Knowledge) (n : ℕ) (path : List ℕ) → AreTrue b now g → path_at g n ≡ Some path → IsAsked g n → stamp_at now path ≡ stamp_of g n
stamp_tells b now g n path holds name asked = go (file_at g n) refl asked
  where
    go : (facts : Option FileFacts) → file_at g n ≡ facts → seen_in facts ≡ seen_of (stamp_in (seen_in facts)) → stamp_at now path ≡ stamp_in (seen_in facts)
    go None e a = unasked_gone a
    go (Some file) e a = seen_tells file.seen (stamp_at now path) a (holds.files n path file (record { path_is = name; file_is = e })).seen

-- a file whose digest is known stands, and has this digest
pub digest_tells : (b : Build) (now : Folder) (g : Knowledge) (n : ℕ) (path digest : List ℕ) → AreTrue b now g → path_at g n ≡ Some path → digest_at g n ≡ Some digest → (bytes : List ℕ) × (bytes_at now path ≡ Some bytes) × (digest ≡ digest_of bytes)
digest_tells b now g n path digest holds name known = go (file_at g n) refl known
  where
    go : (facts : Option FileFacts) → file_at g n ≡ facts → digest_in facts ≡ Some digest → (bytes : List ℕ) × (bytes_at now path ≡ Some bytes) × (digest ≡ digest_of bytes)
    go None e k = absurd (none_some digest k)
    go (Some file) e k = subst (IsReadAs digest_of (bytes_at now path)) k (holds.files n path file (record { path_is = name; file_is = e })).digest

-- where no stamp stands, no file does
pub no_file : (now : Folder) (path : List ℕ) → stamp_at now path ≡ None → now path ≡ None
no_file now path e = go (now path) e
  where
    go : (held : Option File) → option_map (λ (f : File). f.stamp) held ≡ None → held ≡ None
    go None h = refl
    go (Some file) h = absurd (none_some file.stamp (sym h))

pub file_stamp : (now : Folder) (path : List ℕ) (file : File) → now path ≡ Some file → stamp_at now path ≡ Some file.stamp
file_stamp now path file e = ap (option_map (λ (f : File). f.stamp)) e

-- ---- files of a list

-- the number at a place, and its path
pub name_forth : (g : Knowledge) (ns : List ℕ) (paths : List (List ℕ)) (k : ℕ) → Names g ns paths → k < length ns → (path : List ℕ) × (slice_get paths k ≡ Some path) × (path_at g (get_or ns k 0) ≡ Some path)
name_forth g ns paths k names within = zip_forth (λ n path. path_at g n ≡ Some path) ns paths k (get_or ns k 0) names (index_at ns k within)

-- the path at a place, and its number
pub name_back : (g : Knowledge) (ns : List ℕ) (paths : List (List ℕ)) (k : ℕ) (path : List ℕ) → Names g ns paths → slice_get paths k ≡ Some path → (k < length ns) × (path_at g (get_or ns k 0) ≡ Some path)
name_back g ns paths k path names e =
    let (n, at, name) = zip_back (λ n p. path_at g n ≡ Some p) ns paths k path names e in
    (slice_get_within ns k n at, subst (λ m. path_at g m ≡ Some path) (sym (get_or_from_slice_get ns k n 0 at)) name)

-- a path in a list has a place
pub name_among : (g : Knowledge) (ns : List ℕ) (paths : List (List ℕ)) (path : List ℕ) → Names g ns paths → Contains paths path → (k : ℕ) × (k < length ns) × (path_at g (get_or ns k 0) ≡ Some path)
name_among g ns paths path names among =
    let (k, e) = at_place paths path among in
    let (within, name) = name_back g ns paths k path names e in
    (k, within, name)

-- a record that has the files as they were seen has them as they stand
pub logged_stand : (b : Build) (now : Folder) (g : Knowledge) (ns : List ℕ) (paths : List (List ℕ)) (files : List (List ℕ × ℕ)) → AreTrue b now g → Names g ns paths → AreLogged g files ns → AreStamped now paths files
logged_stand b now g ns paths files holds names logged = zip_made (λ path stamped. (stamped.0 ≡ path) × (stamp_at now path ≡ Some stamped.1)) paths files (sym (zip_count (λ n path. path_at g n ≡ Some path) ns paths names) ∙ sym logged.count) each
  where
    each : (k : ℕ) (path : List ℕ) (one : List ℕ × ℕ) → slice_get paths k ≡ Some path → slice_get files k ≡ Some one → (one.0 ≡ path) × (stamp_at now path ≡ Some one.1)
    each k path one e f =
        let (within, name) = name_back g ns paths k path names e in
        let (own, stamp) = logged.each k one within f in
        (some_is one.0 path (sym own ∙ name), stamp_tells b now g (get_or ns k 0) path holds name (standing_asked g (get_or ns k 0) one.1 stamp) ∙ stamp)

-- one that has other files than were seen has others than stand
pub other_stand : (b : Build) (now : Folder) (g : Knowledge) (ns : List ℕ) (paths : List (List ℕ)) (files : List (List ℕ × ℕ)) (place : ℕ) → AreTrue b now g → Names g ns paths → AllAsked g ns → IsFirstOther g files ns place → AreStamped now paths files → ⊥
other_stand b now g ns paths files place holds names asked other stamped =
    let long : length ns ≡ length paths = zip_count (λ n path. path_at g n ≡ Some path) ns paths names in
    let same : length paths ≡ length files = zip_count (λ path stamped. (stamped.0 ≡ path) × (stamp_at now path ≡ Some stamped.1)) paths files stamped in
    let within : place < length ns = elim other.within [ inl less ↦ omega (arith, less, long, same) | inr less ↦ less ] in
    let (path, at, name) = name_forth g ns paths place names within in
    let (one, e, is) = zip_forth (λ path stamped. (stamped.0 ≡ path) × (stamp_at now path ≡ Some stamped.1)) paths files place path stamped at in
    other.other one e within (name ∙ ap Some (sym is.0), sym (stamp_tells b now g (get_or ns place 0) path holds name (asked place within)) ∙ is.1)

-- the digests that are known are those of the files as they stand
pub digests_stand : (digest : List ℕ → List ℕ) (b : Build) (now : Folder) (g : Knowledge) (ns : List ℕ) (paths texts : List (List ℕ)) → digest ≡ digest_of → AreTrue b now g → Names g ns paths → HaveDigests g ns texts → AreDigested digest now paths texts
digests_stand digest b now g ns paths texts same holds names have = zip_made (λ path text. (bytes : List ℕ) × (bytes_at now path ≡ Some bytes) × (text ≡ digest bytes)) paths texts (sym (zip_count (λ n path. path_at g n ≡ Some path) ns paths names) ∙ sym have.count) each
  where
    each : (k : ℕ) (path text : List ℕ) → slice_get paths k ≡ Some path → slice_get texts k ≡ Some text → (bytes : List ℕ) × (bytes_at now path ≡ Some bytes) × (text ≡ digest bytes)
    each k path text e f =
        let (within, name) = name_back g ns paths k path names e in
        let (bytes, stands, is) = digest_tells b now g (get_or ns k 0) path text holds name (have.each k text within f) in
        (bytes, stands, is ∙ ap (λ d. d bytes) (sym same))

no_bytes : {A : Type 0} (now : Folder) (path bytes : List ℕ) → now path ≡ None → bytes_at now path ≡ Some bytes → A
no_bytes now path bytes gone stands = absurd (none_some bytes (sym (ap (option_map (λ (f : File). f.bytes)) gone) ∙ stands))

-- where a file has another digest than a text, the texts are not those of the files as they stand
pub other_digest : (digest : List ℕ → List ℕ) (b : Build) (disk : Disk) (g : Knowledge) (ns : List ℕ) (paths texts : List (List ℕ)) → digest ≡ digest_of → AreTrue b disk.now g → Names g ns paths → IsOtherDigest (Some disk) g ns texts → AreDigested digest disk.now paths texts → ⊥
other_digest digest b disk g ns paths texts same holds names other digested =
    let (path, at, name) = name_forth g ns paths other.place names other.within in
    let (text, e, (bytes, stands, is)) = zip_forth (λ path text. (bytes : List ℕ) × (bytes_at disk.now path ≡ Some bytes) × (text ≡ digest bytes)) paths texts other.place path digested at in
    let told : text ≡ other.digest = some_is text other.digest (sym e ∙ other.told) in
    go path name bytes stands (sym told ∙ is ∙ ap (λ d. d bytes) same) (digest_at g (get_or ns other.place 0)) refl
  where
    go : (path : List ℕ) → path_at g (get_or ns other.place 0) ≡ Some path → (bytes : List ℕ) → bytes_at disk.now path ≡ Some bytes → other.digest ≡ digest_of bytes → (known : Option (List ℕ)) → digest_at g (get_or ns other.place 0) ≡ known → ⊥
    go path name bytes stands is None k = no_bytes disk.now path bytes (other.gone k path name) stands
    go path name bytes stands is (Some own) k =
        let (read, there, own_is) = digest_tells b disk.now g (get_or ns other.place 0) path own holds name k in
        let one : read ≡ bytes = some_is read bytes (sym there ∙ stands) in
        other.other (k ∙ ap Some (own_is ∙ ap digest_of one ∙ sym is))

-- ---- paths of a record

pub paths_named : (g : Knowledge) (ns : List ℕ) (paths : List (List ℕ)) (files : List (List ℕ × ℕ)) → Names g ns paths → HavePaths g files ns → map path_of files ≡ paths
paths_named g ns paths files names have = firsts files paths (zip_made (λ one path. one.0 ≡ path) files paths (have.count ∙ zip_count (λ n path. path_at g n ≡ Some path) ns paths names) each)
  where
    each : (k : ℕ) (one : List ℕ × ℕ) (path : List ℕ) → slice_get files k ≡ Some one → slice_get paths k ≡ Some path → one.0 ≡ path
    each k one path e f = let (within, name) = name_back g ns paths k path names f in some_is one.0 path (sym (have.each k one within e) ∙ name)

    firsts : (xs : List (List ℕ × ℕ)) (ys : List (List ℕ)) → AllZip (λ one path. one.0 ≡ path) xs ys → map path_of xs ≡ ys
    firsts [] [] zip = refl
    firsts [] (y ∷ ys) zip = absurd zip
    firsts (x ∷ xs) [] zip = absurd zip
    firsts (x ∷ xs) (y ∷ ys) zip = ap (λ v. v ∷ map path_of xs) zip.0 ∙ ap (λ v. y ∷ v) (firsts xs ys zip.1)

firsts_count : (files : List (List ℕ × ℕ)) → length (map path_of files) ≡ length files
firsts_count [] = refl
firsts_count (x ∷ xs) = ap suc (firsts_count xs)

pub named_paths : (g : Knowledge) (ns : List ℕ) (paths : List (List ℕ)) (files : List (List ℕ × ℕ)) → Names g ns paths → map path_of files ≡ paths → HavePaths g files ns
named_paths g ns paths files names same = record {
  count = sym (firsts_count files) ∙ ap length same ∙ sym (zip_count (λ n path. path_at g n ≡ Some path) ns paths names);
  each = λ k one within e.
      (let at : slice_get paths k ≡ Some one.0 = sym (ap (λ l. slice_get l k) same) ∙ slice_get-map path_of files k ∙ ap (option_map path_of) e in
      (name_back g ns paths k one.0 names at).1);
}

-- ---- members that have bytes

pub with_bytes_in : (members : List (List ℕ × Value)) (path bytes : List ℕ) → Contains members (path, Some bytes) → Contains (with_bytes members) (path, bytes)
with_bytes_in members path bytes among = let (k, e) = at_place members (path, Some bytes) among in go members k e
  where
    deeper : (m : List ℕ × Value) (ms : List (List ℕ × Value)) → Contains (with_bytes ms) (path, bytes) → Contains (with_bytes (m ∷ ms)) (path, bytes)
    deeper (p, None) ms c = c
    deeper (p, Some b) ms c = let (k, e) = at_place (with_bytes ms) (path, bytes) c in among_at ((p, b) ∷ with_bytes ms) (suc k) (path, bytes) e

    go : (ms : List (List ℕ × Value)) (k : ℕ) → slice_get ms k ≡ Some (path, Some bytes) → Contains (with_bytes ms) (path, bytes)
    go [] k e = absurd (none_some (path, Some bytes) e)
    go (m ∷ ms) zero e = subst (λ one. Contains (with_bytes (one ∷ ms)) (path, bytes)) (sym (some_is m (path, Some bytes) e)) (among_at ((path, bytes) ∷ with_bytes ms) 0 (path, bytes) refl)
    go (m ∷ ms) (suc k) e = deeper m ms (go ms k e)

-- the path of a member that has bytes
pub path_among : (members : List (List ℕ × Value)) (path bytes : List ℕ) → Contains members (path, Some bytes) → Contains (paths_with_bytes members) path
path_among members path bytes among =
    let (k, e) = at_place (with_bytes members) (path, bytes) (with_bytes_in members path bytes among) in
    among_at (paths_with_bytes members) k path (slice_get-map path_in (with_bytes members) k ∙ ap (option_map path_in) e)

-- and back: the bytes of the member at a path
pub bytes_among : (members : List (List ℕ × Value)) (path : List ℕ) → Contains (paths_with_bytes members) path → (bytes : List ℕ) × Contains members (path, Some bytes)
bytes_among members path among = let (k, e) = at_place (paths_with_bytes members) path among in go k (slice_get (with_bytes members) k) refl e
  where
    go : (k : ℕ) (held : Option (List ℕ × List ℕ)) → slice_get (with_bytes members) k ≡ held → slice_get (paths_with_bytes members) k ≡ Some path → (bytes : List ℕ) × Contains members (path, Some bytes)
    go k None at e = absurd (none_some path (sym (slice_get-map path_in (with_bytes members) k ∙ ap (option_map path_in) at) ∙ e))
    go k (Some (p, bytes)) at e =
        let same : p ≡ path = some_is p path (sym (slice_get-map path_in (with_bytes members) k ∙ ap (option_map path_in) at) ∙ e) in
        (bytes, subst (λ q. Contains members (q, Some bytes)) same (with_bytes_out members p bytes (among_at (with_bytes members) k (p, bytes) at)))

-- ---- digests of members

pub digests_of_members : (digest : List ℕ → List ℕ) (now : Folder) (ms : List (List ℕ × List ℕ)) (texts : List (List ℕ)) → ((path bytes : List ℕ) → Contains ms (path, bytes) → bytes_at now path ≡ Some bytes) → AreDigested digest now (map path_in ms) texts → texts ≡ map (λ (member : List ℕ × List ℕ). digest member.1) ms
digests_of_members digest now [] [] stand digested = refl
digests_of_members digest now [] (t ∷ texts) stand digested = absurd digested
digests_of_members digest now (m ∷ ms) [] stand digested = absurd digested
digests_of_members digest now ((p, own) ∷ ms) (t ∷ texts) stand digested =
    let (bytes, stands, is) = digested.0 in
    let same : bytes ≡ own = some_is bytes own (sym stands ∙ stand p own (among_at ((p, own) ∷ ms) 0 (p, own) refl)) in
    let rest = digests_of_members digest now ms texts (λ path held among. let (k, e) = at_place ms (path, held) among in stand path held (among_at ((p, own) ∷ ms) (suc k) (path, held) e)) digested.1 in
    ap (λ v. v ∷ texts) (is ∙ ap digest same) ∙ ap (λ v. digest own ∷ v) rest

pub members_digested : (digest : List ℕ → List ℕ) (now : Folder) (ms : List (List ℕ × List ℕ)) → ((path bytes : List ℕ) → Contains ms (path, bytes) → bytes_at now path ≡ Some bytes) → AreDigested digest now (map path_in ms) (map (λ (member : List ℕ × List ℕ). digest member.1) ms)
members_digested digest now [] stand = tt
members_digested digest now ((p, own) ∷ ms) stand = (
  (own, stand p own (among_at ((p, own) ∷ ms) 0 (p, own) refl), refl),
  members_digested digest now ms (λ path held among. let (k, e) = at_place ms (path, held) among in stand path held (among_at ((p, own) ∷ ms) (suc k) (path, held) e)),
)
