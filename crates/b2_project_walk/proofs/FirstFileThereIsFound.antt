-- Which project file is found, and what the search does to the outside.
use Rattle.std.proofs.Common.{◌≡◌, inl, inr, Bool, true, false, List, [], ◌∷◌, Option, Some, None, Result, Ok, Err, IfOk, refl, sym, ap, ◌∙◌, subst, arith}
use Rattle.std.specs.Prelude.{if◌then◌else◌, map as each}
use Rattle.std.specs.List.{list_any}
use Rattle.std.specs.Option.{IfSome}
use Rattle.b2_base.specs.Below.{is_below}
use Rattle.b2_base.specs.Segments.{path_from}
use Rattle.b2_host.specs.declared.fault.IoFault.{IoFault}
use Rattle.b2_host.specs.declared.fault.IoFault.TheVariants as io
use Rattle.b2_host.specs.Disks.{Disk}
use Rattle.b2_host.specs.FileCalls.{after_read}
use Rattle.b2_host.specs.Outside.{Outside}
use Rattle.b2_host.specs.OutsideLaws.{keeps_same, keeps_then, keeps_fails, keeps_reads, then_rose}
use Rattle.jam_journal.specs.Tables.{Text}
use Rattle.jam_scope.specs.Worlds.{World}
use Rattle.jam_meaning.specs.Includes.{is_in_roots}
use Rattle.jam_meaning.specs.Settings.{Reading, is_missing, is_too_big, has_no_tokens, has_no_tree, is_file, IsReading}
use Rattle.jam_values.specs.declared.files.FileReading.{FileReading}
use Rattle.jam_values.specs.FileReadings.{reading_of, ReadsOnce}
use Rattle.jam_values.proofs.OneReading.{one_reading}
use Rattle.b2_project_walk.specs.declared.fault.LoadFault.{LoadFault}
use Rattle.b2_project_walk.specs.declared.fault.LoadFault.TheVariants as faults
use Rattle.b2_project_walk.specs.declared.project_file.ProjectFile.{ProjectFile}
use Rattle.b2_project_walk.specs.Directories.{file_names, seen, or_next, first_file}
use Rattle.b2_project_walk.specs.Finding.{misses, of_io, IsRead, IsFileFound, IsSeen, IsFileAt, IsFileOf, Looked, CountsFault, Counts, LooksFor}

-- ---- the outside

pub looked_same : (o : Outside) → Looked o o
looked_same o = record { disk = refl; children = refl; keeps = keeps_same o o refl }

pub looked_then : (a b c : Outside) → Looked a b → Looked b c → Looked a c
looked_then a b c one two = record { disk = two.disk ∙ one.disk; children = two.children ∙ one.children; keeps = keeps_then a b c one.keeps two.keeps }

-- the count of faults was as before, and then a call counted
counted_fault : (e : LoadFault) (a b c : Outside) → b.faults ≡ a.faults → CountsFault e b c → CountsFault e a c
counted_fault faults.Host a b c same h = then_rose a.faults b.faults c.faults (omega (arith, same)) h
counted_fault faults.OutOfMemory a b c same h = tt
counted_fault faults.NoJamroot a b c same h = h ∙ same
counted_fault (faults.NoJamfile dir) a b c same h = h ∙ same
counted_fault (faults.TooBig path size) a b c same h = h ∙ same
counted_fault (faults.Lex path fault) a b c same h = h ∙ same
counted_fault (faults.Syntax path fault) a b c same h = h ∙ same
counted_fault (faults.Eval fault) a b c same h = h ∙ same
counted_fault (faults.Declaration path rule line) a b c same h = h ∙ same
counted_fault (faults.Feature path line fault) a b c same h = h ∙ same

pub counted : {A : Type 0} (result : Result A LoadFault) (a b c : Outside) → b.faults ≡ a.faults → Counts result b c → Counts result a c
counted (Ok x) a b c same h = h ∙ same
counted (Err e) a b c same h = counted_fault e a b c same h

looked_read : (path : Text) (a b : Outside) → b ≡ after_read path a → Looked a b
looked_read path a b same = record {
  disk = ap (λ (o : Outside). o.disk) same;
  children = ap (λ (o : Outside). o.children) same;
  keeps = keeps_reads {T = Unit {0}} path a b (Ok tt) same;
}

pub looks_ok : {A : Type 0} (x : A) (path : Text) (a b : Outside) → b ≡ after_read path a → LooksFor (Ok x) a b
looks_ok x path a b same = record { looked = looked_read path a b same; counts = ap (λ (o : Outside). o.faults) same; fault = tt }

-- the host refused, or memory ran out
pub looks_stopped : (path : Text) (a b : Outside) (e : IoFault) → ReadsOnce {T = FileReading} path a b (Err e) → LooksFor {A = FileReading} (Err (of_io e)) a b
looks_stopped path a b io.Failed failed = record {
  looked = record {
    disk = ap (λ (o : Outside). o.disk) failed.same;
    children = ap (λ (o : Outside). o.children) failed.same;
    keeps = keeps_fails a b failed;
  };
  counts = failed.rose;
  fault = tt;
}
looks_stopped path a b io.OutOfMemory (inl same) = record { looked = subst (Looked a) (sym same) (looked_same a); counts = tt; fault = tt }
looks_stopped path a b io.OutOfMemory (inr same) = record { looked = looked_read path a b same; counts = tt; fault = tt }

-- nothing was looked at
pub looks_nowhere : {A : Type 0} (x : A) (a : Outside) → LooksFor (Ok x) a a
looks_nowhere x a = record { looked = looked_same a; counts = refl; fault = tt }

pub short_nowhere : {A : Type 0} (a : Outside) → LooksFor {A = A} (Err faults.OutOfMemory) a a
short_nowhere a = record { looked = looked_same a; counts = tt; fault = tt }

-- the same look, for another answer
pub looks_found : {A B : Type 0} (x : A) (y : B) (a b : Outside) → LooksFor (Ok x) a b → LooksFor (Ok y) a b
looks_found x y a b h = record { looked = h.looked; counts = h.counts; fault = tt }

pub looks_refused : {A B : Type 0} (e : LoadFault) (a b : Outside) → LooksFor {A = A} (Err e) a b → LooksFor {A = B} (Err e) a b
looks_refused e a b h = record { looked = h.looked; counts = h.counts; fault = h.fault }

-- a look, and then another
pub looks_then : {A B : Type 0} (x : A) (result : Result B LoadFault) (a b c : Outside) → LooksFor (Ok x) a b → LooksFor result b c → LooksFor result a c
looks_then x result a b c one two = record { looked = looked_then a b c one.looked two.looked; counts = counted result a b c one.counts two.counts; fault = two.fault }

-- ---- how a file reads

pub in_roots : (w : World) (path : Text) (roots : List Text) (holds b : Bool) → roots ≡ w.roots → holds ≡ list_any (λ root. is_below path root) roots → holds ≡ b → is_in_roots w path ≡ b
in_roots w path roots holds b same e f = ap (λ (dirs : List Text). list_any (λ root. is_below path root) dirs) (sym same) ∙ sym e ∙ f

pub seen_below : (disk : Option Disk) (w : World) (path : Text) → is_in_roots w path ≡ true → IsSeen disk w path is_missing
seen_below None w path h = tt
seen_below (Some d) w path h = λ reading are. ap (λ b. if b then is_missing else reading path) h

pub seen_read : (disk : Option Disk) (w : World) (path : Text) (read : Reading) → is_in_roots w path ≡ false → IfSome disk (λ d. IsReading d.now path read) → IsSeen disk w path read
seen_read None w path read h is = tt
seen_read (Some d) w path read h is = λ reading are. ap (λ b. if b then is_missing else reading path) h ∙ one_reading d.now path (reading path) read (are path) is

pub seen_if : (disk : Option Disk) (w : World) (path : Text) (result : Result FileReading LoadFault) → is_in_roots w path ≡ false → IfOk result (λ read. IfSome disk (λ d. IsReading d.now path (reading_of read)))
    → IfOk result (λ read. IsSeen disk w path (reading_of read))
seen_if disk w path (Ok read) h is = seen_read disk w path (reading_of read) h is
seen_if disk w path (Err e) h is = tt

pub file_missing_at : (disk : Option Disk) (w : World) (path named : Text) (read : Reading) → path ≡ named → IsSeen disk w path read → misses read ≡ true → IsFileAt disk w named None
file_missing_at None w path named read is h missing = tt
file_missing_at (Some d) w path named read is h missing = λ reading are. ap (λ p. misses (seen w reading p)) (sym is) ∙ ap misses (h reading are) ∙ missing

read_as : (w : World) (reading : Text → Reading) (path : Text) (read : FileReading) → seen w reading path ≡ reading_of read → misses (reading_of read) ≡ false
    → IsRead (Some (record { path = path; reading = read })) path (seen w reading path)
read_as w reading path read h found = (refl, sym h, ap misses h ∙ found)

pub file_found_at : (disk : Option Disk) (w : World) (path named : Text) (read : FileReading) → path ≡ named → IsSeen disk w path (reading_of read) → misses (reading_of read) ≡ false
    → IsFileAt disk w named (Some (record { path = path; reading = read }))
file_found_at None w path named read is h found = tt
file_found_at (Some d) w path named read is h found = λ reading are.
    subst (λ p. IsRead (Some (record { path = path; reading = read })) p (seen w reading p)) is (read_as w reading path read (h reading are) found)

-- ---- the first of two files that is not missing

next_missing : (path : Text) (reading : Reading) (next : Text × Reading) → misses reading ≡ true → or_next path reading next ≡ next
next_missing path is_missing next h = refl
next_missing path (is_too_big size) next h = cc
next_missing path (has_no_tokens fault) next h = cc
next_missing path (has_no_tree line found) next h = cc
next_missing path (is_file tree) next h = cc

next_found : (path : Text) (reading : Reading) (next : Text × Reading) → misses reading ≡ false → ◌≡◌ {A = Text × Reading} (or_next path reading next) (path, reading)
next_found path is_missing next h = cc
next_found path (is_too_big size) next h = refl
next_found path (has_no_tokens fault) next h = refl
next_found path (has_no_tree line found) next h = refl
next_found path (is_file tree) next h = refl

abbrev pair : Text → Reading → Text × Reading
pair path reading = (path, reading)

same_file : (file : ProjectFile) (path : Text) (reading : Reading) → IsRead (Some file) path reading → ◌≡◌ {A = Text × Reading} (path, reading) (file.path, reading_of file.reading)
same_file file path reading h = sym (ap (λ (p : Text). pair p (reading_of file.reading)) h.0 ∙ ap (pair path) h.1)

found_first : (file : ProjectFile) (reads : Text → Reading) (first second : Text) → IsRead (Some file) first (reads first) → IsFileFound (Some file) (first_file reads (first ∷ second ∷ []))
found_first file reads first second h = next_found first (reads first) (first_file reads (second ∷ [])) h.2 ∙ same_file file first (reads first) h

found_last : (found : Option ProjectFile) (reads : Text → Reading) (path : Text) → IsRead found path (reads path) → IsFileFound found (first_file reads (path ∷ []))
found_last None reads path h = ap (λ f. f.1) (next_missing path (reads path) ([], is_missing) h)
found_last (Some file) reads path h = next_found path (reads path) ([], is_missing) h.2 ∙ same_file file path (reads path) h

found_second : (found : Option ProjectFile) (reads : Text → Reading) (first second : Text) → IsRead None first (reads first) → IsRead found second (reads second)
    → IsFileFound found (first_file reads (first ∷ second ∷ []))
found_second found reads first second missing h =
    subst (IsFileFound found) (sym (next_missing first (reads first) (first_file reads (second ∷ [])) missing)) (found_last found reads second h)

pub first_there : (disk : Option Disk) (w : World) (dir first second : Text) (file : ProjectFile) → first ∷ second ∷ [] ≡ file_names dir
    → IsFileAt disk w (path_from dir first) (Some file) → IsFileOf disk w dir (Some file)
first_there None w dir first second file names h = tt
first_there (Some d) w dir first second file names h = λ reading are.
    subst (λ ns. IsFileFound (Some file) (first_file (seen w reading) (each (path_from dir) ns))) names
    (found_first file (seen w reading) (path_from dir first) (path_from dir second) (h reading are))

pub second_there : (disk later : Option Disk) (w : World) (dir first second : Text) (found : Option ProjectFile) → first ∷ second ∷ [] ≡ file_names dir → later ≡ disk
    → IsFileAt disk w (path_from dir first) None → IsFileAt later w (path_from dir second) found → IsFileOf disk w dir found
second_there None later w dir first second found names same missing h = tt
second_there (Some d) later w dir first second found names same missing h =
    let there : IsFileAt (Some d) w (path_from dir second) found = subst (λ disk. IsFileAt disk w (path_from dir second) found) same h in
    λ reading are. subst (λ ns. IsFileFound found (first_file (seen w reading) (each (path_from dir) ns))) names
    (found_second found (seen w reading) (path_from dir first) (path_from dir second) (missing reading are) (there reading are))
