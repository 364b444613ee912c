-- What is known of files once what was seen of some of them is forgotten.
use Rattle.std.proofs.Common.{◌≡◌, ◌⊎◌, inl, inr, ℕ, zero, suc, ◌<◌, List, [], ◌∷◌, ◌++◌, ◌+◌, length, get_or, take, Some, None, slice_get, refl, sym, ap, subst, ◌∙◌, arith}
use Rattle.std.specs.List.{Contains, slice_set}
use Rattle.std.proofs.lemmas.Bool.{cases_eq}
use Rattle.std.proofs.lemmas.List.{take_more}
use Rattle.std.proofs.lemmas.Option.{slice_get_within}
use Rattle.std.proofs.lemmas.List.Elements.{Contains-push, Contains-push_cases, Contains-append_left, Contains-get_or}
use Rattle.b2_host.specs.Disks.{Folder}
use Rattle.b2_plan.specs.declared.step.Step.{Step}
use Rattle.b2_plan.specs.Sources.{Build}
use Rattle.b2_log.specs.declared.line.LogLine.{LogLine}
use Rattle.b2_runs.proofs.FirstElementOrLater.{Contains_here, Contains_there, Contains_cases, Contains_nil}
use Rattle.b2_facts.specs.declared.file_facts.FileFacts.{FileFacts}
use Rattle.b2_facts.specs.declared.file_facts.FileLook.TheVariants as seen
use Rattle.b2_facts.specs.Facts.{Knowledge, IsNumber, IsRead, IsBlank, IsPlanned, IsAbout, file_at, with_file}
use Rattle.b2_facts.specs.Truth.{AreTrue, AreTrueOfFile}
use Rattle.b2_facts.proofs.ListsAtPlaces.{some_is, none_some, get_some, set_here, set_there, set_length}
use Rattle.b2_reach.specs.Sightings.{NothingOfLog, HasScanLine, AreLined}
use Rattle.b2_turns.specs.Starts.{HasForgotten}

-- what is known of a file once what was seen of it is forgotten
abbrev pub blind : FileFacts → FileFacts
blind file = record file { seen = seen.Unasked; digest = None }

-- other facts of the files
abbrev pub with_files : Knowledge → List FileFacts → Knowledge
with_files f files = record { paths = f.paths; files = files; lists = f.lists; found = f.found }

-- facts of which nothing else changed
files_alone : (ns : List ℕ) (f g : Knowledge) → HasForgotten ns f g → with_files f g.files ≡ g
files_alone ns f g is =
    ap (λ paths. record { paths = paths; files = g.files; lists = f.lists; found = f.found }) (sym is.paths)
    ∙ ap (λ lists. record { paths = g.paths; files = g.files; lists = lists; found = f.found }) (sym is.lists)
    ∙ ap (λ found. record { paths = g.paths; files = g.files; lists = g.lists; found = found }) (sym is.found)

-- ---- one file more

among_or_not : (ns : List ℕ) (n : ℕ) → Contains ns n ⊎ (Contains ns n → ⊥)
among_or_not [] n = inr (Contains_nil n)
among_or_not (m ∷ ns) n = elim (cases_eq m n) [
  | inl same ↦ inl (subst (Contains (m ∷ ns)) same (Contains_here m ns))
  | inr other ↦ elim (among_or_not ns n) [
    | inl among ↦ inl (Contains_there m n ns among)
    | inr none ↦ inr (λ among. elim (Contains_cases m n ns among) [ inl same ↦ other same | inr later ↦ none later ])
  ]
]

-- the file is as it was, or what was seen of it is forgotten
pub data IsLater (ns : List ℕ) (n : ℕ) (file later : FileFacts) : Type 0 where
  same : later ≡ file → IsLater ns n file later
  forgotten : Contains ns n → later ≡ blind file → IsLater ns n file later

pub known_before : (ns : List ℕ) (f g : Knowledge) → HasForgotten ns f g → (n : ℕ) (later : FileFacts) → file_at g n ≡ Some later → (file : FileFacts) × (file_at f n ≡ Some file) × IsLater ns n file later
known_before ns f g is n later at =
    let low = slice_get_within g.files n later at in
    let size = is.size in
    let (file, was) = get_some f.files n (omega (arith, low, size)) in (
      file,
      was,
      elim (among_or_not ns n) [
        | inl among ↦ forgotten among (some_is later (blind file) (sym at ∙ is.forgotten n file among was))
        | inr none ↦ same (some_is later file (sym at ∙ is.others n none ∙ was))
      ],
    )

pub maker_before : (ns : List ℕ) (n : ℕ) (file later : FileFacts) → IsLater ns n file later → later.maker ≡ file.maker
maker_before ns n file later (same e) = ap (λ (x : FileFacts). x.maker) e
maker_before ns n file later (forgotten among e) = ap (λ (x : FileFacts). x.maker) e

pub includes_before : (ns : List ℕ) (n : ℕ) (file later : FileFacts) → IsLater ns n file later → later.includes ≡ file.includes
includes_before ns n file later (same e) = ap (λ (x : FileFacts). x.includes) e
includes_before ns n file later (forgotten among e) = ap (λ (x : FileFacts). x.includes) e

blind_again : (ns : List ℕ) (n : ℕ) (file later : FileFacts) → IsLater ns n file later → blind later ≡ blind file
blind_again ns n file later (same e) = ap blind e
blind_again ns n file later (forgotten among e) = ap blind e

pub none_forgotten : (f : Knowledge) → HasForgotten [] f f
none_forgotten f = record {
  paths = refl;
  lists = refl;
  found = refl;
  size = refl;
  forgotten = λ n file among at. absurd (Contains_nil n among);
  others = λ n none. refl;
}

pub one_more : (ns : List ℕ) (f g h : Knowledge) (n : ℕ) (file : FileFacts) → HasForgotten ns f g → file_at g n ≡ Some file → h ≡ with_file g n (blind file) → HasForgotten (ns ++ n ∷ []) f h
one_more ns f g h n file is at e = record {
  paths = ap (λ (k : Knowledge). k.paths) e ∙ is.paths;
  lists = ap (λ (k : Knowledge). k.lists) e ∙ is.lists;
  found = ap (λ (k : Knowledge). k.found) e ∙ is.found;
  size = ap (λ (k : Knowledge). length k.files) e ∙ set_length g.files n (blind file) ∙ is.size;
  forgotten = λ m x among was. ap (λ (k : Knowledge). file_at k m) e ∙ elim (cases_eq m n) [
    | inl one ↦ (
        let before = known_before ns f g is n file at in
        let here : before.0 ≡ x = some_is before.0 x (sym before.1 ∙ subst (λ k. file_at f k ≡ Some x) one was) in
        subst (λ k. slice_get (slice_set g.files n (blind file)) k ≡ Some (blind x)) (sym one) (set_here g.files n (blind file) file at ∙ ap Some (blind_again ns n before.0 file before.2 ∙ ap blind here)))
    | inr other ↦ set_there g.files n m (blind file) other ∙ is.forgotten m x (elim (Contains-push_cases ns n m among) [ inl old ↦ old | inr one ↦ absurd (other (sym one)) ]) was
  ];
  others = λ m none. ap (λ (k : Knowledge). file_at k m) e ∙ set_there g.files n m (blind file) (λ one. none (subst (Contains (ns ++ n ∷ [])) (sym one) (Contains-push ns n))) ∙ is.others m (λ among. none (Contains-append_left ns (n ∷ []) m among));
}

-- the files but the first are forgotten where that one was
pub first_forgotten : (n : ℕ) (ns : List ℕ) (f : Knowledge) (files : List FileFacts) (file : FileFacts) → HasForgotten (n ∷ ns) f (with_files f files) → file_at f n ≡ Some file → HasForgotten ns (with_file f n (blind file)) (with_files f files)
first_forgotten n ns f files file is at = record {
  paths = refl;
  lists = refl;
  found = refl;
  size = is.size ∙ sym (set_length f.files n (blind file));
  forgotten = λ m x among was. elim (cases_eq m n) [
    | inl one ↦ (
        let here : blind file ≡ x = some_is (blind file) x (sym (set_here f.files n (blind file) file at) ∙ subst (λ k. slice_get (slice_set f.files n (blind file)) k ≡ Some x) one was) in
        is.forgotten m file (Contains_there n m ns among) (subst (λ k. file_at f k ≡ Some file) (sym one) at) ∙ ap (λ y. Some (blind y)) here)
    | inr other ↦ is.forgotten m x (Contains_there n m ns among) (sym (set_there f.files n m (blind file) other) ∙ was)
  ];
  others = λ m none. elim (cases_eq m n) [
    | inl one ↦ is.forgotten m file (subst (Contains (n ∷ ns)) (sym one) (Contains_here n ns)) (subst (λ k. file_at f k ≡ Some file) (sym one) at) ∙ subst (λ k. Some (blind file) ≡ slice_get (slice_set f.files n (blind file)) k) (sym one) (sym (set_here f.files n (blind file) file at))
    | inr other ↦ is.others m (λ among. elim (Contains_cases n m ns among) [ inl one ↦ other (sym one) | inr old ↦ none old ]) ∙ sym (set_there f.files n m (blind file) other)
  ];
}

same_by_place : {X : Type 0} (xs ys : List X) → length ys ≡ length xs → ((n : ℕ) → slice_get ys n ≡ slice_get xs n) → xs ≡ ys
same_by_place [] [] size each = refl
same_by_place [] (y ∷ ys) size each = absurd (omega (arith, size))
same_by_place (x ∷ xs) [] size each = absurd (omega (arith, size))
same_by_place (x ∷ xs) (y ∷ ys) size each = ap (λ z. z ∷ xs) (sym (some_is y x (each zero))) ∙ ap (λ l. y ∷ l) (same_by_place xs ys (omega (arith, size)) (λ n. each (suc n)))

pub nothing_forgotten : (f : Knowledge) (files : List FileFacts) → HasForgotten [] f (with_files f files) → f.files ≡ files
nothing_forgotten f files is = same_by_place f.files files is.size (λ n. is.others n (Contains_nil n))

-- ---- what is true

module _ (ns : List ℕ) (f : Knowledge) (files : List FileFacts) (is : HasForgotten ns f (with_files f files)) where
  planned_later : (steps : List Step) (roots : List (List ℕ)) (path : List ℕ) (n : ℕ) (file later : FileFacts) → IsLater ns n file later → IsPlanned steps roots path file → IsPlanned steps roots path later
  planned_later steps roots path n file later (same e) planned = subst (IsPlanned steps roots path) (sym e) planned
  planned_later steps roots path n file later (forgotten among e) planned =
      subst (IsPlanned steps roots path) (sym e) (record { maker = planned.maker; rooted = planned.rooted; scanned = planned.scanned; read = planned.read; digested = λ digest none. absurd (none_some digest none) })

  pub about_forgotten : (steps : List Step) (roots : List (List ℕ)) → IsAbout steps roots f → IsAbout steps roots (with_files f files)
  about_forgotten steps roots about = record {
    sizes = is.size ∙ about.sizes;
    distinct = about.distinct;
    planned = λ n path later at. (let (file, was, how) = known_before ns f (with_files f files) is n later at.file_is in planned_later steps roots path n file later how (about.planned n path file (record { path_is = at.path_is; file_is = was })));
    found = λ list n targets at. (
        let looked = about.found list n targets at in
        record {
          listed = looked.listed;
          numbered = (looked.numbered.0, number n looked.numbered.1);
          each = λ target among. (let is_number = looked.each target among in (is_number.0, number target is_number.1));
          read = λ later now. (let (file, was, how) = known_before ns f (with_files f files) is n later now in let (includes, known) = looked.read file was in (includes, includes_before ns n file later how ∙ known));
        });
  }
    where
      number : (n : ℕ) → n < length f.files → n < length files
      number n low = let size = is.size in omega (arith, low, size)

  true_later : (b : Build) (now : Folder) (path : List ℕ) (n : ℕ) (file later : FileFacts) → IsLater ns n file later → AreTrueOfFile b now path file → AreTrueOfFile b now path later
  true_later b now path n file later (same e) truth = subst (AreTrueOfFile b now path) (sym e) truth
  true_later b now path n file later (forgotten among e) truth = subst (AreTrueOfFile b now path) (sym e) (record { seen = tt; includes = truth.includes; digest = tt })

  pub true_forgotten : (b : Build) (now : Folder) → AreTrue b now f → AreTrue b now (with_files f files)
  true_forgotten b now truth = record {
    files = λ n path later at. (let (file, was, how) = known_before ns f (with_files f files) is n later at.file_is in true_later b now path n file later how (truth.files n path file (record { path_is = at.path_is; file_is = was })));
    found = λ list n path dirs targets at dirs_are known. (let targets_are = truth.found list n path dirs targets at dirs_are known in record { bytes = targets_are.bytes; stands = targets_are.stands; each = targets_are.each; whole = targets_are.whole });
  }

  pub blank_later : (n : ℕ) (file later : FileFacts) → IsLater ns n file later → IsBlank file → IsBlank later
  blank_later n file later (same e) blank = subst IsBlank (sym e) blank
  blank_later n file later (forgotten among e) blank = subst IsBlank (sym e) (record { unseen = refl; unread = blank.unread; undigested = refl })

  pub log_forgotten : NothingOfLog f → NothingOfLog (with_files f files)
  log_forgotten unseen n later at = let (file, was, how) = known_before ns f (with_files f files) is n later at.file_is in blank_later n file later how (unseen n file (record { path_is = at.path_is; file_is = was }))

  pub lined_forgotten : ((n : ℕ) (file : FileFacts) → Contains ns n → file_at f n ≡ Some file → file.includes ≡ None) → (log : List LogLine) → AreLined f log → AreLined (with_files f files) log
  lined_forgotten unread log lined n path later at read =
      let (file, was, how) = known_before ns f (with_files f files) is n later at.file_is in
      go file how was
    where
      go : (file : FileFacts) → IsLater ns n file later → file_at f n ≡ Some file → HasScanLine log path later
      go file (same e) was = subst (HasScanLine log path) (sym e) (lined n path file (record { path_is = at.path_is; file_is = was }) (subst IsRead e read))
      go file (forgotten among e) was = absurd (none_some read.0 (sym (ap (λ (x : FileFacts). x.includes) e ∙ unread n file among was) ∙ read.1))

-- what holds of facts of which nothing else changed
pub forgotten_facts : (P : Knowledge → Type 0) (ns : List ℕ) (f g : Knowledge) → HasForgotten ns f g → ((files : List FileFacts) → HasForgotten ns f (with_files f files) → P (with_files f files)) → P g
forgotten_facts P ns f g is holds =
    let same = files_alone ns f g is in
    subst P same (holds g.files (subst (HasForgotten ns f) (sym same) is))

-- ---- a loop

module _ (numbers : List ℕ) (i : ℕ) (f g : Knowledge) (low : i < length numbers) (is : HasForgotten (take i numbers) f g) where
  next_there : Contains numbers (get_or numbers i 0)
  next_there = Contains-get_or numbers i 0 low

  pub next_numbered : ((n : ℕ) → Contains numbers n → IsNumber f n) → IsNumber g (get_or numbers i 0)
  next_numbered numbered =
      let (path, file) = numbered (get_or numbers i 0) next_there in
      let paths = ap length is.paths in
      let size = is.size in
      (omega (arith, path, paths), omega (arith, file, size))

  pub next_unread : ((n : ℕ) (file : FileFacts) → Contains numbers n → file_at f n ≡ Some file → file.includes ≡ None) → (later : FileFacts) → file_at g (get_or numbers i 0) ≡ Some later → later.includes ≡ None
  next_unread unread later at =
      let (file, was, how) = known_before (take i numbers) f g is (get_or numbers i 0) later at in
      includes_before (take i numbers) (get_or numbers i 0) file later how ∙ unread (get_or numbers i 0) file next_there was

  pub next_forgotten : (h : Knowledge) → IsNumber g (get_or numbers i 0) → ((file : FileFacts) → file_at g (get_or numbers i 0) ≡ Some file → h ≡ with_file g (get_or numbers i 0) (blind file)) → HasForgotten (take (i + 1) numbers) f h
  next_forgotten h number exact =
      let (file, at) = get_some g.files (get_or numbers i 0) number.1 in
      subst (λ ns. HasForgotten ns f h) (sym (take_more numbers i 0 low)) (one_more (take i numbers) f g h (get_or numbers i 0) file is at (exact file at))
