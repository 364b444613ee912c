-- A path, a list of directories, or what is found comes in.
use Rattle.std.proofs.Common.{◌≡◌, ◌⊎◌, inl, inr, ℕ, ◌+◌, ◌<◌, List, [], ◌∷◌, ◌++◌, length, Some, None, slice_get, refl, sym, ap, subst, ◌∙◌, arith}
use Rattle.std.specs.FinMap as map
use Rattle.std.proofs.lemmas.Option.{slice_get_within}
use Rattle.std.proofs.lemmas.List.{length-append}
use Rattle.b2_paths.specs.PathTables.{AreDistinct}
use Rattle.b2_paths.specs.PairMaps.{pair_cmp}
use Rattle.b2_paths.proofs.MapsChangeAtOneKey.{at_key, at_other, one_or_other}
use Rattle.b2_paths.proofs.PairsAreKeys.{pairs_total, pairs_exact}
use Rattle.b2_host.specs.Disks.{Folder, bytes_at}
use Rattle.b2_host.specs.FileCalls.{stamp_at}
use Rattle.b2_plan.specs.declared.step.Step.{Step}
use Rattle.b2_plan.specs.Sources.{Build}
use Rattle.b2_facts.specs.declared.file_facts.FileFacts.{FileFacts}
use Rattle.b2_facts.specs.Digests.{digest_of}
use Rattle.b2_facts.specs.Facts.{Knowledge, no_facts, with_path, with_list, with_found, IsFile, IsBlank, IsPlanned, IsLookedFor, IsAbout, IsNumber, path_at, file_at, dirs_at, found_at}
use Rattle.b2_facts.specs.Changes.{EntersPath}
use Rattle.b2_facts.specs.Growth.{Learns}
use Rattle.b2_facts.specs.Truth.{IsSeen, IsReadAs, AreTrueOfFile, AreTargets, AreTrue, StaysTrue}
use Rattle.b2_facts.proofs.ListsAtPlaces.{get_stays, get_more, some_is, none_some}
use Rattle.b2_facts.proofs.FactsGrow.{file_same, learns_equal, true_equal}

-- ---- nothing

no_path : {X : Type 0} (n : ℕ) (x : X) → slice_get [] n ≡ Some x → ⊥
no_path n x e = none_some x e

no_found : (list n : ℕ) (targets : List ℕ) → found_at no_facts list n ≡ Some targets → ⊥
no_found list n targets e = none_some targets (sym (map.get-empty pair_cmp (list, n)) ∙ e)

pub nothing_about : (steps : List Step) (roots : List (List ℕ)) → IsAbout steps roots no_facts
nothing_about steps roots = record {
  sizes = refl;
  distinct = λ path place other here there. absurd (no_path place path here);
  planned = λ n path file is. absurd (no_path n path is.path_is);
  found = λ list n targets e. absurd (no_found list n targets e);
}

pub nothing_true : (b : Build) (now : Folder) → AreTrue b now no_facts
nothing_true b now = record { files = λ n path file is. absurd (no_path n path is.path_is); found = λ list n path dirs targets p d t. absurd (no_path n path p) }

-- ---- a path

-- a number of the old facts
old_number : {X : Type 0} (xs : List X) (x y : X) (n : ℕ) → n < length xs → slice_get (xs ++ x ∷ []) n ≡ Some y → slice_get xs n ≡ Some y
old_number xs x y n within e = elim (get_more xs x n y e) [ inl before ↦ before | inr (at, same) ↦ absurd (omega (arith, at, within)) ]

-- the file of a number after a path was entered
entered : (f : Knowledge) (path : List ℕ) (file : FileFacts) → length f.files ≡ length f.paths → (n : ℕ) (p : List ℕ) (x : FileFacts) → IsFile (with_path f path file) n p x → IsFile f n p x ⊎ ((path ≡ p) × (file ≡ x))
entered f path file sizes n p x is = go (get_more f.paths path n p is.path_is) (get_more f.files file n x is.file_is)
  where
    go : (path_at f n ≡ Some p) ⊎ ((n ≡ length f.paths) × (path ≡ p)) → (file_at f n ≡ Some x) ⊎ ((n ≡ length f.files) × (file ≡ x)) → IsFile f n p x ⊎ ((path ≡ p) × (file ≡ x))
    go (inl a) (inl b) = inl (record { path_is = a; file_is = b })
    go (inl a) (inr (at, same)) = (let within = slice_get_within f.paths n p a in absurd (omega (arith, within, at, sizes)))
    go (inr (at, same)) (inl b) = (let within = slice_get_within f.files n x b in absurd (omega (arith, within, at, sizes)))
    go (inr (at, same)) (inr (too, one)) = inr (same, one)

pub sizes_after : (paths more : List (List ℕ)) (files all : List FileFacts) (path : List ℕ) (file : FileFacts) → more ≡ paths ++ path ∷ [] → all ≡ files ++ file ∷ [] → length files ≡ length paths → length all ≡ length more
sizes_after paths more files all path file more_is all_is sizes = ap length all_is ∙ length-append files (file ∷ []) ∙ ap (λ n. n + 1) sizes ∙ sym (length-append paths (path ∷ [])) ∙ sym (ap length more_is)

number_more : (f : Knowledge) (path : List ℕ) (file : FileFacts) (n : ℕ) → IsNumber f n → IsNumber (with_path f path file) n
number_more f path file n h = (let a = h.0 in omega (arith, a, length-append f.paths (path ∷ [])), let a = h.1 in omega (arith, a, length-append f.files (file ∷ [])))

entered_distinct : (paths : List (List ℕ)) (path : List ℕ) → ((n : ℕ) → slice_get paths n ≡ Some path → ⊥) → AreDistinct paths → AreDistinct (paths ++ path ∷ [])
entered_distinct paths path absent distinct p here there a b = go (get_more paths path here p a) (get_more paths path there p b)
  where
    go : (slice_get paths here ≡ Some p) ⊎ ((here ≡ length paths) × (path ≡ p)) → (slice_get paths there ≡ Some p) ⊎ ((there ≡ length paths) × (path ≡ p)) → here ≡ there
    go (inl x) (inl y) = distinct p here there x y
    go (inl x) (inr (at, same)) = absurd (absent here (subst (λ (q : List ℕ). slice_get paths here ≡ Some q) (sym same) x))
    go (inr (at, same)) (inl y) = absurd (absent there (subst (λ (q : List ℕ). slice_get paths there ≡ Some q) (sym same) y))
    go (inr (at, same)) (inr (too, one)) = at ∙ sym too

path_about : (steps : List Step) (roots : List (List ℕ)) (f : Knowledge) (path : List ℕ) (file : FileFacts) → IsPlanned steps roots path file → ((n : ℕ) → path_at f n ≡ Some path → ⊥) → IsAbout steps roots f → IsAbout steps roots (with_path f path file)
path_about steps roots f path file planned absent about = record {
  sizes = omega (arith, about.sizes, length-append f.files (file ∷ []), length-append f.paths (path ∷ []));
  distinct = entered_distinct f.paths path absent about.distinct;
  planned = λ n p x is. elim (entered f path file about.sizes n p x is) [
    | inl before ↦ about.planned n p x before
    | inr (same, one) ↦ subst (λ (q : List ℕ). IsPlanned steps roots q x) same (subst (IsPlanned steps roots path) one planned)
  ];
  found = λ list n targets e. (let l = about.found list n targets e in record {
    listed = l.listed;
    numbered = number_more f path file n l.numbered;
    each = λ target among. number_more f path file target (l.each target among);
    read = λ x is. l.read x (old_number f.files file x n l.numbered.1 is);
  });
}

path_learns : (steps : List Step) (roots : List (List ℕ)) (P : ℕ → Type 0) (f : Knowledge) (path : List ℕ) (file : FileFacts) → IsBlank file → IsPlanned steps roots path file → ((n : ℕ) → path_at f n ≡ Some path → ⊥) → Learns steps roots P f (with_path f path file)
path_learns steps roots P f path file blank planned absent = record {
  about = path_about steps roots f path file planned absent;
  grows = record {
    paths = λ n p e. get_stays f.paths (path ∷ []) n p e;
    files = λ n x e. (x, get_stays f.files (file ∷ []) n x e, file_same x);
    dirs = λ list dirs e. e;
    found = λ list n targets e. e;
  };
  only = λ n x e. elim (get_more f.files file n x e) [
    | inl before ↦ inr (inr (inl before))
    | inr (at, same) ↦ inr (inr (inr (subst IsBlank same blank)))
  ];
}

-- what is known of a file of which nothing is known is true
pub blank_true : (b : Build) (now : Folder) (path : List ℕ) (file : FileFacts) → IsBlank file → AreTrueOfFile b now path file
blank_true b now path file blank = record {
  seen = subst (λ s. IsSeen s (stamp_at now path)) (sym blank.unseen) tt;
  includes = subst (λ i. IsReadAs (b.inc path) (bytes_at now path) i) (sym blank.unread) tt;
  digest = subst (λ d. IsReadAs digest_of (bytes_at now path) d) (sym blank.undigested) tt;
}

path_true : (steps : List Step) (roots : List (List ℕ)) (now : Folder) (f : Knowledge) (path : List ℕ) (file : FileFacts) → IsBlank file → StaysTrue steps roots now f (with_path f path file)
path_true steps roots now f path file blank b build kept about holds = record {
  files = λ n p x is. elim (entered f path file about.sizes n p x is) [
    | inl before ↦ holds.files n p x before
    | inr (same, one) ↦ blank_true b now p x (subst IsBlank one blank)
  ];
  found = λ list n p dirs targets is d t. (let l = about.found list n targets t in let a = holds.found list n p dirs targets (old_number f.paths path p n l.numbered.0 is) d t in record {
    bytes = a.bytes;
    stands = a.stands;
    each = λ target among. (let e = a.each target among in (e.0, get_stays f.paths (path ∷ []) target e.0 e.1, e.2));
    whole = λ found inc. (let w = a.whole found inc in (w.0, w.1, get_stays f.paths (path ∷ []) w.0 found w.2));
  });
}

pub enters_learns : (steps : List Step) (roots : List (List ℕ)) (P : ℕ → Type 0) (path : List ℕ) (f g : Knowledge) → ((n : ℕ) → path_at f n ≡ Some path → ⊥) → EntersPath steps roots path f g → Learns steps roots P f g
enters_learns steps roots P path f g absent e = subst (Learns steps roots P f) (sym e.same) (path_learns steps roots P f path e.file e.blank e.planned absent)

pub enters_true : (steps : List Step) (roots : List (List ℕ)) (now : Folder) (path : List ℕ) (f g : Knowledge) → EntersPath steps roots path f g → StaysTrue steps roots now f g
enters_true steps roots now path f g e = subst (StaysTrue steps roots now f) (sym e.same) (path_true steps roots now f path e.file e.blank)

-- ---- a list

list_learns : (steps : List Step) (roots : List (List ℕ)) (P : ℕ → Type 0) (f : Knowledge) (dirs : List (List ℕ)) → Learns steps roots P f (with_list f dirs)
list_learns steps roots P f dirs = record {
  about = λ about. record {
    sizes = about.sizes;
    distinct = about.distinct;
    planned = λ n path file is. about.planned n path file (record { path_is = is.path_is; file_is = is.file_is });
    found = λ list n targets e. (let l = about.found list n targets e in record { listed = (let h = l.listed in omega (arith, h, length-append f.lists (dirs ∷ []))); numbered = l.numbered; each = l.each; read = l.read });
  };
  grows = record {
    paths = λ n path e. e;
    files = λ n file e. (file, e, file_same file);
    dirs = λ list ds e. get_stays f.lists (dirs ∷ []) list ds e;
    found = λ list n targets e. e;
  };
  only = λ n file e. inr (inr (inl e));
}

list_true : (steps : List Step) (roots : List (List ℕ)) (now : Folder) (f : Knowledge) (dirs : List (List ℕ)) → StaysTrue steps roots now f (with_list f dirs)
list_true steps roots now f dirs b build kept about holds = record {
  files = λ n path file is. holds.files n path file (record { path_is = is.path_is; file_is = is.file_is });
  found = λ list n path ds targets p d t. (let l = about.found list n targets t in let a = holds.found list n path ds targets p (old_number f.lists dirs ds list l.listed d) t in record { bytes = a.bytes; stands = a.stands; each = a.each; whole = a.whole });
}

-- the lists are the same, or one was put at the end
abbrev pub ListsAre : List (List ℕ) → Knowledge → Knowledge → Type 0
ListsAre dirs f g = (g ≡ f) ⊎ (g ≡ with_list f dirs)

pub lists_learn : (steps : List Step) (roots : List (List ℕ)) (P : ℕ → Type 0) (dirs : List (List ℕ)) (f g : Knowledge) → ListsAre dirs f g → Learns steps roots P f g
lists_learn steps roots P dirs f g (inl same) = learns_equal steps roots P f g same
lists_learn steps roots P dirs f g (inr more) = subst (Learns steps roots P f) (sym more) (list_learns steps roots P f dirs)

pub lists_true : (steps : List Step) (roots : List (List ℕ)) (now : Folder) (dirs : List (List ℕ)) (f g : Knowledge) → ListsAre dirs f g → StaysTrue steps roots now f g
lists_true steps roots now dirs f g (inl same) = true_equal steps roots now f g same
lists_true steps roots now dirs f g (inr more) = subst (StaysTrue steps roots now f) (sym more) (list_true steps roots now f dirs)

-- ---- what is found

-- what is found after it came in
pub found_now : (f : Knowledge) (list n : ℕ) (targets : List ℕ) → found_at (with_found f list n targets) list n ≡ Some targets
found_now f list n targets = at_key pairs_total pairs_exact f.found (list, n) targets

found_after : (f : Knowledge) (list n : ℕ) (targets : List ℕ) (other k : ℕ) (found : List ℕ) → found_at (with_found f list n targets) other k ≡ Some found → ((other ≡ list) × (k ≡ n) × (targets ≡ found)) ⊎ (found_at f other k ≡ Some found)
found_after f list n targets other k found e = elim (one_or_other pairs_total pairs_exact (other, k) (list, n)) [
  | inl same ↦ inl (ap (λ (p : ℕ × ℕ). p.0) same, ap (λ (p : ℕ × ℕ). p.1) same, some_is targets found (sym (found_now f list n targets) ∙ ap (λ (p : ℕ × ℕ). map.get (map.insert f.found (list, n) targets) p) (sym same) ∙ e))
  | inr apart ↦ inr (sym (at_other pairs_total pairs_exact f.found (list, n) targets (other, k) apart) ∙ e)
]

pub found_learns : (steps : List Step) (roots : List (List ℕ)) (P : ℕ → Type 0) (f : Knowledge) (list n : ℕ) (targets : List ℕ) → found_at f list n ≡ None → IsLookedFor f list n targets → Learns steps roots P f (with_found f list n targets)
found_learns steps roots P f list n targets unknown looked = record {
  about = λ about. record {
    sizes = about.sizes;
    distinct = about.distinct;
    planned = λ k path file is. about.planned k path file (record { path_is = is.path_is; file_is = is.file_is });
    found = λ other k found e. elim (found_after f list n targets other k found e) [
      | inl (same, at, one) ↦ copied (subst (λ (l : ℕ). IsLookedFor f l k found) (sym same) (subst (λ (m : ℕ). IsLookedFor f list m found) (sym at) (subst (IsLookedFor f list n) one looked)))
      | inr before ↦ copied (about.found other k found before)
    ];
  };
  grows = record {
    paths = λ k path e. e;
    files = λ k file e. (file, e, file_same file);
    dirs = λ other dirs e. e;
    found = λ other k found e. elim (one_or_other pairs_total pairs_exact (other, k) (list, n)) [
      | inl same ↦ absurd (none_some found (sym unknown ∙ ap (λ (p : ℕ × ℕ). map.get f.found p) (sym same) ∙ e))
      | inr apart ↦ at_other pairs_total pairs_exact f.found (list, n) targets (other, k) apart ∙ e
    ];
  };
  only = λ k file e. inr (inr (inl e));
}
  where
    copied : {other k : ℕ} {found : List ℕ} → IsLookedFor f other k found → IsLookedFor (with_found f list n targets) other k found
    copied l = record { listed = l.listed; numbered = l.numbered; each = l.each; read = l.read }

pub found_true : (b : Build) (now : Folder) (f : Knowledge) (list n : ℕ) (targets : List ℕ) → ((path : List ℕ) (dirs : List (List ℕ)) → path_at f n ≡ Some path → dirs_at f list ≡ Some dirs → AreTargets b now f dirs path targets) → AreTrue b now f → AreTrue b now (with_found f list n targets)
found_true b now f list n targets right holds = record {
  files = λ k path file is. holds.files k path file (record { path_is = is.path_is; file_is = is.file_is });
  found = λ other k path dirs found p d t. elim (found_after f list n targets other k found t) [
    | inl (same, at, one) ↦ copied (subst (AreTargets b now f dirs path) one (right path dirs (subst (λ (m : ℕ). path_at f m ≡ Some path) at p) (subst (λ (l : ℕ). dirs_at f l ≡ Some dirs) same d)))
    | inr before ↦ copied (holds.found other k path dirs found p d before)
  ];
}
  where
    copied : {dirs : List (List ℕ)} {path found : List ℕ} → AreTargets b now f dirs path found → AreTargets b now (with_found f list n targets) dirs path found
    copied a = record { bytes = a.bytes; stands = a.stands; each = a.each; whole = a.whole }
