-- What a search finds, one name and one directory after another.
use Rattle.std.proofs.Common.{◌≡◌, ◌↔◌, ℕ, ◌+◌, ◌<◌, ◌≤◌, Bool, true, false, not, ◌||◌, List, [], ◌∷◌, ◌++◌, length, get_or, take, drop, filter, map, Option, Some, None, IfSome, IsTrue, sym, ap, ◌∙◌, subst, append-nil}
use Rattle.std.specs.List.{flat_map}
use Rattle.std.specs.Str.{chars}
use Rattle.std.proofs.lemmas.Bool.{cond-true, cond-false}
use Rattle.std.proofs.lemmas.Bool.Decides.{same_from_decides}
use Rattle.std.proofs.lemmas.List.{map-append, at_drop_all, take_all}
use Rattle.std.proofs.lemmas.List.Concat.{flat_map-append}
use Rattle.b2_base.specs.Segments.{normal_of}
use Rattle.b2_host.specs.Disks.{Folder, Disk}
use Rattle.b2_host.specs.Listings.{IsListed}
use Rattle.b2_host.specs.Outside.{Outside}
use Rattle.jam_path.specs.Patterns.{Match}
use Rattle.jam_meaning.specs.Settings.{Sight, IsMatching}
use Rattle.jam_natives.specs.Sights.{ForMatching, WhereSeen}
use Rattle.jam_natives.specs.Globs.{path_in, is_output_dir, is_matched, picked, found_in, globbed, found_by, project_globbed}
use Rattle.jam_natives.specs.Texts.{without_repeats}
use Rattle.jam_natives.specs.Searches.{picks, finds}
use Rattle.jam_natives.specs.declared.glob.GlobSearch.{GlobSearch}
use Rattle.jam_natives.proofs.TakenListsGrowByOne.{next_dropped, appended}
use Rattle.jam_natives.proofs.StrippingLeavesTheRest.{filter-append}
use Rattle.jam_natives.proofs.DirectoriesHaveOneListing.{one_listing}

-- ---- patterns

pub test_is : (matching : List ℕ → List ℕ → Bool) → IsMatching matching → (r : Bool) (pattern text : List ℕ) → (IsTrue r ↔ Match (chars pattern) (chars text)) → r ≡ matching pattern text
test_is matching is r pattern text told =
    same_from_decides r (matching pattern text) (told.0, told.1) ((is pattern text).0, (is pattern text).1)

module _ (matching : List ℕ → List ℕ → Bool) (text : List ℕ) (patterns : List (List ℕ)) (i : ℕ) (p : List ℕ) (low : i < length patterns) (is : p ≡ get_or patterns i p) (so_far : is_matched matching (drop i patterns) text ≡ is_matched matching patterns text) where
  ahead : is_matched matching patterns text ≡ (matching p text || is_matched matching (drop (i + 1) patterns) text)
  ahead = sym so_far ∙ ap (λ ps. is_matched matching ps text) (next_dropped patterns i p low is)

  pub matched_here : matching p text ≡ true → true ≡ is_matched matching patterns text
  matched_here h = sym (ahead ∙ ap (λ b. b || is_matched matching (drop (i + 1) patterns) text) h)

  pub matched_later : matching p text ≡ false → is_matched matching (drop (i + 1) patterns) text ≡ is_matched matching patterns text
  matched_later h = sym (ahead ∙ ap (λ b. b || is_matched matching (drop (i + 1) patterns) text) h)

pub matched_nowhere : (matching : List ℕ → List ℕ → Bool) (text : List ℕ) (patterns : List (List ℕ)) (i : ℕ) → length patterns ≤ i → is_matched matching (drop i patterns) text ≡ is_matched matching patterns text → false ≡ is_matched matching patterns text
matched_nowhere matching text patterns i end so_far = sym (at_drop_all (λ ps. is_matched matching ps text) patterns i end) ∙ so_far

-- ---- one name

module _ (matching : List ℕ → List ℕ → Bool) (patterns excluded : List (List ℕ)) (dir name : List ℕ) where
  pub not_matched : is_matched matching patterns name ≡ false → picked matching patterns excluded dir (name ∷ []) ≡ []
  not_matched h =
      ap (λ (names : List (List ℕ)). filter (λ path. not (is_matched matching excluded path)) (map (path_in dir) names)) (cond-false (is_matched matching patterns name) (name ∷ []) [] h)

  pub left_out : is_matched matching patterns name ≡ true → is_matched matching excluded (path_in dir name) ≡ true → picked matching patterns excluded dir (name ∷ []) ≡ []
  left_out h out =
      ap (λ (names : List (List ℕ)). filter (λ path. not (is_matched matching excluded path)) (map (path_in dir) names)) (cond-true (is_matched matching patterns name) (name ∷ []) [] h)
      ∙ cond-false (not (is_matched matching excluded (path_in dir name))) (path_in dir name ∷ []) [] (ap not out)

  pub picked_one : is_matched matching patterns name ≡ true → is_matched matching excluded (path_in dir name) ≡ false → picked matching patterns excluded dir (name ∷ []) ≡ path_in dir name ∷ []
  picked_one h stays =
      ap (λ (names : List (List ℕ)). filter (λ path. not (is_matched matching excluded path)) (map (path_in dir) names)) (cond-true (is_matched matching patterns name) (name ∷ []) [] h)
      ∙ cond-true (not (is_matched matching excluded (path_in dir name))) (path_in dir name ∷ []) [] (ap not stays)

-- ---- names and directories

pub picked-append : (matching : List ℕ → List ℕ → Bool) (patterns excluded : List (List ℕ)) (dir : List ℕ) (xs ys : List (List ℕ)) → picked matching patterns excluded dir (xs ++ ys) ≡ picked matching patterns excluded dir xs ++ picked matching patterns excluded dir ys
picked-append matching patterns excluded dir xs ys =
    let p = is_matched matching patterns in
    let q = λ (path : List ℕ). not (is_matched matching excluded path) in
    ap (λ (names : List (List ℕ)). filter q (map (path_in dir) names)) (filter-append p xs ys)
    ∙ ap (filter q) (map-append (path_in dir) (filter p xs) (filter p ys))
    ∙ filter-append q (map (path_in dir) (filter p xs)) (map (path_in dir) (filter p ys))

-- the files of a directory are found that is no output directory
pub found_here : (disk : Option Disk) (search : GlobSearch) (dir shown : List ℕ) (names now next : List (List ℕ)) → is_output_dir search.roots.now dir ≡ false → IfSome disk (λ d. IsListed d.now dir names)
    → ForMatching (λ matching. next ≡ now ++ picks matching search shown names) → WhereSeen disk (λ sight. next ≡ now ++ finds sight search dir shown)
found_here None search dir shown names now next source listed adds = tt
found_here (Some d) search dir shown names now next source listed adds = λ sight seen here.
    adds sight.matching seen.matches
    ∙ ap (λ (l : List (List ℕ)). now ++ picks sight.matching search shown l) (one_listing sight.folder dir names (sight.names dir) (subst (λ (folder : Folder). IsListed folder dir names) (sym here) listed) (seen.lists dir))
    ∙ ap (λ l. now ++ l) (sym (cond-false (is_output_dir search.roots.now dir) [] (picked sight.matching search.patterns.now search.excluded.now shown (sight.names dir)) source))

-- none of an output directory is
pub none_here : (disk : Option Disk) (search : GlobSearch) (dir shown : List ℕ) (now : List (List ℕ)) → is_output_dir search.roots.now dir ≡ true → WhereSeen disk (λ sight. now ≡ now ++ finds sight search dir shown)
none_here None search dir shown now output = tt
none_here (Some d) search dir shown now output = λ sight seen here.
    sym (append-nil now) ∙ ap (λ l. now ++ l) (sym (cond-true (is_output_dir search.roots.now dir) [] (picked sight.matching search.patterns.now search.excluded.now shown (sight.names dir)) output))

-- one more directory, or pattern
pub found_more : (disk : Option Disk) (F : Sight → List ℕ → List (List ℕ)) (xs : List (List ℕ)) (i : ℕ) (x : List ℕ) → i < length xs → x ≡ get_or xs i x → (now next : List (List ℕ)) → WhereSeen disk (λ sight. now ≡ flat_map (F sight) (take i xs))
    → WhereSeen disk (λ sight. next ≡ now ++ F sight x) → WhereSeen disk (λ sight. next ≡ flat_map (F sight) (take (i + 1) xs))
found_more None F xs i x low is now next was adds = tt
found_more (Some d) F xs i x low is now next was adds = λ sight seen here.
    appended (flat_map (F sight)) (flat_map-append (F sight)) xs i x low is [] now next (was sight seen here) (adds sight seen here ∙ ap (λ l. now ++ l) (sym (append-nil (F sight x))))

pub seen_map : (disk : Option Disk) (P Q : Sight → Type 0) → ((sight : Sight) → P sight → Q sight) → WhereSeen disk P → WhereSeen disk Q
seen_map None P Q f h = tt
seen_map (Some d) P Q f h = λ sight seen here. f sight (h sight seen here)

-- a search with the same pattern and directories finds the same
pub same_found : (disk : Option Disk) (roots excluded : List (List ℕ)) (patterns others : List (List ℕ)) (dir listed shown seen : List ℕ) (P : List (List ℕ) → Type 0) → patterns ≡ others → dir ≡ listed → shown ≡ seen
    → WhereSeen disk (λ sight. P (found_in sight roots patterns excluded dir shown)) → WhereSeen disk (λ sight. P (found_in sight roots others excluded listed seen))
same_found disk roots excluded patterns others dir listed shown seen P named lists shows =
    seen_map disk (λ sight. P (found_in sight roots patterns excluded dir shown)) (λ sight. P (found_in sight roots others excluded listed seen))
    (λ sight h. subst P (λ i. found_in sight roots (named i) excluded (lists i) (shows i)) h)

-- ---- loops over directories and patterns

pub glob_step : (before here : Outside) (roots patterns dirs : List (List ℕ)) (i : ℕ) (dir listed : List ℕ) (now next : List (List ℕ)) → i < length dirs → dir ≡ get_or dirs i dir → here ≡ before → listed ≡ normal_of dir
    → WhereSeen before.disk (λ sight. now ≡ globbed sight roots (take i dirs) patterns) → WhereSeen here.disk (λ sight. next ≡ now ++ found_in sight roots patterns [] listed listed)
    → WhereSeen before.disk (λ sight. next ≡ globbed sight roots (take (i + 1) dirs) patterns)
glob_step before here roots patterns dirs i dir listed now next low is same named was adds =
    let F : Sight → List ℕ → List (List ℕ) = λ sight d. found_in sight roots patterns [] (normal_of d) (normal_of d) in
    found_more before.disk F dirs i dir low is now next was
    (subst (λ (o : Outside). WhereSeen o.disk (λ sight. next ≡ now ++ F sight dir)) same
    (seen_map here.disk (λ sight. next ≡ now ++ found_in sight roots patterns [] listed listed) (λ sight. next ≡ now ++ F sight dir)
    (λ sight e. e ∙ ap (λ (d : List ℕ). now ++ found_in sight roots patterns [] d d) named) adds))

pub glob_done : (disk : Option Disk) (roots patterns dirs : List (List ℕ)) (i : ℕ) (now : List (List ℕ)) → length dirs ≤ i → WhereSeen disk (λ sight. now ≡ globbed sight roots (take i dirs) patterns) → WhereSeen disk (λ sight. now ≡ globbed sight roots dirs patterns)
glob_done disk roots patterns dirs i now end was =
    seen_map disk (λ sight. now ≡ globbed sight roots (take i dirs) patterns) (λ sight. now ≡ globbed sight roots dirs patterns)
    (λ sight e. e ∙ ap (λ (ds : List (List ℕ)). globbed sight roots ds patterns) (take_all i dirs end)) was

pub project_step : (before here : Outside) (roots : List (List ℕ)) (place : List ℕ) (excluded patterns : List (List ℕ)) (i : ℕ) (pattern : List ℕ) (now next : List (List ℕ)) → i < length patterns → pattern ≡ get_or patterns i pattern → here ≡ before
    → WhereSeen before.disk (λ sight. now ≡ flat_map (found_by sight roots place excluded) (take i patterns)) → WhereSeen here.disk (λ sight. next ≡ now ++ found_by sight roots place excluded pattern)
    → WhereSeen before.disk (λ sight. next ≡ flat_map (found_by sight roots place excluded) (take (i + 1) patterns))
project_step before here roots place excluded patterns i pattern now next low is same was adds =
    found_more before.disk (λ sight. found_by sight roots place excluded) patterns i pattern low is now next was
    (subst (λ (o : Outside). WhereSeen o.disk (λ sight. next ≡ now ++ found_by sight roots place excluded pattern)) same adds)

pub project_done : (disk : Option Disk) (roots : List (List ℕ)) (place : List ℕ) (excluded patterns : List (List ℕ)) (i : ℕ) (now slice made : List (List ℕ)) → length patterns ≤ i
    → WhereSeen disk (λ sight. now ≡ flat_map (found_by sight roots place excluded) (take i patterns)) → slice ≡ now → made ≡ without_repeats slice → WhereSeen disk (λ sight. made ≡ project_globbed sight roots place patterns excluded)
project_done disk roots place excluded patterns i now slice made end was same once =
    seen_map disk (λ sight. now ≡ flat_map (found_by sight roots place excluded) (take i patterns)) (λ sight. made ≡ project_globbed sight roots place patterns excluded)
    (λ sight e. once ∙ ap without_repeats (same ∙ e ∙ ap (flat_map (found_by sight roots place excluded)) (take_all i patterns end))) was
