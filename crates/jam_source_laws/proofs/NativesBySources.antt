-- What native rules answer over names that differ in output directories alone.
use Rattle.std.proofs.Common.{◌≡◌, ℕ, Bool, true, false, not, ◌&&◌, ◌==◌, List, [], ◌∷◌, ◌++◌, codes, length, Option, Some, None, Result, Ok, Err, refl, sym, ap, ap₂, subst}
use Rattle.std.specs.Prelude.{if◌then◌else◌}
use Rattle.std.specs.List.{flat_map}
use Rattle.b2_base.specs.Lists.{list_at, first_of}
use Rattle.b2_base.specs.Segments.{is_rooted, normal_of, file_name}
use Rattle.b2_base.specs.Shapes.{has_shape}
use Rattle.b2_host.specs.Disks.{Folder}
use Rattle.jam_path.specs.Names.{dir_of}
use Rattle.jam_journal.specs.Tables.{Text}
use Rattle.jam_journal.specs.Scopes.{Value}
use Rattle.jam_scope.specs.Worlds.{World, Worlds}
use Rattle.jam_scope.specs.Changes.{changed, add_roots, freeze_roots}
use Rattle.jam_meaning.specs.declared.native_answer.NativeStep.{NativeStep}
use Rattle.jam_meaning.specs.declared.native_answer.NativeStep.TheVariants as steps
use Rattle.jam_meaning.specs.Refused.{refused_here}
use Rattle.jam_meaning.specs.Settings.{answers, refuses, of_arity, Sight, Reading, Setting, Meaning}
use Rattle.jam_meaning.specs.States.{State}
use Rattle.jam_patterns.specs.declared.native_fault.NativeFault.{NativeFault}
use Rattle.jam_natives.specs.declared.native.Native.{Native}
use Rattle.jam_natives.specs.declared.native.Native.TheVariants as natives
use Rattle.jam_natives.specs.declared.native.Noting.{Noting}
use Rattle.jam_natives.specs.declared.native.Noting.TheVariants as notes
use Rattle.jam_natives.specs.Keeping.{Kept}
use Rattle.jam_natives.specs.Globs.{is_output_dir, picked, found_in, globbed, found_by, project_globbed}
use Rattle.jam_natives.specs.Texts.{without_repeats}
use Rattle.jam_natives.specs.OutputDirs.{names_output_dirs, root_paths, is_refused}
use Rattle.jam_natives.specs.Rules.{native_of, shape_of, is_declaring}
use Rattle.jam_natives.specs.Rows.{Answer, value, read, read_answer, add_each, noted, foreign_in, unless_foreign, import_each, unless_missing, missing_rule, imported, is_project, declare_at, declare, row, call_of, jam_meaning}
use Rattle.jam_source_laws.specs.Sources.{is_hidden, AreSettled, over, HasRoots, EndsInTold, ShowSame, NamesAgree}

-- ---- searches

pub flat_same : {A B : Type 0} (f g : A → List B) (xs : List A) → ((x : A) → f x ≡ g x) → flat_map f xs ≡ flat_map g xs
flat_same f g [] same = refl
flat_same f g (x ∷ xs) same = ap₂ ◌++◌ (same x) (flat_same f g xs same)

pub either_same : {A : Type 0} (b : Bool) (x y z : A) → (b ≡ false → y ≡ z) → (if b then x else y) ≡ (if b then x else z)
either_same true x y z same = refl
either_same false x y z same = same refl

-- the sight over other files
abbrev seen_over : Sight → Folder → (Text → List Text) → Sight
seen_over sight folder names = record sight { folder = folder; names = names }

module _ (roots : List Text) (sight : Sight) (folder : Folder) (names : Text → List Text) (agree : NamesAgree roots sight.names names) where
  found_same : (patterns excluded : Value) (text shown : Text) → found_in sight roots patterns excluded (normal_of text) shown ≡ found_in (seen_over sight folder names) roots patterns excluded (normal_of text) shown
  found_same patterns excluded text shown =
      either_same (is_output_dir roots (normal_of text)) [] (picked sight.matching patterns excluded shown (sight.names (normal_of text))) (picked sight.matching patterns excluded shown (names (normal_of text)))
      (λ outside. ap (picked sight.matching patterns excluded shown) (agree text outside))

  globbed_same : (dirs patterns : Value) → globbed sight roots dirs patterns ≡ globbed (seen_over sight folder names) roots dirs patterns
  globbed_same dirs patterns = flat_same _ _ dirs (λ dir. found_same patterns [] dir (normal_of dir))

  project_same : (place : Text) (patterns excluded : Value) → project_globbed sight roots place patterns excluded ≡ project_globbed (seen_over sight folder names) roots place patterns excluded
  project_same place patterns excluded =
      ap without_repeats (flat_same (found_by sight roots place excluded) (found_by (seen_over sight folder names) roots place excluded) patterns
      (λ pattern. found_same (file_name pattern ∷ []) excluded (if is_rooted (dir_of pattern) then dir_of pattern else place ++ codes "/" ++ dir_of pattern) (normal_of (dir_of pattern))))

-- ---- changes of a world that leave its roots

module _ (roots : List Text) where
  add_back : (sources : Value) (w : World) → AreSettled roots (add_each sources w) → AreSettled roots w
  add_back [] w good = good
  add_back (source ∷ sources) w good = add_back sources _ good

  noted_back : (rule : Noting) (sources : Value) (w : World) → AreSettled roots (noted rule sources w) → AreSettled roots w
  noted_back notes.Depends sources w good = add_back sources w good
  noted_back notes.Includes sources w good = add_back sources w good
  noted_back notes.Always sources w good = good
  noted_back notes.NotFile sources w good = good

  import_back : (from : Text) (names : Value) (to : Text) (places : Value) (w : World) → AreSettled roots (import_each from names to places w) → AreSettled roots w
  import_back from [] to places w good = good
  import_back from (name ∷ names) to [] w good = good
  import_back from (name ∷ names) to (place ∷ places) w good = import_back from names to places _ good

  -- roots that are added were not settled before
  roots_back : (b : Bool) (dirs : List Text) (w : World) → AreSettled roots (if b then add_roots dirs w else w) → AreSettled roots w
  roots_back false dirs w good = good
  roots_back true dirs w good = λ frozen.
      let stay : add_roots dirs w ≡ w = ap (λ f. if f then w else record w { roots = w.roots ++ dirs }) frozen in
      subst (AreSettled roots) stay good frozen

  -- ---- answers

  abbrev Ended : Answer → Type 0
  Ended (answers step ws kept) = AreSettled roots ws.now
  Ended (refuses cause ws kept) = AreSettled roots ws.now

  -- where an answer ends with the roots, they were there before, and the other answer is the same
  abbrev Back : Answer → Answer → Worlds → Type 0
  Back one two ws = Ended one → AreSettled roots ws.now × (one ≡ two)

  read_back : (found : Result NativeStep NativeFault) (ws : Worlds) (kept : Kept) → Back (read_answer found ws kept) (read_answer found ws kept) ws
  read_back (Ok step) ws kept good = (good, refl)
  read_back (Err cause) ws kept good = (good, refl)

  foreign_back : (rule : Noting) (found : Option Text) (change : World → World) (ws : Worlds) (kept : Kept) → (AreSettled roots (change ws.now) → AreSettled roots ws.now)
      → Back (unless_foreign rule found change ws kept) (unless_foreign rule found change ws kept) ws
  foreign_back rule (Some text) change ws kept back good = (good, refl)
  foreign_back rule None change ws kept back good = (back good, refl)

  missing_back : (owner : Text) (found : Option Text) (change : World → World) (ws : Worlds) (kept : Kept) → (AreSettled roots (change ws.now) → AreSettled roots ws.now)
      → Back (unless_missing owner found change ws kept) (unless_missing owner found change ws kept) ws
  missing_back owner (Some name) change ws kept back good = (good, refl)
  missing_back owner None change ws kept back good = (back good, refl)

  imported_back : (from : Text) (names : Value) (to : Text) (places : Value) (ws : Worlds) (kept : Kept) → Back (imported from names to places ws kept) (imported from names to places ws kept) ws
  imported_back from names to places ws kept =
      missing_back from (missing_rule ws.now.rules from names) (import_each from names to places) ws kept (import_back from names to places ws.now)

  either_back : (b : Bool) (one two first second : Answer) (ws : Worlds) → Back one two ws → Back first second ws → Back (if b then one else first) (if b then two else second) ws
  either_back true one two first second ws left right = left
  either_back false one two first second ws left right = right

  module _ (sight : Sight) (folder : Folder) (names : Text → List Text) (agree : NamesAgree roots sight.names names) where
    abbrev other : Sight
    other = seen_over sight folder names

    agree_at : (found : List Text) → found ≡ roots → NamesAgree found sight.names names
    agree_at found is = subst (λ rs. NamesAgree rs sight.names names) (sym is) agree

    row_back : (native : Native) (lists : List Value) (refused : Option Text) (ws : Worlds) (kept : Kept) → Back (row native lists sight refused ws kept) (row native lists other refused ws kept) ws
    row_back natives.Echo lists refused ws kept good = (good, refl)
    row_back (natives.Reads rule) lists refused ws kept good = read_back (read rule lists refused ws.now) ws kept good
    row_back (natives.Notes rule) lists refused ws kept good =
        foreign_back rule (foreign_in ws.now.step rule lists) (noted rule (list_at 1 lists)) ws kept (noted_back rule (list_at 1 lists) ws.now) good
    row_back natives.Import lists refused ws kept good =
        either_back (length (list_at 1 lists) == length (list_at 3 lists))
        (imported (first_of (list_at 0 lists)) (list_at 1 lists) (first_of (list_at 2 lists)) (list_at 3 lists) ws kept)
        (imported (first_of (list_at 0 lists)) (list_at 1 lists) (first_of (list_at 2 lists)) (list_at 3 lists) ws kept)
        (refuses of_arity ws kept) (refuses of_arity ws kept) ws
        (imported_back (first_of (list_at 0 lists)) (list_at 1 lists) (first_of (list_at 2 lists)) (list_at 3 lists) ws kept) (λ still. (still, refl)) good
    row_back natives.Export lists refused ws kept good = imported_back (first_of (list_at 0 lists)) (list_at 1 lists) [] (list_at 1 lists) ws kept good
    row_back natives.Glob lists refused ws kept good =
        let is : ws.now.roots ≡ roots = good refl in
        ((λ frozen. is), ap (λ texts. value texts (changed freeze_roots ws) kept) (globbed_same ws.now.roots sight folder names (agree_at ws.now.roots is) (list_at 0 lists) (list_at 1 lists)))
    row_back natives.ProjectGlob lists refused ws kept good =
        let is : ws.now.roots ≡ roots = good refl in
        ((λ frozen. is), ap (λ texts. value texts (changed freeze_roots ws) kept) (project_same ws.now.roots sight folder names (agree_at ws.now.roots is) ws.now.place (list_at 0 lists) (list_at 1 lists)))

    declare_back : (marked : List World) (name : Text) (lists : List Value) (line : ℕ) (ws : Worlds) (kept : Kept) → Back (declare_at marked name lists line ws kept) (declare_at marked name lists line ws kept) ws
    declare_back [] name lists line ws kept good =
        (roots_back (is_project name && names_output_dirs lists && not (is_refused ws.now.place ws.now.frozen lists)) (root_paths lists) ws.now good, refl)
    declare_back (world ∷ worlds) name lists line ws kept good = (good, refl)

    call_back : (native : Option Native) (name : Text) (lists : List Value) (line : ℕ) (refused : Option Text) (ws : Worlds) (kept : Kept)
        → Back (call_of native name lists line sight refused ws kept) (call_of native name lists line other refused ws kept) ws
    call_back (Some native) name lists line refused ws kept good =
        either_back (has_shape (shape_of native) lists) (row native lists sight refused ws kept) (row native lists other refused ws kept) (refuses of_arity ws kept) (refuses of_arity ws kept) ws
        (row_back native lists refused ws kept) (λ still. (still, refl)) good
    call_back None name lists line refused ws kept good =
        either_back (is_declaring name) (declare name lists line ws kept) (declare name lists line ws kept) (answers steps.Unknown ws kept) (answers steps.Unknown ws kept) ws
        (declare_back ws.marked name lists line ws kept) (λ still. (still, refl)) good

    -- what is told, as the state that is left
    told_back : (t u : Answer) (s : State Kept) → Back t u s.worlds → EndsInTold roots s t → HasRoots roots s × (t ≡ u)
    told_back (answers step ws kept) u s back good = back good
    told_back (refuses cause ws kept) u s back good = back good

pub show_same : (roots : List Text) (setting : Setting Kept) (folder : Folder) (names : Text → List Text) (reading : Text → Reading)
    → setting.natives ≡ jam_meaning → NamesAgree roots setting.sight.names names → ((path : Text) → is_hidden roots path ≡ false → setting.reading path ≡ reading path)
    → ShowSame roots setting (over setting folder names reading)
show_same roots setting folder names reading natives agree reads =
    let asks : Text → List Value → ℕ → State Kept → Sight → Meaning Kept → Answer =
    λ name given line s sight m. m.call name given line sight (refused_here setting.refused s.left) s.worlds s.kept in
    record {
      reads = reads;
      native = λ name given line s. subst
          (λ m. EndsInTold roots s (asks name given line s setting.sight m) → HasRoots roots s × (asks name given line s setting.sight m ≡ asks name given line s (seen_over setting.sight folder names) m))
          (sym natives)
          (told_back roots setting.sight folder names agree (asks name given line s setting.sight jam_meaning) (asks name given line s (seen_over setting.sight folder names) jam_meaning) s
          (call_back roots setting.sight folder names agree (native_of name) name given line (refused_here setting.refused s.left) s.worlds s.kept));
      records = λ name given line s. subst (λ m. EndsInTold roots s (m.acted name given line s.worlds s.kept) → HasRoots roots s) (sym natives) (λ good. good);
    }
