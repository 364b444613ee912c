-- The native rules leave frozen output roots, and add none that may not be one.
use Rattle.std.proofs.Common.{◌≡◌, ℕ, Bool, true, false, not, ◌&&◌, ◌||◌, ◌==◌, List, [], ◌∷◌, ◌++◌, codes, length, map, Option, Some, None, Result, Ok, Err, refl, sym, ap, ◌∙◌, subst}
use Rattle.std.specs.Prelude.{if◌then◌else◌}
use Rattle.std.specs.List.{list_any}
use Rattle.std.specs.Str.{bytes_eq}
use Rattle.std.proofs.lemmas.List.Elements.{Contains-append_left}
use Rattle.std.proofs.lemmas.Bool.{false≢true, and_parts, or_parts, not-true}
use Rattle.b2_base.specs.Lists.{list_at, first_of}
use Rattle.b2_base.specs.Segments.{normal_of}
use Rattle.b2_base.specs.Shapes.{has_shape}
use Rattle.b2_base.proofs.NormalMakesNormalForms.{is_normal_normal}
use Rattle.jam_journal.specs.Tables.{Text}
use Rattle.jam_journal.specs.Scopes.{Value}
use Rattle.jam_scope.specs.Worlds.{World, Worlds}
use Rattle.jam_scope.specs.Changes.{add_roots}
use Rattle.jam_meaning.specs.declared.native_answer.NativeStep.{NativeStep}
use Rattle.jam_meaning.specs.declared.native_answer.NativeStep.TheVariants as steps
use Rattle.jam_meaning.specs.Refused.{refused_here}
use Rattle.jam_meaning.specs.Settings.{answers, refuses, of_arity, Sight, Setting}
use Rattle.jam_meaning.specs.States.{State}
use Rattle.jam_meaning.specs.RuleCalls.{native_answer}
use Rattle.jam_meaning.specs.Kept.{EndsTold}
use Rattle.jam_meaning.proofs.IsKept.{IsKept}
use Rattle.jam_patterns.specs.declared.native_fault.NativeFault.{NativeFault}
use Rattle.jam_natives.specs.declared.native.Native.{Native}
use Rattle.jam_natives.specs.declared.native.Native.TheVariants as natives
use Rattle.jam_natives.specs.declared.native.Noting.{Noting}
use Rattle.jam_natives.specs.declared.native.Noting.TheVariants as notes
use Rattle.jam_natives.specs.Keeping.{Kept}
use Rattle.jam_natives.specs.OutputDirs.{names_output_dirs, output_dirs, root_paths, is_no_root, is_refused}
use Rattle.jam_natives.specs.Rules.{native_of, shape_of, is_declaring}
use Rattle.jam_natives.specs.Rows.{Answer, read, read_answer, add_each, noted, foreign_in, unless_foreign, import_each, unless_missing, missing_rule, imported, is_project, with_roots, declare_at, declare, row, call_of, jam_meaning}
use Rattle.jam_source_laws.specs.Sources.{AreRoots, KeepsRoots, RootsStay}

pub still : (w : World) → KeepsRoots w w
still w = ((λ frozen. (frozen, refl)), (λ are. are), (λ root c. c))

pub roots_then : (a b c : World) → KeepsRoots a b → KeepsRoots b c → KeepsRoots a c
roots_then a b c one two = (
  (λ frozen. ((two.0 (one.0 frozen).0).0, (two.0 (one.0 frozen).0).1 ∙ (one.0 frozen).1)),
  (λ are. two.1 (one.1 are)),
  (λ root c. two.2 root (one.2 root c)),
)

every_append : (xs ys : List Text) → AreRoots xs → AreRoots ys → AreRoots (xs ++ ys)
every_append [] ys a b = b
every_append (x ∷ xs) ys a b = (a.0, every_append xs ys a.1 b)

-- ---- changes of a world

add_stays : (sources : Value) (w : World) → KeepsRoots w (add_each sources w)
add_stays [] w = still w
add_stays (source ∷ sources) w = add_stays sources _

noted_stays : (rule : Noting) (sources : Value) (w : World) → KeepsRoots w (noted rule sources w)
noted_stays notes.Depends sources w = add_stays sources w
noted_stays notes.Includes sources w = add_stays sources w
noted_stays notes.Always sources w = still w
noted_stays notes.NotFile sources w = still w

import_stays : (from : Text) (names : Value) (to : Text) (places : Value) (w : World) → KeepsRoots w (import_each from names to places w)
import_stays from [] to places w = still w
import_stays from (name ∷ names) to [] w = still w
import_stays from (name ∷ names) to (place ∷ places) w = import_stays from names to places _

-- directories of which none is the folder make roots
roots_are : (dirs : Value) → list_any is_no_root dirs ≡ false → AreRoots (map normal_of dirs)
roots_are [] none = tt
roots_are (dir ∷ dirs) none =
    let both = or_parts (is_no_root dir) (list_any is_no_root dirs) none in
    (record { normal = is_normal_normal dir; not_here = both.0 }, roots_are dirs both.1)

added : (frozen : Bool) (dirs : Value) (w : World) → w.frozen ≡ frozen → AreRoots dirs → KeepsRoots w (if frozen then w else record w { roots = w.roots ++ dirs })
added true dirs w is are = still w
added false dirs w is are = (
  (λ frozen. absurd (false≢true (sym is ∙ frozen))),
  (λ were. every_append w.roots dirs were are),
  (λ root c. Contains-append_left w.roots dirs root c),
)

either_added : (b : Bool) (dirs : Value) (w : World) → (b ≡ true → AreRoots dirs) → KeepsRoots w (if b then add_roots dirs w else w)
either_added true dirs w are = added w.frozen dirs w refl (are refl)
either_added false dirs w are = still w

with_stays : (name : Text) (lists : List Value) (w : World) → KeepsRoots w (with_roots name lists w)
with_stays name lists w =
    either_added (is_project name && names_output_dirs lists && not (is_refused w.place w.frozen lists)) (root_paths lists) w (λ adds.
    let more = and_parts (is_project name && names_output_dirs lists) (not (is_refused w.place w.frozen lists)) adds in
    let last = and_parts (is_project name) (names_output_dirs lists) more.0 in
    let fine : is_refused w.place w.frozen lists ≡ false = not-true (is_refused w.place w.frozen lists) more.1 in
    let rest : (not (bytes_eq w.place (codes ".")) || w.frozen || list_any is_no_root (output_dirs lists)) ≡ false =
    sym (ap (λ b. b && (not (bytes_eq w.place (codes ".")) || w.frozen || list_any is_no_root (output_dirs lists))) last.1) ∙ fine in
    roots_are (output_dirs lists) (or_parts (not (bytes_eq w.place (codes ".")) || w.frozen) (list_any is_no_root (output_dirs lists)) rest).1)

-- ---- answers

abbrev Stays : Worlds → Answer → Type 0
Stays ws (answers step later kept) = KeepsRoots ws.now later.now
Stays ws (refuses cause later kept) = KeepsRoots ws.now later.now

read_stays : (found : Result NativeStep NativeFault) (ws : Worlds) (kept : Kept) → Stays ws (read_answer found ws kept)
read_stays (Ok step) ws kept = still ws.now
read_stays (Err cause) ws kept = still ws.now

foreign_stays : (rule : Noting) (found : Option Text) (change : World → World) (ws : Worlds) (kept : Kept) → KeepsRoots ws.now (change ws.now) → Stays ws (unless_foreign rule found change ws kept)
foreign_stays rule (Some text) change ws kept h = still ws.now
foreign_stays rule None change ws kept h = h

missing_stays : (owner : Text) (found : Option Text) (change : World → World) (ws : Worlds) (kept : Kept) → KeepsRoots ws.now (change ws.now) → Stays ws (unless_missing owner found change ws kept)
missing_stays owner (Some name) change ws kept h = still ws.now
missing_stays owner None change ws kept h = h

imported_stays : (from : Text) (names : Value) (to : Text) (places : Value) (ws : Worlds) (kept : Kept) → Stays ws (imported from names to places ws kept)
imported_stays from names to places ws kept =
    missing_stays from (missing_rule ws.now.rules from names) (import_each from names to places) ws kept (import_stays from names to places ws.now)

either_stays : (b : Bool) (one two : Answer) (ws : Worlds) → Stays ws one → Stays ws two → Stays ws (if b then one else two)
either_stays true one two ws first second = first
either_stays false one two ws first second = second

row_stays : (native : Native) (lists : List Value) (sight : Sight) (refused : Option Text) (ws : Worlds) (kept : Kept) → Stays ws (row native lists sight refused ws kept)
row_stays natives.Echo lists sight refused ws kept = still ws.now
row_stays (natives.Reads rule) lists sight refused ws kept = read_stays (read rule lists refused ws.now) ws kept
row_stays (natives.Notes rule) lists sight refused ws kept =
    foreign_stays rule (foreign_in ws.now.step rule lists) (noted rule (list_at 1 lists)) ws kept (noted_stays rule (list_at 1 lists) ws.now)
row_stays natives.Import lists sight refused ws kept =
    either_stays (length (list_at 1 lists) == length (list_at 3 lists))
    (imported (first_of (list_at 0 lists)) (list_at 1 lists) (first_of (list_at 2 lists)) (list_at 3 lists) ws kept) (refuses of_arity ws kept) ws
    (imported_stays (first_of (list_at 0 lists)) (list_at 1 lists) (first_of (list_at 2 lists)) (list_at 3 lists) ws kept) (still ws.now)
row_stays natives.Export lists sight refused ws kept = imported_stays (first_of (list_at 0 lists)) (list_at 1 lists) [] (list_at 1 lists) ws kept
row_stays natives.Glob lists sight refused ws kept = ((λ frozen. (refl, refl)), (λ are. are), (λ root c. c))
row_stays natives.ProjectGlob lists sight refused ws kept = ((λ frozen. (refl, refl)), (λ are. are), (λ root c. c))

declare_stays : (marked : List World) (name : Text) (lists : List Value) (line : ℕ) (ws : Worlds) (kept : Kept) → Stays ws (declare_at marked name lists line ws kept)
declare_stays [] name lists line ws kept = with_stays name lists ws.now
declare_stays (world ∷ worlds) name lists line ws kept = still ws.now

call_stays : (native : Option Native) (name : Text) (lists : List Value) (line : ℕ) (sight : Sight) (refused : Option Text) (ws : Worlds) (kept : Kept)
    → Stays ws (call_of native name lists line sight refused ws kept)
call_stays (Some native) name lists line sight refused ws kept =
    either_stays (has_shape (shape_of native) lists) (row native lists sight refused ws kept) (refuses of_arity ws kept) ws (row_stays native lists sight refused ws kept) (still ws.now)
call_stays None name lists line sight refused ws kept =
    either_stays (is_declaring name) (declare name lists line ws kept) (answers steps.Unknown ws kept) ws (declare_stays ws.marked name lists line ws kept) (still ws.now)

told_stays : (t : Answer) (s : State Kept) → Stays s.worlds t → EndsTold RootsStay s t
told_stays (answers step worlds kept) s h = h
told_stays (refuses cause worlds kept) s h = h

pub roots_kept : (setting : Setting Kept) → setting.natives ≡ jam_meaning → IsKept setting RootsStay RootsStay
roots_kept setting is = record {
  same = λ s. still s.worlds.now;
  chain = λ a b c one two. roots_then a.worlds.now b.worlds.now c.worlds.now one two;
  chain_loose = λ a b c one two. roots_then a.worlds.now b.worlds.now c.worlds.now one two;
  loosen = λ s later h. h;
  turn = λ s left taken. still s.worlds.now;
  assigns = λ name value s. still s.worlds.now;
  binds = λ name value s. still s.worlds.now;
  frame = λ owner s later h. h;
  call_frame = λ owner s later h. h;
  sets_own = λ target name value s. still s.worlds.now;
  rules = λ name params block path line s. still s.worlds.now;
  actions = λ name body s. still s.worlds.now;
  roots = λ s. ((λ frozen. (refl, refl)), (λ are. are), (λ root c. c));
  native = λ name given line s. told_stays (native_answer setting name given line s) s
      (subst (λ m. Stays s.worlds (m.call name given line setting.sight (refused_here setting.refused s.left) s.worlds s.kept)) (sym is)
      (call_stays (native_of name) name given line setting.sight (refused_here setting.refused s.left) s.worlds s.kept));
  records = λ name given line s. subst (λ m. EndsTold RootsStay s (m.acted name given line s.worlds s.kept)) (sym is) (still s.worlds.now);
}
