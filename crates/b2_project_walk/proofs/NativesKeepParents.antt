-- The native rules put no module below another one.
use Rattle.std.proofs.Common.{◌≡◌, ℕ, Bool, true, false, not, ◌&&◌, ◌==◌, List, [], ◌∷◌, ◌++◌, length, Option, Some, None, Result, Ok, Err, refl, ap, ◌∙◌}
use Rattle.std.specs.Prelude.{if◌then◌else◌}
use Rattle.b2_base.specs.Lists.{list_at, first_of}
use Rattle.jam_journal.specs.Tables.{Text, Table}
use Rattle.jam_journal.specs.Scopes.{Value}
use Rattle.jam_scope.specs.Worlds.{World, Worlds}
use Rattle.jam_scope.specs.Changes.{add_roots}
use Rattle.jam_meaning.specs.declared.native_answer.NativeStep.{NativeStep}
use Rattle.jam_meaning.specs.declared.native_answer.NativeStep.TheVariants as steps
use Rattle.jam_meaning.specs.Refused.{refused_here}
use Rattle.jam_meaning.specs.Settings.{Told, answers, refuses, of_arity, Sight, Setting}
use Rattle.jam_meaning.specs.States.{State}
use Rattle.jam_meaning.specs.RuleCalls.{native_answer, acted_answer}
use Rattle.jam_meaning.specs.Kept.{EndsTold}
use Rattle.jam_meaning.specs.Laws.{SameParents, KeepParents}
use Rattle.jam_patterns.specs.declared.native_fault.NativeFault.{NativeFault}
use Rattle.jam_natives.specs.declared.native.Native.{Native}
use Rattle.jam_natives.specs.declared.native.Native.TheVariants as natives
use Rattle.jam_natives.specs.declared.native.Noting.{Noting}
use Rattle.jam_natives.specs.declared.native.Noting.TheVariants as notes
use Rattle.jam_natives.specs.Keeping.{Kept}
use Rattle.jam_natives.specs.OutputDirs.{names_output_dirs, root_paths, is_refused}
use Rattle.jam_natives.specs.Rules.{native_of, shape_of, is_declaring}
use Rattle.b2_base.specs.Shapes.{has_shape}
use Rattle.jam_natives.specs.Rows.{read, read_answer, add_each, noted, foreign_in, unless_foreign, import_each, unless_missing, missing_rule, imported, is_project, declare_at, declare, row, call_of, jam_meaning}

-- the modules above modules, after an answer
abbrev parents_after : {A : Type 0} → Told A Kept → Table Text
parents_after (answers step ws kept) = ws.now.parents
parents_after (refuses cause ws kept) = ws.now.parents

read_keeps : (found : Result NativeStep NativeFault) (ws : Worlds) (kept : Kept) → parents_after (read_answer found ws kept) ≡ ws.now.parents
read_keeps (Ok step) ws kept = refl
read_keeps (Err cause) ws kept = refl

add_keeps : (sources : Value) (w : World) → (add_each sources w).parents ≡ w.parents
add_keeps [] w = refl
add_keeps (source ∷ sources) w = add_keeps sources _

noted_keeps : (rule : Noting) (sources : Value) (w : World) → (noted rule sources w).parents ≡ w.parents
noted_keeps notes.Depends sources w = add_keeps sources w
noted_keeps notes.Includes sources w = add_keeps sources w
noted_keeps notes.Always sources w = refl
noted_keeps notes.NotFile sources w = refl

foreign_keeps : (rule : Noting) (found : Option Text) (change : World → World) (ws : Worlds) (kept : Kept) → (change ws.now).parents ≡ ws.now.parents → parents_after (unless_foreign rule found change ws kept) ≡ ws.now.parents
foreign_keeps rule (Some text) change ws kept h = refl
foreign_keeps rule None change ws kept h = h

import_keeps : (from : Text) (names : Value) (to : Text) (places : Value) (w : World) → (import_each from names to places w).parents ≡ w.parents
import_keeps from [] to places w = refl
import_keeps from (name ∷ names) to [] w = refl
import_keeps from (name ∷ names) to (place ∷ places) w = import_keeps from names to places _

missing_keeps : (owner : Text) (found : Option Text) (change : World → World) (ws : Worlds) (kept : Kept) → (change ws.now).parents ≡ ws.now.parents → parents_after (unless_missing owner found change ws kept) ≡ ws.now.parents
missing_keeps owner (Some name) change ws kept h = refl
missing_keeps owner None change ws kept h = h

either_keeps : (b : Bool) (first second : Told NativeStep Kept) (ps : Table Text) → parents_after first ≡ ps → parents_after second ≡ ps → parents_after (if b then first else second) ≡ ps
either_keeps true first second ps one two = one
either_keeps false first second ps one two = two

either_world : (b : Bool) (first second : World) (ps : Table Text) → first.parents ≡ ps → second.parents ≡ ps → (if b then first else second).parents ≡ ps
either_world true first second ps one two = one
either_world false first second ps one two = two

-- ---- each row

imported_keeps : (from : Text) (names : Value) (to : Text) (places : Value) (ws : Worlds) (kept : Kept) → parents_after (imported from names to places ws kept) ≡ ws.now.parents
imported_keeps from names to places ws kept =
    missing_keeps from (missing_rule ws.now.rules from names) (import_each from names to places) ws kept (import_keeps from names to places ws.now)

row_keeps : (native : Native) (lists : List Value) (sight : Sight) (refused : Option Text) (ws : Worlds) (kept : Kept) → parents_after (row native lists sight refused ws kept) ≡ ws.now.parents
row_keeps natives.Echo lists sight refused ws kept = refl
row_keeps (natives.Reads rule) lists sight refused ws kept = read_keeps (read rule lists refused ws.now) ws kept
row_keeps (natives.Notes rule) lists sight refused ws kept =
    foreign_keeps rule (foreign_in ws.now.step rule lists) (noted rule (list_at 1 lists)) ws kept (noted_keeps rule (list_at 1 lists) ws.now)
row_keeps natives.Import lists sight refused ws kept =
    either_keeps (length (list_at 1 lists) == length (list_at 3 lists))
    (imported (first_of (list_at 0 lists)) (list_at 1 lists) (first_of (list_at 2 lists)) (list_at 3 lists) ws kept) (refuses of_arity ws kept) ws.now.parents
    (imported_keeps (first_of (list_at 0 lists)) (list_at 1 lists) (first_of (list_at 2 lists)) (list_at 3 lists) ws kept) refl
row_keeps natives.Export lists sight refused ws kept = imported_keeps (first_of (list_at 0 lists)) (list_at 1 lists) [] (list_at 1 lists) ws kept
row_keeps natives.Glob lists sight refused ws kept = refl
row_keeps natives.ProjectGlob lists sight refused ws kept = refl

roots_keep : (b : Bool) (dirs : List Text) (w : World) → (if b then add_roots dirs w else w).parents ≡ w.parents
roots_keep b dirs w =
    either_world b (add_roots dirs w) w w.parents (either_world w.frozen w (record w { roots = w.roots ++ dirs }) w.parents refl refl) refl

declare_keeps : (marked : List World) (name : Text) (lists : List Value) (line : ℕ) (ws : Worlds) (kept : Kept) → parents_after (declare_at marked name lists line ws kept) ≡ ws.now.parents
declare_keeps [] name lists line ws kept =
    roots_keep (is_project name && names_output_dirs lists && not (is_refused ws.now.place ws.now.frozen lists)) (root_paths lists) ws.now
declare_keeps (world ∷ worlds) name lists line ws kept = refl

call_keeps : (native : Option Native) (name : Text) (lists : List Value) (line : ℕ) (sight : Sight) (refused : Option Text) (ws : Worlds) (kept : Kept)
    → parents_after (call_of native name lists line sight refused ws kept) ≡ ws.now.parents
call_keeps (Some native) name lists line sight refused ws kept =
    either_keeps (has_shape (shape_of native) lists) (row native lists sight refused ws kept) (refuses of_arity ws kept) ws.now.parents (row_keeps native lists sight refused ws kept) refl
call_keeps None name lists line sight refused ws kept =
    either_keeps (is_declaring name) (declare name lists line ws kept) (answers steps.Unknown ws kept) ws.now.parents (declare_keeps ws.marked name lists line ws kept) refl

-- ---- running files

told_keeps : {A : Type 0} (told : Told A Kept) (s : State Kept) → parents_after told ≡ s.worlds.now.parents → EndsTold SameParents s told
told_keeps (answers a worlds kept) s h = h
told_keeps (refuses cause worlds kept) s h = h

pub keep_parents : (setting : Setting Kept) → setting.natives ≡ jam_meaning → KeepParents setting
keep_parents setting is = record {
  native = λ name given line s. told_keeps (native_answer setting name given line s) s
      (ap (λ m. parents_after (m.call name given line setting.sight (refused_here setting.refused s.left) s.worlds s.kept)) is
      ∙ call_keeps (native_of name) name given line setting.sight (refused_here setting.refused s.left) s.worlds s.kept);
  records = λ name given line s. told_keeps (acted_answer setting name given line s) s (ap (λ m. parents_after (m.acted name given line s.worlds s.kept)) is);
}
