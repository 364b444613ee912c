-- The rules of a graph and the native rules only add lines of ECHO.
use Rattle.std.proofs.Common.{◌≡◌, ℕ, Bool, true, false, ◌==◌, List, [], ◌∷◌, ◌++◌, length, Option, Some, None, Result, Ok, Err, refl, sym, subst}
use Rattle.std.specs.Prelude.{if◌then◌else◌}
use Rattle.std.proofs.lemmas.List.{append-nil}
use Rattle.b2_base.specs.Lists.{list_at, first_of}
use Rattle.b2_base.specs.Shapes.{has_shape}
use Rattle.jam_journal.specs.Tables.{Text}
use Rattle.jam_journal.specs.Scopes.{Value}
use Rattle.jam_scope.specs.Worlds.{World, Worlds}
use Rattle.jam_scope.specs.Lines.{actions_place}
use Rattle.jam_meaning.specs.declared.native_answer.NativeStep.{NativeStep}
use Rattle.jam_meaning.specs.declared.native_answer.NativeStep.TheVariants as steps
use Rattle.jam_meaning.specs.Refused.{refused_here}
use Rattle.jam_meaning.specs.Settings.{Told, answers, refuses, of_arity, Sight, Setting, Meaning}
use Rattle.jam_meaning.specs.States.{State}
use Rattle.jam_meaning.specs.RuleCalls.{native_answer, acted_answer}
use Rattle.jam_meaning.specs.Kept.{EndsTold, Grows, OnlyAdds}
use Rattle.jam_patterns.specs.declared.native_fault.NativeFault.{NativeFault}
use Rattle.jam_natives.specs.declared.native.Native.{Native}
use Rattle.jam_natives.specs.declared.native.Native.TheVariants as natives
use Rattle.jam_natives.specs.declared.native.Noting.{Noting}
use Rattle.jam_natives.specs.Keeping.{Kept}
use Rattle.jam_natives.specs.Rules.{native_of, shape_of, is_declaring}
use Rattle.jam_natives.specs.Texts.{line_of}
use Rattle.jam_natives.specs.Rows as jam
use Rattle.jam_natives.specs.Rows.{read, read_answer, noted, foreign_in, unless_foreign, import_each, unless_missing, missing_rule, imported, keep, declare_at, declare, row, jam_meaning}
use Rattle.jam_graph.specs.declared.rule.GraphRule.{GraphRule}
use Rattle.jam_graph.specs.declared.said.Said.{Said}
use Rattle.jam_graph.specs.Graphs.{GraphKept, graph_rule, shape_of as lists_of, said_by, and_said, beside, call_of, act_said, and_said_if, graph_meaning}

-- the lines are those from before, with more after them
abbrev Adds : Kept → Kept → Type 0
Adds kept now = (more : List Text) × (now.echoes ≡ kept.echoes ++ more)

adds_none : (kept : Kept) → Adds kept kept
adds_none kept = ([], sym (append-nil kept.echoes))

adds_as : (kept now : Kept) → now ≡ kept → Adds kept now
adds_as kept now is = subst (Adds kept) (sym is) (adds_none kept)

-- what is kept after an answer
abbrev after : {A R : Type 0} → Told A R → R
after (answers step ws kept) = kept
after (refuses cause ws kept) = kept

-- ---- the native rules

read_keeps : (found : Result NativeStep NativeFault) (ws : Worlds) (kept : Kept) → after (read_answer found ws kept) ≡ kept
read_keeps (Ok step) ws kept = refl
read_keeps (Err cause) ws kept = refl

foreign_keeps : (rule : Noting) (found : Option Text) (change : World → World) (ws : Worlds) (kept : Kept) → after (unless_foreign rule found change ws kept) ≡ kept
foreign_keeps rule (Some text) change ws kept = refl
foreign_keeps rule None change ws kept = refl

missing_keeps : (owner : Text) (found : Option Text) (change : World → World) (ws : Worlds) (kept : Kept) → after (unless_missing owner found change ws kept) ≡ kept
missing_keeps owner (Some name) change ws kept = refl
missing_keeps owner None change ws kept = refl

imported_keeps : (from : Text) (names : Value) (to : Text) (places : Value) (ws : Worlds) (kept : Kept) → after (imported from names to places ws kept) ≡ kept
imported_keeps from names to places ws kept = missing_keeps from (missing_rule ws.now.rules from names) (import_each from names to places) ws kept

-- one of two answers that only add
either_adds : (b : Bool) (first second : Told NativeStep Kept) (kept : Kept) → Adds kept (after first) → Adds kept (after second) → Adds kept (after (if b then first else second))
either_adds true first second kept one two = one
either_adds false first second kept one two = two

echo_adds : (marked : List World) (texts : Value) (kept : Kept) → Adds kept (keep marked (λ k. record k { echoes = k.echoes ++ line_of texts ∷ [] }) kept)
echo_adds [] texts kept = (line_of texts ∷ [], refl)
echo_adds (world ∷ worlds) texts kept = adds_none kept

declare_adds : (marked : List World) (name : Text) (lists : List Value) (line : ℕ) (ws : Worlds) (kept : Kept) → Adds kept (after (declare_at marked name lists line ws kept))
declare_adds [] name lists line ws kept = ([], sym (append-nil kept.echoes))
declare_adds (world ∷ worlds) name lists line ws kept = adds_none kept

row_adds : (native : Native) (lists : List Value) (sight : Sight) (refused : Option Text) (ws : Worlds) (kept : Kept) → Adds kept (after (row native lists sight refused ws kept))
row_adds natives.Echo lists sight refused ws kept = echo_adds ws.marked (list_at 0 lists) kept
row_adds (natives.Reads rule) lists sight refused ws kept =
    adds_as kept (after (row (natives.Reads rule) lists sight refused ws kept)) (read_keeps (read rule lists refused ws.now) ws kept)
row_adds (natives.Notes rule) lists sight refused ws kept =
    adds_as kept (after (row (natives.Notes rule) lists sight refused ws kept)) (foreign_keeps rule (foreign_in ws.now.step rule lists) (noted rule (list_at 1 lists)) ws kept)
row_adds natives.Import lists sight refused ws kept =
    either_adds (length (list_at 1 lists) == length (list_at 3 lists))
    (imported (first_of (list_at 0 lists)) (list_at 1 lists) (first_of (list_at 2 lists)) (list_at 3 lists) ws kept) (refuses of_arity ws kept) kept
    (adds_as kept (after (imported (first_of (list_at 0 lists)) (list_at 1 lists) (first_of (list_at 2 lists)) (list_at 3 lists) ws kept))
    (imported_keeps (first_of (list_at 0 lists)) (list_at 1 lists) (first_of (list_at 2 lists)) (list_at 3 lists) ws kept)) (adds_none kept)
row_adds natives.Export lists sight refused ws kept =
    adds_as kept (after (row natives.Export lists sight refused ws kept)) (imported_keeps (first_of (list_at 0 lists)) (list_at 1 lists) [] (list_at 1 lists) ws kept)
row_adds natives.Glob lists sight refused ws kept = adds_none kept
row_adds natives.ProjectGlob lists sight refused ws kept = adds_none kept

call_adds : (native : Option Native) (name : Text) (lists : List Value) (line : ℕ) (sight : Sight) (refused : Option Text) (ws : Worlds) (kept : Kept)
    → Adds kept (after (jam.call_of native name lists line sight refused ws kept))
call_adds (Some native) name lists line sight refused ws kept =
    either_adds (has_shape (shape_of native) lists) (row native lists sight refused ws kept) (refuses of_arity ws kept) kept (row_adds native lists sight refused ws kept) (adds_none kept)
call_adds None name lists line sight refused ws kept =
    either_adds (is_declaring name) (declare name lists line ws kept) (answers steps.Unknown ws kept) kept (declare_adds ws.marked name lists line ws kept) (adds_none kept)

-- ---- the rules of a graph

beside_same : {A : Type 0} (kept : GraphKept) (told : Told A Kept) → (after (beside kept told)).jam ≡ after told
beside_same kept (answers a ws jam) = refl
beside_same kept (refuses cause ws jam) = refl

either_both : (b : Bool) (first second : Told NativeStep GraphKept) (kept : GraphKept) → Adds kept.jam (after first).jam → Adds kept.jam (after second).jam → Adds kept.jam (after (if b then first else second)).jam
either_both true first second kept one two = one
either_both false first second kept one two = two

graph_adds : (rule : Option GraphRule) (name : Text) (lists : List Value) (line : ℕ) (sight : Sight) (refused : Option Text) (ws : Worlds) (kept : GraphKept)
    → Adds kept.jam (after (call_of rule name lists line sight refused ws kept)).jam
graph_adds (Some rule) name lists line sight refused ws kept =
    either_both (has_shape (lists_of rule) lists) (answers (steps.Value []) ws (and_said (said_by rule lists) kept)) (refuses of_arity ws kept) kept (adds_none kept.jam) (adds_none kept.jam)
graph_adds None name lists line sight refused ws kept =
    either_both (is_declaring name) (answers steps.Unknown ws kept) (beside kept (jam_meaning.call name lists line sight refused ws kept.jam)) kept (adds_none kept.jam)
    (subst (Adds kept.jam) (sym (beside_same kept (jam_meaning.call name lists line sight refused ws kept.jam))) (call_adds (native_of name) name lists line sight refused ws kept.jam))

act_adds : (said : Option Said) (kept : GraphKept) → Adds kept.jam (and_said_if said kept).jam
act_adds None kept = adds_none kept.jam
act_adds (Some said) kept = adds_none kept.jam

-- ---- what is kept between calls

abbrev pub echoes_of : GraphKept → List Text
echoes_of kept = kept.jam.echoes

told_adds : {A : Type 0} (told : Told A GraphKept) (s : State GraphKept) → Adds s.kept.jam (after told).jam → EndsTold (Grows echoes_of) s told
told_adds (answers a worlds kept) s h = h
told_adds (refuses cause worlds kept) s h = h

pub lines_are_added : (setting : Setting GraphKept) → setting.natives ≡ graph_meaning → OnlyAdds setting echoes_of
lines_are_added setting is = record {
  called = λ name given line s. told_adds (native_answer setting name given line s) s
      (subst (λ (m : Meaning GraphKept). Adds s.kept.jam (after (m.call name given line setting.sight (refused_here setting.refused s.left) s.worlds s.kept)).jam) (sym is)
      (graph_adds (graph_rule name) name given line setting.sight (refused_here setting.refused s.left) s.worlds s.kept));
  acted = λ name given line s. told_adds (acted_answer setting name given line s) s
      (subst (λ (m : Meaning GraphKept). Adds s.kept.jam (after (m.acted name given line s.worlds s.kept)).jam) (sym is)
      (act_adds (act_said (actions_place name s.worlds.now) given line) s.kept));
}
