-- The native rules take nothing away that was recorded.
use Rattle.std.proofs.Common.{◌≡◌, ℕ, Bool, true, false, ◌==◌, List, [], ◌∷◌, ◌++◌, length, Option, Some, None, Result, Ok, Err, refl, sym, ap, ◌∙◌, subst}
use Rattle.std.specs.Prelude.{if◌then◌else◌}
use Rattle.std.proofs.lemmas.List.{append_assoc, append-nil}
use Rattle.b2_base.specs.Lists.{list_at, first_of}
use Rattle.jam_journal.specs.Tables.{Text}
use Rattle.jam_journal.specs.Scopes.{Value}
use Rattle.jam_scope.specs.Worlds.{World, Worlds}
use Rattle.jam_meaning.specs.declared.native_answer.NativeStep.{NativeStep}
use Rattle.jam_meaning.specs.declared.native_answer.NativeStep.TheVariants as steps
use Rattle.jam_meaning.specs.Refused.{refused_here}
use Rattle.jam_meaning.specs.Settings.{Told, answers, refuses, of_arity, Sight, Setting}
use Rattle.jam_meaning.specs.States.{State}
use Rattle.jam_meaning.specs.RuleCalls.{native_answer, acted_answer}
use Rattle.jam_meaning.specs.Kept.{EndsTold}
use Rattle.jam_meaning.proofs.IsKept.{IsKept}
use Rattle.jam_patterns.specs.declared.native_fault.NativeFault.{NativeFault}
use Rattle.jam_natives.specs.declared.decl.Decl.{Decl}
use Rattle.jam_natives.specs.declared.native.Native.{Native}
use Rattle.jam_natives.specs.declared.native.Native.TheVariants as natives
use Rattle.jam_natives.specs.declared.native.Noting.{Noting}
use Rattle.jam_natives.specs.Keeping.{Kept}
use Rattle.jam_natives.specs.Rules.{native_of, shape_of, is_declaring}
use Rattle.b2_base.specs.Shapes.{has_shape}
use Rattle.jam_natives.specs.Texts.{line_of}
use Rattle.jam_natives.specs.Rows.{read, read_answer, noted, foreign_in, unless_foreign, import_each, unless_missing, missing_rule, imported, keep, decl_of, declare_at, declare, row, call_of, jam_meaning}
use Rattle.b2_project_walk.specs.Laws.{KeepsRecord}

-- more is kept than before, at the end
abbrev HoldsMore : Kept → Kept → Type 0
HoldsMore kept now = (more : Kept) × (now.decls ≡ kept.decls ++ more.decls) × (now.echoes ≡ kept.echoes ++ more.echoes)

abbrev no_more : Kept
no_more = record { decls = []; echoes = [] }

holds_same : (kept : Kept) → HoldsMore kept kept
holds_same kept = (no_more, sym (append-nil kept.decls), sym (append-nil kept.echoes))

holds_as : (kept now : Kept) → now ≡ kept → HoldsMore kept now
holds_as kept now is = subst (HoldsMore kept) (sym is) (holds_same kept)

holds_then : (a b c : Kept) → HoldsMore a b → HoldsMore b c → HoldsMore a c
holds_then a b c (one, decls, echoes) (two, decls₁, echoes₁) = (
  record { decls = one.decls ++ two.decls; echoes = one.echoes ++ two.echoes },
  decls₁ ∙ ap (λ (ds : List Decl). ds ++ two.decls) decls ∙ append_assoc a.decls one.decls two.decls,
  echoes₁ ∙ ap (λ (es : List Text). es ++ two.echoes) echoes ∙ append_assoc a.echoes one.echoes two.echoes,
)

-- what is kept after an answer
abbrev kept_after : {A : Type 0} → Told A Kept → Kept
kept_after (answers step ws kept) = kept
kept_after (refuses cause ws kept) = kept

read_keeps : (found : Result NativeStep NativeFault) (ws : Worlds) (kept : Kept) → kept_after (read_answer found ws kept) ≡ kept
read_keeps (Ok step) ws kept = refl
read_keeps (Err cause) ws kept = refl

foreign_keeps : (rule : Noting) (found : Option Text) (change : World → World) (ws : Worlds) (kept : Kept) → kept_after (unless_foreign rule found change ws kept) ≡ kept
foreign_keeps rule (Some text) change ws kept = refl
foreign_keeps rule None change ws kept = refl

missing_keeps : (owner : Text) (found : Option Text) (change : World → World) (ws : Worlds) (kept : Kept) → kept_after (unless_missing owner found change ws kept) ≡ kept
missing_keeps owner (Some name) change ws kept = refl
missing_keeps owner None change ws kept = refl

imported_keeps : (from : Text) (names : Value) (to : Text) (places : Value) (ws : Worlds) (kept : Kept) → kept_after (imported from names to places ws kept) ≡ kept
imported_keeps from names to places ws kept = missing_keeps from (missing_rule ws.now.rules from names) (import_each from names to places) ws kept

-- one of two answers that keep the record
either_holds : (b : Bool) (first second : Told NativeStep Kept) (kept : Kept) → HoldsMore kept (kept_after first) → HoldsMore kept (kept_after second)
    → HoldsMore kept (kept_after (if b then first else second))
either_holds true first second kept one two = one
either_holds false first second kept one two = two

-- ---- each row

echo_holds : (marked : List World) (texts : Value) (kept : Kept) → HoldsMore kept (keep marked (λ k. record k { echoes = k.echoes ++ line_of texts ∷ [] }) kept)
echo_holds [] texts kept = (record { decls = []; echoes = line_of texts ∷ [] }, sym (append-nil kept.decls), refl)
echo_holds (world ∷ worlds) texts kept = holds_same kept

declare_holds : (marked : List World) (name : Text) (lists : List Value) (line : ℕ) (ws : Worlds) (kept : Kept) → HoldsMore kept (kept_after (declare_at marked name lists line ws kept))
declare_holds [] name lists line ws kept = (record { decls = decl_of name lists line ws.now ∷ []; echoes = [] }, refl, sym (append-nil kept.echoes))
declare_holds (world ∷ worlds) name lists line ws kept = holds_same kept

row_holds : (native : Native) (lists : List Value) (sight : Sight) (refused : Option Text) (ws : Worlds) (kept : Kept) → HoldsMore kept (kept_after (row native lists sight refused ws kept))
row_holds natives.Echo lists sight refused ws kept = echo_holds ws.marked (list_at 0 lists) kept
row_holds (natives.Reads rule) lists sight refused ws kept =
    holds_as kept (kept_after (row (natives.Reads rule) lists sight refused ws kept)) (read_keeps (read rule lists refused ws.now) ws kept)
row_holds (natives.Notes rule) lists sight refused ws kept =
    holds_as kept (kept_after (row (natives.Notes rule) lists sight refused ws kept)) (foreign_keeps rule (foreign_in ws.now.step rule lists) (noted rule (list_at 1 lists)) ws kept)
row_holds natives.Import lists sight refused ws kept =
    either_holds (length (list_at 1 lists) == length (list_at 3 lists))
    (imported (first_of (list_at 0 lists)) (list_at 1 lists) (first_of (list_at 2 lists)) (list_at 3 lists) ws kept) (refuses of_arity ws kept) kept
    (holds_as kept (kept_after (imported (first_of (list_at 0 lists)) (list_at 1 lists) (first_of (list_at 2 lists)) (list_at 3 lists) ws kept))
    (imported_keeps (first_of (list_at 0 lists)) (list_at 1 lists) (first_of (list_at 2 lists)) (list_at 3 lists) ws kept)) (holds_same kept)
row_holds natives.Export lists sight refused ws kept =
    holds_as kept (kept_after (row natives.Export lists sight refused ws kept)) (imported_keeps (first_of (list_at 0 lists)) (list_at 1 lists) [] (list_at 1 lists) ws kept)
row_holds natives.Glob lists sight refused ws kept = holds_same kept
row_holds natives.ProjectGlob lists sight refused ws kept = holds_same kept

call_holds : (native : Option Native) (name : Text) (lists : List Value) (line : ℕ) (sight : Sight) (refused : Option Text) (ws : Worlds) (kept : Kept)
    → HoldsMore kept (kept_after (call_of native name lists line sight refused ws kept))
call_holds (Some native) name lists line sight refused ws kept =
    either_holds (has_shape (shape_of native) lists) (row native lists sight refused ws kept) (refuses of_arity ws kept) kept (row_holds native lists sight refused ws kept) (holds_same kept)
call_holds None name lists line sight refused ws kept =
    either_holds (is_declaring name) (declare name lists line ws kept) (answers steps.Unknown ws kept) kept (declare_holds ws.marked name lists line ws kept) (holds_same kept)

-- ---- running files

told_holds : {A : Type 0} (told : Told A Kept) (s : State Kept) → HoldsMore s.kept (kept_after told) → EndsTold KeepsRecord s told
told_holds (answers a worlds kept) s h = h
told_holds (refuses cause worlds kept) s h = h

pub record_kept : (setting : Setting Kept) → setting.natives ≡ jam_meaning → IsKept setting KeepsRecord KeepsRecord
record_kept setting is = record {
  same = λ s. holds_same s.kept;
  chain = λ a b c one two. holds_then a.kept b.kept c.kept one two;
  chain_loose = λ a b c one two. holds_then a.kept b.kept c.kept one two;
  loosen = λ s later h. h;
  turn = λ s left taken. holds_same s.kept;
  assigns = λ name value s. holds_same s.kept;
  binds = λ name value s. holds_same s.kept;
  frame = λ owner s later h. h;
  call_frame = λ owner s later h. h;
  sets_own = λ target name value s. holds_same s.kept;
  rules = λ name params block path line s. holds_same s.kept;
  actions = λ name body s. holds_same s.kept;
  roots = λ s. holds_same s.kept;
  native = λ name given line s. told_holds (native_answer setting name given line s) s
      (subst (λ m. HoldsMore s.kept (kept_after (m.call name given line setting.sight (refused_here setting.refused s.left) s.worlds s.kept))) (sym is)
      (call_holds (native_of name) name given line setting.sight (refused_here setting.refused s.left) s.worlds s.kept));
  records = λ name given line s. told_holds (acted_answer setting name given line s) s
      (subst (λ m. HoldsMore s.kept (kept_after (m.acted name given line s.worlds s.kept))) (sym is) (holds_same s.kept));
}
