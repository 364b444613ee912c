-- What a part of an IMPORT or of a DEPENDS puts into a world.
use Rattle.std.proofs.Common.{◌≡◌, ℕ, zero, suc, ◌+◌, ◌<◌, true, cond, List, [], ◌∷◌, ◌++◌, length, get_or, take, Option, Some, None, is_some, refl, sym, ap, ap₂, ◌∙◌, subst, append_assoc, append-nil, inl, inr, arith}
use Rattle.std.specs.Option.{option_map}
use Rattle.std.specs.Ordering.{eq_by_cmp}
use Rattle.std.specs.FinMap as map
use Rattle.std.proofs.lemmas.Bool.{cond-true, cond-false, cases_Bool}
use Rattle.b2_base.specs.Segments.{normal_of}
use Rattle.jam_journal.specs.Tables.{Text, Key, Table, key_cmp}
use Rattle.jam_journal.specs.Scopes.{Value}
use Rattle.jam_journal.proofs.ReplacingTouchesOnePair.{get_put, there_still}
use Rattle.jam_scope.specs.declared.notes.StepNotes.{StepNotes}
use Rattle.jam_scope.specs.Rules.{Rule}
use Rattle.jam_scope.specs.Worlds.{World, Worlds}
use Rattle.jam_scope.specs.Steps.{with_input}
use Rattle.jam_scope.specs.Changes.{changed, with_rule, import_rule, add_depends}
use Rattle.jam_meaning.specs.NativeCalls.{KeepsFrames, HasMoreInputs, PutsPart}
use Rattle.jam_natives.specs.Rows.{add_each, import_each}
use Rattle.jam_natives.proofs.TakenListsGrowByOne.{next_taken}

-- ---- further inputs

same_inputs : (o : Option StepNotes) → HasMoreInputs o o
same_inputs None = tt
same_inputs (Some n) = ([], ap (λ (l : List Text). record n { depends = l }) (sym (append-nil n.depends)))

more_inputs : (a b c : Option StepNotes) → HasMoreInputs a b → HasMoreInputs b c → HasMoreInputs a c
more_inputs None None c h g = g
more_inputs None (Some b) c h g = absurd h
more_inputs (Some a) None c h g = absurd h
more_inputs (Some a) (Some b) None h g = absurd g
more_inputs (Some a) (Some b) (Some c) h g =
    (h.0 ++ g.0, g.1 ∙ ap (λ (n : StepNotes). record n { depends = n.depends ++ g.0 }) h.1 ∙ ap (λ (l : List Text). record a { depends = l }) (append_assoc a.depends h.0 g.0))

one_input : (path : Text) (o : Option StepNotes) → HasMoreInputs o (option_map (with_input path) o)
one_input path None = tt
one_input path (Some n) = (path ∷ [], refl)

-- ---- parts

pub part_same : (w : World) → PutsPart w w
part_same w = record { rest = refl; rules = λ key rule e. (key, e); none_gone = λ key h. h; inputs = same_inputs w.step }

pub part_then : (a b c : World) → PutsPart a b → PutsPart b c → PutsPart a c
part_then a b c h g = record {
  rest = g.rest ∙ ap (λ (w : World). record w { rules = c.rules; step = c.step }) h.rest;
  rules = λ key rule e. (let there = g.rules key rule e in h.rules there.0 rule there.1);
  none_gone = λ key is. g.none_gone key (h.none_gone key is);
  inputs = more_inputs a.step b.step c.step h.inputs g.inputs;
}

pub part_depends : (path : Text) (w : World) → PutsPart w (add_depends path w)
part_depends path w = record { rest = refl; rules = λ key rule e. (key, e); none_gone = λ key h. h; inputs = one_input path w.step }

-- a rule that stands somewhere is put at a key
module _ (rules : Table Rule) (at to : Key) where
  stood : (o : Option Rule) → map.get rules at ≡ o → (key : Key) (rule : Rule) → map.get (with_rule o to rules) key ≡ Some rule → (from : Key) × (map.get rules from ≡ Some rule)
  stood None is key rule e = (key, e)
  stood (Some r) is key rule e =
      let found : cond (eq_by_cmp key_cmp key to) (Some r) (map.get rules key) ≡ Some rule = sym (get_put rules to (Some r) key) ∙ e in
      elim (cases_Bool (eq_by_cmp key_cmp key to)) [
        | inl same ↦ (at, is ∙ sym (cond-true (eq_by_cmp key_cmp key to) (Some r) (map.get rules key) same) ∙ found)
        | inr other ↦ (key, sym (cond-false (eq_by_cmp key_cmp key to) (Some r) (map.get rules key) other) ∙ found)
      ]

  stays : (o : Option Rule) → (key : Key) → is_some (map.get rules key) ≡ true → is_some (map.get (with_rule o to rules) key) ≡ true
  stays None key h = h
  stays (Some r) key h = there_still rules to key r h

pub part_import : (at : Key) (owner name : Text) (w : World) → PutsPart w (import_rule at owner name w)
part_import at owner name w = record {
  rest = refl;
  rules = stood w.rules at (owner, name) (map.get w.rules at) refl;
  none_gone = stays w.rules at (owner, name) (map.get w.rules at);
  inputs = same_inputs w.step;
}

pub part_added : (sources : Value) (w : World) → PutsPart w (add_each sources w)
part_added [] w = part_same w
part_added (source ∷ sources) w = part_then w (add_depends (normal_of source) w) _ (part_depends (normal_of source) w) (part_added sources (add_depends (normal_of source) w))

pub part_imported : (from : Text) (names : Value) (to : Text) (places : Value) (w : World) → PutsPart w (import_each from names to places w)
part_imported from [] to places w = part_same w
part_imported from (name ∷ names) to [] w = part_same w
part_imported from (name ∷ names) to (place ∷ places) w =
    part_then w (import_rule (from, name) to place w) _ (part_import (from, name) to place w) (part_imported from names to places (import_rule (from, name) to place w))

-- ---- frames

-- a part leaves the frames as they are
frames_by : (o p : Option StepNotes) → HasMoreInputs o p → is_some p ≡ is_some o
frames_by None None h = refl
frames_by None (Some p) h = absurd h
frames_by (Some o) None h = absurd h
frames_by (Some o) (Some p) h = refl

pub part_keeps : (change : World → World) (ws : Worlds) → PutsPart ws.now (change ws.now) → KeepsFrames ws (changed change ws)
part_keeps change ws part = record {
  frames = ap (λ (w : World). w.scopes.frames) part.rest;
  marked = refl;
  step = frames_by ws.now.step (change ws.now).step part.inputs;
}

-- ---- one more

pub added_more : (sources : Value) (source : Text) (w : World) → add_each (sources ++ source ∷ []) w ≡ add_depends (normal_of source) (add_each sources w)
added_more [] source w = refl
added_more (s ∷ sources) source w = added_more sources source (add_depends (normal_of s) w)

pub imported_more : (from : Text) (names : Value) (name to : Text) (places : Value) (place : Text) (w : World) → length names ≡ length places
    → import_each from (names ++ name ∷ []) to (places ++ place ∷ []) w ≡ import_rule (from, name) to place (import_each from names to places w)
imported_more from [] name to [] place w e = refl
imported_more from [] name to (p ∷ places) place w e = cc
imported_more from (n ∷ names) name to [] place w e = cc
imported_more from (n ∷ names) name to (p ∷ places) place w e = imported_more from names name to places place (import_rule (from, n) to p w) (let t = e in cc)

pub added_step : (sources : Value) (i : ℕ) (source : Text) (before now next : Worlds) (path : Text) → i < length sources → source ≡ get_or sources i source
    → now ≡ changed (add_each (take i sources)) before → path ≡ normal_of source → next ≡ changed (add_depends path) now → next ≡ changed (add_each (take (i + 1) sources)) before
added_step sources i source before now next path low is was named adds =
    adds ∙ ap (λ (ws : Worlds). changed (add_depends path) ws) was ∙ ap (λ (p : Text). changed (add_depends p) (changed (add_each (take i sources)) before)) named
    ∙ ap (λ (w : World). record before { now = w }) (sym (added_more (take i sources) source before.now) ∙ ap (λ (l : Value). add_each l before.now) (sym (next_taken sources i source low is)))

pub added_frames : (sources : Value) (before after : Worlds) → after ≡ changed (add_each sources) before → KeepsFrames before after
added_frames sources before after is = subst (KeepsFrames before) (sym is) (part_keeps (add_each sources) before (part_added sources before.now))

pub added_part : (sources : Value) (before after : Worlds) → after ≡ changed (add_each sources) before → PutsPart before.now after.now
added_part sources before after is = subst (λ (ws : Worlds). PutsPart before.now ws.now) (sym is) (part_added sources before.now)

pub imported_frames : (from : Text) (names : Value) (to : Text) (places : Value) (before after : Worlds) → after ≡ changed (import_each from names to places) before → KeepsFrames before after
imported_frames from names to places before after is = subst (KeepsFrames before) (sym is) (part_keeps (import_each from names to places) before (part_imported from names to places before.now))

pub imported_part : (from : Text) (names : Value) (to : Text) (places : Value) (before after : Worlds) → after ≡ changed (import_each from names to places) before → PutsPart before.now after.now
imported_part from names to places before after is = subst (λ (ws : Worlds). PutsPart before.now ws.now) (sym is) (part_imported from names to places before.now)

same_take : (i : ℕ) (xs ys : Value) → length xs ≡ length ys → length (take i xs) ≡ length (take i ys)
same_take zero xs ys e = refl
same_take (suc i) [] [] e = refl
same_take (suc i) [] (y ∷ ys) e = absurd (omega (arith, e))
same_take (suc i) (x ∷ xs) [] e = absurd (omega (arith, e))
same_take (suc i) (x ∷ xs) (y ∷ ys) e = ap suc (same_take i xs ys (omega (arith, e)))

pub imported_step : (from : Text) (names : Value) (to : Text) (places : Value) (i : ℕ) (name place : Text) (before now next : Worlds) → length names ≡ length places → i < length names
    → name ≡ get_or names i name → place ≡ get_or places i place → now ≡ changed (import_each from (take i names) to (take i places)) before
    → next ≡ changed (import_rule (from, name) to place) now → next ≡ changed (import_each from (take (i + 1) names) to (take (i + 1) places)) before
imported_step from names to places i name place before now next e low is at was adds =
    adds ∙ ap (λ (ws : Worlds). changed (import_rule (from, name) to place) ws) was
    ∙ ap (λ (w : World). record before { now = w })
    (sym (imported_more from (take i names) name to (take i places) place before.now (same_take i names places e))
    ∙ ap₂ (λ (ns ps : Value). import_each from ns to ps before.now) (sym (next_taken names i name low is)) (sym (next_taken places i place (subst (λ (n : ℕ). i < n) e low) at)))
