-- The definitions of the build text change rules and actions alone.
use Rattle.std.proofs.Common.{◌≡◌, ℕ, List, [], ◌∷◌, ◌++◌, codes, Result, Ok, Err, OnOk, OnErr, refl, sym, ap, subst, ◌∙◌}
use Rattle.std.specs.List.{AllByRecursion}
use Rattle.std.proofs.lemmas.List.{append-nil}
use Rattle.jam_grammar.specs.Trees.{FormTree, Module, Rule, Actions, StmtTrees, NoStmts, StmtAnd}
use Rattle.jam_journal.specs.Tables.{Text}
use Rattle.jam_journal.specs.Scopes.{enter, leave}
use Rattle.jam_scope.specs.Worlds.{World, Worlds}
use Rattle.jam_scope.specs.Changes.{rescoped}
use Rattle.b2_testing_text.specs.Trees.{testing_tree}
use Rattle.b2_testing_text.specs.Definitions.{Definition, made, all_made, change_of, of_block, owner_of, of_form, of_tree, definitions, equipped, KeepsRest, IsPart}

-- ---- what each changes

abbrev Keeps : Definition → Type 0
Keeps d = (w : World) → d.change w ≡ record w { rules = (d.change w).rules; actions = (d.change w).actions }

abbrev AllKeep : List Definition → Type 0
AllKeep ds = AllByRecursion Keeps ds

change_keeps : (path : Text) (n : ℕ) (form : FormTree) (w : World) → change_of path n form w ≡ record w { rules = (change_of path n form w).rules; actions = (change_of path n form w).actions }
change_keeps path n (Rule name params block) w = refl
change_keeps path n (Actions name t e q body) w = refl
change_keeps path n _ w = refl

block_keeps : (path owner : Text) (stmts : StmtTrees) → AllKeep (of_block path owner stmts)
block_keeps path owner NoStmts = tt
block_keeps path owner (StmtAnd line form rest) = (change_keeps path line form, block_keeps path owner rest)

form_keeps : (path : Text) (form : FormTree) → AllKeep (of_form path form)
form_keeps path (Module name block) = block_keeps path (owner_of name) block
form_keeps path _ = tt

both_keep : (some more : List Definition) → AllKeep some → AllKeep more → AllKeep (some ++ more)
both_keep [] more h k = k
both_keep (d ∷ some) more h k = (h.0, both_keep some more h.1 k)

tree_keeps : (path : Text) (stmts : StmtTrees) → AllKeep (of_tree path stmts)
tree_keeps path NoStmts = tt
tree_keeps path (StmtAnd line form rest) = both_keep (of_form path form) (of_tree path rest) (form_keeps path form) (tree_keeps path rest)

first_keep : (some more : List Definition) → AllKeep (some ++ more) → AllKeep some
first_keep [] more h = tt
first_keep (d ∷ some) more h = (h.0, first_keep some more h.1)

definitions_keep : AllKeep definitions
unfolding definitions
definitions_keep = tree_keeps (codes "gcc") testing_tree

-- ---- what some of them change

keeps_then : (a b c : Worlds) → KeepsRest a b → KeepsRest b c → KeepsRest a c
keeps_then a b c h k = k ∙ ap (λ (x : Worlds). record x { now = record x.now { rules = c.now.rules; actions = c.now.actions } }) h

made_keeps : (d : Definition) (ws : Worlds) → Keeps d → KeepsRest ws (made d ws)
made_keeps d ws keeps = ap (λ (w : World). rescoped leave (record ws { now = w })) (keeps (rescoped (enter d.owner) ws).now)

all_keep : (ds : List Definition) (ws : Worlds) → AllKeep ds → KeepsRest ws (all_made ds ws)
all_keep [] ws h = refl
all_keep (d ∷ ds) ws h = keeps_then ws (made d ws) (all_made ds (made d ws)) (made_keeps d ws h.0) (all_keep ds (made d ws) h.1)

pub part_keeps : (before after : Worlds) → IsPart definitions before after → KeepsRest before after
part_keeps before after part =
    subst (KeepsRest before) (sym part.leaves) (all_keep part.done before (first_keep part.done part.rest (subst AllKeep part.split definitions_keep)))

-- all of them are a part
pub whole_part : (before after : Worlds) → after ≡ equipped before → IsPart definitions before after
whole_part before after e = record { done = definitions; rest = []; split = sym (append-nil definitions); leaves = e }

pub rest_kept : {E : Type 0} (result : Result (Unit {0}) E) (before after : Worlds) → OnOk result (after ≡ equipped before) → OnErr result (IsPart definitions before after) → KeepsRest before after
rest_kept (Ok u) before after ok err = part_keeps before after (whole_part before after ok)
rest_kept (Err e) before after ok err = part_keeps before after err
