-- Definitions are made one after another: some are made, and others are left.
use Rattle.std.proofs.Common.{◌≡◌, List, [], ◌∷◌, ◌++◌, codes, refl, sym, ap, subst, ◌∙◌, append_assoc}
use Rattle.std.specs.declared.vec.Vec.{Vec}
use Rattle.std.specs.declared.alloc.Global.{Global}
use Rattle.std.proofs.lemmas.List.{append-nil}
use Rattle.jam_grammar.specs.declared.tree.Arg.{Arg}
use Rattle.jam_grammar.specs.declared.tree.Block.{Block, out-Block, roll-out-Block}
use Rattle.jam_grammar.specs.declared.tree.Form.{Form}
use Rattle.jam_grammar.specs.declared.tree.Form.TheVariants as forms
use Rattle.jam_grammar.specs.declared.tree.Stmt.{Stmt}
use Rattle.jam_grammar.specs.declared.tree.Tree.{Tree}
use Rattle.jam_grammar.specs.Trees.{args_tree, block_tree, form_tree, stmts_tree, whole_tree}
use Rattle.jam_grammar.proofs.TreesAreThoseOfElements.{block_is}
use Rattle.jam_journal.specs.Tables.{Text}
use Rattle.jam_scope.specs.Worlds.{Worlds}
use Rattle.b2_testing_text.specs.Definitions.{Definition, made, all_made, change_of, of_block, owner_of, of_form, of_tree, definitions, IsPart}
use Rattle.b2_testing_text.specs.Trees.{testing_tree}

-- the others are left of all
pub record AreMadeTo (all rest : List Definition) (before after : Worlds) : Type 0 where
  pub done : List Definition
  pub split : all ≡ done ++ rest
  pub leaves : after ≡ all_made done before

made_both : (some more : List Definition) (ws : Worlds) → all_made (some ++ more) ws ≡ all_made more (all_made some ws)
made_both [] more ws = refl
made_both (d ∷ some) more ws = made_both some more (made d ws)

pub none_made : (all : List Definition) (ws : Worlds) → AreMadeTo all all ws ws
none_made all ws = record { done = []; split = refl; leaves = refl }

pub more_made : (all ds more : List Definition) (before now later : Worlds) → AreMadeTo all (ds ++ more) before now → later ≡ all_made ds now → AreMadeTo all more before later
more_made all ds more before now later h e = record {
  done = h.done ++ ds;
  split = h.split ∙ sym (append_assoc h.done ds more);
  leaves = e ∙ ap (all_made ds) h.leaves ∙ sym (made_both h.done ds before);
}

pub part_made : (all ds more : List Definition) (before now later : Worlds) → AreMadeTo all (ds ++ more) before now → IsPart ds now later → IsPart all before later
part_made all ds more before now later h part = record {
  done = h.done ++ part.done;
  rest = part.rest ++ more;
  split =
      h.split ∙ ap (λ l. h.done ++ (l ++ more)) part.split ∙ ap (λ l. h.done ++ l) (append_assoc part.done part.rest more)
      ∙ sym (append_assoc h.done part.done (part.rest ++ more));
  leaves = part.leaves ∙ ap (all_made part.done) h.leaves ∙ sym (made_both h.done part.done before);
}

pub all_are_made : (all rest : List Definition) (before after : Worlds) → rest ≡ [] → AreMadeTo all rest before after → after ≡ all_made all before
all_are_made all rest before after none h = h.leaves ∙ ap (λ l. all_made l before) (sym (h.split ∙ ap (λ l. h.done ++ l) none ∙ append-nil h.done))

pub none_is_part : (ds : List Definition) (before after : Worlds) → after ≡ before → IsPart ds before after
none_is_part ds before after e = record { done = []; rest = ds; split = refl; leaves = e }

-- ---- the statements of a module

abbrev pub Defines : Text → Text → List Stmt → List Stmt → Worlds → Worlds → Type 0
Defines path owner stmts left before after = AreMadeTo (of_block path owner (stmts_tree stmts)) (of_block path owner (stmts_tree left)) before after

module _ (path owner : Text) (stmts left later : List Stmt) (stmt : Stmt) (before now after : Worlds) (next : left ≡ stmt ∷ later) (h : Defines path owner stmts left before now) where
  abbrev pub one : Definition
  one = record { owner = owner; change = change_of path stmt.line (form_tree stmt.form) }

  begun : AreMadeTo (of_block path owner (stmts_tree stmts)) ((one ∷ []) ++ of_block path owner (stmts_tree later)) before now
  begun = subst (λ l. Defines path owner stmts l before now) next h

  pub one_defined : after ≡ made one now → Defines path owner stmts later before after
  one_defined e = more_made (of_block path owner (stmts_tree stmts)) (one ∷ []) (of_block path owner (stmts_tree later)) before now after begun e

  pub none_defined : after ≡ now → IsPart (of_block path owner (stmts_tree stmts)) before after
  none_defined e = part_made (of_block path owner (stmts_tree stmts)) (one ∷ []) (of_block path owner (stmts_tree later)) before now after begun (none_is_part (one ∷ []) now after e)

-- ---- the modules of a text

abbrev pub DefinesAll : Text → List Stmt → List Stmt → Worlds → Worlds → Type 0
DefinesAll path stmts left before after = AreMadeTo (of_tree path (stmts_tree stmts)) (of_tree path (stmts_tree left)) before after

module _ (path : Text) (stmts left later : List Stmt) (stmt : Stmt) (before now after : Worlds) (next : left ≡ stmt ∷ later) (h : DefinesAll path stmts left before now) where
  begun_all : AreMadeTo (of_tree path (stmts_tree stmts)) (of_form path (form_tree stmt.form) ++ of_tree path (stmts_tree later)) before now
  begun_all = subst (λ l. DefinesAll path stmts l before now) next h

  pub form_defined : after ≡ all_made (of_form path (form_tree stmt.form)) now → DefinesAll path stmts later before after
  form_defined e = more_made (of_tree path (stmts_tree stmts)) (of_form path (form_tree stmt.form)) (of_tree path (stmts_tree later)) before now after begun_all e

  pub part_defined : IsPart (of_form path (form_tree stmt.form)) now after → IsPart (of_tree path (stmts_tree stmts)) before after
  part_defined part = part_made (of_tree path (stmts_tree stmts)) (of_form path (form_tree stmt.form)) (of_tree path (stmts_tree later)) before now after begun_all part

-- ---- as the code has its tree

block_holds : (block : Block) → block_tree block ≡ stmts_tree (out-Block block).stmts.items
block_holds block = ap block_tree (sym (roll-out-Block block)) ∙ block_is (out-Block block).stmts

pub module_is : (f : Form) (name : Vec Arg Global) (block : Block) (path owner : Text) (args : List Arg) (stmts : List Stmt) → f ≡ forms.Module name block → args ≡ name.items → owner ≡ owner_of (args_tree args) → stmts ≡ (out-Block block).stmts.items
    → of_block path owner (stmts_tree stmts) ≡ of_form path (form_tree f)
module_is f name block path owner args stmts is args_are named stmts_are =
    sym (ap (λ x. of_form path (form_tree x)) is ∙ ap (λ o. of_block path o (block_tree block)) (ap (λ l. owner_of (args_tree l)) (sym args_are) ∙ sym named)
    ∙ ap (of_block path owner) (block_holds block ∙ ap stmts_tree (sym stmts_are)))

pub all_are : (tree : Tree) (path : Text) (stmts : List Stmt) → whole_tree tree ≡ testing_tree → path ≡ codes "gcc" → stmts ≡ (out-Block tree.block).stmts.items → of_tree path (stmts_tree stmts) ≡ definitions
unfolding definitions
all_are tree path stmts is named stmts_are =
    ap (λ p. of_tree p (stmts_tree stmts)) named ∙ ap (of_tree (codes "gcc")) (ap stmts_tree stmts_are ∙ sym (block_holds tree.block) ∙ is)
