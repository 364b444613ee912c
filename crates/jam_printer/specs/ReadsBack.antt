-- The tokens of printed bytes read as the tree again.
use Rattle.std.specs.Prelude.{◌≡◌, ℕ, List, IfOk, Result}
use Rattle.std.specs.declared.vec.Vec.{Vec}
use Rattle.std.specs.declared.alloc.Global.{Global}
use Rattle.b2_base.specs.declared.fault.OutOfMemory.{OutOfMemory}
use Rattle.b2_base.specs.declared.token.Token.{Token}
use Rattle.jam_lexer.specs.Tokens.{AreTokens}
use Rattle.jam_grammar.specs.declared.tree.Tree.{Tree}
use Rattle.jam_grammar.specs.Trees.{StmtTrees, whole_tree}
use Rattle.jam_grammar.specs.Readings.{Reads}
use Rattle.jam_grammar.specs.Alike.{ReadsUpToLines, lineless}

-- The bytes are a text, and its tokens read as the tree up to line numbers, and as no other tree.
pub record ReadsBack (bytes : List ℕ) (tree : StmtTrees) : Type 0 where
  pub tokens : List Token
  pub are_tokens : AreTokens bytes tokens
  pub reads : ReadsUpToLines tokens tree
  pub no_other : (other : StmtTrees) → ReadsUpToLines tokens other → lineless other ≡ lineless tree

-- where some source reads as the tree, what is printed reads back as it
abbrev pub IsReadBack : Tree → Result (Vec ℕ Global) OutOfMemory → Type 0
IsReadBack tree result =
    (bytes : List ℕ) (tokens : List Token) → AreTokens bytes tokens → Reads tokens tree
    → IfOk result (λ printed. ReadsBack printed.items (whole_tree tree))
