-- Which tokens read as a tree, and the first fault of those that read as none.
use Rattle.std.specs.Prelude.{◌≡◌, ℕ, List, [], ◌∷◌, ◌++◌, map}
use Rattle.b2_base.specs.declared.token.Token.{Token}
use Rattle.jam_grammar.specs.declared.mark.TokenMark.{TokenMark}
use Rattle.jam_grammar.specs.declared.tree.Tree.{Tree}
use Rattle.jam_grammar.specs.Marks.{mark_of_token}
use Rattle.jam_grammar.specs.Grammar.{IsFile, Begins}
use Rattle.jam_grammar.specs.Spelling.{Spells, spell_stmts}
use Rattle.jam_grammar.specs.Trees.{StmtTrees, whole_tree}

-- what the grammar sees of tokens
abbrev pub marks : List Token → List TokenMark
marks tokens = map mark_of_token tokens

-- the tokens are a file, and they spell the tree
pub record ReadsTree (tokens : List Token) (tree : StmtTrees) : Type 0 where
  pub file : IsFile (marks tokens)
  pub spelled : Spells tokens (spell_stmts tree) []

-- the tokens read as the tree of the code
abbrev pub Reads : List Token → Tree → Type 0
Reads tokens tree = ReadsTree tokens (whole_tree tree)

-- the first of these tokens is the first with which no file goes on so; or there is none, and the file ends too early
abbrev pub Stops : List Token → List Token → Type 0
Stops prefix [] = ¬ IsFile (marks prefix)
Stops prefix (token ∷ tokens) = ¬ Begins (marks prefix ++ mark_of_token token ∷ [])

-- the line of the last token
abbrev pub last_line : List Token → ℕ
last_line [] = 1
last_line (token ∷ []) = token.line
last_line (token ∷ next ∷ tokens) = last_line (next ∷ tokens)

-- what a fault at the first of these tokens tells: its line and its text; at the end the line of the last token, and no text
abbrev pub line_at : List Token → List Token → ℕ
line_at tokens [] = last_line tokens
line_at tokens (token ∷ more) = token.line

abbrev pub text_at : List Token → List ℕ
text_at [] = []
text_at (token ∷ more) = token.text

-- The first fault: some file begins with the tokens before it, and none with it too; or the tokens end, some file begins
-- with all of them, and they are none.
pub record IsFirstFaultAt (tokens at : List Token) : Type 0 where
  pub prefix : List Token
  pub split : tokens ≡ prefix ++ at
  pub begins : Begins (marks prefix)
  pub stops : Stops prefix at

-- the same by the line and the text that are told of it
pub record IsFirstFault (tokens : List Token) (line : ℕ) (found : List ℕ) : Type 0 where
  pub at : List Token
  pub is : IsFirstFaultAt tokens at
  pub line_is : line ≡ line_at tokens at
  pub found_is : found ≡ text_at at
