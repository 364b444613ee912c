-- The laws of the grammar.
use Rattle.std.specs.Prelude.{◌≡◌, ℕ, ◌+◌, List, [], ◌∷◌, ◌++◌, ◌⊎◌, map}
use Rattle.b2_base.specs.declared.token.Token.{Token}
use Rattle.jam_grammar.specs.Grammar.{Part, Stmts, IsFile, opens}
use Rattle.jam_grammar.specs.Machine.{Whole, Bad, run}
use Rattle.jam_grammar.specs.Spelling.{Sym, spell_stmts}
use Rattle.jam_grammar.specs.Readings.{marks, ReadsTree, IsFirstFaultAt, IsFirstFault}
use Rattle.jam_grammar.specs.Gives.{ReadsPart}
use Rattle.jam_grammar.specs.Trees.{StmtTrees}
use Rattle.jam_grammar.specs.Alike.{said_of, asked, unlined, lineless, ReadsUpToLines}

-- each list of tokens is a file or has a first fault
abbrev pub FileOrFault : Type 0
FileOrFault = (tokens : List Token) → IsFile (marks tokens) ⊎ ((line : ℕ) × ((found : List ℕ) × IsFirstFault tokens line found))

-- each file has a tree
abbrev pub FileHasTree : Type 0
FileHasTree = (tokens : List Token) → IsFile (marks tokens) → (tree : StmtTrees) × ReadsTree tokens tree

-- no list of tokens is both
abbrev pub NeverBoth : Type 0
NeverBoth = (tokens : List Token) (line : ℕ) (found : List ℕ) → IsFile (marks tokens) → ¬ IsFirstFault tokens line found

-- the first fault is one
abbrev pub OneFault : Type 0
OneFault = (tokens at other : List Token) → IsFirstFaultAt tokens at → IsFirstFaultAt tokens other → at ≡ other

-- what the machine accepts is a file
abbrev pub WholeIsFile : Type 0
WholeIsFile = (tokens : List Token) → run tokens (Stmts ∷ []) ≡ Whole → IsFile (marks tokens)

-- the machine accepts each file
abbrev pub FileIsWhole : Type 0
FileIsWhole = (tokens : List Token) → IsFile (marks tokens) → run tokens (Stmts ∷ []) ≡ Whole

-- where the machine stops is the first fault
abbrev pub BadIsFault : Type 0
BadIsFault = (tokens at : List Token) → run tokens (Stmts ∷ []) ≡ Bad at → IsFirstFaultAt tokens at

-- the machine stops at each first fault
abbrev pub FaultIsBad : Type 0
FaultIsBad = (tokens at : List Token) → IsFirstFaultAt tokens at → run tokens (Stmts ∷ []) ≡ Bad at

-- a part that is read, and then others, are read as one
abbrev pub PartsCompose : Type 0
PartsCompose = (first second : List Part) (tokens mid after : List Token) (depth : ℕ) (syms more : List Sym) → ReadsPart first tokens (opens second + depth) syms mid → ReadsPart second mid depth more after → ReadsPart (first ++ second) tokens depth (syms ++ more) after

-- where tokens read as a tree, others that say what it asks for read as the tree, up to lines
abbrev pub AskedReads : Type 0
AskedReads = (tokens others : List Token) (tree : StmtTrees) → ReadsTree tokens tree → map said_of others ≡ asked (spell_stmts tree) → ReadsUpToLines others tree

-- tokens read as one tree
abbrev pub OneTree : Type 0
OneTree = (tokens : List Token) (a b : StmtTrees) → ReadsTree tokens a → ReadsTree tokens b → a ≡ b

-- tokens read as one tree up to lines
abbrev pub OneUpToLines : Type 0
OneUpToLines = (tokens : List Token) (a b : StmtTrees) → ReadsUpToLines tokens a → ReadsUpToLines tokens b → lineless a ≡ lineless b

-- trees that are equal up to lines ask for the same symbols but for lines
abbrev pub SameUpToLines : Type 0
SameUpToLines = (a b : StmtTrees) → lineless a ≡ lineless b → unlined (spell_stmts a) ≡ unlined (spell_stmts b)

-- tokens that read as a tree read as it up to lines
abbrev pub ReadsAlso : Type 0
ReadsAlso = (tokens : List Token) (tree : StmtTrees) → ReadsTree tokens tree → ReadsUpToLines tokens tree
