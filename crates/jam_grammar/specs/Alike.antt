-- What tokens say without their places, and what a tree asks them to say.
use Rattle.std.specs.Prelude.{ℕ, List, [], ◌∷◌, ◌++◌, Bool, true, false, codes}
use Rattle.b2_base.specs.declared.token.Token.{Token}
use Rattle.b2_base.specs.declared.token.TokenKind.{TokenKind}
use Rattle.b2_base.specs.declared.token.TokenKind.TheVariants as kinds
use Rattle.jam_grammar.specs.declared.mark.TokenMark.{TokenMark}
use Rattle.jam_grammar.specs.declared.mark.TokenMark.TheVariants as m
use Rattle.jam_grammar.specs.Grammar.{IsFile}
use Rattle.jam_grammar.specs.Trees.{FormTree, Braces, Local, Assign, AssignOn, Include, Return, If, For, While, Switch, Module, Rule, Actions, On, Call, OtherTree, Nothing, ElseBraces, ElseIf, StmtTrees, NoStmts, StmtAnd, CaseTrees, NoCases, CaseAnd}
use Rattle.jam_grammar.specs.Spelling.{Sym, Key, Heads, Says, Named, Raw, From, Never, Spells, spell_stmts}
use Rattle.jam_grammar.specs.Readings.{marks}

-- what a token says: its kind and its text
pub record Said : Type 0 where
  pub kind : TokenKind
  pub text : List ℕ

abbrev pub said_of : Token → Said
said_of token = record { kind = token.kind; text = token.text }

abbrev pub word_said : List ℕ → Said
word_said text = record { kind = kinds.Word; text = text }

abbrev pub key_said : List ℕ → Said
key_said text = record { kind = kinds.Key; text = text }

abbrev pub body_said : List ℕ → Said
body_said text = record { kind = kinds.Body; text = text }

-- what tokens of a mark say; words, bodies and unknown keys have no text of their own
abbrev pub mark_said : TokenMark → Said
mark_said m.Query = word_said (codes "?")
mark_said m.Star = word_said (codes "*")
mark_said m.Plus = word_said (codes "+")
mark_said m.Together = word_said (codes "together")
mark_said m.Existing = word_said (codes "existing")
mark_said m.Quietly = word_said (codes "quietly")
mark_said m.Semicolon = key_said (codes ";")
mark_said m.Colon = key_said (codes ":")
mark_said m.BraceOpen = key_said (codes "{")
mark_said m.BraceClose = key_said (codes "}")
mark_said m.SquareOpen = key_said (codes "[")
mark_said m.SquareClose = key_said (codes "]")
mark_said m.ParenOpen = key_said (codes "(")
mark_said m.ParenClose = key_said (codes ")")
mark_said m.Equals = key_said (codes "=")
mark_said m.PlusEquals = key_said (codes "+=")
mark_said m.QueryEquals = key_said (codes "?=")
mark_said m.NotEquals = key_said (codes "!=")
mark_said m.Not = key_said (codes "!")
mark_said m.And = key_said (codes "&&")
mark_said m.Or = key_said (codes "||")
mark_said m.Actions = key_said (codes "actions")
mark_said m.Case = key_said (codes "case")
mark_said m.Else = key_said (codes "else")
mark_said m.For = key_said (codes "for")
mark_said m.If = key_said (codes "if")
mark_said m.In = key_said (codes "in")
mark_said m.Include = key_said (codes "include")
mark_said m.Local = key_said (codes "local")
mark_said m.Module = key_said (codes "module")
mark_said m.On = key_said (codes "on")
mark_said m.Return = key_said (codes "return")
mark_said m.Rule = key_said (codes "rule")
mark_said m.Switch = key_said (codes "switch")
mark_said m.While = key_said (codes "while")
mark_said _ = key_said []

-- what a modifier says that has not stood before and then has
abbrev pub newly : Bool → Bool → TokenMark → List Said
newly false true mark = mark_said mark ∷ []
newly _ _ mark = []

-- modifiers in the order together, existing, quietly
abbrev pub heads_said : Bool → Bool → Bool → Bool → Bool → Bool → List Said
heads_said a b c t e q = newly a t m.Together ++ (newly b e m.Existing ++ newly c q m.Quietly)

-- what the symbols ask for, one after another
abbrev pub asked : List Sym → List Said
asked [] = []
asked (Key mark ∷ syms) = mark_said mark ∷ asked syms
asked (Heads a b c t e q ∷ syms) = heads_said a b c t e q ++ asked syms
asked (Says text ∷ syms) = word_said text ∷ asked syms
asked (Named text ∷ syms) = word_said text ∷ asked syms
asked (Raw text ∷ syms) = body_said text ∷ asked syms
asked (From line ∷ syms) = asked syms
asked (Never ∷ syms) = asked syms

-- symbols that say nothing of lines
abbrev pub unlined : List Sym → List Sym
unlined [] = []
unlined (Key mark ∷ syms) = Key mark ∷ unlined syms
unlined (Heads a b c t e q ∷ syms) = Heads a b c t e q ∷ unlined syms
unlined (Says text ∷ syms) = Says text ∷ unlined syms
unlined (Named text ∷ syms) = Named text ∷ unlined syms
unlined (Raw text ∷ syms) = Raw text ∷ unlined syms
unlined (From line ∷ syms) = unlined syms
unlined (Never ∷ syms) = Never ∷ unlined syms

-- the tokens are a file, and they spell the tree but for its lines
pub record ReadsUpToLines (tokens : List Token) (tree : StmtTrees) : Type 0 where
  pub file : IsFile (marks tokens)
  pub spelled : Spells tokens (unlined (spell_stmts tree)) []

-- a tree with 0 for each of its lines
abbrev mutual
  pub lineless_form : FormTree → FormTree
  lineless_form (Braces block) = Braces (lineless block)
  lineless_form (If test block next) = If test (lineless block) (lineless_other next)
  lineless_form (For own name items block) = For own name items (lineless block)
  lineless_form (While test block) = While test (lineless block)
  lineless_form (Switch value cases) = Switch value (lineless_cases cases)
  lineless_form (Module name block) = Module name (lineless block)
  lineless_form (Rule name params block) = Rule name params (lineless block)
  lineless_form (On target line form) = On target 0 (lineless_form form)
  lineless_form (Local names value) = Local names value
  lineless_form (Assign target sign value) = Assign target sign value
  lineless_form (AssignOn target on sign value) = AssignOn target on sign value
  lineless_form (Include names) = Include names
  lineless_form (Return value) = Return value
  lineless_form (Actions name t e q body) = Actions name t e q body
  lineless_form (Call head lists) = Call head lists

  pub lineless_other : OtherTree → OtherTree
  lineless_other Nothing = Nothing
  lineless_other (ElseBraces block) = ElseBraces (lineless block)
  lineless_other (ElseIf line form) = ElseIf 0 (lineless_form form)

  pub lineless : StmtTrees → StmtTrees
  lineless NoStmts = NoStmts
  lineless (StmtAnd line form rest) = StmtAnd 0 (lineless_form form) (lineless rest)

  pub lineless_cases : CaseTrees → CaseTrees
  lineless_cases NoCases = NoCases
  lineless_cases (CaseAnd pattern block rest) = CaseAnd pattern (lineless block) (lineless_cases rest)
