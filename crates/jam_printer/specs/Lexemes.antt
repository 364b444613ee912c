-- The lexemes that a tree is written with.
use Rattle.std.specs.Prelude.{◌≡◌, ℕ, Bool, true, false, List, [], ◌∷◌, ◌++◌, Option, map, flat_map}
use Rattle.std.specs.declared.vec.Vec.{Vec}
use Rattle.std.specs.declared.alloc.Global.{Global}
use Rattle.jam_grammar.specs.declared.mark.TokenMark.{TokenMark}
use Rattle.jam_grammar.specs.declared.mark.TokenMark.TheVariants as marks
use Rattle.jam_grammar.specs.declared.tree.Arg.{Arg}
use Rattle.jam_grammar.specs.declared.tree.Block.{Block}
use Rattle.jam_grammar.specs.declared.tree.Expr.{Expr}
use Rattle.jam_grammar.specs.declared.tree.Form.{Form}
use Rattle.jam_grammar.specs.declared.tree.Param.{Param}
use Rattle.jam_grammar.specs.declared.tree.Sign.{Sign}
use Rattle.jam_grammar.specs.declared.tree.Tree.{Tree}
use Rattle.jam_grammar.specs.Trees.{FormTree, Local, Assign, AssignOn, Include, Return, Actions, Call, value_tree, form_tree}
use Rattle.jam_grammar.specs.Spelling.{Sym, Key, Heads, Says, Named, Raw, From, Never, Anywhere, arg_syms, args_syms, expr_syms, value_syms, set_syms, sign_mark, local_syms, params_syms, block_syms, braced, only, form_syms, tree_syms}
use Rattle.jam_grammar.specs.Alike.{Said, mark_said, word_said, body_said, newly, heads_said}
use Rattle.jam_spelling.specs.declared.lexeme.Lexeme.{Lexeme}

-- a lexeme that says this
abbrev pub lexeme_saying : Said → Lexeme
lexeme_saying said = record { kind = said.kind; text = said.text }

-- what is written for a symbol: the one lexeme that it asks for, those of modifiers, and nothing for a line
abbrev pub lexemes_of_sym : Sym → List Lexeme
lexemes_of_sym (Key mark) = lexeme_saying (mark_said mark) ∷ []
lexemes_of_sym (Heads a b c t e q) = map lexeme_saying (heads_said a b c t e q)
lexemes_of_sym (Says text) = lexeme_saying (word_said text) ∷ []
lexemes_of_sym (Named text) = lexeme_saying (word_said text) ∷ []
lexemes_of_sym (Raw text) = lexeme_saying (body_said text) ∷ []
lexemes_of_sym (From line) = []
lexemes_of_sym Never = []

-- symbols are written one after the other
abbrev pub written_as : List Sym → List Lexeme
written_as symbols = flat_map lexemes_of_sym symbols

-- behind the lexemes before stand those of these symbols
abbrev pub Appends : List Sym → Vec Lexeme Global → Vec Lexeme Global → Type 0
Appends symbols before after = after.items ≡ before.items ++ written_as symbols

-- the symbols of a `local`
abbrev pub locals_syms : List Arg → Option (Vec Arg Global) → List Sym
locals_syms names value = Key marks.Local ∷ (args_syms names ++ value_syms (value_tree value))

-- the symbols of an assignment on targets
abbrev pub assign_on_syms : Arg → List Arg → Sign → List Arg → List Sym
assign_on_syms target on sign value = arg_syms target ++ (Key marks.On ∷ (args_syms on ++ set_syms (sign_mark sign) (args_syms value)))

-- a modifier, where it stands
abbrev pub modifier_lexemes : Bool → TokenMark → List Lexeme
modifier_lexemes stands mark = map lexeme_saying (newly false stands mark)

-- the symbols of an `actions`
abbrev pub actions_syms : List ℕ → Bool → Bool → Bool → List ℕ → List Sym
actions_syms name together existing quietly body = Key marks.Actions ∷ Heads false false false together existing quietly ∷ Says name ∷ braced (Raw body ∷ [])

-- the symbols of an `if` up to the end of its block
abbrev pub if_syms : Expr → Block → List Sym
if_syms test block = Key marks.If ∷ (expr_syms Anywhere test ++ braced (block_syms block))

-- the symbols of a `while`
abbrev pub while_syms : Expr → Block → List Sym
while_syms test block = Key marks.While ∷ (expr_syms Anywhere test ++ braced (block_syms block))

-- the symbols of a `rule`
abbrev pub rule_syms : List ℕ → List (Vec Param Global) → Block → List Sym
rule_syms name params block = Key marks.Rule ∷ Says name ∷ (params_syms (map (λ list. list.items) params) ++ braced (block_syms block))

-- the symbols of a `for`
abbrev pub for_syms : Bool → List ℕ → List Arg → Block → List Sym
for_syms local name items block = Key marks.For ∷ (local_syms local ++ (Says name ∷ Key marks.In ∷ (args_syms items ++ braced (block_syms block))))

-- whether a statement holds no other statement
abbrev pub is_simple : FormTree → Bool
is_simple (Local names value) = true
is_simple (Assign target sign value) = true
is_simple (AssignOn target on sign value) = true
is_simple (Include names) = true
is_simple (Return value) = true
is_simple (Actions name together existing quietly body) = true
is_simple (Call head lists) = true
is_simple _ = false

-- the symbols of such a statement
abbrev pub simple_syms : Form → List Sym
simple_syms form = only (is_simple (form_tree form)) (form_syms form)

-- the lexemes of a tree
abbrev pub lexemes_of : Tree → List Lexeme
lexemes_of tree = written_as (tree_syms tree)
