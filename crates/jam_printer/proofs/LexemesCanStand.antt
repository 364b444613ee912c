-- The lexemes of a tree can stand in a text.
use Rattle.std.proofs.Common.{◌≡◌, ℕ, Bool, true, false, cond, ◌==◌, List, [], ◌∷◌, ◌++◌, map, codes, Option, Some, None, refl, sym, ◌∙◌}
use Rattle.std.specs.List.{All, flat_map}
use Rattle.std.specs.Str.{bytes_eq}
use Rattle.std.proofs.lemmas.Bool.{false≢true}
use Rattle.std.proofs.lemmas.Slice.Eq.{bytes_eq-Decides}
use Rattle.std.proofs.lemmas.List.Elements.{All-head, All-tail}
use Rattle.b2_base.specs.declared.token.TokenKind.TheVariants as kinds
use Rattle.jam_lexer.specs.Word.{is_key_text}
use Rattle.jam_grammar.specs.declared.mark.TokenMark.{TokenMark}
use Rattle.jam_grammar.specs.declared.mark.TokenMark.TheVariants as m
use Rattle.jam_grammar.specs.declared.tree.Sign.{Sign}
use Rattle.jam_grammar.specs.declared.tree.Sign.TheVariants as signs
use Rattle.jam_grammar.specs.declared.tree.Param.{Param}
use Rattle.jam_grammar.specs.Trees.{ArgTree, Word, Bracket, InnerTree, CallOf, OnInner, OnReturn, ArgTrees, NoArgs, ArgAnd, ListTrees, NoLists, ListAnd, ExprTree, Or, And, Not, Group, Bare, Equal, Differ, Within, ExprTrees, NoExprs, ExprAnd, FormTree, Braces, Local, Assign, AssignOn, Include, Return, If, For, While, Switch, Module, Rule, Actions, On, Call, OtherTree, Nothing, ElseBraces, ElseIf, StmtTrees, NoStmts, StmtAnd, CaseTrees, NoCases, CaseAnd}
use Rattle.jam_grammar.specs.Spelling.{Sym, Key, Heads, Says, Named, Raw, From, Never, Level, Anywhere, WithinOr, WithinAnd, at_or, at_and, spell_arg, spell_inner, spell_args, spell_lists, spell_further, spell_expr, spell_pair, spell_second, spell_joined, mark_syms, param_syms, takes_all, plist_syms, further_params, params_syms, sign_mark, set_syms, value_syms, local_syms, braced, only, is_if, spell_form, spell_other, spell_stmts, spell_cases}
use Rattle.jam_grammar.specs.Alike.{mark_said, body_said, heads_said}
use Rattle.jam_spelling.specs.declared.lexeme.Lexeme.{Lexeme}
use Rattle.jam_spelling.specs.LexemeLists.{word, key, IsRaw, CanStand, nothing, a_word, a_key, an_action}
use Rattle.jam_printer.specs.Lexemes.{lexeme_saying, written_as}

-- marks whose lexeme stands by itself: each has a text of its own, and opens no body
abbrev pub by_itself : TokenMark → Bool
by_itself m.Plain = false
by_itself m.Body = false
by_itself m.Actions = false
by_itself m.Unknown = false
by_itself _ = true

-- symbols that stand by themselves, and whole actions
pub data Orderly : List Sym → Type 0 where
  none : Orderly []
  by_key : (mark : TokenMark) (more : List Sym) → by_itself mark ≡ true → Orderly more → Orderly (Key mark ∷ more)
  by_word : (text : List ℕ) (more : List Sym) → Orderly more → Orderly (Says text ∷ more)
  by_name : (text : List ℕ) (more : List Sym) → Orderly more → Orderly (Named text ∷ more)
  by_line : (line : ℕ) (more : List Sym) → Orderly more → Orderly (From line ∷ more)
  by_never : (more : List Sym) → Orderly more → Orderly (Never ∷ more)
  by_action : (name body : List ℕ) (t e q : Bool) (more : List Sym) → Orderly more → Orderly (Key m.Actions ∷ Heads false false false t e q ∷ Says name ∷ Key m.BraceOpen ∷ Raw body ∷ Key m.BraceClose ∷ more)

-- ---- orderly symbols can stand

-- each body is such as can stand
abbrev pub HasRaw : Lexeme → Type 0
HasRaw lexeme = lexeme.kind ≡ kinds.Body → IsRaw lexeme.text

a_sign : (text : List ℕ) (more : List Lexeme) → is_key_text text ≡ true → bytes_eq text (codes "actions") ≡ false → CanStand more → CanStand (key text ∷ more)
a_sign text more is other stand = a_key text more is (λ e. false≢true (sym other ∙ (bytes_eq-Decides text (codes "actions")).1 e)) stand

sign_stands : (mark : TokenMark) (more : List Lexeme) → by_itself mark ≡ true → CanStand more → CanStand (lexeme_saying (mark_said mark) ∷ more)
sign_stands m.Plain more e stand = absurd (false≢true e)
sign_stands m.Body more e stand = absurd (false≢true e)
sign_stands m.Actions more e stand = absurd (false≢true e)
sign_stands m.Unknown more e stand = absurd (false≢true e)
sign_stands m.Query more e stand = a_word (codes "?") more stand
sign_stands m.Star more e stand = a_word (codes "*") more stand
sign_stands m.Plus more e stand = a_word (codes "+") more stand
sign_stands m.Together more e stand = a_word (codes "together") more stand
sign_stands m.Existing more e stand = a_word (codes "existing") more stand
sign_stands m.Quietly more e stand = a_word (codes "quietly") more stand
sign_stands m.Semicolon more e stand = a_sign (codes ";") more refl refl stand
sign_stands m.Colon more e stand = a_sign (codes ":") more refl refl stand
sign_stands m.BraceOpen more e stand = a_sign (codes "{") more refl refl stand
sign_stands m.BraceClose more e stand = a_sign (codes "}") more refl refl stand
sign_stands m.SquareOpen more e stand = a_sign (codes "[") more refl refl stand
sign_stands m.SquareClose more e stand = a_sign (codes "]") more refl refl stand
sign_stands m.ParenOpen more e stand = a_sign (codes "(") more refl refl stand
sign_stands m.ParenClose more e stand = a_sign (codes ")") more refl refl stand
sign_stands m.Equals more e stand = a_sign (codes "=") more refl refl stand
sign_stands m.PlusEquals more e stand = a_sign (codes "+=") more refl refl stand
sign_stands m.QueryEquals more e stand = a_sign (codes "?=") more refl refl stand
sign_stands m.NotEquals more e stand = a_sign (codes "!=") more refl refl stand
sign_stands m.Not more e stand = a_sign (codes "!") more refl refl stand
sign_stands m.And more e stand = a_sign (codes "&&") more refl refl stand
sign_stands m.Or more e stand = a_sign (codes "||") more refl refl stand
sign_stands m.Case more e stand = a_sign (codes "case") more refl refl stand
sign_stands m.Else more e stand = a_sign (codes "else") more refl refl stand
sign_stands m.For more e stand = a_sign (codes "for") more refl refl stand
sign_stands m.If more e stand = a_sign (codes "if") more refl refl stand
sign_stands m.In more e stand = a_sign (codes "in") more refl refl stand
sign_stands m.Include more e stand = a_sign (codes "include") more refl refl stand
sign_stands m.Local more e stand = a_sign (codes "local") more refl refl stand
sign_stands m.Module more e stand = a_sign (codes "module") more refl refl stand
sign_stands m.On more e stand = a_sign (codes "on") more refl refl stand
sign_stands m.Return more e stand = a_sign (codes "return") more refl refl stand
sign_stands m.Rule more e stand = a_sign (codes "rule") more refl refl stand
sign_stands m.Switch more e stand = a_sign (codes "switch") more refl refl stand
sign_stands m.While more e stand = a_sign (codes "while") more refl refl stand

rest_raw : (first : Lexeme) (more : List Lexeme) → All HasRaw (first ∷ more) → All HasRaw more
rest_raw first more all = All-tail HasRaw first more all

-- the body of an action, and what stands after it
rest_after : (xs more : List Lexeme) → All HasRaw (xs ++ more) → All HasRaw more
rest_after [] more all = all
rest_after (x ∷ xs) more all = rest_after xs more (rest_raw x (xs ++ more) all)

action_raw : (a : Lexeme) (xs : List Lexeme) (b c d e : Lexeme) (more : List Lexeme) → All HasRaw (a ∷ (xs ++ (b ∷ c ∷ d ∷ e ∷ more))) → HasRaw d × All HasRaw more
action_raw a xs b c d e more all =
    let at_name : All HasRaw (b ∷ c ∷ d ∷ e ∷ more) = rest_after xs (b ∷ c ∷ d ∷ e ∷ more) (rest_raw a (xs ++ (b ∷ c ∷ d ∷ e ∷ more)) all) in
    let at_body : All HasRaw (d ∷ e ∷ more) = rest_raw c (d ∷ e ∷ more) (rest_raw b (c ∷ d ∷ e ∷ more) at_name) in
    (All-head HasRaw d (e ∷ more) at_body, rest_raw e more (rest_raw d (e ∷ more) at_body))

-- an action with its modifiers
modifiers : Bool → Bool → Bool → List Lexeme
modifiers t e q = map lexeme_saying (heads_said false false false t e q)

action_stands : (t e q : Bool) (name body : List ℕ) (more : List Lexeme) → IsRaw body → CanStand more → CanStand (key (codes "actions") ∷ (modifiers t e q ++ (word name ∷ key (codes "{") ∷ lexeme_saying (body_said body) ∷ key (codes "}") ∷ more)))
unfolding modifiers
action_stands false false false name body more raw stand = an_action (name ∷ []) body more raw stand
action_stands false false true name body more raw stand = an_action (codes "quietly" ∷ name ∷ []) body more raw stand
action_stands false true false name body more raw stand = an_action (codes "existing" ∷ name ∷ []) body more raw stand
action_stands false true true name body more raw stand = an_action (codes "existing" ∷ codes "quietly" ∷ name ∷ []) body more raw stand
action_stands true false false name body more raw stand = an_action (codes "together" ∷ name ∷ []) body more raw stand
action_stands true false true name body more raw stand = an_action (codes "together" ∷ codes "quietly" ∷ name ∷ []) body more raw stand
action_stands true true false name body more raw stand = an_action (codes "together" ∷ codes "existing" ∷ name ∷ []) body more raw stand
action_stands true true true name body more raw stand = an_action (codes "together" ∷ codes "existing" ∷ codes "quietly" ∷ name ∷ []) body more raw stand

pub orderly_stands : (syms : List Sym) → Orderly syms → All HasRaw (written_as syms) → CanStand (written_as syms)
unfolding modifiers
orderly_stands _ none raw = nothing
orderly_stands _ (by_key mark more is rest) raw = sign_stands mark (written_as more) is (orderly_stands more rest (rest_raw _ (written_as more) raw))
orderly_stands _ (by_word text more rest) raw = a_word text (written_as more) (orderly_stands more rest (rest_raw _ (written_as more) raw))
orderly_stands _ (by_name text more rest) raw = a_word text (written_as more) (orderly_stands more rest (rest_raw _ (written_as more) raw))
orderly_stands _ (by_line line more rest) raw = orderly_stands more rest raw
orderly_stands _ (by_never more rest) raw = orderly_stands more rest raw
orderly_stands _ (by_action name body t e q more rest) raw =
    let parts = action_raw (key (codes "actions")) (modifiers t e q) (word name) (key (codes "{")) (lexeme_saying (body_said body)) (key (codes "}")) (written_as more) raw in
    action_stands t e q name body (written_as more) (parts.0 refl) (orderly_stands more rest parts.1)

-- ---- the symbols of a tree are orderly

and_then : (a b : List Sym) → Orderly a → Orderly b → Orderly (a ++ b)
and_then _ b none k = k
and_then _ b (by_key mark more is rest) k = by_key mark (more ++ b) is (and_then more b rest k)
and_then _ b (by_word text more rest) k = by_word text (more ++ b) (and_then more b rest k)
and_then _ b (by_name text more rest) k = by_name text (more ++ b) (and_then more b rest k)
and_then _ b (by_line line more rest) k = by_line line (more ++ b) (and_then more b rest k)
and_then _ b (by_never more rest) k = by_never (more ++ b) (and_then more b rest k)
and_then _ b (by_action name body t e q more rest) k = by_action name body t e q (more ++ b) (and_then more b rest k)

never : Orderly (Never ∷ [])
never = by_never [] none

one : (mark : TokenMark) → by_itself mark ≡ true → Orderly (Key mark ∷ [])
one mark is = by_key mark [] is none

mutual
  of_arg : (a : ArgTree) → Orderly (spell_arg a)
  of_arg (Word text) = by_word text [] none
  of_arg (Bracket i) = by_key m.SquareOpen _ refl (and_then (spell_inner i) _ (of_inner i) (one m.SquareClose refl))

  of_inner : (i : InnerTree) → Orderly (spell_inner i)
  of_inner (CallOf head lists) = and_then (spell_arg head) _ (of_arg head) (of_lists lists)
  of_inner (OnInner target i) = by_key m.On _ refl (and_then (spell_arg target) _ (of_arg target) (of_inner i))
  of_inner (OnReturn target value) = by_key m.On _ refl (and_then (spell_arg target) _ (of_arg target) (by_key m.Return _ refl (of_args value)))

  of_args : (xs : ArgTrees) → Orderly (spell_args xs)
  of_args NoArgs = none
  of_args (ArgAnd first rest) = and_then (spell_arg first) _ (of_arg first) (of_args rest)

  of_lists : (xs : ListTrees) → Orderly (spell_lists xs)
  of_lists NoLists = never
  of_lists (ListAnd first rest) = and_then (spell_args first) _ (of_args first) (of_further rest)

  of_further : (xs : ListTrees) → Orderly (spell_further xs)
  of_further NoLists = none
  of_further (ListAnd first rest) = by_key m.Colon _ refl (and_then (spell_args first) _ (of_args first) (of_further rest))

of_or : (level : Level) (syms : List Sym) → Orderly syms → Orderly (at_or level syms)
of_or Anywhere syms h = h
of_or WithinOr syms h = never
of_or WithinAnd syms h = never

of_and : (level : Level) (syms : List Sym) → Orderly syms → Orderly (at_and level syms)
of_and Anywhere syms h = h
of_and WithinOr syms h = h
of_and WithinAnd syms h = never

mutual
  of_expr : (level : Level) (e : ExprTree) → Orderly (spell_expr level e)
  of_expr level (Or members) = of_or level (spell_pair WithinOr m.Or members) (of_pair WithinOr m.Or refl members)
  of_expr level (And members) = of_and level (spell_pair WithinAnd m.And members) (of_pair WithinAnd m.And refl members)
  of_expr level (Not e) = by_key m.Not _ refl (of_expr WithinAnd e)
  of_expr level (Group e) = by_key m.ParenOpen _ refl (and_then (spell_expr Anywhere e) _ (of_expr Anywhere e) (one m.ParenClose refl))
  of_expr level (Bare a) = of_arg a
  of_expr level (Equal a b) = and_then (spell_arg a) _ (of_arg a) (by_key m.Equals _ refl (of_arg b))
  of_expr level (Differ a b) = and_then (spell_arg a) _ (of_arg a) (by_key m.NotEquals _ refl (of_arg b))
  of_expr level (Within a list) = and_then (spell_arg a) _ (of_arg a) (by_key m.In _ refl (of_args list))

  of_pair : (level : Level) (mark : TokenMark) → by_itself mark ≡ true → (xs : ExprTrees) → Orderly (spell_pair level mark xs)
  of_pair level mark is NoExprs = never
  of_pair level mark is (ExprAnd first rest) = and_then (spell_expr level first) _ (of_expr level first) (of_second level mark is rest)

  of_second : (level : Level) (mark : TokenMark) → by_itself mark ≡ true → (xs : ExprTrees) → Orderly (spell_second level mark xs)
  of_second level mark is NoExprs = never
  of_second level mark is (ExprAnd first rest) = by_key mark _ is (and_then (spell_expr level first) _ (of_expr level first) (of_joined level mark is rest))

  of_joined : (level : Level) (mark : TokenMark) → by_itself mark ≡ true → (xs : ExprTrees) → Orderly (spell_joined level mark xs)
  of_joined level mark is NoExprs = none
  of_joined level mark is (ExprAnd first rest) = by_key mark _ is (and_then (spell_expr level first) _ (of_expr level first) (of_joined level mark is rest))

of_either : (b : Bool) (x y : List Sym) → Orderly x → Orderly y → Orderly (cond b x y)
of_either true x y h k = h
of_either false x y h k = k

of_mark : (mark : Option ℕ) → Orderly (mark_syms mark)
of_mark None = none
of_mark (Some c) = of_either (c == 63) _ _ (one m.Query refl) (of_either (c == 42) _ _ (one m.Star refl) (of_either (c == 43) _ _ (one m.Plus refl) never))

of_names : (list : List Param) → Orderly (flat_map param_syms list)
of_names [] = none
of_names (param ∷ list) = and_then (param_syms param) _ (by_name param.name (mark_syms param.mark) (of_mark param.mark)) (of_names list)

of_list : (list : List Param) → Orderly (plist_syms list)
of_list list = of_either (takes_all list) _ _ (one m.Star refl) (of_names list)

of_further_params : (lists : List (List Param)) → Orderly (further_params lists)
of_further_params [] = none
of_further_params (first ∷ rest) = by_key m.Colon _ refl (and_then (plist_syms first) _ (of_list first) (of_further_params rest))

of_params : (lists : List (List Param)) → Orderly (params_syms lists)
of_params [] = none
of_params (first ∷ rest) = by_key m.ParenOpen _ refl (and_then (plist_syms first ++ further_params rest) _ (and_then (plist_syms first) _ (of_list first) (of_further_params rest)) (one m.ParenClose refl))

of_sign : (sign : Sign) → by_itself (sign_mark sign) ≡ true
of_sign signs.Set = refl
of_sign signs.Add = refl
of_sign signs.Fill = refl

of_set : (mark : TokenMark) (syms : List Sym) → by_itself mark ≡ true → Orderly syms → Orderly (set_syms mark syms)
of_set mark syms is h = by_key mark _ is (and_then syms _ h (one m.Semicolon refl))

of_value : (value : Option ArgTrees) → Orderly (value_syms value)
of_value None = one m.Semicolon refl
of_value (Some value) = of_set m.Equals (spell_args value) refl (of_args value)

of_local : (own : Bool) → Orderly (local_syms own)
of_local true = one m.Local refl
of_local false = none

of_braced : (syms : List Sym) → Orderly syms → Orderly (braced syms)
of_braced syms h = by_key m.BraceOpen _ refl (and_then syms _ h (one m.BraceClose refl))

of_only : (b : Bool) (syms : List Sym) → Orderly syms → Orderly (only b syms)
of_only true syms h = h
of_only false syms h = never

mutual
  of_form : (f : FormTree) → Orderly (spell_form f)
  of_form (Braces block) = of_braced (spell_stmts block) (of_stmts block)
  of_form (Local names value) = by_key m.Local _ refl (and_then (spell_args names) _ (of_args names) (of_value value))
  of_form (Assign target sign value) = and_then (spell_arg target) _ (of_arg target) (of_set (sign_mark sign) (spell_args value) (of_sign sign) (of_args value))
  of_form (AssignOn target on sign value) = and_then (spell_arg target) _ (of_arg target) (by_key m.On _ refl (and_then (spell_args on) _ (of_args on) (of_set (sign_mark sign) (spell_args value) (of_sign sign) (of_args value))))
  of_form (Include names) = of_set m.Include (spell_args names) refl (of_args names)
  of_form (Return value) = of_set m.Return (spell_args value) refl (of_args value)
  of_form (If test block next) = by_key m.If _ refl (and_then (spell_expr Anywhere test) _ (of_expr Anywhere test) (and_then (braced (spell_stmts block)) _ (of_braced (spell_stmts block) (of_stmts block)) (of_other next)))
  of_form (For own name items block) = by_key m.For _ refl (and_then (local_syms own) _ (of_local own) (by_word name _ (by_key m.In _ refl (and_then (spell_args items) _ (of_args items) (of_braced (spell_stmts block) (of_stmts block))))))
  of_form (While test block) = by_key m.While _ refl (and_then (spell_expr Anywhere test) _ (of_expr Anywhere test) (of_braced (spell_stmts block) (of_stmts block)))
  of_form (Switch value cases) = by_key m.Switch _ refl (and_then (spell_args value) _ (of_args value) (of_braced (spell_cases cases) (of_cases cases)))
  of_form (Module name block) = by_key m.Module _ refl (and_then (spell_args name) _ (of_args name) (of_braced (spell_stmts block) (of_stmts block)))
  of_form (Rule name params block) = by_key m.Rule _ refl (by_word name _ (and_then (params_syms params) _ (of_params params) (of_braced (spell_stmts block) (of_stmts block))))
  of_form (Actions name t e q body) = by_action name body t e q [] none
  of_form (On target line form) = by_key m.On _ refl (and_then (spell_arg target) _ (of_arg target) (by_line line _ (of_form form)))
  of_form (Call head lists) = and_then (spell_arg head) _ (of_arg head) (and_then (spell_lists lists) _ (of_lists lists) (one m.Semicolon refl))

  of_other : (o : OtherTree) → Orderly (spell_other o)
  of_other Nothing = none
  of_other (ElseBraces block) = by_key m.Else _ refl (of_braced (spell_stmts block) (of_stmts block))
  of_other (ElseIf line form) = by_key m.Else _ refl (by_line line _ (of_only (is_if form) (spell_form form) (of_form form)))

  pub of_stmts : (s : StmtTrees) → Orderly (spell_stmts s)
  of_stmts NoStmts = none
  of_stmts (StmtAnd line form rest) = by_line line _ (and_then (spell_form form) _ (of_form form) (of_stmts rest))

  of_cases : (c : CaseTrees) → Orderly (spell_cases c)
  of_cases NoCases = none
  of_cases (CaseAnd pattern block rest) = by_key m.Case _ refl (by_word pattern _ (by_key m.Colon _ refl (and_then (spell_stmts block) _ (of_stmts block) (of_cases rest))))
