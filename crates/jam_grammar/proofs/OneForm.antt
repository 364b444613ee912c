-- Tokens spell one list of statements at most, where what follows is no part of it.
use Rattle.std.proofs.Common.{◌≡◌, ℕ, List, [], ◌∷◌, ◌++◌, Bool, true, false, Option, Some, None, refl, sym, ap, ◌∙◌}
use Rattle.b2_base.specs.declared.token.Token.{Token}
use Rattle.jam_grammar.specs.declared.mark.TokenMark.{TokenMark}
use Rattle.jam_grammar.specs.declared.mark.TokenMark.TheVariants as m
use Rattle.jam_grammar.specs.declared.tree.Sign.{Sign}
use Rattle.jam_grammar.specs.declared.tree.Sign.TheVariants as signs
use Rattle.jam_grammar.specs.Trees.{ArgTrees, NoArgs, ArgAnd, ListTrees, NoLists, ListAnd, FormTree, Braces, Local, Assign, AssignOn, Include, Return, If, For, While, Switch, Module, Rule, Actions, On, Call, OtherTree, Nothing, ElseBraces, ElseIf, StmtTrees, NoStmts, StmtAnd, CaseTrees, NoCases, CaseAnd}
use Rattle.jam_grammar.specs.Spelling.{Sym, Key, Heads, Says, Raw, From, Spells, Anywhere, spell_arg, spell_args, spell_lists, spell_further, spell_expr, params_syms, sign_mark, set_syms, value_syms, local_syms, braced, only, is_if, spell_form, spell_other, spell_stmts, spell_cases}
use Rattle.jam_grammar.proofs.PartsCompose.{spells_split}
use Rattle.jam_grammar.proofs.FirstSymbolTellsFirstToken.{first_mark, tail, key_first, key_tail, says_text, says_first, says_tail, word_at, raw_text, raw_tail, line_is, never_spelled, clash, same_first, begins_arg, begins_list, begins_or, at_first, cong, cong3, cong4}
use Rattle.jam_grammar.proofs.OneArg.{arg_then_first, arg_one, args_one, lists_one, moved}
use Rattle.jam_grammar.proofs.OneExpr.{expr_one}
use Rattle.jam_grammar.proofs.OneParam.{params_one}
use Rattle.jam_grammar.proofs.OneHeading.{IsNameAt, heading_one}

-- the kinds of statements by their first marks
abbrev class_of : TokenMark → TokenMark
class_of m.Query = m.Plain
class_of m.Star = m.Plain
class_of m.Plus = m.Plain
class_of m.Together = m.Plain
class_of m.Existing = m.Plain
class_of m.Quietly = m.Plain
class_of m.SquareOpen = m.Plain
class_of mark = mark

abbrev class : Option TokenMark → TokenMark
class None = m.Unknown
class (Some mark) = class_of mark

arg_class : (o : Option TokenMark) → at_first begins_arg o ≡ true → class o ≡ m.Plain
arg_class None h = cc
arg_class (Some m.Plain) h = refl
arg_class (Some m.Query) h = refl
arg_class (Some m.Star) h = refl
arg_class (Some m.Plus) h = refl
arg_class (Some m.Together) h = refl
arg_class (Some m.Existing) h = refl
arg_class (Some m.Quietly) h = refl
arg_class (Some m.SquareOpen) h = refl
arg_class (Some _) h = cc

abbrev form_class : FormTree → TokenMark
form_class (Braces block) = m.BraceOpen
form_class (Local names value) = m.Local
form_class (Include names) = m.Include
form_class (Return value) = m.Return
form_class (If test block next) = m.If
form_class (For own name items block) = m.For
form_class (While test block) = m.While
form_class (Switch value cases) = m.Switch
form_class (Module name block) = m.Module
form_class (Rule name params block) = m.Rule
form_class (Actions name a b c body) = m.Actions
form_class (On target line form) = m.On
form_class (Assign target sign value) = m.Plain
form_class (AssignOn target on sign value) = m.Plain
form_class (Call head lists) = m.Plain

form_first : (f : FormTree) (ts u : List Token) → Spells ts (spell_form f) u → class (first_mark ts) ≡ form_class f
form_first (Braces block) ts u s = ap class (key_first m.BraceOpen _ ts u s)
form_first (Local names value) ts u s = ap class (key_first m.Local _ ts u s)
form_first (Include names) ts u s = ap class (key_first m.Include _ ts u s)
form_first (Return value) ts u s = ap class (key_first m.Return _ ts u s)
form_first (If test block next) ts u s = ap class (key_first m.If _ ts u s)
form_first (For own name items block) ts u s = ap class (key_first m.For _ ts u s)
form_first (While test block) ts u s = ap class (key_first m.While _ ts u s)
form_first (Switch value cases) ts u s = ap class (key_first m.Switch _ ts u s)
form_first (Module name block) ts u s = ap class (key_first m.Module _ ts u s)
form_first (Rule name params block) ts u s = ap class (key_first m.Rule (Says name ∷ (params_syms params ++ braced (spell_stmts block))) ts u s)
form_first (Actions name a b c body) ts u s = ap class (key_first m.Actions (Heads false false false a b c ∷ Says name ∷ braced (Raw body ∷ [])) ts u s)
form_first (On target line form) ts u s = ap class (key_first m.On _ ts u s)
form_first (Assign target sign value) ts u s = arg_class (first_mark ts) (arg_then_first target _ ts u s)
form_first (AssignOn target on sign value) ts u s = arg_class (first_mark ts) (arg_then_first target _ ts u s)
form_first (Call head lists) ts u s = arg_class (first_mark ts) (arg_then_first head _ ts u s)

form_then_first : (f : FormTree) (syms : List Sym) (ts u : List Token) → Spells ts (spell_form f ++ syms) u → class (first_mark ts) ≡ form_class f
form_then_first f syms ts u s = let q = spells_split ts u (spell_form f) syms s in form_first f ts q.0 q.1

-- how statements and cases go on
abbrev goes_by : TokenMark → Bool
goes_by m.Plain = true
goes_by m.BraceOpen = true
goes_by m.Local = true
goes_by m.Include = true
goes_by m.Return = true
goes_by m.If = true
goes_by m.For = true
goes_by m.While = true
goes_by m.Switch = true
goes_by m.Module = true
goes_by m.Rule = true
goes_by m.Actions = true
goes_by m.On = true
goes_by m.Else = true
goes_by _ = false

abbrev goes_stmt : TokenMark → Bool
goes_stmt mark = goes_by (class_of mark)

abbrev goes_case : TokenMark → Bool
goes_case m.Case = true
goes_case mark = goes_stmt mark

goes_class : (o : Option TokenMark) → goes_by (class o) ≡ true → at_first goes_stmt o ≡ true
goes_class None h = cc
goes_class (Some mark) h = h

form_goes : (f : FormTree) → goes_by (form_class f) ≡ true
form_goes (Braces block) = refl
form_goes (Local names value) = refl
form_goes (Include names) = refl
form_goes (Return value) = refl
form_goes (If test block next) = refl
form_goes (For own name items block) = refl
form_goes (While test block) = refl
form_goes (Switch value cases) = refl
form_goes (Module name block) = refl
form_goes (Rule name params block) = refl
form_goes (Actions name a b c body) = refl
form_goes (On target line form) = refl
form_goes (Assign target sign value) = refl
form_goes (AssignOn target on sign value) = refl
form_goes (Call head lists) = refl

form_no_else : (f : FormTree) → form_class f ≡ m.Else → ⊥
form_no_else (Braces block) h = cc
form_no_else (Local names value) h = cc
form_no_else (Include names) h = cc
form_no_else (Return value) h = cc
form_no_else (If test block next) h = cc
form_no_else (For own name items block) h = cc
form_no_else (While test block) h = cc
form_no_else (Switch value cases) h = cc
form_no_else (Module name block) h = cc
form_no_else (Rule name params block) h = cc
form_no_else (Actions name a b c body) h = cc
form_no_else (On target line form) h = cc
form_no_else (Assign target sign value) h = cc
form_no_else (AssignOn target on sign value) h = cc
form_no_else (Call head lists) h = cc

no_case_no_stmt : (o : Option TokenMark) → at_first goes_case o ≡ false → at_first goes_stmt o ≡ false
no_case_no_stmt None h = refl
no_case_no_stmt (Some m.Case) h = refl
no_case_no_stmt (Some mark) h = h

if_class : (f : FormTree) → is_if f ≡ true → form_class f ≡ m.If
if_class (If test block next) h = refl
if_class _ h = cc

only_spelled : (b : Bool) (syms : List Sym) (ts u : List Token) → Spells ts (only b syms) u → (b ≡ true) × Spells ts syms u
only_spelled true syms ts u s = (refl, s)
only_spelled false syms ts u s = absurd (never_spelled [] ts u s)

-- no `else` follows
abbrev NoElse : List Token → Type 0
NoElse u = first_mark u ≡ Some m.Else → ⊥

no_else_stmts : (u : List Token) → at_first goes_stmt (first_mark u) ≡ false → NoElse u
no_else_stmts u h = λ e. clash (at_first goes_stmt (first_mark u)) (ap (at_first goes_stmt) e) h

stmts_first : (s : StmtTrees) (ts u : List Token) → Spells ts (spell_stmts s) u → at_first goes_stmt (first_mark u) ≡ false → NoElse ts
stmts_first NoStmts ts u s n = no_else_stmts ts (ap (λ x. at_first goes_stmt (first_mark x)) s ∙ n)
stmts_first (StmtAnd line form rest) ts u s n = λ e. form_no_else form (sym (form_then_first form _ ts u s.1) ∙ ap class e)

stmt_goes : (line : ℕ) (form : FormTree) (rest : StmtTrees) (ts u : List Token) → Spells ts (spell_stmts (StmtAnd line form rest)) u → at_first goes_stmt (first_mark ts) ≡ true
stmt_goes line form rest ts u s = goes_class (first_mark ts) (ap goes_by (form_then_first form _ ts u s.1) ∙ form_goes form)

cases_first : (c : CaseTrees) (ts u : List Token) → Spells ts (spell_cases c) u → at_first goes_case (first_mark u) ≡ false → at_first goes_stmt (first_mark ts) ≡ false
cases_first NoCases ts u s n = no_case_no_stmt (first_mark ts) (ap (λ x. at_first goes_case (first_mark x)) s ∙ n)
cases_first (CaseAnd pattern block rest) ts u s n = ap (at_first goes_stmt) (key_first m.Case (Says pattern ∷ Key m.Colon ∷ (spell_stmts block ++ spell_cases rest)) ts u s)

-- what stands in braces
record InBraces (syms : List Sym) (ts u : List Token) : Type 0 where
  opens : first_mark ts ≡ Some m.BraceOpen
  mid : List Token
  inside : Spells (tail ts) syms mid
  closes : first_mark mid ≡ Some m.BraceClose
  after : tail mid ≡ u

in_braces : (syms : List Sym) (ts u : List Token) → Spells ts (braced syms) u → InBraces syms ts u
in_braces syms ts u s =
    let q = spells_split (tail ts) u syms (Key m.BraceClose ∷ []) (key_tail m.BraceOpen _ ts u s) in
    record { opens = key_first m.BraceOpen _ ts u s; mid = q.0; inside = q.1; closes = key_first m.BraceClose [] q.0 u q.2; after = key_tail m.BraceClose [] q.0 u q.2 }

braced_first : (syms more : List Sym) (ts u : List Token) → Spells ts (braced syms ++ more) u → first_mark ts ≡ Some m.BraceOpen
braced_first syms more ts u s = key_first m.BraceOpen _ ts u s

-- a value after its sign
abbrev SetSame : TokenMark → TokenMark → ArgTrees → ArgTrees → List Token → List Token → Type 0
SetSame mark other xs ys u v = (mark ≡ other) × (xs ≡ ys) × (u ≡ v)

set_one : (mark other : TokenMark) (xs ys : ArgTrees) (ts u v : List Token) → Spells ts (set_syms mark (spell_args xs)) u → Spells ts (set_syms other (spell_args ys)) v → SetSame mark other xs ys u v
set_one mark other xs ys ts u v s r =
    let q = spells_split (tail ts) u (spell_args xs) (Key m.Semicolon ∷ []) (key_tail mark _ ts u s) in
    let p = spells_split (tail ts) v (spell_args ys) (Key m.Semicolon ∷ []) (key_tail other _ ts v r) in
    let e = args_one xs ys (tail ts) q.0 p.0 q.1 p.1 (ap (at_first begins_arg) (key_first m.Semicolon [] q.0 u q.2)) (ap (at_first begins_arg) (key_first m.Semicolon [] p.0 v p.2)) in
    (same_first (first_mark ts) mark other (key_first mark _ ts u s) (key_first other _ ts v r), e.0, sym (key_tail m.Semicolon [] q.0 u q.2) ∙ ap tail e.1 ∙ key_tail m.Semicolon [] p.0 v p.2)

set_first : (mark : TokenMark) (syms : List Sym) (ts u : List Token) → Spells ts (set_syms mark syms) u → first_mark ts ≡ Some mark
set_first mark syms ts u s = key_first mark _ ts u s

sign_one : (a b : Sign) → sign_mark a ≡ sign_mark b → a ≡ b
sign_one signs.Set signs.Set h = refl
sign_one signs.Add signs.Add h = refl
sign_one signs.Fill signs.Fill h = refl
sign_one signs.Set signs.Add h = cc
sign_one signs.Set signs.Fill h = cc
sign_one signs.Add signs.Set h = cc
sign_one signs.Add signs.Fill h = cc
sign_one signs.Fill signs.Set h = cc
sign_one signs.Fill signs.Add h = cc

value_one : (a b : Option ArgTrees) (ts u v : List Token) → Spells ts (value_syms a) u → Spells ts (value_syms b) v → (a ≡ b) × (u ≡ v)
value_one None None ts u v s r = (refl, sym (key_tail m.Semicolon [] ts u s) ∙ key_tail m.Semicolon [] ts v r)
value_one None (Some y) ts u v s r = let e = same_first (first_mark ts) m.Semicolon m.Equals (key_first m.Semicolon [] ts u s) (set_first m.Equals _ ts v r) in cc
value_one (Some x) None ts u v s r = let e = same_first (first_mark ts) m.Semicolon m.Equals (key_first m.Semicolon [] ts v r) (set_first m.Equals _ ts u s) in cc
value_one (Some x) (Some y) ts u v s r = let e = set_one m.Equals m.Equals x y ts u v s r in (ap Some e.1, e.2)

value_first : (a : Option ArgTrees) (ts u : List Token) → Spells ts (value_syms a) u → at_first begins_arg (first_mark ts) ≡ false
value_first None ts u s = ap (at_first begins_arg) (key_first m.Semicolon [] ts u s)
value_first (Some x) ts u s = ap (at_first begins_arg) (set_first m.Equals _ ts u s)

no_sign_on : (sign : Sign) → sign_mark sign ≡ m.On → ⊥
no_sign_on signs.Set h = cc
no_sign_on signs.Add h = cc
no_sign_on signs.Fill h = cc

sign_no_arg : (sign : Sign) → begins_arg (sign_mark sign) ≡ false
sign_no_arg signs.Set = refl
sign_no_arg signs.Add = refl
sign_no_arg signs.Fill = refl

-- lists and a semicolon begin with neither a sign nor `on`
abbrev begins_call : TokenMark → Bool
begins_call m.Semicolon = true
begins_call mark = begins_list mark

args_then_list : (o : Option TokenMark) → at_first begins_arg o ≡ true → at_first begins_call o ≡ true
args_then_list None h = h
args_then_list (Some m.Plain) h = refl
args_then_list (Some m.Query) h = refl
args_then_list (Some m.Star) h = refl
args_then_list (Some m.Plus) h = refl
args_then_list (Some m.Together) h = refl
args_then_list (Some m.Existing) h = refl
args_then_list (Some m.Quietly) h = refl
args_then_list (Some m.SquareOpen) h = refl
args_then_list (Some _) h = cc

call_first : (lists : ListTrees) (ts mid u : List Token) → Spells ts (spell_lists lists) mid → first_mark mid ≡ Some m.Semicolon → at_first begins_call (first_mark ts) ≡ true
call_first NoLists ts mid u s h = absurd (never_spelled [] ts mid s)
call_first (ListAnd NoArgs NoLists) ts mid u s h = ap (λ x. at_first begins_call (first_mark x)) s ∙ ap (at_first begins_call) h
call_first (ListAnd NoArgs (ListAnd second rest)) ts mid u s h = ap (at_first begins_call) (key_first m.Colon _ ts mid s)
call_first (ListAnd (ArgAnd first more) rest) ts mid u s h =
    let q = spells_split ts mid (spell_args (ArgAnd first more)) (spell_further rest) s in
    args_then_list (first_mark ts) (arg_then_first first (spell_args more) ts q.0 q.1)

call_tail : (lists : ListTrees) (ts u : List Token) → Spells ts (spell_lists lists ++ Key m.Semicolon ∷ []) u → at_first begins_call (first_mark ts) ≡ true
call_tail lists ts u s =
    let q = spells_split ts u (spell_lists lists) (Key m.Semicolon ∷ []) s in
    call_first lists ts q.0 u q.1 (key_first m.Semicolon [] q.0 u q.2)

no_sign_call : (sign : Sign) → begins_call (sign_mark sign) ≡ false
no_sign_call signs.Set = refl
no_sign_call signs.Add = refl
no_sign_call signs.Fill = refl

local_one : (a b : Bool) (x y : List ℕ) (more other : List Sym) (ts u v : List Token) → Spells ts (local_syms a ++ (Says x ∷ more)) u → Spells ts (local_syms b ++ (Says y ∷ other)) v → (a ≡ b) × (x ≡ y) × ((w : List Token) × Spells w more u × Spells w other v)
local_one true true x y more other ts u v s r =
    let t = key_tail m.Local (Says x ∷ more) ts u s in
    let w = key_tail m.Local (Says y ∷ other) ts v r in
    (refl, sym (says_text x more (tail ts) u t) ∙ says_text y other (tail ts) v w, (tail (tail ts), says_tail x more (tail ts) u t, says_tail y other (tail ts) v w))
local_one false false x y more other ts u v s r = (refl, sym (says_text x more ts u s) ∙ says_text y other ts v r, (tail ts, says_tail x more ts u s, says_tail y other ts v r))
local_one true false x y more other ts u v s r = clash (word_at (first_mark ts)) (says_first y other ts v r) (ap word_at (key_first m.Local (Says x ∷ more) ts u s))
local_one false true x y more other ts u v s r = clash (word_at (first_mark ts)) (says_first x more ts u s) (ap word_at (key_first m.Local (Says y ∷ other) ts v r))

-- arguments before a block
brace_no_arg : (ts : List Token) → first_mark ts ≡ Some m.BraceOpen → at_first begins_arg (first_mark ts) ≡ false
brace_no_arg ts h = ap (at_first begins_arg) h

brace_no_or : (ts : List Token) → first_mark ts ≡ Some m.BraceOpen → at_first begins_or (first_mark ts) ≡ false
brace_no_or ts h = ap (at_first begins_or) h

abbrev OnlyStmts : StmtTrees → Type 0
OnlyStmts xs = (ys : StmtTrees) (ts u v : List Token) → Spells ts (spell_stmts xs) u → Spells ts (spell_stmts ys) v → at_first goes_stmt (first_mark u) ≡ false → at_first goes_stmt (first_mark v) ≡ false → (xs ≡ ys) × (u ≡ v)

block_one : (xs ys : StmtTrees) → OnlyStmts xs → (ts u v : List Token) → Spells ts (braced (spell_stmts xs)) u → Spells ts (braced (spell_stmts ys)) v → (xs ≡ ys) × (u ≡ v)
block_one xs ys alone ts u v s r =
    let q = in_braces (spell_stmts xs) ts u s in
    let p = in_braces (spell_stmts ys) ts v r in
    let e = alone ys (tail ts) q.mid p.mid q.inside p.inside (ap (at_first goes_stmt) q.closes) (ap (at_first goes_stmt) p.closes) in
    (e.0, sym q.after ∙ ap tail e.1 ∙ p.after)

args_block_one : (a b : ArgTrees) (xs ys : StmtTrees) → OnlyStmts xs → (ts u v : List Token) → Spells ts (spell_args a ++ braced (spell_stmts xs)) u → Spells ts (spell_args b ++ braced (spell_stmts ys)) v → (a ≡ b) × (xs ≡ ys) × (u ≡ v)
args_block_one a b xs ys alone ts u v s r =
    let q = spells_split ts u (spell_args a) (braced (spell_stmts xs)) s in
    let p = spells_split ts v (spell_args b) (braced (spell_stmts ys)) r in
    let e = args_one a b ts q.0 p.0 q.1 p.1 (brace_no_arg q.0 (key_first m.BraceOpen _ q.0 u q.2)) (brace_no_arg p.0 (key_first m.BraceOpen _ p.0 v p.2)) in
    let f = block_one xs ys alone q.0 u v q.2 (moved (braced (spell_stmts ys)) q.0 p.0 v e.1 p.2) in
    (e.0, f.0, f.1)

-- the name and the body of actions
named_at : (name body : List ℕ) (ts u : List Token) → Spells ts (Says name ∷ braced (Raw body ∷ [])) u → IsNameAt ts
named_at name body ts u s = (says_first name (braced (Raw body ∷ [])) ts u s, key_first m.BraceOpen (Raw body ∷ Key m.BraceClose ∷ []) (tail ts) u (says_tail name (braced (Raw body ∷ [])) ts u s))

actions_one : (name other body more : List ℕ) (ts u v : List Token) → Spells ts (Says name ∷ braced (Raw body ∷ [])) u → Spells ts (Says other ∷ braced (Raw more ∷ [])) v → (name ≡ other) × (body ≡ more) × (u ≡ v)
actions_one name other body more ts u v a b =
    let c = key_tail m.BraceOpen (Raw body ∷ Key m.BraceClose ∷ []) (tail ts) u (says_tail name (braced (Raw body ∷ [])) ts u a) in
    let d = key_tail m.BraceOpen (Raw more ∷ Key m.BraceClose ∷ []) (tail ts) v (says_tail other (braced (Raw more ∷ [])) ts v b) in
    let at = tail (tail ts) in (
      sym (says_text name (braced (Raw body ∷ [])) ts u a) ∙ says_text other (braced (Raw more ∷ [])) ts v b,
      sym (raw_text body (Key m.BraceClose ∷ []) at u c) ∙ raw_text more (Key m.BraceClose ∷ []) at v d,
      sym (key_tail m.BraceClose [] (tail at) u (raw_tail body (Key m.BraceClose ∷ []) at u c)) ∙ key_tail m.BraceClose [] (tail at) v (raw_tail more (Key m.BraceClose ∷ []) at v d),
    )

cong5 : {A B C D E F : Type 0} (f : A → B → C → D → E → F) {a1 a2 : A} {b1 b2 : B} {c1 c2 : C} {d1 d2 : D} {e1 e2 : E} → a1 ≡ a2 → b1 ≡ b2 → c1 ≡ c2 → d1 ≡ d2 → e1 ≡ e2 → f a1 b1 c1 d1 e1 ≡ f a2 b2 c2 d2 e2
cong5 f {a1} {a2} {b1} {b2} {c1} {c2} {d1} {d2} {e1} {e2} g h i j k =
    ap (λ x. f x b1 c1 d1 e1) g ∙ ap (λ x. f a2 x c1 d1 e1) h ∙ ap (λ x. f a2 b2 x d1 e1) i ∙ ap (λ x. f a2 b2 c2 x e1) j ∙ ap (λ x. f a2 b2 c2 d2 x) k

differ : (f g : FormTree) (ts u v : List Token) → Spells ts (spell_form f) u → Spells ts (spell_form g) v → form_class f ≡ form_class g
differ f g ts u v s r = sym (form_first f ts u s) ∙ form_first g ts v r

mutual
  form_one : (f g : FormTree) (ts u v : List Token) → Spells ts (spell_form f) u → Spells ts (spell_form g) v → NoElse u → NoElse v → (f ≡ g) × (u ≡ v)
  form_one (Braces block) (Braces other) ts u v s r n k =
      let e = block_one block other (λ ys. stmts_one block ys) ts u v s r in
      (ap Braces e.0, e.1)
  form_one (Local names value) (Local others more) ts u v s r n k =
      let q = spells_split (tail ts) u (spell_args names) (value_syms value) (key_tail m.Local _ ts u s) in
      let p = spells_split (tail ts) v (spell_args others) (value_syms more) (key_tail m.Local _ ts v r) in
      let e = args_one names others (tail ts) q.0 p.0 q.1 p.1 (value_first value q.0 u q.2) (value_first more p.0 v p.2) in
      let f = value_one value more q.0 u v q.2 (moved (value_syms more) q.0 p.0 v e.1 p.2) in
      (cong Local e.0 f.0, f.1)
  form_one (Include names) (Include others) ts u v s r n k = let e = set_one m.Include m.Include names others ts u v s r in (ap Include e.1, e.2)
  form_one (Return value) (Return other) ts u v s r n k = let e = set_one m.Return m.Return value other ts u v s r in (ap Return e.1, e.2)
  form_one (If test block next) (If other more last) ts u v s r n k =
      let q = spells_split (tail ts) u (spell_expr Anywhere test) (braced (spell_stmts block) ++ spell_other next) (key_tail m.If _ ts u s) in
      let p = spells_split (tail ts) v (spell_expr Anywhere other) (braced (spell_stmts more) ++ spell_other last) (key_tail m.If _ ts v r) in
      let e = expr_one Anywhere test other (tail ts) q.0 p.0 q.1 p.1 (brace_no_or q.0 (braced_first _ _ q.0 u q.2)) (brace_no_or p.0 (braced_first _ _ p.0 v p.2)) in
      let a = spells_split q.0 u (braced (spell_stmts block)) (spell_other next) q.2 in
      let b = spells_split q.0 v (braced (spell_stmts more)) (spell_other last) (moved (braced (spell_stmts more) ++ spell_other last) q.0 p.0 v e.1 p.2) in
      let f = block_one block more (λ ys. stmts_one block ys) q.0 a.0 b.0 a.1 b.1 in
      let g = other_one next last a.0 u v a.2 (moved (spell_other last) a.0 b.0 v f.1 b.2) n k in
      (cong3 (λ a b c. If a b c) e.0 f.0 g.0, g.1)
  form_one (For own name items block) (For other text more body) ts u v s r n k =
      let e = local_one own other name text (Key m.In ∷ (spell_args items ++ braced (spell_stmts block))) (Key m.In ∷ (spell_args more ++ braced (spell_stmts body))) (tail ts) u v (key_tail m.For _ ts u s) (key_tail m.For _ ts v r) in
      let w = e.2 in
      let f = args_block_one items more block body (λ ys. stmts_one block ys) (tail w.0) u v (key_tail m.In _ w.0 u w.1) (key_tail m.In _ w.0 v w.2) in
      (cong4 (λ a b c d. For a b c d) e.0 e.1 f.0 f.1, f.2)
  form_one (While test block) (While other body) ts u v s r n k =
      let q = spells_split (tail ts) u (spell_expr Anywhere test) (braced (spell_stmts block)) (key_tail m.While _ ts u s) in
      let p = spells_split (tail ts) v (spell_expr Anywhere other) (braced (spell_stmts body)) (key_tail m.While _ ts v r) in
      let e = expr_one Anywhere test other (tail ts) q.0 p.0 q.1 p.1 (brace_no_or q.0 (key_first m.BraceOpen _ q.0 u q.2)) (brace_no_or p.0 (key_first m.BraceOpen _ p.0 v p.2)) in
      let f = block_one block body (λ ys. stmts_one block ys) q.0 u v q.2 (moved (braced (spell_stmts body)) q.0 p.0 v e.1 p.2) in
      (cong While e.0 f.0, f.1)
  form_one (Switch value cases) (Switch other more) ts u v s r n k =
      let q = spells_split (tail ts) u (spell_args value) (braced (spell_cases cases)) (key_tail m.Switch _ ts u s) in
      let p = spells_split (tail ts) v (spell_args other) (braced (spell_cases more)) (key_tail m.Switch _ ts v r) in
      let e = args_one value other (tail ts) q.0 p.0 q.1 p.1 (brace_no_arg q.0 (key_first m.BraceOpen _ q.0 u q.2)) (brace_no_arg p.0 (key_first m.BraceOpen _ p.0 v p.2)) in
      let a = in_braces (spell_cases cases) q.0 u q.2 in
      let b = in_braces (spell_cases more) q.0 v (moved (braced (spell_cases more)) q.0 p.0 v e.1 p.2) in
      let f = cases_one cases more (tail q.0) a.mid b.mid a.inside b.inside (ap (at_first goes_case) a.closes) (ap (at_first goes_case) b.closes) in
      (cong Switch e.0 f.0, sym a.after ∙ ap tail f.1 ∙ b.after)
  form_one (Module name block) (Module other body) ts u v s r n k =
      let e = args_block_one name other block body (λ ys. stmts_one block ys) (tail ts) u v (key_tail m.Module _ ts u s) (key_tail m.Module _ ts v r) in
      (cong Module e.0 e.1, e.2)
  form_one (Rule name params block) (Rule other more body) ts u v s r n k =
      let a = key_tail m.Rule (Says name ∷ (params_syms params ++ braced (spell_stmts block))) ts u s in
      let b = key_tail m.Rule (Says other ∷ (params_syms more ++ braced (spell_stmts body))) ts v r in
      let q = spells_split (tail (tail ts)) u (params_syms params) (braced (spell_stmts block)) (says_tail name (params_syms params ++ braced (spell_stmts block)) (tail ts) u a) in
      let p = spells_split (tail (tail ts)) v (params_syms more) (braced (spell_stmts body)) (says_tail other (params_syms more ++ braced (spell_stmts body)) (tail ts) v b) in
      let e = params_one params more (tail (tail ts)) q.0 p.0 q.1 p.1 (key_first m.BraceOpen _ q.0 u q.2) (key_first m.BraceOpen _ p.0 v p.2) in
      let f = block_one block body (λ ys. stmts_one block ys) q.0 u v q.2 (moved (braced (spell_stmts body)) q.0 p.0 v e.1 p.2) in
      (cong3 (λ a b c. Rule a b c) (sym (says_text name (params_syms params ++ braced (spell_stmts block)) (tail ts) u a) ∙ says_text other (params_syms more ++ braced (spell_stmts body)) (tail ts) v b) e.0 f.0, f.1)
  form_one (Actions name a b c body) (Actions other x y z more) ts u v s r n k =
      let p = key_tail m.Actions (Heads false false false a b c ∷ Says name ∷ braced (Raw body ∷ [])) ts u s in
      let q = key_tail m.Actions (Heads false false false x y z ∷ Says other ∷ braced (Raw more ∷ [])) ts v r in
      let e = heading_one p.1 q.1 (named_at name body p.0 u p.2) (named_at other more q.0 v q.2) in
      let f = actions_one name other body more p.0 u v p.2 (moved (Says other ∷ braced (Raw more ∷ [])) p.0 q.0 v e.3 q.2) in
      (cong5 (λ i j k l o. Actions i j k l o) f.0 e.0 e.1 e.2 f.1, f.2)
  form_one (On target line form) (On other number body) ts u v s r n k =
      let q = spells_split (tail ts) u (spell_arg target) (From line ∷ spell_form form) (key_tail m.On _ ts u s) in
      let p = spells_split (tail ts) v (spell_arg other) (From number ∷ spell_form body) (key_tail m.On _ ts v r) in
      let e = arg_one target other (tail ts) q.0 p.0 q.1 p.1 in
      let w = moved (From number ∷ spell_form body) q.0 p.0 v e.1 p.2 in
      let f = form_one form body q.0 u v q.2.1 w.1 n k in
      (cong3 (λ a b c. On a b c) e.0 (sym (line_is line q.0 q.2.0) ∙ line_is number q.0 w.0) f.0, f.1)
  form_one (Assign target sign value) (Assign other mark more) ts u v s r n k =
      let q = spells_split ts u (spell_arg target) (set_syms (sign_mark sign) (spell_args value)) s in
      let p = spells_split ts v (spell_arg other) (set_syms (sign_mark mark) (spell_args more)) r in
      let e = arg_one target other ts q.0 p.0 q.1 p.1 in
      let f = set_one (sign_mark sign) (sign_mark mark) value more q.0 u v q.2 (moved (set_syms (sign_mark mark) (spell_args more)) q.0 p.0 v e.1 p.2) in
      (cong3 (λ a b c. Assign a b c) e.0 (sign_one sign mark f.0) f.1, f.2)
  form_one (Assign target sign value) (AssignOn other on mark more) ts u v s r n k =
      let q = spells_split ts u (spell_arg target) (set_syms (sign_mark sign) (spell_args value)) s in
      let p = spells_split ts v (spell_arg other) (Key m.On ∷ (spell_args on ++ set_syms (sign_mark mark) (spell_args more))) r in
      let e = arg_one target other ts q.0 p.0 q.1 p.1 in
      absurd (no_sign_on sign (same_first (first_mark q.0) (sign_mark sign) m.On (set_first (sign_mark sign) _ q.0 u q.2) (ap first_mark e.1 ∙ key_first m.On _ p.0 v p.2)))
  form_one (AssignOn other on mark more) (Assign target sign value) ts u v s r n k =
      let q = spells_split ts v (spell_arg target) (set_syms (sign_mark sign) (spell_args value)) r in
      let p = spells_split ts u (spell_arg other) (Key m.On ∷ (spell_args on ++ set_syms (sign_mark mark) (spell_args more))) s in
      let e = arg_one target other ts q.0 p.0 q.1 p.1 in
      absurd (no_sign_on sign (same_first (first_mark q.0) (sign_mark sign) m.On (set_first (sign_mark sign) _ q.0 v q.2) (ap first_mark e.1 ∙ key_first m.On _ p.0 u p.2)))
  form_one (Assign target sign value) (Call head lists) ts u v s r n k =
      let q = spells_split ts u (spell_arg target) (set_syms (sign_mark sign) (spell_args value)) s in
      let p = spells_split ts v (spell_arg head) (spell_lists lists ++ Key m.Semicolon ∷ []) r in
      let e = arg_one target head ts q.0 p.0 q.1 p.1 in
      clash (at_first begins_call (first_mark p.0)) (call_tail lists p.0 v p.2) (ap (λ x. at_first begins_call (first_mark x)) (sym e.1) ∙ ap (at_first begins_call) (set_first (sign_mark sign) _ q.0 u q.2) ∙ no_sign_call sign)
  form_one (Call head lists) (Assign target sign value) ts u v s r n k =
      let q = spells_split ts v (spell_arg target) (set_syms (sign_mark sign) (spell_args value)) r in
      let p = spells_split ts u (spell_arg head) (spell_lists lists ++ Key m.Semicolon ∷ []) s in
      let e = arg_one target head ts q.0 p.0 q.1 p.1 in
      clash (at_first begins_call (first_mark p.0)) (call_tail lists p.0 u p.2) (ap (λ x. at_first begins_call (first_mark x)) (sym e.1) ∙ ap (at_first begins_call) (set_first (sign_mark sign) _ q.0 v q.2) ∙ no_sign_call sign)
  form_one (AssignOn target on sign value) (AssignOn other more mark last) ts u v s r n k =
      let q = spells_split ts u (spell_arg target) (Key m.On ∷ (spell_args on ++ set_syms (sign_mark sign) (spell_args value))) s in
      let p = spells_split ts v (spell_arg other) (Key m.On ∷ (spell_args more ++ set_syms (sign_mark mark) (spell_args last))) r in
      let e = arg_one target other ts q.0 p.0 q.1 p.1 in
      let w = moved (Key m.On ∷ (spell_args more ++ set_syms (sign_mark mark) (spell_args last))) q.0 p.0 v e.1 p.2 in
      let a = spells_split (tail q.0) u (spell_args on) (set_syms (sign_mark sign) (spell_args value)) (key_tail m.On _ q.0 u q.2) in
      let b = spells_split (tail q.0) v (spell_args more) (set_syms (sign_mark mark) (spell_args last)) (key_tail m.On _ q.0 v w) in
      let f = args_one on more (tail q.0) a.0 b.0 a.1 b.1 (ap (at_first begins_arg) (set_first (sign_mark sign) _ a.0 u a.2) ∙ sign_no_arg sign) (ap (at_first begins_arg) (set_first (sign_mark mark) _ b.0 v b.2) ∙ sign_no_arg mark) in
      let g = set_one (sign_mark sign) (sign_mark mark) value last a.0 u v a.2 (moved (set_syms (sign_mark mark) (spell_args last)) a.0 b.0 v f.1 b.2) in
      (cong4 (λ a b c d. AssignOn a b c d) e.0 f.0 (sign_one sign mark g.0) g.1, g.2)
  form_one (AssignOn target on sign value) (Call head lists) ts u v s r n k =
      let q = spells_split ts u (spell_arg target) (Key m.On ∷ (spell_args on ++ set_syms (sign_mark sign) (spell_args value))) s in
      let p = spells_split ts v (spell_arg head) (spell_lists lists ++ Key m.Semicolon ∷ []) r in
      let e = arg_one target head ts q.0 p.0 q.1 p.1 in
      clash (at_first begins_call (first_mark p.0)) (call_tail lists p.0 v p.2) (ap (λ x. at_first begins_call (first_mark x)) (sym e.1) ∙ ap (at_first begins_call) (key_first m.On _ q.0 u q.2))
  form_one (Call head lists) (AssignOn target on sign value) ts u v s r n k =
      let q = spells_split ts v (spell_arg target) (Key m.On ∷ (spell_args on ++ set_syms (sign_mark sign) (spell_args value))) r in
      let p = spells_split ts u (spell_arg head) (spell_lists lists ++ Key m.Semicolon ∷ []) s in
      let e = arg_one target head ts q.0 p.0 q.1 p.1 in
      clash (at_first begins_call (first_mark p.0)) (call_tail lists p.0 u p.2) (ap (λ x. at_first begins_call (first_mark x)) (sym e.1) ∙ ap (at_first begins_call) (key_first m.On _ q.0 v q.2))
  form_one (Call head lists) (Call other more) ts u v s r n k =
      let q = spells_split ts u (spell_arg head) (spell_lists lists ++ Key m.Semicolon ∷ []) s in
      let p = spells_split ts v (spell_arg other) (spell_lists more ++ Key m.Semicolon ∷ []) r in
      let e = arg_one head other ts q.0 p.0 q.1 p.1 in
      let a = spells_split q.0 u (spell_lists lists) (Key m.Semicolon ∷ []) q.2 in
      let b = spells_split q.0 v (spell_lists more) (Key m.Semicolon ∷ []) (moved (spell_lists more ++ Key m.Semicolon ∷ []) q.0 p.0 v e.1 p.2) in
      let f = lists_one lists more q.0 a.0 b.0 a.1 b.1 (ap (at_first begins_list) (key_first m.Semicolon [] a.0 u a.2)) (ap (at_first begins_list) (key_first m.Semicolon [] b.0 v b.2)) in
      (cong Call e.0 f.0, sym (key_tail m.Semicolon [] a.0 u a.2) ∙ ap tail f.1 ∙ key_tail m.Semicolon [] b.0 v b.2)
  form_one (Braces block) g ts u v s r n k = let e = differ (Braces block) g ts u v s r in cc
  form_one (Local names value) g ts u v s r n k = let e = differ (Local names value) g ts u v s r in cc
  form_one (Include names) g ts u v s r n k = let e = differ (Include names) g ts u v s r in cc
  form_one (Return value) g ts u v s r n k = let e = differ (Return value) g ts u v s r in cc
  form_one (If test block next) g ts u v s r n k = let e = differ (If test block next) g ts u v s r in cc
  form_one (For own name items block) g ts u v s r n k = let e = differ (For own name items block) g ts u v s r in cc
  form_one (While test block) g ts u v s r n k = let e = differ (While test block) g ts u v s r in cc
  form_one (Switch value cases) g ts u v s r n k = let e = differ (Switch value cases) g ts u v s r in cc
  form_one (Module name block) g ts u v s r n k = let e = differ (Module name block) g ts u v s r in cc
  form_one (Rule name params block) g ts u v s r n k = let e = differ (Rule name params block) g ts u v s r in cc
  form_one (Actions name a b c body) g ts u v s r n k = let e = differ (Actions name a b c body) g ts u v s r in cc
  form_one (On target line form) g ts u v s r n k = let e = differ (On target line form) g ts u v s r in cc
  form_one (Assign target sign value) g ts u v s r n k = let e = differ (Assign target sign value) g ts u v s r in cc
  form_one (AssignOn target on sign value) g ts u v s r n k = let e = differ (AssignOn target on sign value) g ts u v s r in cc
  form_one (Call head lists) g ts u v s r n k = let e = differ (Call head lists) g ts u v s r in cc

  other_one : (a b : OtherTree) (ts u v : List Token) → Spells ts (spell_other a) u → Spells ts (spell_other b) v → NoElse u → NoElse v → (a ≡ b) × (u ≡ v)
  other_one Nothing Nothing ts u v s r n k = (refl, sym s ∙ r)
  other_one Nothing (ElseBraces body) ts u v s r n k = absurd (n (ap first_mark (sym s) ∙ key_first m.Else (braced (spell_stmts body)) ts v r))
  other_one Nothing (ElseIf line form) ts u v s r n k = absurd (n (ap first_mark (sym s) ∙ key_first m.Else (From line ∷ only (is_if form) (spell_form form)) ts v r))
  other_one (ElseBraces block) Nothing ts u v s r n k = absurd (k (ap first_mark (sym r) ∙ key_first m.Else (braced (spell_stmts block)) ts u s))
  other_one (ElseIf line form) Nothing ts u v s r n k = absurd (k (ap first_mark (sym r) ∙ key_first m.Else (From line ∷ only (is_if form) (spell_form form)) ts u s))
  other_one (ElseBraces block) (ElseBraces body) ts u v s r n k =
      let e = block_one block body (λ ys. stmts_one block ys) (tail ts) u v (key_tail m.Else (braced (spell_stmts block)) ts u s) (key_tail m.Else (braced (spell_stmts body)) ts v r) in
      (ap ElseBraces e.0, e.1)
  other_one (ElseBraces block) (ElseIf line form) ts u v s r n k =
      let p = only_spelled (is_if form) (spell_form form) (tail ts) v (key_tail m.Else (From line ∷ only (is_if form) (spell_form form)) ts v r).1 in
      let e : m.BraceOpen ≡ m.If = sym (ap class (key_first m.BraceOpen _ (tail ts) u (key_tail m.Else (braced (spell_stmts block)) ts u s))) ∙ form_first form (tail ts) v p.1 ∙ if_class form p.0 in
      cc
  other_one (ElseIf line form) (ElseBraces block) ts u v s r n k =
      let p = only_spelled (is_if form) (spell_form form) (tail ts) u (key_tail m.Else (From line ∷ only (is_if form) (spell_form form)) ts u s).1 in
      let e : m.BraceOpen ≡ m.If = sym (ap class (key_first m.BraceOpen _ (tail ts) v (key_tail m.Else (braced (spell_stmts block)) ts v r))) ∙ form_first form (tail ts) u p.1 ∙ if_class form p.0 in
      cc
  other_one (ElseIf line form) (ElseIf number body) ts u v s r n k =
      let a = key_tail m.Else (From line ∷ only (is_if form) (spell_form form)) ts u s in
      let b = key_tail m.Else (From number ∷ only (is_if body) (spell_form body)) ts v r in
      let q = only_spelled (is_if form) (spell_form form) (tail ts) u a.1 in
      let p = only_spelled (is_if body) (spell_form body) (tail ts) v b.1 in
      let e = form_one form body (tail ts) u v q.1 p.1 n k in
      (cong ElseIf (sym (line_is line (tail ts) a.0) ∙ line_is number (tail ts) b.0) e.0, e.1)

  pub stmts_one : (xs ys : StmtTrees) (ts u v : List Token) → Spells ts (spell_stmts xs) u → Spells ts (spell_stmts ys) v → at_first goes_stmt (first_mark u) ≡ false → at_first goes_stmt (first_mark v) ≡ false → (xs ≡ ys) × (u ≡ v)
  stmts_one NoStmts NoStmts ts u v s r n k = (refl, sym s ∙ r)
  stmts_one NoStmts (StmtAnd line form rest) ts u v s r n k = clash (at_first goes_stmt (first_mark ts)) (stmt_goes line form rest ts v r) (ap (λ x. at_first goes_stmt (first_mark x)) s ∙ n)
  stmts_one (StmtAnd line form rest) NoStmts ts u v s r n k = clash (at_first goes_stmt (first_mark ts)) (stmt_goes line form rest ts u s) (ap (λ x. at_first goes_stmt (first_mark x)) r ∙ k)
  stmts_one (StmtAnd line form rest) (StmtAnd number body more) ts u v s r n k =
      let q = spells_split ts u (spell_form form) (spell_stmts rest) s.1 in
      let p = spells_split ts v (spell_form body) (spell_stmts more) r.1 in
      let e = form_one form body ts q.0 p.0 q.1 p.1 (stmts_first rest q.0 u q.2 n) (stmts_first more p.0 v p.2 k) in
      let f = stmts_one rest more q.0 u v q.2 (moved (spell_stmts more) q.0 p.0 v e.1 p.2) n k in
      (cong3 (λ a b c. StmtAnd a b c) (sym (line_is line ts s.0) ∙ line_is number ts r.0) e.0 f.0, f.1)

  cases_one : (xs ys : CaseTrees) (ts u v : List Token) → Spells ts (spell_cases xs) u → Spells ts (spell_cases ys) v → at_first goes_case (first_mark u) ≡ false → at_first goes_case (first_mark v) ≡ false → (xs ≡ ys) × (u ≡ v)
  cases_one NoCases NoCases ts u v s r n k = (refl, sym s ∙ r)
  cases_one NoCases (CaseAnd pattern block rest) ts u v s r n k = clash (at_first goes_case (first_mark ts)) (ap (at_first goes_case) (key_first m.Case (Says pattern ∷ Key m.Colon ∷ (spell_stmts block ++ spell_cases rest)) ts v r)) (ap (λ x. at_first goes_case (first_mark x)) s ∙ n)
  cases_one (CaseAnd pattern block rest) NoCases ts u v s r n k = clash (at_first goes_case (first_mark ts)) (ap (at_first goes_case) (key_first m.Case (Says pattern ∷ Key m.Colon ∷ (spell_stmts block ++ spell_cases rest)) ts u s)) (ap (λ x. at_first goes_case (first_mark x)) r ∙ k)
  cases_one (CaseAnd pattern block rest) (CaseAnd other body more) ts u v s r n k =
      let a = key_tail m.Case (Says pattern ∷ Key m.Colon ∷ (spell_stmts block ++ spell_cases rest)) ts u s in
      let b = key_tail m.Case (Says other ∷ Key m.Colon ∷ (spell_stmts body ++ spell_cases more)) ts v r in
      let at = tail (tail (tail ts)) in
      let q = spells_split at u (spell_stmts block) (spell_cases rest) (key_tail m.Colon _ (tail (tail ts)) u (says_tail pattern (Key m.Colon ∷ (spell_stmts block ++ spell_cases rest)) (tail ts) u a)) in
      let p = spells_split at v (spell_stmts body) (spell_cases more) (key_tail m.Colon _ (tail (tail ts)) v (says_tail other (Key m.Colon ∷ (spell_stmts body ++ spell_cases more)) (tail ts) v b)) in
      let e = stmts_one block body at q.0 p.0 q.1 p.1 (cases_first rest q.0 u q.2 n) (cases_first more p.0 v p.2 k) in
      let f = cases_one rest more q.0 u v q.2 (moved (spell_cases more) q.0 p.0 v e.1 p.2) n k in
      (cong3 (λ a b c. CaseAnd a b c) (sym (says_text pattern (Key m.Colon ∷ (spell_stmts block ++ spell_cases rest)) (tail ts) u a) ∙ says_text other (Key m.Colon ∷ (spell_stmts body ++ spell_cases more)) (tail ts) v b) e.0 f.0, f.1)

-- tokens spell one tree
pub tree_one : (tokens : List Token) (a b : StmtTrees) → Spells tokens (spell_stmts a) [] → Spells tokens (spell_stmts b) [] → a ≡ b
tree_one tokens a b s r = (stmts_one a b tokens [] [] s r refl refl).0
