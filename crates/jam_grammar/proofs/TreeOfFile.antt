-- Tokens that derive a file spell a tree: what each part of it stands for, by induction on the derivation.
use Rattle.std.proofs.Common.{◌≡◌, ℕ, suc, List, [], ◌∷◌, ◌++◌, Bool, true, false, ◌&&◌, Option, Some, None, codes, flat_map, if◌then◌else◌, refl, sym, ap, ◌∙◌, subst, append_assoc}
use Rattle.std.specs.Str.{bytes_eq}
use Rattle.std.proofs.lemmas.List.{append-nil}
use Rattle.b2_base.specs.declared.token.Token.{Token}
use Rattle.jam_grammar.specs.declared.mark.TokenMark.{TokenMark}
use Rattle.jam_grammar.specs.declared.mark.TokenMark.TheVariants as m
use Rattle.jam_grammar.specs.declared.tree.Sign.{Sign}
use Rattle.jam_grammar.specs.declared.tree.Sign.TheVariants as signs
use Rattle.jam_grammar.specs.declared.tree.Param.{Param}
use Rattle.jam_grammar.specs.Marks.{mark_of_token, is_word, is_name, only_names}
use Rattle.jam_grammar.specs.Grammar.{Part, Key, OneWord, OneName, LastWord, Shut, Stmts, OneStmt, Tail, Assigned, LocalTail, ForTail, RuleTail, OneElse, ElseTail, OneBlock, CaseBlock, Cases, BodyBlock, Heading, Headed, ParamBlock, Params, MoreParams, Names, NameTail, OneArg, OneInner, InnerTail, Args, More, OneExpr, Both, Single, OrTail, AndTail, Compared, Line, Derives}
use Rattle.jam_grammar.specs.Grammar as g
use Rattle.jam_grammar.specs.Trees.{ArgTree, Word, Bracket, InnerTree, CallOf, OnInner, OnReturn, ArgTrees, NoArgs, ArgAnd, ListTrees, NoLists, ListAnd, ExprTree, Or, And, Not, Group, Bare, Equal, Differ, Within, ExprTrees, NoExprs, ExprAnd, FormTree, Braces, Local, Assign, AssignOn, Include, Return, If, For, While, Switch, Module, Rule, Actions, On, Call, OtherTree, Nothing, ElseBraces, ElseIf, StmtTrees, NoStmts, StmtAnd, CaseTrees, NoCases, CaseAnd}
use Rattle.jam_grammar.specs.Spelling.{Sym, Heads, Says, Named, Raw, From, Never, Spells, StartsOn, Anywhere, WithinOr, WithinAnd, spell_arg, spell_inner, spell_args, spell_lists, spell_further, spell_expr, spell_joined, mark_syms, param_syms, no_mark, takes_all, plist_syms, further_params, params_syms, sign_mark, set_syms, value_syms, local_syms, braced, only, is_if, spell_form, spell_other, spell_stmts, spell_cases}
use Rattle.jam_grammar.specs.Spelling as s
use Rattle.jam_grammar.specs.Spelling.{Switches}
use Rattle.jam_grammar.specs.Readings.{marks}
use Rattle.jam_grammar.specs.Laws.{FileHasTree}
use Rattle.jam_grammar.proofs.PartsCompose.{spells_append}
use Rattle.jam_grammar.proofs.FirstSymbolTellsFirstToken.{first_line, never_spelled}
use Rattle.jam_grammar.proofs.SameSayingReadsAlike.{leads, leads_form}
use Rattle.jam_grammar.proofs.MarkTellsWhatTokenSays.{name_no_star}

-- what some parts stand for: what stands after an argument, after `else`, after `on arg`, and after what is compared
data TailTree : Type 0 where
  SetTail : Sign → ArgTrees → TailTree
  OnTail : ArgTrees → Sign → ArgTrees → TailTree
  CallTail : ListTrees → TailTree

data ElseTree : Type 0 where
  ThenBraces : StmtTrees → ElseTree
  ThenIf : ℕ → FormTree → ElseTree

data InnerTree' : Type 0 where
  ThenInner : InnerTree → InnerTree'
  ThenReturn : ArgTrees → InnerTree'

data ComparedTree : Type 0 where
  Alone : ComparedTree
  WithEqual : ArgTree → ComparedTree
  WithDiffer : ArgTree → ComparedTree
  WithIn : ArgTrees → ComparedTree

abbrev tail_syms : TailTree → List Sym
tail_syms (SetTail sign value) = set_syms (sign_mark sign) (spell_args value)
tail_syms (OnTail on sign value) = s.Key m.On ∷ (spell_args on ++ set_syms (sign_mark sign) (spell_args value))
tail_syms (CallTail lists) = spell_lists lists ++ s.Key m.Semicolon ∷ []

abbrev else_syms : ElseTree → List Sym
else_syms (ThenBraces block) = braced (spell_stmts block)
else_syms (ThenIf line form) = From line ∷ only (is_if form) (spell_form form)

abbrev inner_syms : InnerTree' → List Sym
inner_syms (ThenInner i) = spell_inner i
inner_syms (ThenReturn value) = s.Key m.Return ∷ spell_args value

abbrev compared_syms : ComparedTree → List Sym
compared_syms Alone = []
compared_syms (WithEqual b) = s.Key m.Equals ∷ spell_arg b
compared_syms (WithDiffer b) = s.Key m.NotEquals ∷ spell_arg b
compared_syms (WithIn list) = s.Key m.In ∷ spell_args list

abbrev key_syms : TokenMark → List ℕ → List Sym
key_syms m.Body text = Raw text ∷ []
key_syms mark text = s.Key mark ∷ []

-- the modifiers that have stood behind a heading, and the name
abbrev Head : Type 0
Head = Bool × Bool × Bool × List ℕ

abbrev head_syms : Bool → Bool → Bool → Head → List Sym
head_syms a b c v = Heads a b c v.0 v.1 v.2 ∷ Says v.3 ∷ []

abbrev headed_syms : Bool → Bool → Bool → Option Head → List Sym
headed_syms a b c None = []
headed_syms a b c (Some v) = head_syms a b c v

-- what a part stands for, and how that is spelled
abbrev Value : Part → Type 0
Value (Key mark) = List ℕ
Value OneWord = List ℕ
Value OneName = List ℕ
Value (LastWord t e q) = List ℕ
Value Shut = Unit {0}
Value Stmts = StmtTrees
Value OneStmt = ℕ × FormTree
Value Tail = TailTree
Value Assigned = Sign × ArgTrees
Value LocalTail = Option ArgTrees
Value ForTail = Bool × List ℕ × ArgTrees × StmtTrees
Value RuleTail = List (List Param) × StmtTrees
Value OneElse = OtherTree
Value ElseTail = ElseTree
Value OneBlock = StmtTrees
Value CaseBlock = CaseTrees
Value Cases = CaseTrees
Value BodyBlock = List ℕ
Value (Heading a b c) = Head
Value (Headed a b c) = Option Head
Value ParamBlock = List Param × List (List Param)
Value Params = List Param × List (List Param)
Value MoreParams = List (List Param)
Value Names = (list : List Param) × (takes_all list ≡ false)
Value NameTail = Option ℕ × List Param
Value OneArg = ArgTree
Value OneInner = InnerTree
Value InnerTail = InnerTree'
Value Args = ArgTrees
Value (More n) = ListTrees
Value OneExpr = ExprTree
Value Both = ExprTree
Value Single = ExprTree
Value OrTail = ExprTrees
Value AndTail = ExprTrees
Value Compared = ComparedTree

abbrev syms : (part : Part) → Value part → List Sym
syms (Key mark) v = key_syms mark v
syms OneWord v = Says v ∷ []
syms OneName v = Named v ∷ []
syms (LastWord t e q) v = Says v ∷ []
syms Shut v = []
syms Stmts v = spell_stmts v
syms OneStmt v = From v.0 ∷ spell_form v.1
syms Tail v = tail_syms v
syms Assigned v = set_syms (sign_mark v.0) (spell_args v.1)
syms LocalTail v = value_syms v
syms ForTail v = local_syms v.0 ++ (Says v.1 ∷ s.Key m.In ∷ (spell_args v.2 ++ braced (spell_stmts v.3)))
syms RuleTail v = params_syms v.0 ++ braced (spell_stmts v.1)
syms OneElse v = spell_other v
syms ElseTail v = else_syms v
syms OneBlock v = braced (spell_stmts v)
syms CaseBlock v = braced (spell_cases v)
syms Cases v = spell_cases v
syms BodyBlock v = braced (Raw v ∷ [])
syms (Heading a b c) v = head_syms a b c v
syms (Headed a b c) v = headed_syms a b c v
syms ParamBlock v = params_syms (v.0 ∷ v.1)
syms Params v = plist_syms v.0 ++ further_params v.1
syms MoreParams v = further_params v
syms Names v = flat_map param_syms v.0
syms NameTail v = mark_syms v.0 ++ flat_map param_syms v.1
syms OneArg v = spell_arg v
syms OneInner v = spell_inner v
syms InnerTail v = inner_syms v
syms Args v = spell_args v
syms (More n) v = spell_further v
syms OneExpr v = spell_expr Anywhere v
syms Both v = spell_expr WithinOr v
syms Single v = spell_expr WithinAnd v
syms OrTail v = spell_joined WithinOr m.Or v
syms AndTail v = spell_joined WithinAnd m.And v
syms Compared v = compared_syms v

-- what parts stand for in tokens, one after another
abbrev Values : List Part → List Token → Type 0
Values [] ts = ts ≡ []
Values (part ∷ parts) ts = (v : Value part) × (u : List Token) × Spells ts (syms part v) u × Values parts u

-- the first parts of some, spelled together
abbrev Two : Part → Part → List Part → List Token → Type 0
Two p q k ts = (a : Value p) × (b : Value q) × (u : List Token) × Spells ts (syms p a ++ syms q b) u × Values k u

abbrev Three : Part → Part → Part → List Part → List Token → Type 0
Three p q r k ts = (a : Value p) × (b : Value q) × (c : Value r) × (u : List Token) × Spells ts (syms p a ++ (syms q b ++ syms r c)) u × Values k u

abbrev Four : Part → Part → Part → Part → List Part → List Token → Type 0
Four p q r o k ts = (a : Value p) × (b : Value q) × (c : Value r) × (d : Value o) × (u : List Token) × Spells ts (syms p a ++ (syms q b ++ (syms r c ++ syms o d))) u × Values k u

abbrev Five : Part → Part → Part → Part → Part → List Part → List Token → Type 0
Five p q r o n k ts = (a : Value p) × (b : Value q) × (c : Value r) × (d : Value o) × (e : Value n) × (u : List Token) × Spells ts (syms p a ++ (syms q b ++ (syms r c ++ (syms o d ++ syms n e)))) u × Values k u

two : (p q : Part) (k : List Part) (ts : List Token) → Values (p ∷ q ∷ k) ts → Two p q k ts
two p q k ts w = let x = w.3 in (w.0, x.0, x.1, spells_append ts w.1 x.1 (syms p w.0) (syms q x.0) w.2 x.2, x.3)

three : (p q r : Part) (k : List Part) (ts : List Token) → Values (p ∷ q ∷ r ∷ k) ts → Three p q r k ts
three p q r k ts w = let x = two q r k w.1 w.3 in (w.0, x.0, x.1, x.2, spells_append ts w.1 x.2 (syms p w.0) (syms q x.0 ++ syms r x.1) w.2 x.3, x.4)

four : (p q r o : Part) (k : List Part) (ts : List Token) → Values (p ∷ q ∷ r ∷ o ∷ k) ts → Four p q r o k ts
four p q r o k ts w = let x = three q r o k w.1 w.3 in (w.0, x.0, x.1, x.2, x.3, spells_append ts w.1 x.3 (syms p w.0) (syms q x.0 ++ (syms r x.1 ++ syms o x.2)) w.2 x.4, x.5)

five : (p q r o n : Part) (k : List Part) (ts : List Token) → Values (p ∷ q ∷ r ∷ o ∷ n ∷ k) ts → Five p q r o n k ts
five p q r o n k ts w = let x = four q r o n k w.1 w.3 in (w.0, x.0, x.1, x.2, x.3, x.4, spells_append ts w.1 x.4 (syms p w.0) (syms q x.0 ++ (syms r x.1 ++ (syms o x.2 ++ syms n x.3))) w.2 x.5, x.6)

-- a part that stands for what others do
respelled : (ts u : List Token) (a b : List Sym) → a ≡ b → Spells ts b u → Spells ts a u
respelled ts u a b e h = subst (λ x. Spells ts x u) (sym e) h

by1 : (part p : Part) (k : List Part) (ts : List Token) (f : Value p → Value part) → ((a : Value p) → syms part (f a) ≡ syms p a) → Values (p ∷ k) ts → Values (part ∷ k) ts
by1 part p k ts f e w = (f w.0, w.1, respelled ts w.1 _ _ (e w.0) w.2, w.3)

by2 : (part p q : Part) (k : List Part) (ts : List Token) (f : Value p → Value q → Value part) → ((a : Value p) (b : Value q) → syms part (f a b) ≡ syms p a ++ syms q b) → Values (p ∷ q ∷ k) ts → Values (part ∷ k) ts
by2 part p q k ts f e w = let x = two p q k ts w in (f x.0 x.1, x.2, respelled ts x.2 _ _ (e x.0 x.1) x.3, x.4)

by3 : (part p q r : Part) (k : List Part) (ts : List Token) (f : Value p → Value q → Value r → Value part) → ((a : Value p) (b : Value q) (c : Value r) → syms part (f a b c) ≡ syms p a ++ (syms q b ++ syms r c)) → Values (p ∷ q ∷ r ∷ k) ts → Values (part ∷ k) ts
by3 part p q r k ts f e w = let x = three p q r k ts w in (f x.0 x.1 x.2, x.3, respelled ts x.3 _ _ (e x.0 x.1 x.2) x.4, x.5)

by4 : (part p q r o : Part) (k : List Part) (ts : List Token) (f : Value p → Value q → Value r → Value o → Value part) → ((a : Value p) (b : Value q) (c : Value r) (d : Value o) → syms part (f a b c d) ≡ syms p a ++ (syms q b ++ (syms r c ++ syms o d))) → Values (p ∷ q ∷ r ∷ o ∷ k) ts → Values (part ∷ k) ts
by4 part p q r o k ts f e w = let x = four p q r o k ts w in (f x.0 x.1 x.2 x.3, x.4, respelled ts x.4 _ _ (e x.0 x.1 x.2 x.3) x.5, x.6)

by5 : (part p q r o n : Part) (k : List Part) (ts : List Token) (f : Value p → Value q → Value r → Value o → Value n → Value part) → ((a : Value p) (b : Value q) (c : Value r) (d : Value o) (z : Value n) → syms part (f a b c d z) ≡ syms p a ++ (syms q b ++ (syms r c ++ (syms o d ++ syms n z)))) → Values (p ∷ q ∷ r ∷ o ∷ n ∷ k) ts → Values (part ∷ k) ts
by5 part p q r o n k ts f e w = let x = five p q r o n k ts w in (f x.0 x.1 x.2 x.3 x.4, x.5, respelled ts x.5 _ _ (e x.0 x.1 x.2 x.3 x.4) x.6, x.7)

-- a statement, on the line of its first token
starts : (list : List Sym) (ts u : List Token) → leads list ≡ true → Spells ts list u → StartsOn (first_line ts) ts
starts list (t ∷ ts) u h r = refl
starts [] [] u h r = cc
starts (s.Key mark ∷ list) [] u h r = absurd r
starts (Heads a b c t e q ∷ list) [] u h r = cc
starts (Says text ∷ list) [] u h r = absurd r
starts (Named text ∷ list) [] u h r = absurd r
starts (Raw text ∷ list) [] u h r = absurd r
starts (From line ∷ list) [] u h r = cc
starts (Never ∷ list) [] u h r = absurd r

stmt : (form : FormTree) (list : List Sym) (k : List Part) (ts u : List Token) → spell_form form ≡ list → Spells ts list u → Values k u → Values (OneStmt ∷ k) ts
stmt form list k ts u e h w =
    let r = respelled ts u (spell_form form) list e h in
    ((first_line ts, form), u, (starts (spell_form form) ts u (leads_form form) r, r), w)

stmt1 : (p : Part) (k : List Part) (ts : List Token) (f : Value p → FormTree) → ((a : Value p) → spell_form (f a) ≡ syms p a) → Values (p ∷ k) ts → Values (OneStmt ∷ k) ts
stmt1 p k ts f e w = stmt (f w.0) _ k ts w.1 (e w.0) w.2 w.3

stmt2 : (p q : Part) (k : List Part) (ts : List Token) (f : Value p → Value q → FormTree) → ((a : Value p) (b : Value q) → spell_form (f a b) ≡ syms p a ++ syms q b) → Values (p ∷ q ∷ k) ts → Values (OneStmt ∷ k) ts
stmt2 p q k ts f e w = let x = two p q k ts w in stmt (f x.0 x.1) _ k ts x.2 (e x.0 x.1) x.3 x.4

stmt3 : (p q r : Part) (k : List Part) (ts : List Token) (f : Value p → Value q → Value r → FormTree) → ((a : Value p) (b : Value q) (c : Value r) → spell_form (f a b c) ≡ syms p a ++ (syms q b ++ syms r c)) → Values (p ∷ q ∷ r ∷ k) ts → Values (OneStmt ∷ k) ts
stmt3 p q r k ts f e w = let x = three p q r k ts w in stmt (f x.0 x.1 x.2) _ k ts x.3 (e x.0 x.1 x.2) x.4 x.5

stmt4 : (p q r o : Part) (k : List Part) (ts : List Token) (f : Value p → Value q → Value r → Value o → FormTree) → ((a : Value p) (b : Value q) (c : Value r) (d : Value o) → spell_form (f a b c d) ≡ syms p a ++ (syms q b ++ (syms r c ++ syms o d))) → Values (p ∷ q ∷ r ∷ o ∷ k) ts → Values (OneStmt ∷ k) ts
stmt4 p q r o k ts f e w = let x = four p q r o k ts w in stmt (f x.0 x.1 x.2 x.3) _ k ts x.4 (e x.0 x.1 x.2 x.3) x.5 x.6

-- wholes of what stands after their first parts
made : ArgTree → TailTree → FormTree
made a (SetTail sign value) = Assign a sign value
made a (OnTail on sign value) = AssignOn a on sign value
made a (CallTail lists) = Call a lists

made_is : (a : ArgTree) (t : TailTree) → spell_form (made a t) ≡ spell_arg a ++ tail_syms t
unfolding made
made_is a (SetTail sign value) = refl
made_is a (OnTail on sign value) = refl
made_is a (CallTail lists) = refl

other_of : ElseTree → OtherTree
other_of (ThenBraces block) = ElseBraces block
other_of (ThenIf line form) = ElseIf line form

other_is : (t : ElseTree) → spell_other (other_of t) ≡ s.Key m.Else ∷ else_syms t
unfolding other_of
other_is (ThenBraces block) = refl
other_is (ThenIf line form) = refl

inner_of : ArgTree → InnerTree' → InnerTree
inner_of a (ThenInner i) = OnInner a i
inner_of a (ThenReturn value) = OnReturn a value

inner_is : (a : ArgTree) (t : InnerTree') → spell_inner (inner_of a t) ≡ s.Key m.On ∷ (spell_arg a ++ (inner_syms t ++ []))
unfolding inner_of
inner_is a (ThenInner i) = ap (λ x. s.Key m.On ∷ (spell_arg a ++ x)) (sym (append-nil (spell_inner i)))
inner_is a (ThenReturn value) = ap (λ x. s.Key m.On ∷ (spell_arg a ++ (s.Key m.Return ∷ x))) (sym (append-nil (spell_args value)))

compared_of : ArgTree → ComparedTree → ExprTree
compared_of a Alone = Bare a
compared_of a (WithEqual b) = Equal a b
compared_of a (WithDiffer b) = Differ a b
compared_of a (WithIn list) = Within a list

compared_is : (a : ArgTree) (t : ComparedTree) → spell_expr WithinAnd (compared_of a t) ≡ spell_arg a ++ compared_syms t
unfolding compared_of
compared_is a Alone = sym (append-nil (spell_arg a))
compared_is a (WithEqual b) = refl
compared_is a (WithDiffer b) = refl
compared_is a (WithIn list) = refl

-- one between `||` is one anywhere, and one between `&&` one between `||`
wide_or : (e : ExprTree) (ts u : List Token) → Spells ts (spell_expr WithinOr e) u → Spells ts (spell_expr Anywhere e) u
wide_or (Or row) ts u r = absurd (never_spelled [] ts u r)
wide_or (And row) ts u r = r
wide_or (Not e) ts u r = r
wide_or (Group e) ts u r = r
wide_or (Bare a) ts u r = r
wide_or (Equal a b) ts u r = r
wide_or (Differ a b) ts u r = r
wide_or (Within a b) ts u r = r

wide_and : (e : ExprTree) (ts u : List Token) → Spells ts (spell_expr WithinAnd e) u → Spells ts (spell_expr WithinOr e) u
wide_and (Or row) ts u r = absurd (never_spelled [] ts u r)
wide_and (And row) ts u r = absurd (never_spelled [] ts u r)
wide_and (Not e) ts u r = r
wide_and (Group e) ts u r = r
wide_and (Bare a) ts u r = r
wide_and (Equal a b) ts u r = r
wide_and (Differ a b) ts u r = r
wide_and (Within a b) ts u r = r

by_or : (e : ExprTree) (xs : ExprTrees) (k : List Part) (ts u : List Token) → Spells ts (spell_expr WithinOr e ++ spell_joined WithinOr m.Or xs) u → Values k u → Values (OneExpr ∷ k) ts
by_or e NoExprs k ts u r w = (e, u, wide_or e ts u (subst (λ x. Spells ts x u) (append-nil (spell_expr WithinOr e)) r), w)
by_or e (ExprAnd x xs) k ts u r w = (Or (ExprAnd e (ExprAnd x xs)), u, r, w)

by_and : (e : ExprTree) (xs : ExprTrees) (k : List Part) (ts u : List Token) → Spells ts (spell_expr WithinAnd e ++ spell_joined WithinAnd m.And xs) u → Values k u → Values (Both ∷ k) ts
by_and e NoExprs k ts u r w = (e, u, wide_and e ts u (subst (λ x. Spells ts x u) (append-nil (spell_expr WithinAnd e)) r), w)
by_and e (ExprAnd x xs) k ts u r w = (And (ExprAnd e (ExprAnd x xs)), u, r, w)

-- a name is not `*`
no_star : (text : List ℕ) (ts u : List Token) → Spells ts (Named text ∷ []) u → bytes_eq text (codes "*") ≡ false
no_star text [] u r = absurd r
no_star text (t ∷ ts) u r = ap (λ x. bytes_eq x (codes "*")) (sym r.0.1) ∙ name_no_star t r.0.0

takes_none : (param : Param) (more : List Param) → bytes_eq param.name (codes "*") ≡ false → takes_all (param ∷ more) ≡ false
takes_none param [] h = by (bytes_eq param.name (codes "*")) (no_mark param.mark) h
  where
    by : (b c : Bool) → b ≡ false → b && c ≡ false
    by true c h = cc
    by false c h = refl
takes_none param (next ∷ more) h = refl

named : (k : List Part) (ts : List Token) → Values (OneName ∷ NameTail ∷ k) ts → Values (Names ∷ k) ts
unfolding two
named k ts w =
    let x = two OneName NameTail k ts w in
    let param : Param = record { name = x.0; mark = x.1.0 } in
    ((param ∷ x.1.1, takes_none param x.1.1 (no_star w.0 ts w.1 w.2)), x.2, x.3, x.4)

listed : (list : List Param) (further : List Sym) → takes_all list ≡ false → plist_syms list ++ further ≡ flat_map param_syms list ++ further
listed list further h = ap (λ b. (if b then s.Key m.Star ∷ [] else flat_map param_syms list) ++ further) h

-- an `if` after `else`
else_if : (k : List Part) (ts : List Token) → Values (Key m.If ∷ OneExpr ∷ OneBlock ∷ OneElse ∷ Shut ∷ k) ts → Values (ElseTail ∷ k) ts
else_if k ts w =
    let x = five (Key m.If) OneExpr OneBlock OneElse Shut k ts w in
    let form : FormTree = If x.1 x.2 x.3 in
    let r = respelled ts x.5 (spell_form form) _ (ap (λ y. s.Key m.If ∷ (spell_expr Anywhere x.1 ++ (braced (spell_stmts x.2) ++ y))) (sym (append-nil (spell_other x.3)))) x.6 in
    (ThenIf (first_line ts) form, x.5, (starts (spell_form form) ts x.5 refl r, r), x.7)

-- a heading that ends, one that goes on after a modifier, and one whose name is the text of a modifier
last_word : (t e q : Bool) (k : List Part) (ts : List Token) → Values (LastWord t e q ∷ k) ts → Values (Heading t e q ∷ k) ts
last_word t e q k ts w = ((t, e, q, w.0), w.1, (ts, s.none, w.2), w.3)

-- from one modifier less
abbrev Before : Bool → Bool → Bool → TokenMark → Bool → Bool → Bool → Type 0
Before a b c mark x y z = (token : Token) (ts left : List Token) (t e q : Bool) → mark_of_token token ≡ mark → Switches x y z t e q ts left → Switches a b c t e q (token ∷ ts) left

modifier : (a b c x y z : Bool) (mark : TokenMark) → is_word mark ≡ true → Before a b c mark x y z → (k : List Part) (ts u : List Token) → Spells ts (s.Key mark ∷ []) u → Values (Headed x y z ∷ k) u → Values (Heading a b c ∷ k) ts
modifier a b c x y z mark is before k [] u h w = absurd h
modifier a b c x y z mark is before k (t ∷ ts) u h w = by w.0 w.1 w.2 w.3
  where
    by : (v : Option Head) (left : List Token) → Spells u (headed_syms x y z v) left → Values k left → Values (Heading a b c ∷ k) (t ∷ ts)
    by None left r rest = ((a, b, c, t.text), left, (t ∷ ts, s.none, ((ap is_word h.0 ∙ is, refl), h.1 ∙ r)), rest)
    by (Some v) left r rest = (v, left, (r.0, before t ts r.0 v.0 v.1 v.2 h.0 (subst (λ i. Switches x y z v.0 v.1 v.2 i r.0) (sym h.1) r.1), r.2), rest)

-- what a line's parts stand for its part does
fold_line : {part : Part} {by : List Part} → Line part by → (k : List Part) (ts : List Token) → Values (by ++ k) ts → Values (part ∷ k) ts
fold_line g.no_stmt k ts w = (NoStmts, ts, refl, w)
fold_line g.more_stmts k ts w = by2 Stmts OneStmt Stmts k ts (λ a b. StmtAnd a.0 a.1 b) (λ a b. refl) w
fold_line g.in_braces k ts w = by3 OneBlock (Key m.BraceOpen) Stmts (Key m.BraceClose) k ts (λ a b c. b) (λ a b c. refl) w
fold_line g.a_block k ts w = stmt1 OneBlock k ts (λ a. Braces a) (λ a. refl) w
fold_line g.a_local k ts w = stmt3 (Key m.Local) Args LocalTail k ts (λ a b c. Local b c) (λ a b c. refl) w
fold_line g.an_include k ts w = stmt3 (Key m.Include) Args (Key m.Semicolon) k ts (λ a b c. Include b) (λ a b c. refl) w
fold_line g.a_return k ts w = stmt3 (Key m.Return) Args (Key m.Semicolon) k ts (λ a b c. Return b) (λ a b c. refl) w
fold_line g.an_if k ts w = stmt4 (Key m.If) OneExpr OneBlock OneElse k ts (λ a b c d. If b c d) (λ a b c d. refl) w
fold_line g.a_for k ts w = stmt2 (Key m.For) ForTail k ts (λ a b. For b.0 b.1 b.2 b.3) (λ a b. refl) w
fold_line g.a_while k ts w = stmt3 (Key m.While) OneExpr OneBlock k ts (λ a b c. While b c) (λ a b c. refl) w
fold_line g.a_switch k ts w = stmt3 (Key m.Switch) Args CaseBlock k ts (λ a b c. Switch b c) (λ a b c. refl) w
fold_line g.a_module k ts w = stmt3 (Key m.Module) Args OneBlock k ts (λ a b c. Module b c) (λ a b c. refl) w
fold_line g.a_rule k ts w = stmt3 (Key m.Rule) OneWord RuleTail k ts (λ a b c. Rule b c.0 c.1) (λ a b c. refl) w
fold_line g.an_action k ts w = stmt3 (Key m.Actions) (Heading false false false) BodyBlock k ts (λ a b c. Actions b.3 b.0 b.1 b.2 c) (λ a b c. refl) w
fold_line g.an_on k ts w = stmt4 (Key m.On) OneArg OneStmt Shut k ts (λ a b c d. On b c.0 c.1) (λ a b c d. ap (λ x. s.Key m.On ∷ (spell_arg b ++ (From c.0 ∷ x))) (sym (append-nil (spell_form c.1)))) w
fold_line g.by_arg k ts w = stmt2 OneArg Tail k ts made made_is w
fold_line g.set k ts w = by3 Tail (Key m.Equals) Args (Key m.Semicolon) k ts (λ a b c. SetTail signs.Set b) (λ a b c. refl) w
fold_line g.add k ts w = by3 Tail (Key m.PlusEquals) Args (Key m.Semicolon) k ts (λ a b c. SetTail signs.Add b) (λ a b c. refl) w
fold_line g.fill k ts w = by3 Tail (Key m.QueryEquals) Args (Key m.Semicolon) k ts (λ a b c. SetTail signs.Fill b) (λ a b c. refl) w
fold_line g.on_target k ts w = by3 Tail (Key m.On) Args Assigned k ts (λ a b c. OnTail b c.0 c.1) (λ a b c. refl) w
fold_line g.a_call k ts w = by3 Tail Args (More 8) (Key m.Semicolon) k ts (λ a b c. CallTail (ListAnd a b)) (λ a b c. append_assoc (spell_args a) (spell_further b) (s.Key m.Semicolon ∷ [])) w
fold_line g.set_on k ts w = by3 Assigned (Key m.Equals) Args (Key m.Semicolon) k ts (λ a b c. (signs.Set, b)) (λ a b c. refl) w
fold_line g.add_on k ts w = by3 Assigned (Key m.PlusEquals) Args (Key m.Semicolon) k ts (λ a b c. (signs.Add, b)) (λ a b c. refl) w
fold_line g.fill_on k ts w = by3 Assigned (Key m.QueryEquals) Args (Key m.Semicolon) k ts (λ a b c. (signs.Fill, b)) (λ a b c. refl) w
fold_line g.no_value k ts w = by1 LocalTail (Key m.Semicolon) k ts (λ a. None) (λ a. refl) w
fold_line g.a_value k ts w = by3 LocalTail (Key m.Equals) Args (Key m.Semicolon) k ts (λ a b c. Some b) (λ a b c. refl) w
fold_line g.for_local k ts w = by5 ForTail (Key m.Local) OneWord (Key m.In) Args OneBlock k ts (λ a b c d z. (true, b, d, z)) (λ a b c d z. refl) w
fold_line g.for_name k ts w = by4 ForTail OneWord (Key m.In) Args OneBlock k ts (λ a b c d. (false, a, c, d)) (λ a b c d. refl) w
fold_line g.no_else k ts w = (Nothing, ts, refl, w)
fold_line g.an_else k ts w = by2 OneElse (Key m.Else) ElseTail k ts (λ a b. other_of b) (λ a b. other_is b) w
fold_line g.else_block k ts w = by1 ElseTail OneBlock k ts (λ a. ThenBraces a) (λ a. refl) w
fold_line g.else_if k ts w = else_if k ts w
fold_line g.case_braces k ts w = by3 CaseBlock (Key m.BraceOpen) Cases (Key m.BraceClose) k ts (λ a b c. b) (λ a b c. refl) w
fold_line g.no_case k ts w = (NoCases, ts, refl, w)
fold_line g.more_cases k ts w = by5 Cases (Key m.Case) OneWord (Key m.Colon) Stmts Cases k ts (λ a b c d z. CaseAnd b d z) (λ a b c d z. refl) w
fold_line (g.the_name {t} {e} {q}) k ts w = last_word t e q k ts w
fold_line (g.together {e} {q}) k ts w = modifier false e q true e q m.Together refl (λ token ts left t e q is h. s.together is h) k ts w.1 w.2 w.3
fold_line (g.existing {t} {q}) k ts w = modifier t false q t true q m.Existing refl (λ token ts left t e q is h. s.existing is h) k ts w.1 w.2 w.3
fold_line (g.quietly {t} {e}) k ts w = modifier t e false t e true m.Quietly refl (λ token ts left t e q is h. s.quietly is h) k ts w.1 w.2 w.3
fold_line g.no_word k ts w = (None, ts, refl, w)
fold_line (g.more_words {t} {e} {q}) k ts w = by1 (Headed t e q) (Heading t e q) k ts (λ a. Some a) (λ a. refl) w
fold_line g.body_braces k ts w = by3 BodyBlock (Key m.BraceOpen) (Key m.Body) (Key m.BraceClose) k ts (λ a b c. b) (λ a b c. refl) w
fold_line g.with_params k ts w = by2 RuleTail ParamBlock OneBlock k ts (λ a b. (a.0 ∷ a.1, b)) (λ a b. refl) w
fold_line g.without_params k ts w = by1 RuleTail OneBlock k ts (λ a. ([], a)) (λ a. refl) w
fold_line g.param_parens k ts w = by3 ParamBlock (Key m.ParenOpen) Params (Key m.ParenClose) k ts (λ a b c. b) (λ a b c. refl) w
fold_line g.all_further k ts w = by1 Params (Key m.Star) k ts (λ a. (record { name = codes "*"; mark = None } ∷ [], [])) (λ a. refl) w
fold_line g.a_list k ts w = by2 Params Names MoreParams k ts (λ a b. (a.0, b)) (λ a b. listed a.0 (further_params b) a.1) w
fold_line g.no_more_params k ts w = ([], ts, refl, w)
fold_line g.more_params k ts w = by2 MoreParams (Key m.Colon) Params k ts (λ a b. b.0 ∷ b.1) (λ a b. refl) w
fold_line g.no_name k ts w = (([], refl), ts, refl, w)
fold_line g.a_name k ts w = named k ts w
fold_line g.unmarked k ts w = by1 NameTail Names k ts (λ a. (None, a.0)) (λ a. refl) w
fold_line g.optional k ts w = by2 NameTail (Key m.Query) Names k ts (λ a b. (Some 63, b.0)) (λ a b. refl) w
fold_line g.any_rest k ts w = by1 NameTail (Key m.Star) k ts (λ a. (Some 42, [])) (λ a. refl) w
fold_line g.some_rest k ts w = by1 NameTail (Key m.Plus) k ts (λ a. (Some 43, [])) (λ a. refl) w
fold_line g.a_word k ts w = by1 OneArg OneWord k ts (λ a. Word a) (λ a. refl) w
fold_line g.a_bracket k ts w = by3 OneArg (Key m.SquareOpen) OneInner (Key m.SquareClose) k ts (λ a b c. Bracket b) (λ a b c. refl) w
fold_line g.inner_call k ts w = by3 OneInner OneArg Args (More 8) k ts (λ a b c. CallOf a (ListAnd b c)) (λ a b c. refl) w
fold_line g.inner_on k ts w = by4 OneInner (Key m.On) OneArg InnerTail Shut k ts (λ a b c d. inner_of b c) (λ a b c d. inner_is b c) w
fold_line g.on_inner k ts w = by1 InnerTail OneInner k ts (λ a. ThenInner a) (λ a. refl) w
fold_line g.on_return k ts w = by2 InnerTail (Key m.Return) Args k ts (λ a b. ThenReturn b) (λ a b. refl) w
fold_line g.no_arg k ts w = (NoArgs, ts, refl, w)
fold_line g.more_args k ts w = by2 Args OneArg Args k ts (λ a b. ArgAnd a b) (λ a b. refl) w
fold_line g.no_list k ts w = (NoLists, ts, refl, w)
fold_line (g.more_lists {n}) k ts w = by3 (More (suc n)) (Key m.Colon) Args (More n) k ts (λ a b c. ListAnd b c) (λ a b c. refl) w
fold_line g.an_or k ts w = let x = two Both OrTail k ts w in by_or x.0 x.1 k ts x.2 x.3 x.4
fold_line g.no_or k ts w = (NoExprs, ts, refl, w)
fold_line g.more_or k ts w = by3 OrTail (Key m.Or) Both OrTail k ts (λ a b c. ExprAnd b c) (λ a b c. refl) w
fold_line g.an_and k ts w = let x = two Single AndTail k ts w in by_and x.0 x.1 k ts x.2 x.3 x.4
fold_line g.no_and k ts w = (NoExprs, ts, refl, w)
fold_line g.more_and k ts w = by3 AndTail (Key m.And) Single AndTail k ts (λ a b c. ExprAnd b c) (λ a b c. refl) w
fold_line g.negated k ts w = by3 Single (Key m.Not) Single Shut k ts (λ a b c. Not b) (λ a b c. ap (λ x. s.Key m.Not ∷ x) (sym (append-nil (spell_expr WithinAnd b)))) w
fold_line g.in_parens k ts w = by3 Single (Key m.ParenOpen) OneExpr (Key m.ParenClose) k ts (λ a b c. Group b) (λ a b c. refl) w
fold_line g.of_arg k ts w = by2 Single OneArg Compared k ts compared_of compared_is w
fold_line g.bare k ts w = (Alone, ts, refl, w)
fold_line g.equal k ts w = by2 Compared (Key m.Equals) OneArg k ts (λ a b. WithEqual b) (λ a b. refl) w
fold_line g.differ k ts w = by2 Compared (Key m.NotEquals) OneArg k ts (λ a b. WithDiffer b) (λ a b. refl) w
fold_line g.within k ts w = by2 Compared (Key m.In) Args k ts (λ a b. WithIn b) (λ a b. refl) w

-- what can only name actions is a word
last_is_word : (t e q : Bool) (mark : TokenMark) → only_names t e q mark ≡ true → is_word mark ≡ true
last_is_word t e q m.Together h = refl
last_is_word t e q m.Existing h = refl
last_is_word t e q m.Quietly h = refl
last_is_word t e q mark h = h

-- a token stands for itself
key_spelled : (mark : TokenMark) (t : Token) (ts : List Token) → mark_of_token t ≡ mark → Spells (t ∷ ts) (key_syms mark t.text) ts
key_spelled m.Body t ts e = ((e, refl), refl)
key_spelled mark t ts e = (e, refl)

head_is : (a b : TokenMark) (c d : List TokenMark) → a ∷ c ≡ b ∷ d → a ≡ b
head_is a b c d e = cc

rest_is : (a b : TokenMark) (c d : List TokenMark) → a ∷ c ≡ b ∷ d → c ≡ d
rest_is a b c d e = cc

values : {parts : List Part} {ms : List TokenMark} → Derives parts ms → (ts : List Token) → marks ts ≡ ms → Values parts ts
values g.nothing [] e = refl
values g.nothing (t ∷ ts) e = cc
values (g.key room d) [] e = cc
values (g.key {mark} room d) (t ∷ ts) e = (t.text, ts, key_spelled mark t ts (head_is _ _ _ _ e), values d ts (rest_is _ _ _ _ e))
values (g.word is room d) [] e = cc
values (g.word is room d) (t ∷ ts) e = (t.text, ts, ((ap is_word (head_is _ _ _ _ e) ∙ is, refl), refl), values d ts (rest_is _ _ _ _ e))
values (g.name is room d) [] e = cc
values (g.name is room d) (t ∷ ts) e = (t.text, ts, ((ap is_name (head_is _ _ _ _ e) ∙ is, refl), refl), values d ts (rest_is _ _ _ _ e))
values (g.last is room d) [] e = cc
values (g.last {t} {e} {q} {mark} is room d) (token ∷ ts) h = (token.text, ts, ((last_is_word t e q (mark_of_token token) (ap (only_names t e q) (head_is _ _ _ _ h) ∙ is), refl), refl), values d ts (rest_is _ _ _ _ h))
values (g.shut room d) ts e = (tt, ts, refl, values d ts e)
values (g.by_line {part} {by} {parts} line d) ts e = fold_line line parts ts (values d ts e)

pub file_has_tree : FileHasTree
file_has_tree tokens d =
    let w = values d tokens refl in
    (w.0, record { file = d; spelled = subst (λ u. Spells tokens (spell_stmts w.0) u) w.3 w.2 })
