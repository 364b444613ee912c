-- The spellings of arguments, conditions and parameters tell no lines, and each of their keys has one text.
use Rattle.std.proofs.Common.{◌≡◌, ℕ, List, [], ◌∷◌, ◌++◌, Bool, true, false, Option, Some, None, ◌==◌, if◌then◌else◌, flat_map, refl}
use Rattle.jam_grammar.specs.declared.mark.TokenMark.{TokenMark}
use Rattle.jam_grammar.specs.declared.mark.TokenMark.TheVariants as m
use Rattle.jam_grammar.specs.declared.tree.Sign.{Sign}
use Rattle.jam_grammar.specs.declared.tree.Sign.TheVariants as signs
use Rattle.jam_grammar.specs.declared.tree.Param.{Param}
use Rattle.jam_grammar.specs.Trees.{ArgTree, Word, Bracket, InnerTree, CallOf, OnInner, OnReturn, ArgTrees, NoArgs, ArgAnd, ListTrees, NoLists, ListAnd, ExprTree, Or, And, Not, Group, Bare, Equal, Differ, Within, ExprTrees, NoExprs, ExprAnd, Local, Assign, AssignOn, Call}
use Rattle.jam_grammar.specs.Spelling.{Sym, Key, Heads, Says, Named, Raw, From, Never, Level, Anywhere, WithinOr, WithinAnd, at_or, at_and, spell_arg, spell_inner, spell_args, spell_lists, spell_further, spell_expr, spell_pair, spell_second, spell_joined, mark_syms, param_syms, takes_all, plist_syms, further_params, params_syms, sign_mark, set_syms, value_syms, local_syms, spell_form}
use Rattle.jam_grammar.proofs.MarkTellsWhatTokenSays.{has_text}

-- the marks whose tokens say one text, but for the key before headings
abbrev pub stands : TokenMark → Bool
stands m.Actions = false
stands mark = has_text mark

-- each key of the symbols stands so, and none tells a line or the heading of actions
abbrev pub Steady : List Sym → Type 0
Steady [] = Unit {0}
Steady (Key mark ∷ syms) = (stands mark ≡ true) × Steady syms
Steady (Heads a b c t e q ∷ syms) = ⊥
Steady (From line ∷ syms) = ⊥
Steady (_ ∷ syms) = Steady syms

pub steady_append : (a b : List Sym) → Steady a → Steady b → Steady (a ++ b)
steady_append [] b h k = k
steady_append (Key mark ∷ a) b h k = (h.0, steady_append a b h.1 k)
steady_append (Heads x y z t e q ∷ a) b h k = absurd h
steady_append (Says text ∷ a) b h k = steady_append a b h k
steady_append (Named text ∷ a) b h k = steady_append a b h k
steady_append (Raw text ∷ a) b h k = steady_append a b h k
steady_append (From line ∷ a) b h k = absurd h
steady_append (Never ∷ a) b h k = steady_append a b h k

mutual
  pub steady_arg : (a : ArgTree) → Steady (spell_arg a)
  steady_arg (Word text) = tt
  steady_arg (Bracket i) = (refl, steady_append (spell_inner i) _ (steady_inner i) (refl, tt))

  steady_inner : (i : InnerTree) → Steady (spell_inner i)
  steady_inner (CallOf head lists) = steady_append (spell_arg head) _ (steady_arg head) (steady_lists lists)
  steady_inner (OnInner target i) = (refl, steady_append (spell_arg target) _ (steady_arg target) (steady_inner i))
  steady_inner (OnReturn target value) = (refl, steady_append (spell_arg target) _ (steady_arg target) (refl, steady_args value))

  pub steady_args : (xs : ArgTrees) → Steady (spell_args xs)
  steady_args NoArgs = tt
  steady_args (ArgAnd first rest) = steady_append (spell_arg first) _ (steady_arg first) (steady_args rest)

  pub steady_lists : (xs : ListTrees) → Steady (spell_lists xs)
  steady_lists NoLists = tt
  steady_lists (ListAnd first rest) = steady_append (spell_args first) _ (steady_args first) (steady_further rest)

  steady_further : (xs : ListTrees) → Steady (spell_further xs)
  steady_further NoLists = tt
  steady_further (ListAnd first rest) = (refl, steady_append (spell_args first) _ (steady_args first) (steady_further rest))

steady_or : (level : Level) (syms : List Sym) → Steady syms → Steady (at_or level syms)
steady_or Anywhere syms h = h
steady_or WithinOr syms h = tt
steady_or WithinAnd syms h = tt

steady_and : (level : Level) (syms : List Sym) → Steady syms → Steady (at_and level syms)
steady_and Anywhere syms h = h
steady_and WithinOr syms h = h
steady_and WithinAnd syms h = tt

mutual
  pub steady_expr : (level : Level) (e : ExprTree) → Steady (spell_expr level e)
  steady_expr level (Or members) = steady_or level (spell_pair WithinOr m.Or members) (steady_pair WithinOr m.Or refl members)
  steady_expr level (And members) = steady_and level (spell_pair WithinAnd m.And members) (steady_pair WithinAnd m.And refl members)
  steady_expr level (Not e) = (refl, steady_expr WithinAnd e)
  steady_expr level (Group e) = (refl, steady_append (spell_expr Anywhere e) _ (steady_expr Anywhere e) (refl, tt))
  steady_expr level (Bare a) = steady_arg a
  steady_expr level (Equal a b) = steady_append (spell_arg a) _ (steady_arg a) (refl, steady_arg b)
  steady_expr level (Differ a b) = steady_append (spell_arg a) _ (steady_arg a) (refl, steady_arg b)
  steady_expr level (Within a list) = steady_append (spell_arg a) _ (steady_arg a) (refl, steady_args list)

  steady_pair : (level : Level) (mark : TokenMark) → stands mark ≡ true → (xs : ExprTrees) → Steady (spell_pair level mark xs)
  steady_pair level mark h NoExprs = tt
  steady_pair level mark h (ExprAnd first rest) = steady_append (spell_expr level first) _ (steady_expr level first) (steady_second level mark h rest)

  steady_second : (level : Level) (mark : TokenMark) → stands mark ≡ true → (xs : ExprTrees) → Steady (spell_second level mark xs)
  steady_second level mark h NoExprs = tt
  steady_second level mark h (ExprAnd first rest) = (h, steady_append (spell_expr level first) _ (steady_expr level first) (steady_joined level mark h rest))

  steady_joined : (level : Level) (mark : TokenMark) → stands mark ≡ true → (xs : ExprTrees) → Steady (spell_joined level mark xs)
  steady_joined level mark h NoExprs = tt
  steady_joined level mark h (ExprAnd first rest) = (h, steady_append (spell_expr level first) _ (steady_expr level first) (steady_joined level mark h rest))

steady_if : (b : Bool) (x y : List Sym) → Steady x → Steady y → Steady (if b then x else y)
steady_if true x y h k = h
steady_if false x y h k = k

steady_mark : (mark : Option ℕ) → Steady (mark_syms mark)
steady_mark None = tt
steady_mark (Some c) = steady_if (c == 63) _ _ (refl, tt) (steady_if (c == 42) _ _ (refl, tt) (steady_if (c == 43) _ _ (refl, tt) tt))

steady_names : (list : List Param) → Steady (flat_map param_syms list)
steady_names [] = tt
steady_names (param ∷ list) = steady_append (mark_syms param.mark) _ (steady_mark param.mark) (steady_names list)

steady_list : (list : List Param) → Steady (plist_syms list)
steady_list list = steady_if (takes_all list) _ _ (refl, tt) (steady_names list)

steady_further_params : (lists : List (List Param)) → Steady (further_params lists)
steady_further_params [] = tt
steady_further_params (first ∷ rest) = (refl, steady_append (plist_syms first) _ (steady_list first) (steady_further_params rest))

pub steady_params : (lists : List (List Param)) → Steady (params_syms lists)
steady_params [] = tt
steady_params (first ∷ rest) = (refl, steady_append (plist_syms first ++ further_params rest) _ (steady_append (plist_syms first) _ (steady_list first) (steady_further_params rest)) (refl, tt))

pub steady_sign : (sign : Sign) → stands (sign_mark sign) ≡ true
steady_sign signs.Set = refl
steady_sign signs.Add = refl
steady_sign signs.Fill = refl

pub steady_set : (mark : TokenMark) (syms : List Sym) → stands mark ≡ true → Steady syms → Steady (set_syms mark syms)
steady_set mark syms h k = (h, steady_append syms _ k (refl, tt))

pub steady_value : (value : Option ArgTrees) → Steady (value_syms value)
steady_value None = (refl, tt)
steady_value (Some value) = steady_set m.Equals (spell_args value) refl (steady_args value)

pub steady_local : (own : Bool) → Steady (local_syms own)
steady_local true = (refl, tt)
steady_local false = tt

-- the same of forms that hold no statements
pub steady_assign : (target : ArgTree) (sign : Sign) (value : ArgTrees) → Steady (spell_form (Assign target sign value))
steady_assign target sign value = steady_append (spell_arg target) _ (steady_arg target) (steady_set (sign_mark sign) (spell_args value) (steady_sign sign) (steady_args value))

pub steady_assign_on : (target : ArgTree) (on : ArgTrees) (sign : Sign) (value : ArgTrees) → Steady (spell_form (AssignOn target on sign value))
steady_assign_on target on sign value = steady_append (spell_arg target) _ (steady_arg target) (refl, steady_append (spell_args on) _ (steady_args on) (steady_set (sign_mark sign) (spell_args value) (steady_sign sign) (steady_args value)))

pub steady_locals : (names : ArgTrees) (value : Option ArgTrees) → Steady (spell_form (Local names value))
steady_locals names value = (refl, steady_append (spell_args names) _ (steady_args names) (steady_value value))

pub steady_call : (head : ArgTree) (lists : ListTrees) → Steady (spell_form (Call head lists))
steady_call head lists = steady_append (spell_arg head) _ (steady_arg head) (steady_append (spell_lists lists) _ (steady_lists lists) (refl, tt))
