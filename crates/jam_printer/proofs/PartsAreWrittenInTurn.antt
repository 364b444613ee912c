-- Arguments, members, statements, cases and parameters are written one after another; for the loops that push them.
use Rattle.std.proofs.Common.{◌≡◌, ℕ, ◌≤◌, length, take, Bool, true, false, cond, List, [], ◌∷◌, ◌++◌, map, codes, Option, Some, None, refl, sym, ap, ◌∙◌}
use Rattle.std.specs.List.{flat_map}
use Rattle.std.specs.Str.{bytes_eq}
use Rattle.std.proofs.lemmas.List.{append_assoc, append-nil, take_all}
use Rattle.std.proofs.lemmas.List.Concat.{flat_map-append}
use Rattle.std.proofs.lemmas.Bool.{false≢true, and_parts}
use Rattle.std.proofs.lemmas.Slice.Eq.{bytes_eq-Decides}
use Rattle.std.specs.declared.vec.Vec.{Vec}
use Rattle.std.specs.declared.alloc.Global.{Global}
use Rattle.jam_grammar.specs.declared.mark.TokenMark.{TokenMark}
use Rattle.jam_grammar.specs.declared.mark.TokenMark.TheVariants as marks
use Rattle.jam_grammar.specs.declared.tree.Arg.{Arg}
use Rattle.jam_grammar.specs.declared.tree.Expr.{Expr}
use Rattle.jam_grammar.specs.declared.tree.Param.{Param}
use Rattle.jam_grammar.specs.declared.tree.Stmt.{Stmt}
use Rattle.jam_grammar.specs.declared.tree.Block.{Block, out-Block, roll-out-Block}
use Rattle.jam_grammar.specs.declared.tree.Case.{Case, Case'}
use Rattle.jam_grammar.specs.Trees.{ExprTrees, NoExprs, ExprAnd, CaseTrees, case_before, cases_tree, block_tree}
use Rattle.jam_grammar.specs.Spelling.{Sym, Key, Says, Named, Level, spell_second, spell_joined, spell_cases, spell_stmts, arg_syms, args_syms, further_syms, expr_syms, joined_syms, block_syms, param_syms, plist_syms, takes_all, no_mark, further_params, params_syms, mark_syms, stmt_syms, stmts_syms, case_syms, cases_syms}
use Rattle.jam_grammar.specs.Alike.{mark_said, word_said}
use Rattle.jam_grammar.proofs.TreesAreThoseOfElements.{block_is}
use Rattle.jam_spelling.specs.declared.lexeme.Lexeme.{Lexeme}
use Rattle.jam_printer.specs.declared.exprs.Joint.{Joint}
use Rattle.jam_printer.specs.Joints.{joint_mark, joint_level}
use Rattle.jam_printer.specs.Lexemes.{lexeme_saying, lexemes_of_sym, written_as}

pub written_append : (s t : List Sym) → written_as (s ++ t) ≡ written_as s ++ written_as t
written_append s t = flat_map-append lexemes_of_sym s t

-- all has been pushed at the end of a loop
pub at_end : {A : Type 0} (part : A → List Sym) (whole : List A → List Sym) (xs : List A) (i : ℕ) (old new : List Lexeme) → length xs ≤ i → whole xs ≡ flat_map part xs → new ≡ old ++ written_as (flat_map part (take i xs)) → new ≡ old ++ written_as (whole xs)
at_end part whole xs i old new past flat so_far = so_far ∙ ap (λ l. old ++ written_as (flat_map part l)) (take_all i xs past) ∙ ap (λ s. old ++ written_as s) (sym flat)

-- ---- arguments

pub args_flat : (args : List Arg) → args_syms args ≡ flat_map arg_syms args
args_flat [] = refl
args_flat (a ∷ args) = ap (λ s. arg_syms a ++ s) (args_flat args)

-- a list with a colon before it
abbrev pub after_colon : Vec Arg Global → List Sym
after_colon list = Key marks.Colon ∷ args_syms list.items

pub further_flat : (lists : List (Vec Arg Global)) → further_syms lists ≡ flat_map after_colon lists
further_flat [] = refl
further_flat (list ∷ lists) = ap (λ s. Key marks.Colon ∷ (args_syms list.items ++ s)) (further_flat lists)

-- ---- conditions

two : (a b c d : List Sym) → written_as a ≡ written_as b → written_as c ≡ written_as d → written_as (a ++ c) ≡ written_as (b ++ d)
two a b c d e f =
    let left : written_as (a ++ c) ≡ written_as a ++ written_as c = written_append a c in
    let right : written_as (b ++ d) ≡ written_as b ++ written_as d = written_append b d in
    cc

second_is : (level : Level) (mark : TokenMark) (es : ExprTrees) → written_as (spell_second level mark es) ≡ written_as (spell_joined level mark es)
second_is level mark NoExprs = refl
second_is level mark (ExprAnd e es) = refl

-- a member with a mark before it
abbrev pub after_mark : Joint → Expr → List Sym
after_mark joint e = Key (joint_mark joint) ∷ expr_syms (joint_level joint) e

pub joined_flat : (joint : Joint) (es : List Expr) → joined_syms (joint_level joint) (joint_mark joint) es ≡ flat_map (after_mark joint) es
joined_flat joint [] = refl
joined_flat joint (e ∷ es) = ap (λ s. after_mark joint e ++ s) (joined_flat joint es)

-- ---- statements and cases

pub block_holds : (block : Block) → block_syms block ≡ stmts_syms (out-Block block).stmts.items
block_holds block = ap block_syms (sym (roll-out-Block block)) ∙ ap spell_stmts (block_is (out-Block block).stmts)

pub stmts_flat : (stmts : List Stmt) → stmts_syms stmts ≡ flat_map stmt_syms stmts
stmts_flat [] = refl
stmts_flat (s ∷ stmts) = ap (λ t. stmt_syms s ++ t) (stmts_flat stmts)

case_first : (c : Case) (rest : CaseTrees) → spell_cases (case_before c rest) ≡ case_syms c ++ spell_cases rest
case_first (Case' pattern block) rest = ap (λ s. Key marks.Case ∷ Says pattern ∷ Key marks.Colon ∷ (s ++ spell_cases rest)) (sym (append-nil (spell_stmts (block_tree block))))

pub cases_flat : (cases : List Case) → cases_syms cases ≡ flat_map case_syms cases
cases_flat [] = refl
cases_flat (c ∷ cases) = case_first c (cases_tree cases) ∙ ap (λ t. case_syms c ++ t) (cases_flat cases)

-- ---- parameters

-- a list of parameters with a colon before it
abbrev pub params_after_colon : Vec Param Global → List Sym
params_after_colon list = Key marks.Colon ∷ flat_map param_syms list.items

-- where one list takes all further arguments, its sign is written as its name
one_star : (name : List ℕ) (mark : Option ℕ) → name ≡ codes "*" → no_mark mark ≡ true → written_as (Key marks.Star ∷ []) ≡ written_as ((Named name ∷ mark_syms mark) ++ [])
one_star name None is none = ap (λ text. lexeme_saying (word_said text) ∷ []) (sym is)
one_star name (Some c) is none = absurd (false≢true none)

plist_same : (list : List Param) (takes : Bool) → takes_all list ≡ takes → written_as (cond takes (Key marks.Star ∷ []) (flat_map param_syms list)) ≡ written_as (flat_map param_syms list)
plist_same list false e = refl
plist_same [] true e = absurd (false≢true e)
plist_same (param ∷ []) true e =
    let parts : (bytes_eq param.name (codes "*") ≡ true) × (no_mark param.mark ≡ true) = and_parts (bytes_eq param.name (codes "*")) (no_mark param.mark) e in
    one_star param.name param.mark ((bytes_eq-Decides param.name (codes "*")).0 parts.0) parts.1
plist_same (first ∷ second ∷ more) true e = absurd (false≢true e)

pub plist_flat : (list : List Param) → written_as (plist_syms list) ≡ written_as (flat_map param_syms list)
plist_flat list = plist_same list (takes_all list) refl

pub further_params_flat : (lists : List (Vec Param Global)) → written_as (further_params (map (λ list. list.items) lists)) ≡ written_as (flat_map params_after_colon lists)
further_params_flat [] = refl
further_params_flat (list ∷ lists) = ap (λ l. lexeme_saying (mark_said marks.Colon) ∷ l) (two (plist_syms list.items) (flat_map param_syms list.items) (further_params (map (λ list. list.items) lists)) (flat_map params_after_colon lists) (plist_flat list.items) (further_params_flat lists))

-- lists of parameters in parentheses
pub params_are : (first : List Param) (more : List (List Param)) → written_as (params_syms (first ∷ more)) ≡ lexeme_saying (mark_said marks.ParenOpen) ∷ (written_as (flat_map param_syms first) ++ (written_as (further_params more) ++ (lexeme_saying (mark_said marks.ParenClose) ∷ [])))
params_are first more =
    ap (λ l. lexeme_saying (mark_said marks.ParenOpen) ∷ l)
    (written_append (plist_syms first ++ further_params more) (Key marks.ParenClose ∷ []) ∙ ap (λ l. l ++ (lexeme_saying (mark_said marks.ParenClose) ∷ [])) (written_append (plist_syms first) (further_params more) ∙ ap (λ l. l ++ written_as (further_params more)) (plist_flat first)) ∙ append_assoc (written_as (flat_map param_syms first)) (written_as (further_params more)) ((lexeme_saying (mark_said marks.ParenClose) ∷ [])))
