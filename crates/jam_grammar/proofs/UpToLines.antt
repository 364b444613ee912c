-- Tokens read as one tree up to lines: as that of tokens and lines that are all 0.
use Rattle.std.proofs.Common.{◌≡◌, List, [], ◌∷◌, ◌++◌, map, Bool, true, false, refl, sym, ap, ◌∙◌, subst}
use Rattle.b2_base.specs.declared.token.Token.{Token}
use Rattle.jam_grammar.specs.declared.mark.TokenMark.TheVariants as m
use Rattle.jam_grammar.specs.Marks.{mark_of_token, same_mark, is_word, is_name}
use Rattle.jam_grammar.specs.Trees.{FormTree, Braces, Local, Assign, AssignOn, Include, Return, If, For, While, Switch, Module, Rule, Actions, On, Call, OtherTree, Nothing, ElseBraces, ElseIf, StmtTrees, NoStmts, StmtAnd, CaseTrees, NoCases, CaseAnd}
use Rattle.jam_grammar.specs.Spelling.{Sym, Key, Heads, Switches, none, together, existing, quietly, Says, Named, Raw, From, Never, Spells, StartsOn, Anywhere, spell_arg, spell_args, spell_expr, params_syms, local_syms, braced, only, is_if, spell_form, spell_other, spell_stmts, spell_cases}
use Rattle.jam_grammar.specs.Alike.{unlined, lineless, lineless_form, lineless_other, lineless_cases}
use Rattle.jam_grammar.specs.Laws.{OneTree, OneUpToLines, SameUpToLines, ReadsAlso}
use Rattle.jam_grammar.proofs.FirstSymbolTellsFirstToken.{cong}
use Rattle.jam_grammar.proofs.OneForm.{tree_one}
use Rattle.jam_grammar.proofs.InnerSpellingsTellNoLines.{Steady, steady_arg, steady_args, steady_expr, steady_params, steady_set, steady_local, steady_assign, steady_assign_on, steady_locals, steady_call}
use Rattle.jam_grammar.proofs.SameSayingReadsAlike.{leads, Fixed, fixed_stmts}

-- symbols with 0 for each line
abbrev zeroed : List Sym → List Sym
zeroed [] = []
zeroed (Key mark ∷ syms) = Key mark ∷ zeroed syms
zeroed (Heads a b c t e q ∷ syms) = Heads a b c t e q ∷ zeroed syms
zeroed (Says text ∷ syms) = Says text ∷ zeroed syms
zeroed (Named text ∷ syms) = Named text ∷ zeroed syms
zeroed (Raw text ∷ syms) = Raw text ∷ zeroed syms
zeroed (From line ∷ syms) = From 0 ∷ zeroed syms
zeroed (Never ∷ syms) = Never ∷ zeroed syms

zeroed_append : (a b : List Sym) → zeroed (a ++ b) ≡ zeroed a ++ zeroed b
zeroed_append [] b = refl
zeroed_append (Key mark ∷ a) b = ap (λ x. Key mark ∷ x) (zeroed_append a b)
zeroed_append (Heads x y z t e q ∷ a) b = ap (λ s. Heads x y z t e q ∷ s) (zeroed_append a b)
zeroed_append (Says text ∷ a) b = ap (λ x. Says text ∷ x) (zeroed_append a b)
zeroed_append (Named text ∷ a) b = ap (λ x. Named text ∷ x) (zeroed_append a b)
zeroed_append (Raw text ∷ a) b = ap (λ x. Raw text ∷ x) (zeroed_append a b)
zeroed_append (From line ∷ a) b = ap (λ x. From 0 ∷ x) (zeroed_append a b)
zeroed_append (Never ∷ a) b = ap (λ x. Never ∷ x) (zeroed_append a b)

steady_zeroed : (syms : List Sym) → Steady syms → syms ≡ zeroed syms
steady_zeroed [] h = refl
steady_zeroed (Key mark ∷ syms) h = ap (λ x. Key mark ∷ x) (steady_zeroed syms h.1)
steady_zeroed (Heads a b c t e q ∷ syms) h = absurd h
steady_zeroed (Says text ∷ syms) h = ap (λ x. Says text ∷ x) (steady_zeroed syms h)
steady_zeroed (Named text ∷ syms) h = ap (λ x. Named text ∷ x) (steady_zeroed syms h)
steady_zeroed (Raw text ∷ syms) h = ap (λ x. Raw text ∷ x) (steady_zeroed syms h)
steady_zeroed (From line ∷ syms) h = absurd h
steady_zeroed (Never ∷ syms) h = ap (λ x. Never ∷ x) (steady_zeroed syms h)

both_zeroed : (a b c d : List Sym) → a ≡ zeroed b → c ≡ zeroed d → a ++ c ≡ zeroed (b ++ d)
both_zeroed a b c d e h = cong (λ x y. x ++ y) e h ∙ sym (zeroed_append b d)

-- steady symbols before others
zeroed_after : (a c d : List Sym) → Steady a → c ≡ zeroed d → a ++ c ≡ zeroed (a ++ d)
zeroed_after a c d s h = both_zeroed a a c d (steady_zeroed a s) h

braced_zeroed : (a b : List Sym) → a ≡ zeroed b → braced a ≡ zeroed (braced b)
braced_zeroed a b e = ap (λ x. Key m.BraceOpen ∷ x) (both_zeroed a b (Key m.BraceClose ∷ []) (Key m.BraceClose ∷ []) e refl)

only_zeroed : (b c : Bool) (x y : List Sym) → b ≡ c → x ≡ zeroed y → only b x ≡ zeroed (only c y)
only_zeroed b true x y e h = ap (λ z. only z x) e ∙ h
only_zeroed b false x y e h = ap (λ z. only z x) e

if_lineless : (f : FormTree) → is_if (lineless_form f) ≡ is_if f
if_lineless (If test block next) = refl
if_lineless _ = refl

mutual
  form_zeroed : (f : FormTree) → spell_form (lineless_form f) ≡ zeroed (spell_form f)
  form_zeroed (Braces block) = braced_zeroed (spell_stmts (lineless block)) (spell_stmts block) (stmts_zeroed block)
  form_zeroed (If test block next) = ap (λ x. Key m.If ∷ x) (zeroed_after (spell_expr Anywhere test) (braced
      (spell_stmts (lineless block)) ++ spell_other (lineless_other next)) (braced (spell_stmts block) ++ spell_other
      next) (steady_expr Anywhere test) (both_zeroed (braced (spell_stmts (lineless block))) (braced (spell_stmts
      block)) (spell_other (lineless_other next)) (spell_other next) (braced_zeroed (spell_stmts (lineless block))
      (spell_stmts block) (stmts_zeroed block)) (other_zeroed next)))
  form_zeroed (For own name items block) = ap (λ x. Key m.For ∷ x) (zeroed_after (local_syms own) (Says name ∷ Key
      m.In ∷ (spell_args items ++ braced (spell_stmts (lineless block)))) (Says name ∷ Key m.In ∷ (spell_args items ++
      braced (spell_stmts block))) (steady_local own) (ap (λ x. Says name ∷ Key m.In ∷ x) (zeroed_after (spell_args
      items) (braced (spell_stmts (lineless block))) (braced (spell_stmts block)) (steady_args items) (braced_zeroed
      (spell_stmts (lineless block)) (spell_stmts block) (stmts_zeroed block)))))
  form_zeroed (While test block) = ap (λ x. Key m.While ∷ x) (zeroed_after (spell_expr Anywhere test) (braced (spell_stmts (lineless block))) (braced (spell_stmts block)) (steady_expr Anywhere test) (braced_zeroed (spell_stmts (lineless block)) (spell_stmts block) (stmts_zeroed block)))
  form_zeroed (Switch value cases) = ap (λ x. Key m.Switch ∷ x) (zeroed_after (spell_args value) (braced (spell_cases (lineless_cases cases))) (braced (spell_cases cases)) (steady_args value) (braced_zeroed (spell_cases (lineless_cases cases)) (spell_cases cases) (cases_zeroed cases)))
  form_zeroed (Module name block) = ap (λ x. Key m.Module ∷ x) (zeroed_after (spell_args name) (braced (spell_stmts (lineless block))) (braced (spell_stmts block)) (steady_args name) (braced_zeroed (spell_stmts (lineless block)) (spell_stmts block) (stmts_zeroed block)))
  form_zeroed (Rule name params block) = ap (λ x. Key m.Rule ∷ Says name ∷ x) (zeroed_after (params_syms params) (braced (spell_stmts (lineless block))) (braced (spell_stmts block)) (steady_params params) (braced_zeroed (spell_stmts (lineless block)) (spell_stmts block) (stmts_zeroed block)))
  form_zeroed (On target line form) = ap (λ x. Key m.On ∷ x) (zeroed_after (spell_arg target) (From 0 ∷ spell_form (lineless_form form)) (From line ∷ spell_form form) (steady_arg target) (ap (λ x. From 0 ∷ x) (form_zeroed form)))
  form_zeroed (Local names value) = steady_zeroed (spell_form (Local names value)) (steady_locals names value)
  form_zeroed (Assign target sign value) = steady_zeroed (spell_form (Assign target sign value)) (steady_assign target sign value)
  form_zeroed (AssignOn target on sign value) = steady_zeroed (spell_form (AssignOn target on sign value)) (steady_assign_on target on sign value)
  form_zeroed (Include names) = steady_zeroed (spell_form (Include names)) (steady_set m.Include (spell_args names) refl (steady_args names))
  form_zeroed (Return value) = steady_zeroed (spell_form (Return value)) (steady_set m.Return (spell_args value) refl (steady_args value))
  form_zeroed (Actions name a b c body) = refl
  form_zeroed (Call head lists) = steady_zeroed (spell_form (Call head lists)) (steady_call head lists)

  other_zeroed : (o : OtherTree) → spell_other (lineless_other o) ≡ zeroed (spell_other o)
  other_zeroed Nothing = refl
  other_zeroed (ElseBraces block) = ap (λ x. Key m.Else ∷ x) (braced_zeroed (spell_stmts (lineless block)) (spell_stmts block) (stmts_zeroed block))
  other_zeroed (ElseIf line form) = ap (λ x. Key m.Else ∷ From 0 ∷ x) (only_zeroed (is_if (lineless_form form)) (is_if form) (spell_form (lineless_form form)) (spell_form form) (if_lineless form) (form_zeroed form))

  stmts_zeroed : (s : StmtTrees) → spell_stmts (lineless s) ≡ zeroed (spell_stmts s)
  stmts_zeroed NoStmts = refl
  stmts_zeroed (StmtAnd line form rest) = ap (λ x. From 0 ∷ x) (both_zeroed (spell_form (lineless_form form)) (spell_form form) (spell_stmts (lineless rest)) (spell_stmts rest) (form_zeroed form) (stmts_zeroed rest))

  cases_zeroed : (c : CaseTrees) → spell_cases (lineless_cases c) ≡ zeroed (spell_cases c)
  cases_zeroed NoCases = refl
  cases_zeroed (CaseAnd pattern block rest) = ap (λ x. Key m.Case ∷ Says pattern ∷ Key m.Colon ∷ x) (both_zeroed (spell_stmts (lineless block)) (spell_stmts block) (spell_cases (lineless_cases rest)) (spell_cases rest) (stmts_zeroed block) (cases_zeroed rest))

-- tokens with 0 for each line
abbrev flat : Token → Token
flat token = record token { line = 0 }

flat_mark : (token : Token) → mark_of_token (flat token) ≡ mark_of_token token
unfolding mark_of_token
flat_mark token = refl

nothing_left : (syms : List Sym) (u : List Token) → leads syms ≡ true → Spells [] (unlined syms) u → ⊥
nothing_left [] u h s = cc
nothing_left (Key mark ∷ syms) u h s = s
nothing_left (Heads a b c t e q ∷ syms) u h s = cc
nothing_left (Says text ∷ syms) u h s = s
nothing_left (Named text ∷ syms) u h s = s
nothing_left (Raw text ∷ syms) u h s = s
nothing_left (From line ∷ syms) u h s = cc
nothing_left (Never ∷ syms) u h s = s

flat_starts : (tokens : List Token) (syms : List Sym) (u : List Token) → leads syms ≡ true → Spells tokens (unlined syms) u → StartsOn 0 (map flat tokens)
flat_starts [] syms u h s = nothing_left syms u h s
flat_starts (t ∷ tokens) syms u h s = refl

flat_switches : {a b c t e q : Bool} {ts left : List Token} → Switches a b c t e q ts left → Switches a b c t e q (map flat ts) (map flat left)
flat_switches none = none
flat_switches (together {token} is w) = together (flat_mark token ∙ is) (flat_switches w)
flat_switches (existing {token} is w) = existing (flat_mark token ∙ is) (flat_switches w)
flat_switches (quietly {token} is w) = quietly (flat_mark token ∙ is) (flat_switches w)

flat_spells : (b : Bool) (tokens u : List Token) (syms : List Sym) → Fixed b syms → Spells tokens (unlined syms) u → Spells (map flat tokens) (zeroed syms) (map flat u)
flat_spells true tokens u (Heads a b c t e q ∷ syms) f s = (map flat s.0, flat_switches s.1, flat_spells false s.0 u syms f.1 s.2)
flat_spells true tokens u [] f s = absurd f
flat_spells true tokens u (Key mark ∷ syms) f s = absurd f
flat_spells true tokens u (Says text ∷ syms) f s = absurd f
flat_spells true tokens u (Named text ∷ syms) f s = absurd f
flat_spells true tokens u (Raw text ∷ syms) f s = absurd f
flat_spells true tokens u (From line ∷ syms) f s = absurd f
flat_spells true tokens u (Never ∷ syms) f s = absurd f
flat_spells false tokens u [] f s = ap (map flat) s
flat_spells false tokens u (Heads a b c t e q ∷ syms) f s = absurd f
flat_spells false tokens u (From line ∷ syms) f s = (flat_starts tokens syms u f.0 s, flat_spells false tokens u syms f.1 s)
flat_spells false [] u (Key mark ∷ syms) f s = absurd s
flat_spells false [] u (Says text ∷ syms) f s = absurd s
flat_spells false [] u (Named text ∷ syms) f s = absurd s
flat_spells false [] u (Raw text ∷ syms) f s = absurd s
flat_spells false [] u (Never ∷ syms) f s = absurd s
flat_spells false (t ∷ tokens) u (Key mark ∷ syms) f s = (flat_mark t ∙ s.0, flat_spells (same_mark m.Actions mark) tokens u syms f.1 s.1)
flat_spells false (t ∷ tokens) u (Says text ∷ syms) f s = ((ap is_word (flat_mark t) ∙ s.0.0, s.0.1), flat_spells false tokens u syms f s.1)
flat_spells false (t ∷ tokens) u (Named text ∷ syms) f s = ((ap is_name (flat_mark t) ∙ s.0.0, s.0.1), flat_spells false tokens u syms f s.1)
flat_spells false (t ∷ tokens) u (Raw text ∷ syms) f s = ((flat_mark t ∙ s.0.0, s.0.1), flat_spells false tokens u syms f s.1)
flat_spells false (t ∷ tokens) u (Never ∷ syms) f s = absurd s

flat_tree : (tokens : List Token) (a : StmtTrees) → Spells tokens (unlined (spell_stmts a)) [] → Spells (map flat tokens) (spell_stmts (lineless a)) []
flat_tree tokens a s = subst (λ x. Spells (map flat tokens) x []) (sym (stmts_zeroed a)) (flat_spells false tokens [] (spell_stmts a) (fixed_stmts a) s)

pub one_tree : OneTree
one_tree tokens a b r k = tree_one tokens a b r.spelled k.spelled

pub one_up_to_lines : OneUpToLines
one_up_to_lines tokens a b r k = tree_one (map flat tokens) (lineless a) (lineless b) (flat_tree tokens a r.spelled) (flat_tree tokens b k.spelled)

-- lines don't matter to symbols without them
unlined_zeroed : (syms : List Sym) → unlined (zeroed syms) ≡ unlined syms
unlined_zeroed [] = refl
unlined_zeroed (Key mark ∷ syms) = ap (λ x. Key mark ∷ x) (unlined_zeroed syms)
unlined_zeroed (Heads a b c t e q ∷ syms) = ap (λ x. Heads a b c t e q ∷ x) (unlined_zeroed syms)
unlined_zeroed (Says text ∷ syms) = ap (λ x. Says text ∷ x) (unlined_zeroed syms)
unlined_zeroed (Named text ∷ syms) = ap (λ x. Named text ∷ x) (unlined_zeroed syms)
unlined_zeroed (Raw text ∷ syms) = ap (λ x. Raw text ∷ x) (unlined_zeroed syms)
unlined_zeroed (From line ∷ syms) = unlined_zeroed syms
unlined_zeroed (Never ∷ syms) = ap (λ x. Never ∷ x) (unlined_zeroed syms)

unlined_lineless : (a : StmtTrees) → unlined (spell_stmts (lineless a)) ≡ unlined (spell_stmts a)
unlined_lineless a = ap unlined (stmts_zeroed a) ∙ unlined_zeroed (spell_stmts a)

pub same_up_to_lines : SameUpToLines
same_up_to_lines a b e = sym (unlined_lineless a) ∙ ap (λ x. unlined (spell_stmts x)) e ∙ unlined_lineless b

unlined_spells : (tokens u : List Token) (syms : List Sym) → Spells tokens syms u → Spells tokens (unlined syms) u
unlined_spells tokens u [] s = s
unlined_spells tokens u (From line ∷ syms) s = unlined_spells tokens u syms s.1
unlined_spells tokens u (Heads a b c t e q ∷ syms) s = (s.0, s.1, unlined_spells s.0 u syms s.2)
unlined_spells [] u (Key mark ∷ syms) s = absurd s
unlined_spells [] u (Says text ∷ syms) s = absurd s
unlined_spells [] u (Named text ∷ syms) s = absurd s
unlined_spells [] u (Raw text ∷ syms) s = absurd s
unlined_spells [] u (Never ∷ syms) s = absurd s
unlined_spells (t ∷ tokens) u (Key mark ∷ syms) s = (s.0, unlined_spells tokens u syms s.1)
unlined_spells (t ∷ tokens) u (Says text ∷ syms) s = (s.0, unlined_spells tokens u syms s.1)
unlined_spells (t ∷ tokens) u (Named text ∷ syms) s = (s.0, unlined_spells tokens u syms s.1)
unlined_spells (t ∷ tokens) u (Raw text ∷ syms) s = (s.0, unlined_spells tokens u syms s.1)
unlined_spells (t ∷ tokens) u (Never ∷ syms) s = absurd s

pub reads_also : ReadsAlso
reads_also tokens tree r = record { file = r.file; spelled = unlined_spells tokens [] (spell_stmts tree) r.spelled }
