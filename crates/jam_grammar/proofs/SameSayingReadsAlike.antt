-- Tokens that say what a tree asks for read as the tree, up to lines.
use Rattle.std.proofs.Common.{◌≡◌, List, [], ◌∷◌, ◌++◌, map, Bool, true, false, refl, sym, ap, ◌∙◌, subst, append_assoc}
use Rattle.b2_base.specs.declared.token.Token.{Token}
use Rattle.jam_grammar.specs.declared.mark.TokenMark.{TokenMark}
use Rattle.jam_grammar.specs.declared.mark.TokenMark.TheVariants as m
use Rattle.jam_grammar.specs.Marks.{mark_of_token, same_mark, is_word, is_name}
use Rattle.jam_grammar.specs.Trees.{ArgTree, Word, Bracket, FormTree, Braces, Local, Assign, AssignOn, Include, Return, If, For, While, Switch, Module, Rule, Actions, On, Call, OtherTree, Nothing, ElseBraces, ElseIf, StmtTrees, NoStmts, StmtAnd, CaseTrees, NoCases, CaseAnd}
use Rattle.jam_grammar.specs.Spelling.{Sym, Key, Heads, Switches, none, together, existing, quietly, Says, Named, Raw, From, Never, Spells, Anywhere, spell_arg, spell_args, spell_expr, params_syms, local_syms, braced, only, is_if, spell_form, spell_other, spell_stmts, spell_cases}
use Rattle.jam_grammar.specs.Alike.{Said, said_of, word_said, body_said, mark_said, newly, heads_said, asked, unlined}
use Rattle.jam_grammar.specs.Laws.{AskedReads}
use Rattle.jam_grammar.proofs.MarkTellsWhatTokenSays.{has_text, token_says, word_is, body_is, same_said, is_together, is_existing, is_quietly, name_is_word}
use Rattle.jam_grammar.proofs.HeadingsMayTurn.{Turned, done, same, heading, turned_file}
use Rattle.jam_grammar.proofs.InnerSpellingsTellNoLines.{stands, Steady, steady_arg, steady_args, steady_expr, steady_params, steady_set, steady_local, steady_assign, steady_assign_on, steady_locals, steady_call}

-- some symbol other than a line's comes first
abbrev pub leads : List Sym → Bool
leads [] = false
leads (From line ∷ syms) = false
leads (Heads a b c t e q ∷ syms) = false
leads (_ ∷ syms) = true

pub leads_append : (a b : List Sym) → leads a ≡ true → leads (a ++ b) ≡ true
leads_append [] b h = cc
leads_append (Key mark ∷ a) b h = refl
leads_append (Heads x y z t e q ∷ a) b h = cc
leads_append (Says text ∷ a) b h = refl
leads_append (Named text ∷ a) b h = refl
leads_append (Raw text ∷ a) b h = refl
leads_append (From line ∷ a) b h = cc
leads_append (Never ∷ a) b h = refl

leads_arg : (a : ArgTree) → leads (spell_arg a) ≡ true
leads_arg (Word text) = refl
leads_arg (Bracket i) = refl

pub leads_form : (f : FormTree) → leads (spell_form f) ≡ true
leads_form (Assign target sign value) = leads_append (spell_arg target) _ (leads_arg target)
leads_form (AssignOn target on sign value) = leads_append (spell_arg target) _ (leads_arg target)
leads_form (Call head lists) = leads_append (spell_arg head) _ (leads_arg head)
leads_form (Braces block) = refl
leads_form (Local names value) = refl
leads_form (Include names) = refl
leads_form (Return value) = refl
leads_form (If test block next) = refl
leads_form (For own name items block) = refl
leads_form (While test block) = refl
leads_form (Switch value cases) = refl
leads_form (Module name block) = refl
leads_form (Rule name params block) = refl
leads_form (Actions name a b c body) = refl
leads_form (On target line form) = refl

leads_only : (b : Bool) (syms : List Sym) → leads syms ≡ true → leads (only b syms) ≡ true
leads_only true syms h = h
leads_only false syms h = refl

-- whether no modifier has stood
abbrev pub none_stood : Bool → Bool → Bool → Bool
none_stood false false false = true
none_stood _ _ _ = false

-- Each key of the symbols has one text, some other symbol follows each line, and modifiers stand behind the key `actions`
-- alone; behind that key where the first says so.
abbrev pub Fixed : Bool → List Sym → Type 0
Fixed true (Heads a b c t e q ∷ syms) = (none_stood a b c ≡ true) × Fixed false syms
Fixed true _ = ⊥
Fixed false [] = Unit {0}
Fixed false (Key mark ∷ syms) = (has_text mark ≡ true) × Fixed (same_mark m.Actions mark) syms
Fixed false (From line ∷ syms) = (leads syms ≡ true) × Fixed false syms
Fixed false (Heads a b c t e q ∷ syms) = ⊥
Fixed false (_ ∷ syms) = Fixed false syms

fixed_append : (f : Bool) (a b : List Sym) → Fixed f a → Fixed false b → Fixed f (a ++ b)
fixed_append true [] b h k = absurd h
fixed_append true (Heads x y z t e q ∷ a) b h k = (h.0, fixed_append false a b h.1 k)
fixed_append true (Key mark ∷ a) b h k = absurd h
fixed_append true (Says text ∷ a) b h k = absurd h
fixed_append true (Named text ∷ a) b h k = absurd h
fixed_append true (Raw text ∷ a) b h k = absurd h
fixed_append true (From line ∷ a) b h k = absurd h
fixed_append true (Never ∷ a) b h k = absurd h
fixed_append false [] b h k = k
fixed_append false (Key mark ∷ a) b h k = (h.0, fixed_append (same_mark m.Actions mark) a b h.1 k)
fixed_append false (Heads x y z t e q ∷ a) b h k = absurd h
fixed_append false (Says text ∷ a) b h k = fixed_append false a b h k
fixed_append false (Named text ∷ a) b h k = fixed_append false a b h k
fixed_append false (Raw text ∷ a) b h k = fixed_append false a b h k
fixed_append false (From line ∷ a) b h k = (leads_append a b h.0, fixed_append false a b h.1 k)
fixed_append false (Never ∷ a) b h k = fixed_append false a b h k

stands_is : (mark : TokenMark) → stands mark ≡ true → (has_text mark ≡ true) × (same_mark m.Actions mark ≡ false)
stands_is m.Actions h = cc
stands_is m.Plain h = cc
stands_is m.Body h = cc
stands_is m.Unknown h = cc
stands_is _ h = (refl, refl)

steady_fixed : (syms : List Sym) → Steady syms → Fixed false syms
steady_fixed [] h = tt
steady_fixed (Key mark ∷ syms) h = let is = stands_is mark h.0 in (is.0, subst (λ b. Fixed b syms) (sym is.1) (steady_fixed syms h.1))
steady_fixed (Heads a b c t e q ∷ syms) h = absurd h
steady_fixed (Says text ∷ syms) h = steady_fixed syms h
steady_fixed (Named text ∷ syms) h = steady_fixed syms h
steady_fixed (Raw text ∷ syms) h = steady_fixed syms h
steady_fixed (From line ∷ syms) h = absurd h
steady_fixed (Never ∷ syms) h = steady_fixed syms h

-- steady symbols before others
fixed_after : (a b : List Sym) → Steady a → Fixed false b → Fixed false (a ++ b)
fixed_after a b h k = fixed_append false a b (steady_fixed a h) k

fixed_braced : (syms : List Sym) → Fixed false syms → Fixed false (braced syms)
fixed_braced syms h = (refl, fixed_append false syms _ h (refl, tt))

fixed_only : (b : Bool) (syms : List Sym) → Fixed false syms → Fixed false (only b syms)
fixed_only true syms h = h
fixed_only false syms h = tt

mutual
  fixed_form : (f : FormTree) → Fixed false (spell_form f)
  fixed_form (Braces block) = fixed_braced (spell_stmts block) (fixed_stmts block)
  fixed_form (Local names value) = steady_fixed (spell_form (Local names value)) (steady_locals names value)
  fixed_form (Assign target sign value) = steady_fixed (spell_form (Assign target sign value)) (steady_assign target sign value)
  fixed_form (AssignOn target on sign value) = steady_fixed (spell_form (AssignOn target on sign value)) (steady_assign_on target on sign value)
  fixed_form (Include names) = steady_fixed (spell_form (Include names)) (steady_set m.Include (spell_args names) refl (steady_args names))
  fixed_form (Return value) = steady_fixed (spell_form (Return value)) (steady_set m.Return (spell_args value) refl (steady_args value))
  fixed_form (If test block next) = (refl, fixed_after (spell_expr Anywhere test) _ (steady_expr Anywhere test) (fixed_append false (braced (spell_stmts block)) _ (fixed_braced (spell_stmts block) (fixed_stmts block)) (fixed_other next)))
  fixed_form (For own name items block) = (refl, fixed_after (local_syms own) _ (steady_local own) (refl, fixed_after (spell_args items) _ (steady_args items) (fixed_braced (spell_stmts block) (fixed_stmts block))))
  fixed_form (While test block) = (refl, fixed_after (spell_expr Anywhere test) _ (steady_expr Anywhere test) (fixed_braced (spell_stmts block) (fixed_stmts block)))
  fixed_form (Switch value cases) = (refl, fixed_after (spell_args value) _ (steady_args value) (fixed_braced (spell_cases cases) (fixed_cases cases)))
  fixed_form (Module name block) = (refl, fixed_after (spell_args name) _ (steady_args name) (fixed_braced (spell_stmts block) (fixed_stmts block)))
  fixed_form (Rule name params block) = (refl, fixed_after (params_syms params) _ (steady_params params) (fixed_braced (spell_stmts block) (fixed_stmts block)))
  fixed_form (Actions name a b c body) = (refl, (refl, (refl, (refl, tt))))
  fixed_form (On target line form) = (refl, fixed_after (spell_arg target) _ (steady_arg target) (leads_form form, fixed_form form))
  fixed_form (Call head lists) = steady_fixed (spell_form (Call head lists)) (steady_call head lists)

  fixed_other : (o : OtherTree) → Fixed false (spell_other o)
  fixed_other Nothing = tt
  fixed_other (ElseBraces block) = (refl, fixed_braced (spell_stmts block) (fixed_stmts block))
  fixed_other (ElseIf line form) = (refl, (leads_only (is_if form) (spell_form form) (leads_form form), fixed_only (is_if form) (spell_form form) (fixed_form form)))

  pub fixed_stmts : (s : StmtTrees) → Fixed false (spell_stmts s)
  fixed_stmts NoStmts = tt
  fixed_stmts (StmtAnd line form rest) = (leads_append (spell_form form) _ (leads_form form), fixed_append false (spell_form form) _ (fixed_form form) (fixed_stmts rest))

  fixed_cases : (c : CaseTrees) → Fixed false (spell_cases c)
  fixed_cases NoCases = tt
  fixed_cases (CaseAnd pattern block rest) = (refl, (refl, fixed_append false (spell_stmts block) _ (fixed_stmts block) (fixed_cases rest)))

-- a word and a body are no `actions`
word_no_actions : (mark : TokenMark) → is_word mark ≡ true → same_mark m.Actions mark ≡ false
word_no_actions m.Plain h = refl
word_no_actions m.Query h = refl
word_no_actions m.Star h = refl
word_no_actions m.Plus h = refl
word_no_actions m.Together h = refl
word_no_actions m.Existing h = refl
word_no_actions m.Quietly h = refl
word_no_actions _ h = cc

first_said : (a b : Said) (c d : List Said) → a ∷ c ≡ b ∷ d → a ≡ b
first_said a b c d e = cc

rest_said : (a b : Said) (c d : List Said) → a ∷ c ≡ b ∷ d → c ≡ d
rest_said a b c d e = cc

-- tokens that say modifiers in their order
record Stand (a b c t e q : Bool) (tokens : List Token) (rest : List Said) : Type 0 where
  left : List Token
  switches : Switches a b c t e q tokens left
  says : map said_of left ≡ rest

third : (t e q : Bool) (tokens : List Token) (rest : List Said) → map said_of tokens ≡ newly false q m.Quietly ++ rest → Stand t e false t e q tokens rest
third t e false tokens rest h = record { left = tokens; switches = none; says = h }
third t e true [] rest h = cc
third t e true (u ∷ us) rest h = record { left = us; switches = quietly (is_quietly u (first_said _ _ _ _ h)) none; says = rest_said _ _ _ _ h }

second : (t e q : Bool) (tokens : List Token) (rest : List Said) → map said_of tokens ≡ newly false e m.Existing ++ (newly false q m.Quietly ++ rest) → Stand t false false t e q tokens rest
second t false q tokens rest h = third t false q tokens rest h
second t true q [] rest h = cc
second t true q (u ∷ us) rest h =
    let w = third t true q us rest (rest_said _ _ _ _ h) in
    record { left = w.left; switches = existing (is_existing u (first_said _ _ _ _ h)) w.switches; says = w.says }

stand : (t e q : Bool) (tokens : List Token) (rest : List Said) → map said_of tokens ≡ newly false t m.Together ++ (newly false e m.Existing ++ (newly false q m.Quietly ++ rest)) → Stand false false false t e q tokens rest
stand false e q tokens rest h = second false e q tokens rest h
stand true e q [] rest h = cc
stand true e q (u ∷ us) rest h =
    let w = second true e q us rest (rest_said _ _ _ _ h) in
    record { left = w.left; switches = together (is_together u (first_said _ _ _ _ h)) w.switches; says = w.says }

in_three : (a b c d : List Said) → (a ++ (b ++ c)) ++ d ≡ a ++ (b ++ (c ++ d))
in_three a b c d = append_assoc a (b ++ c) d ∙ ap (λ x. a ++ x) (append_assoc b c d)

same_text : (t u : Token) → said_of t ≡ said_of u → t.text ≡ u.text
same_text t u e = ap (λ x. x.text) e

-- others that say what the symbols ask for which some tokens spell
record Alike (b : Bool) (tokens others : List Token) (syms : List Sym) : Type 0 where
  turned : Turned b tokens others
  spelled : Spells others (unlined syms) []

-- a token of a word or a body, and then the rest
next_word : (t u : Token) (tokens others : List Token) → mark_of_token u ≡ mark_of_token t → same_mark m.Actions (mark_of_token t) ≡ false → Turned false tokens others → Turned false (t ∷ tokens) (u ∷ others)
next_word t u tokens others is other more = same (mark_of_token t) refl is (subst (λ b. Turned b tokens others) (sym other) more)

alike : (b : Bool) (tokens others : List Token) (syms : List Sym) → Fixed b syms → Spells tokens syms [] → map said_of others ≡ asked syms → Alike b tokens others syms
alike true tokens others [] f h k = absurd f
alike true tokens others (Key mark ∷ syms) f h k = absurd f
alike true tokens others (Says text ∷ syms) f h k = absurd f
alike true tokens others (Named text ∷ syms) f h k = absurd f
alike true tokens others (Raw text ∷ syms) f h k = absurd f
alike true tokens others (From line ∷ syms) f h k = absurd f
alike true tokens others (Never ∷ syms) f h k = absurd f
alike true tokens others (Heads true b c t e q ∷ syms) f h k = let bad = f.0 in cc
alike true tokens others (Heads false true c t e q ∷ syms) f h k = let bad = f.0 in cc
alike true tokens others (Heads false false true t e q ∷ syms) f h k = let bad = f.0 in cc
alike true tokens others (Heads false false false t e q ∷ syms) f h k =
    let w = stand t e q others (asked syms) (k ∙ in_three (newly false t m.Together) (newly false e m.Existing) (newly false q m.Quietly) (asked syms)) in
    let more = alike false h.0 w.left syms f.1 h.2 w.says in
    record { turned = heading h.1 w.switches more.turned; spelled = (w.left, w.switches, more.spelled) }
alike false [] [] [] f h k = record { turned = done; spelled = refl }
alike false [] (u ∷ others) [] f h k = cc
alike false (t ∷ tokens) others [] f h k = cc
alike false tokens others (Heads a b c t e q ∷ syms) f h k = absurd f
alike false tokens others (From line ∷ syms) f h k =
    let more = alike false tokens others syms f.1 h.1 k in
    record { turned = more.turned; spelled = more.spelled }
alike false [] others (Key mark ∷ syms) f h k = absurd h
alike false [] others (Says text ∷ syms) f h k = absurd h
alike false [] others (Named text ∷ syms) f h k = absurd h
alike false [] others (Raw text ∷ syms) f h k = absurd h
alike false [] others (Never ∷ syms) f h k = absurd h
alike false (t ∷ tokens) [] (Key mark ∷ syms) f h k = cc
alike false (t ∷ tokens) [] (Says text ∷ syms) f h k = cc
alike false (t ∷ tokens) [] (Named text ∷ syms) f h k = cc
alike false (t ∷ tokens) [] (Raw text ∷ syms) f h k = cc
alike false (t ∷ tokens) others (Never ∷ syms) f h k = absurd h
alike false (t ∷ tokens) (u ∷ others) (Key mark ∷ syms) f h k =
    let is = sym (same_said t u (token_says t mark h.0 f.0 ∙ sym (first_said _ _ _ _ k))) ∙ h.0 in
    let more = alike (same_mark m.Actions mark) tokens others syms f.1 h.1 (rest_said _ _ _ _ k) in
    record { turned = same mark h.0 is more.turned; spelled = (is, more.spelled) }
alike false (t ∷ tokens) (u ∷ others) (Says text ∷ syms) f h k =
    let said = word_is t h.0.0 ∙ ap word_said h.0.1 ∙ sym (first_said _ _ _ _ k) in
    let is = sym (same_said t u said) in
    let more = alike false tokens others syms f h.1 (rest_said _ _ _ _ k) in
    record {
      turned = next_word t u tokens others is (word_no_actions (mark_of_token t) h.0.0) more.turned;
      spelled = ((ap is_word is ∙ h.0.0, sym (same_text t u said) ∙ h.0.1), more.spelled);
    }
alike false (t ∷ tokens) (u ∷ others) (Named text ∷ syms) f h k =
    let word = name_is_word (mark_of_token t) h.0.0 in
    let said = word_is t word ∙ ap word_said h.0.1 ∙ sym (first_said _ _ _ _ k) in
    let is = sym (same_said t u said) in
    let more = alike false tokens others syms f h.1 (rest_said _ _ _ _ k) in
    record {
      turned = next_word t u tokens others is (word_no_actions (mark_of_token t) word) more.turned;
      spelled = ((ap is_name is ∙ h.0.0, sym (same_text t u said) ∙ h.0.1), more.spelled);
    }
alike false (t ∷ tokens) (u ∷ others) (Raw text ∷ syms) f h k =
    let said = body_is t h.0.0 ∙ ap body_said h.0.1 ∙ sym (first_said _ _ _ _ k) in
    let is = sym (same_said t u said) in
    let more = alike false tokens others syms f h.1 (rest_said _ _ _ _ k) in
    record {
      turned = next_word t u tokens others is (ap (same_mark m.Actions) h.0.0) more.turned;
      spelled = ((is ∙ h.0.0, sym (same_text t u said) ∙ h.0.1), more.spelled);
    }

pub asked_reads : AskedReads
asked_reads tokens others tree r e =
    let is = alike false tokens others (spell_stmts tree) (fixed_stmts tree) r.spelled e in
    record { file = turned_file is.turned r.file; spelled = is.spelled }
