-- Tokens spell one argument at most, and one list of lists where what follows is no part of it.
use Rattle.std.proofs.Common.{◌≡◌, List, [], ◌∷◌, ◌++◌, true, false, Some, refl, sym, ap, ◌∙◌, subst}
use Rattle.b2_base.specs.declared.token.Token.{Token}
use Rattle.jam_grammar.specs.declared.mark.TokenMark.TheVariants as m
use Rattle.jam_grammar.specs.Trees.{ArgTree, Word, Bracket, InnerTree, CallOf, OnInner, OnReturn, ArgTrees, NoArgs, ArgAnd, ListTrees, NoLists, ListAnd}
use Rattle.jam_grammar.specs.Spelling.{Sym, Key, Spells, spell_arg, spell_inner, spell_args, spell_lists, spell_further}
use Rattle.jam_grammar.proofs.PartsCompose.{spells_split}
use Rattle.jam_grammar.proofs.FirstSymbolTellsFirstToken.{first_mark, tail, key_first, key_tail, word_at, says_first, says_text, says_tail, never_spelled, clash, same_first, begins_arg, begins_list, at_first, no_list_no_arg, word_begins_arg, cong}

pub arg_first : (a : ArgTree) (ts u : List Token) → Spells ts (spell_arg a) u → at_first begins_arg (first_mark ts) ≡ true
arg_first (Word text) ts u s = word_begins_arg (first_mark ts) (says_first text [] ts u s)
arg_first (Bracket i) ts u s = ap (at_first begins_arg) (key_first m.SquareOpen _ ts u s)

pub arg_then_first : (a : ArgTree) (syms : List Sym) (ts u : List Token) → Spells ts (spell_arg a ++ syms) u → at_first begins_arg (first_mark ts) ≡ true
arg_then_first a syms ts u s = let q = spells_split ts u (spell_arg a) syms s in arg_first a ts q.0 q.1

pub further_first : (lists : ListTrees) (ts u : List Token) → Spells ts (spell_further lists) u → at_first begins_list (first_mark u) ≡ false → at_first begins_arg (first_mark ts) ≡ false
further_first NoLists ts u s n = no_list_no_arg (first_mark ts) (ap (λ x. at_first begins_list (first_mark x)) s ∙ n)
further_first (ListAnd first rest) ts u s n = ap (at_first begins_arg) (key_first m.Colon _ ts u s)

pub moved : (syms : List Sym) (a b v : List Token) → a ≡ b → Spells b syms v → Spells a syms v
moved syms a b v e r = subst (λ x. Spells x syms v) (sym e) r

no_return : (i : InnerTree) (ts u : List Token) → Spells ts (spell_inner i) u → first_mark ts ≡ Some m.Return → ⊥
no_return (CallOf head lists) ts u s h = clash (at_first begins_arg (first_mark ts)) (arg_then_first head _ ts u s) (ap (at_first begins_arg) h)
no_return (OnInner target i) ts u s h = let e = same_first (first_mark ts) m.On m.Return (key_first m.On _ ts u s) h in cc
no_return (OnReturn target value) ts u s h = let e = same_first (first_mark ts) m.On m.Return (key_first m.On _ ts u s) h in cc

mutual
  pub arg_one : (a b : ArgTree) (ts u v : List Token) → Spells ts (spell_arg a) u → Spells ts (spell_arg b) v → (a ≡ b) × (u ≡ v)
  arg_one (Word x) (Word y) ts u v s r = (ap Word (sym (says_text x [] ts u s) ∙ says_text y [] ts v r), sym (says_tail x [] ts u s) ∙ says_tail y [] ts v r)
  arg_one (Word x) (Bracket j) ts u v s r = clash (word_at (first_mark ts)) (says_first x [] ts u s) (ap word_at (key_first m.SquareOpen _ ts v r))
  arg_one (Bracket i) (Word y) ts u v s r = clash (word_at (first_mark ts)) (says_first y [] ts v r) (ap word_at (key_first m.SquareOpen _ ts u s))
  arg_one (Bracket i) (Bracket j) ts u v s r =
      let q = spells_split (tail ts) u (spell_inner i) (Key m.SquareClose ∷ []) (key_tail m.SquareOpen _ ts u s) in
      let p = spells_split (tail ts) v (spell_inner j) (Key m.SquareClose ∷ []) (key_tail m.SquareOpen _ ts v r) in
      let e = inner_one i j (tail ts) q.0 p.0 q.1 p.1 (ap (at_first begins_list) (key_first m.SquareClose [] q.0 u q.2)) (ap (at_first begins_list) (key_first m.SquareClose [] p.0 v p.2)) in
      (ap Bracket e.0, sym (key_tail m.SquareClose [] q.0 u q.2) ∙ ap tail e.1 ∙ key_tail m.SquareClose [] p.0 v p.2)

  pub inner_one : (i j : InnerTree) (ts u v : List Token) → Spells ts (spell_inner i) u → Spells ts (spell_inner j) v → at_first begins_list (first_mark u) ≡ false → at_first begins_list (first_mark v) ≡ false → (i ≡ j) × (u ≡ v)
  inner_one (CallOf head lists) (CallOf other more) ts u v s r n k =
      let q = spells_split ts u (spell_arg head) (spell_lists lists) s in
      let p = spells_split ts v (spell_arg other) (spell_lists more) r in
      let e = arg_one head other ts q.0 p.0 q.1 p.1 in
      let f = lists_one lists more q.0 u v q.2 (moved (spell_lists more) q.0 p.0 v e.1 p.2) n k in
      (cong CallOf e.0 f.0, f.1)
  inner_one (CallOf head lists) (OnInner target j) ts u v s r n k = clash (at_first begins_arg (first_mark ts)) (arg_then_first head _ ts u s) (ap (at_first begins_arg) (key_first m.On _ ts v r))
  inner_one (CallOf head lists) (OnReturn target value) ts u v s r n k = clash (at_first begins_arg (first_mark ts)) (arg_then_first head _ ts u s) (ap (at_first begins_arg) (key_first m.On _ ts v r))
  inner_one (OnInner target i) (CallOf head lists) ts u v s r n k = clash (at_first begins_arg (first_mark ts)) (arg_then_first head _ ts v r) (ap (at_first begins_arg) (key_first m.On _ ts u s))
  inner_one (OnReturn target value) (CallOf head lists) ts u v s r n k = clash (at_first begins_arg (first_mark ts)) (arg_then_first head _ ts v r) (ap (at_first begins_arg) (key_first m.On _ ts u s))
  inner_one (OnInner target i) (OnInner other j) ts u v s r n k =
      let q = spells_split (tail ts) u (spell_arg target) (spell_inner i) (key_tail m.On _ ts u s) in
      let p = spells_split (tail ts) v (spell_arg other) (spell_inner j) (key_tail m.On _ ts v r) in
      let e = arg_one target other (tail ts) q.0 p.0 q.1 p.1 in
      let f = inner_one i j q.0 u v q.2 (moved (spell_inner j) q.0 p.0 v e.1 p.2) n k in
      (cong OnInner e.0 f.0, f.1)
  inner_one (OnInner target i) (OnReturn other value) ts u v s r n k =
      let q = spells_split (tail ts) u (spell_arg target) (spell_inner i) (key_tail m.On _ ts u s) in
      let p = spells_split (tail ts) v (spell_arg other) (Key m.Return ∷ spell_args value) (key_tail m.On _ ts v r) in
      let e = arg_one target other (tail ts) q.0 p.0 q.1 p.1 in
      absurd (no_return i q.0 u q.2 (ap first_mark e.1 ∙ key_first m.Return _ p.0 v p.2))
  inner_one (OnReturn target value) (OnInner other j) ts u v s r n k =
      let q = spells_split (tail ts) u (spell_arg target) (Key m.Return ∷ spell_args value) (key_tail m.On _ ts u s) in
      let p = spells_split (tail ts) v (spell_arg other) (spell_inner j) (key_tail m.On _ ts v r) in
      let e = arg_one target other (tail ts) q.0 p.0 q.1 p.1 in
      absurd (no_return j p.0 v p.2 (ap first_mark (sym e.1) ∙ key_first m.Return _ q.0 u q.2))
  inner_one (OnReturn target value) (OnReturn other more) ts u v s r n k =
      let q = spells_split (tail ts) u (spell_arg target) (Key m.Return ∷ spell_args value) (key_tail m.On _ ts u s) in
      let p = spells_split (tail ts) v (spell_arg other) (Key m.Return ∷ spell_args more) (key_tail m.On _ ts v r) in
      let e = arg_one target other (tail ts) q.0 p.0 q.1 p.1 in
      let f = args_one value more (tail q.0) u v (key_tail m.Return _ q.0 u q.2) (moved (spell_args more) (tail q.0) (tail p.0) v (ap tail e.1) (key_tail m.Return _ p.0 v p.2)) (no_list_no_arg (first_mark u) n) (no_list_no_arg (first_mark v) k) in
      (cong OnReturn e.0 f.0, f.1)

  pub args_one : (xs ys : ArgTrees) (ts u v : List Token) → Spells ts (spell_args xs) u → Spells ts (spell_args ys) v → at_first begins_arg (first_mark u) ≡ false → at_first begins_arg (first_mark v) ≡ false → (xs ≡ ys) × (u ≡ v)
  args_one NoArgs NoArgs ts u v s r n k = (refl, sym s ∙ r)
  args_one NoArgs (ArgAnd first rest) ts u v s r n k = clash (at_first begins_arg (first_mark ts)) (arg_then_first first _ ts v r) (ap (λ x. at_first begins_arg (first_mark x)) s ∙ n)
  args_one (ArgAnd first rest) NoArgs ts u v s r n k = clash (at_first begins_arg (first_mark ts)) (arg_then_first first _ ts u s) (ap (λ x. at_first begins_arg (first_mark x)) r ∙ k)
  args_one (ArgAnd first rest) (ArgAnd other more) ts u v s r n k =
      let q = spells_split ts u (spell_arg first) (spell_args rest) s in
      let p = spells_split ts v (spell_arg other) (spell_args more) r in
      let e = arg_one first other ts q.0 p.0 q.1 p.1 in
      let f = args_one rest more q.0 u v q.2 (moved (spell_args more) q.0 p.0 v e.1 p.2) n k in
      (cong ArgAnd e.0 f.0, f.1)

  pub lists_one : (xs ys : ListTrees) (ts u v : List Token) → Spells ts (spell_lists xs) u → Spells ts (spell_lists ys) v → at_first begins_list (first_mark u) ≡ false → at_first begins_list (first_mark v) ≡ false → (xs ≡ ys) × (u ≡ v)
  lists_one NoLists ys ts u v s r n k = absurd (never_spelled [] ts u s)
  lists_one (ListAnd first rest) NoLists ts u v s r n k = absurd (never_spelled [] ts v r)
  lists_one (ListAnd first rest) (ListAnd other more) ts u v s r n k =
      let q = spells_split ts u (spell_args first) (spell_further rest) s in
      let p = spells_split ts v (spell_args other) (spell_further more) r in
      let e = args_one first other ts q.0 p.0 q.1 p.1 (further_first rest q.0 u q.2 n) (further_first more p.0 v p.2 k) in
      let f = further_one rest more q.0 u v q.2 (moved (spell_further more) q.0 p.0 v e.1 p.2) n k in
      (cong ListAnd e.0 f.0, f.1)

  pub further_one : (xs ys : ListTrees) (ts u v : List Token) → Spells ts (spell_further xs) u → Spells ts (spell_further ys) v → at_first begins_list (first_mark u) ≡ false → at_first begins_list (first_mark v) ≡ false → (xs ≡ ys) × (u ≡ v)
  further_one NoLists NoLists ts u v s r n k = (refl, sym s ∙ r)
  further_one NoLists (ListAnd first rest) ts u v s r n k = clash (at_first begins_list (first_mark ts)) (ap (at_first begins_list) (key_first m.Colon _ ts v r)) (ap (λ x. at_first begins_list (first_mark x)) s ∙ n)
  further_one (ListAnd first rest) NoLists ts u v s r n k = clash (at_first begins_list (first_mark ts)) (ap (at_first begins_list) (key_first m.Colon _ ts u s)) (ap (λ x. at_first begins_list (first_mark x)) r ∙ k)
  further_one (ListAnd first rest) (ListAnd other more) ts u v s r n k =
      let q = spells_split (tail ts) u (spell_args first) (spell_further rest) (key_tail m.Colon _ ts u s) in
      let p = spells_split (tail ts) v (spell_args other) (spell_further more) (key_tail m.Colon _ ts v r) in
      let e = args_one first other (tail ts) q.0 p.0 q.1 p.1 (further_first rest q.0 u q.2 n) (further_first more p.0 v p.2 k) in
      let f = further_one rest more q.0 u v q.2 (moved (spell_further more) q.0 p.0 v e.1 p.2) n k in
      (cong ListAnd e.0 f.0, f.1)
