-- Tokens spell one condition at most where what follows is no part of it.
use Rattle.std.proofs.Common.{◌≡◌, ◌⊎◌, inl, inr, List, [], ◌∷◌, Bool, true, false, Option, Some, refl, sym, ap, ◌∙◌}
use Rattle.b2_base.specs.declared.token.Token.{Token}
use Rattle.jam_grammar.specs.declared.mark.TokenMark.{TokenMark}
use Rattle.jam_grammar.specs.declared.mark.TokenMark.TheVariants as m
use Rattle.jam_grammar.specs.Trees.{ArgTree, ArgTrees, ExprTree, Or, And, Not, Group, Bare, Equal, Differ, Within, ExprTrees, NoExprs, ExprAnd}
use Rattle.jam_grammar.specs.Spelling.{Key, Spells, Level, Anywhere, WithinOr, WithinAnd, spell_arg, spell_args, spell_expr, spell_pair, spell_second, spell_joined}
use Rattle.jam_grammar.proofs.PartsCompose.{spells_split}
use Rattle.jam_grammar.proofs.FirstSymbolTellsFirstToken.{first_mark, tail, key_first, key_tail, never_spelled, clash, same_first, begins_arg, begins_compared, begins_and, begins_or, at_first, no_compared_no_arg, no_and_no_compared, no_or_no_and, and_is_or, cong}
use Rattle.jam_grammar.proofs.OneArg.{arg_first, arg_then_first, arg_one, args_one, moved}

-- with what a condition goes on where it stands
abbrev pub level_at : Level → TokenMark → Bool
level_at Anywhere = begins_or
level_at WithinOr = begins_and
level_at WithinAnd = begins_compared

level_compared : (level : Level) (o : Option TokenMark) → at_first (level_at level) o ≡ false → at_first begins_compared o ≡ false
level_compared Anywhere o h = no_and_no_compared o (no_or_no_and o h)
level_compared WithinOr o h = no_and_no_compared o h
level_compared WithinAnd o h = h

abbrev single : ExprTree → Bool
single (Or members) = false
single (And members) = false
single _ = true

abbrev is_or : ExprTree → Bool
is_or (Or members) = true
is_or _ = false

-- a condition without `||` and `&&` is the only one
abbrev Vs : ExprTree → Type 0
Vs a = (c : ExprTree) → single c ≡ true → (ts u v : List Token) → Spells ts (spell_expr WithinAnd a) u → Spells ts (spell_expr WithinAnd c) v → at_first begins_compared (first_mark u) ≡ false → at_first begins_compared (first_mark v) ≡ false → (a ≡ c) × (u ≡ v)

bare_vs : (x : ArgTree) → Vs (Bare x)
bare_vs x (Or row) h ts u v s r n k = cc
bare_vs x (And row) h ts u v s r n k = cc
bare_vs x (Not e) h ts u v s r n k = clash (at_first begins_arg (first_mark ts)) (arg_first x ts u s) (ap (at_first begins_arg) (key_first m.Not _ ts v r))
bare_vs x (Group e) h ts u v s r n k = clash (at_first begins_arg (first_mark ts)) (arg_first x ts u s) (ap (at_first begins_arg) (key_first m.ParenOpen _ ts v r))
bare_vs x (Bare y) h ts u v s r n k = let e = arg_one x y ts u v s r in (ap Bare e.0, e.1)
bare_vs x (Equal y z) h ts u v s r n k =
    let p = spells_split ts v (spell_arg y) (Key m.Equals ∷ spell_arg z) r in
    let e = arg_one x y ts u p.0 s p.1 in
    clash (at_first begins_compared (first_mark u)) (ap (at_first begins_compared) (ap first_mark e.1 ∙ key_first m.Equals _ p.0 v p.2)) n
bare_vs x (Differ y z) h ts u v s r n k =
    let p = spells_split ts v (spell_arg y) (Key m.NotEquals ∷ spell_arg z) r in
    let e = arg_one x y ts u p.0 s p.1 in
    clash (at_first begins_compared (first_mark u)) (ap (at_first begins_compared) (ap first_mark e.1 ∙ key_first m.NotEquals _ p.0 v p.2)) n
bare_vs x (Within y z) h ts u v s r n k =
    let p = spells_split ts v (spell_arg y) (Key m.In ∷ spell_args z) r in
    let e = arg_one x y ts u p.0 s p.1 in
    clash (at_first begins_compared (first_mark u)) (ap (at_first begins_compared) (ap first_mark e.1 ∙ key_first m.In _ p.0 v p.2)) n

equal_vs : (x : ArgTree) (w : ArgTree) → Vs (Equal x w)
equal_vs x w (Or row) h ts u v s r n k = cc
equal_vs x w (And row) h ts u v s r n k = cc
equal_vs x w (Not e) h ts u v s r n k = clash (at_first begins_arg (first_mark ts)) (arg_then_first x _ ts u s) (ap (at_first begins_arg) (key_first m.Not _ ts v r))
equal_vs x w (Group e) h ts u v s r n k = clash (at_first begins_arg (first_mark ts)) (arg_then_first x _ ts u s) (ap (at_first begins_arg) (key_first m.ParenOpen _ ts v r))
equal_vs x w (Bare y) h ts u v s r n k =
    let q = spells_split ts u (spell_arg x) (Key m.Equals ∷ spell_arg w) s in
    let e = arg_one x y ts q.0 v q.1 r in
    clash (at_first begins_compared (first_mark v)) (ap (at_first begins_compared) (ap first_mark (sym e.1) ∙ key_first m.Equals _ q.0 u q.2)) k
equal_vs x w (Equal y z) h ts u v s r n k =
    let q = spells_split ts u (spell_arg x) (Key m.Equals ∷ spell_arg w) s in
    let p = spells_split ts v (spell_arg y) (Key m.Equals ∷ spell_arg z) r in
    let e = arg_one x y ts q.0 p.0 q.1 p.1 in
    let f = arg_one w z (tail q.0) u v (key_tail m.Equals _ q.0 u q.2) (moved (spell_arg z) (tail q.0) (tail p.0) v (ap tail e.1) (key_tail m.Equals _ p.0 v p.2)) in
    (cong Equal e.0 f.0, f.1)
equal_vs x w (Differ y z) h ts u v s r n k =
    let q = spells_split ts u (spell_arg x) (Key m.Equals ∷ spell_arg w) s in
    let p = spells_split ts v (spell_arg y) (Key m.NotEquals ∷ spell_arg z) r in
    let e = arg_one x y ts q.0 p.0 q.1 p.1 in
    let f = same_first (first_mark q.0) m.Equals m.NotEquals (key_first m.Equals _ q.0 u q.2) (ap first_mark e.1 ∙ key_first m.NotEquals _ p.0 v p.2) in
    cc
equal_vs x w (Within y z) h ts u v s r n k =
    let q = spells_split ts u (spell_arg x) (Key m.Equals ∷ spell_arg w) s in
    let p = spells_split ts v (spell_arg y) (Key m.In ∷ spell_args z) r in
    let e = arg_one x y ts q.0 p.0 q.1 p.1 in
    let f = same_first (first_mark q.0) m.Equals m.In (key_first m.Equals _ q.0 u q.2) (ap first_mark e.1 ∙ key_first m.In _ p.0 v p.2) in
    cc

differ_vs : (x : ArgTree) (w : ArgTree) → Vs (Differ x w)
differ_vs x w (Or row) h ts u v s r n k = cc
differ_vs x w (And row) h ts u v s r n k = cc
differ_vs x w (Not e) h ts u v s r n k = clash (at_first begins_arg (first_mark ts)) (arg_then_first x _ ts u s) (ap (at_first begins_arg) (key_first m.Not _ ts v r))
differ_vs x w (Group e) h ts u v s r n k = clash (at_first begins_arg (first_mark ts)) (arg_then_first x _ ts u s) (ap (at_first begins_arg) (key_first m.ParenOpen _ ts v r))
differ_vs x w (Bare y) h ts u v s r n k =
    let q = spells_split ts u (spell_arg x) (Key m.NotEquals ∷ spell_arg w) s in
    let e = arg_one x y ts q.0 v q.1 r in
    clash (at_first begins_compared (first_mark v)) (ap (at_first begins_compared) (ap first_mark (sym e.1) ∙ key_first m.NotEquals _ q.0 u q.2)) k
differ_vs x w (Equal y z) h ts u v s r n k =
    let q = spells_split ts u (spell_arg x) (Key m.NotEquals ∷ spell_arg w) s in
    let p = spells_split ts v (spell_arg y) (Key m.Equals ∷ spell_arg z) r in
    let e = arg_one x y ts q.0 p.0 q.1 p.1 in
    let f = same_first (first_mark q.0) m.NotEquals m.Equals (key_first m.NotEquals _ q.0 u q.2) (ap first_mark e.1 ∙ key_first m.Equals _ p.0 v p.2) in
    cc
differ_vs x w (Differ y z) h ts u v s r n k =
    let q = spells_split ts u (spell_arg x) (Key m.NotEquals ∷ spell_arg w) s in
    let p = spells_split ts v (spell_arg y) (Key m.NotEquals ∷ spell_arg z) r in
    let e = arg_one x y ts q.0 p.0 q.1 p.1 in
    let f = arg_one w z (tail q.0) u v (key_tail m.NotEquals _ q.0 u q.2) (moved (spell_arg z) (tail q.0) (tail p.0) v (ap tail e.1) (key_tail m.NotEquals _ p.0 v p.2)) in
    (cong Differ e.0 f.0, f.1)
differ_vs x w (Within y z) h ts u v s r n k =
    let q = spells_split ts u (spell_arg x) (Key m.NotEquals ∷ spell_arg w) s in
    let p = spells_split ts v (spell_arg y) (Key m.In ∷ spell_args z) r in
    let e = arg_one x y ts q.0 p.0 q.1 p.1 in
    let f = same_first (first_mark q.0) m.NotEquals m.In (key_first m.NotEquals _ q.0 u q.2) (ap first_mark e.1 ∙ key_first m.In _ p.0 v p.2) in
    cc

within_vs : (x : ArgTree) (w : ArgTrees) → Vs (Within x w)
within_vs x w (Or row) h ts u v s r n k = cc
within_vs x w (And row) h ts u v s r n k = cc
within_vs x w (Not e) h ts u v s r n k = clash (at_first begins_arg (first_mark ts)) (arg_then_first x _ ts u s) (ap (at_first begins_arg) (key_first m.Not _ ts v r))
within_vs x w (Group e) h ts u v s r n k = clash (at_first begins_arg (first_mark ts)) (arg_then_first x _ ts u s) (ap (at_first begins_arg) (key_first m.ParenOpen _ ts v r))
within_vs x w (Bare y) h ts u v s r n k =
    let q = spells_split ts u (spell_arg x) (Key m.In ∷ spell_args w) s in
    let e = arg_one x y ts q.0 v q.1 r in
    clash (at_first begins_compared (first_mark v)) (ap (at_first begins_compared) (ap first_mark (sym e.1) ∙ key_first m.In _ q.0 u q.2)) k
within_vs x w (Equal y z) h ts u v s r n k =
    let q = spells_split ts u (spell_arg x) (Key m.In ∷ spell_args w) s in
    let p = spells_split ts v (spell_arg y) (Key m.Equals ∷ spell_arg z) r in
    let e = arg_one x y ts q.0 p.0 q.1 p.1 in
    let f = same_first (first_mark q.0) m.In m.Equals (key_first m.In _ q.0 u q.2) (ap first_mark e.1 ∙ key_first m.Equals _ p.0 v p.2) in
    cc
within_vs x w (Differ y z) h ts u v s r n k =
    let q = spells_split ts u (spell_arg x) (Key m.In ∷ spell_args w) s in
    let p = spells_split ts v (spell_arg y) (Key m.NotEquals ∷ spell_arg z) r in
    let e = arg_one x y ts q.0 p.0 q.1 p.1 in
    let f = same_first (first_mark q.0) m.In m.NotEquals (key_first m.In _ q.0 u q.2) (ap first_mark e.1 ∙ key_first m.NotEquals _ p.0 v p.2) in
    cc
within_vs x w (Within y z) h ts u v s r n k =
    let q = spells_split ts u (spell_arg x) (Key m.In ∷ spell_args w) s in
    let p = spells_split ts v (spell_arg y) (Key m.In ∷ spell_args z) r in
    let e = arg_one x y ts q.0 p.0 q.1 p.1 in
    let f = args_one w z (tail q.0) u v (key_tail m.In _ q.0 u q.2) (moved (spell_args z) (tail q.0) (tail p.0) v (ap tail e.1) (key_tail m.In _ p.0 v p.2)) (no_compared_no_arg (first_mark u) n) (no_compared_no_arg (first_mark v) k) in
    (cong Within e.0 f.0, f.1)

-- the same where the parts of it are the only ones
abbrev Alone : Level → ExprTree → Type 0
Alone level a = (c : ExprTree) (ts u v : List Token) → Spells ts (spell_expr level a) u → Spells ts (spell_expr level c) v → at_first (level_at level) (first_mark u) ≡ false → at_first (level_at level) (first_mark v) ≡ false → (a ≡ c) × (u ≡ v)

not_vs : (e : ExprTree) → Alone WithinAnd e → Vs (Not e)
not_vs e alone (Or row) h ts u v s r n k = cc
not_vs e alone (And row) h ts u v s r n k = cc
not_vs e alone (Not c) h ts u v s r n k =
    let f = alone c (tail ts) u v (key_tail m.Not _ ts u s) (key_tail m.Not _ ts v r) n k in
    (ap Not f.0, f.1)
not_vs e alone (Group c) h ts u v s r n k = let f = same_first (first_mark ts) m.Not m.ParenOpen (key_first m.Not _ ts u s) (key_first m.ParenOpen _ ts v r) in cc
not_vs e alone (Bare y) h ts u v s r n k = clash (at_first begins_arg (first_mark ts)) (arg_first y ts v r) (ap (at_first begins_arg) (key_first m.Not _ ts u s))
not_vs e alone (Equal y z) h ts u v s r n k = clash (at_first begins_arg (first_mark ts)) (arg_then_first y _ ts v r) (ap (at_first begins_arg) (key_first m.Not _ ts u s))
not_vs e alone (Differ y z) h ts u v s r n k = clash (at_first begins_arg (first_mark ts)) (arg_then_first y _ ts v r) (ap (at_first begins_arg) (key_first m.Not _ ts u s))
not_vs e alone (Within y z) h ts u v s r n k = clash (at_first begins_arg (first_mark ts)) (arg_then_first y _ ts v r) (ap (at_first begins_arg) (key_first m.Not _ ts u s))

group_vs : (e : ExprTree) → Alone Anywhere e → Vs (Group e)
group_vs e alone (Or row) h ts u v s r n k = cc
group_vs e alone (And row) h ts u v s r n k = cc
group_vs e alone (Not c) h ts u v s r n k = let f = same_first (first_mark ts) m.ParenOpen m.Not (key_first m.ParenOpen _ ts u s) (key_first m.Not _ ts v r) in cc
group_vs e alone (Group c) h ts u v s r n k =
    let q = spells_split (tail ts) u (spell_expr Anywhere e) (Key m.ParenClose ∷ []) (key_tail m.ParenOpen _ ts u s) in
    let p = spells_split (tail ts) v (spell_expr Anywhere c) (Key m.ParenClose ∷ []) (key_tail m.ParenOpen _ ts v r) in
    let f = alone c (tail ts) q.0 p.0 q.1 p.1 (ap (at_first begins_or) (key_first m.ParenClose [] q.0 u q.2)) (ap (at_first begins_or) (key_first m.ParenClose [] p.0 v p.2)) in
    (ap Group f.0, sym (key_tail m.ParenClose [] q.0 u q.2) ∙ ap tail f.1 ∙ key_tail m.ParenClose [] p.0 v p.2)
group_vs e alone (Bare y) h ts u v s r n k = clash (at_first begins_arg (first_mark ts)) (arg_first y ts v r) (ap (at_first begins_arg) (key_first m.ParenOpen _ ts u s))
group_vs e alone (Equal y z) h ts u v s r n k = clash (at_first begins_arg (first_mark ts)) (arg_then_first y _ ts v r) (ap (at_first begins_arg) (key_first m.ParenOpen _ ts u s))
group_vs e alone (Differ y z) h ts u v s r n k = clash (at_first begins_arg (first_mark ts)) (arg_then_first y _ ts v r) (ap (at_first begins_arg) (key_first m.ParenOpen _ ts u s))
group_vs e alone (Within y z) h ts u v s r n k = clash (at_first begins_arg (first_mark ts)) (arg_then_first y _ ts v r) (ap (at_first begins_arg) (key_first m.ParenOpen _ ts u s))

-- the first condition without `||` and `&&` in one: it is the whole, or one of these stands after it
record First (level : Level) (b : ExprTree) (ts v : List Token) : Type 0 where
  one : ExprTree
  is_single : single one ≡ true
  rest : List Token
  spelled : Spells ts (spell_expr WithinAnd one) rest
  how : ((one ≡ b) × (rest ≡ v)) ⊎ ((at_first (level_at level) (first_mark rest) ≡ true) × (at_first begins_compared (first_mark rest) ≡ false))

second_first : (level : Level) (mark : TokenMark) (xs : ExprTrees) (ts u : List Token) → Spells ts (spell_second level mark xs) u → first_mark ts ≡ Some mark
second_first level mark NoExprs ts u s = absurd (never_spelled [] ts u s)
second_first level mark (ExprAnd x xs) ts u s = key_first mark _ ts u s

widen : (inner level : Level) (mark : TokenMark) (x b : ExprTree) (ts mid v : List Token) → level_at level mark ≡ true → begins_compared mark ≡ false → ((o : Option TokenMark) → at_first (level_at inner) o ≡ true → at_first (level_at level) o ≡ true) → first_mark mid ≡ Some mark → First inner x ts mid → First level b ts v
widen inner level mark x b ts mid v goes other wider h f =
    record { one = f.one; is_single = f.is_single; rest = f.rest; spelled = f.spelled; how = inr (by f.how) }
  where
    by : ((f.one ≡ x) × (f.rest ≡ mid)) ⊎ ((at_first (level_at inner) (first_mark f.rest) ≡ true) × (at_first begins_compared (first_mark f.rest) ≡ false)) → (at_first (level_at level) (first_mark f.rest) ≡ true) × (at_first begins_compared (first_mark f.rest) ≡ false)
    by (inl e) = (ap (λ y. at_first (level_at level) (first_mark y)) e.1 ∙ ap (at_first (level_at level)) h ∙ goes, ap (λ y. at_first begins_compared (first_mark y)) e.1 ∙ ap (at_first begins_compared) h ∙ other)
    by (inr g) = (wider (first_mark f.rest) g.0, g.1)

compared_is_and : (o : Option TokenMark) → at_first begins_compared o ≡ true → at_first begins_and o ≡ true
compared_is_and o h = by (at_first begins_and o) refl
  where
    by : (b : Bool) → at_first begins_and o ≡ b → at_first begins_and o ≡ true
    by true e = e
    by false e = clash (at_first begins_compared o) h (no_and_no_compared o e)

compared_is_or : (o : Option TokenMark) → at_first begins_compared o ≡ true → at_first begins_or o ≡ true
compared_is_or o h = and_is_or o (compared_is_and o h)

first_single : (level : Level) (b : ExprTree) (ts v : List Token) → Spells ts (spell_expr level b) v → First level b ts v
first_single Anywhere (Or NoExprs) ts v s = absurd (never_spelled [] ts v s)
first_single Anywhere (Or (ExprAnd x xs)) ts v s =
    let q = spells_split ts v (spell_expr WithinOr x) (spell_second WithinOr m.Or xs) s in
    widen WithinOr Anywhere m.Or x _ ts q.0 v refl refl and_is_or (second_first WithinOr m.Or xs q.0 v q.2) (first_single WithinOr x ts q.0 q.1)
first_single WithinOr (Or row) ts v s = absurd (never_spelled [] ts v s)
first_single WithinAnd (Or row) ts v s = absurd (never_spelled [] ts v s)
first_single Anywhere (And NoExprs) ts v s = absurd (never_spelled [] ts v s)
first_single Anywhere (And (ExprAnd x xs)) ts v s =
    let q = spells_split ts v (spell_expr WithinAnd x) (spell_second WithinAnd m.And xs) s in
    widen WithinAnd Anywhere m.And x _ ts q.0 v refl refl compared_is_or (second_first WithinAnd m.And xs q.0 v q.2) (first_single WithinAnd x ts q.0 q.1)
first_single WithinOr (And NoExprs) ts v s = absurd (never_spelled [] ts v s)
first_single WithinOr (And (ExprAnd x xs)) ts v s =
    let q = spells_split ts v (spell_expr WithinAnd x) (spell_second WithinAnd m.And xs) s in
    widen WithinAnd WithinOr m.And x _ ts q.0 v refl refl compared_is_and (second_first WithinAnd m.And xs q.0 v q.2) (first_single WithinAnd x ts q.0 q.1)
first_single WithinAnd (And row) ts v s = absurd (never_spelled [] ts v s)
first_single level (Not e) ts v s = record { one = Not e; is_single = refl; rest = v; spelled = s; how = inl (refl, refl) }
first_single level (Group e) ts v s = record { one = Group e; is_single = refl; rest = v; spelled = s; how = inl (refl, refl) }
first_single level (Bare a) ts v s = record { one = Bare a; is_single = refl; rest = v; spelled = s; how = inl (refl, refl) }
first_single level (Equal a c) ts v s = record { one = Equal a c; is_single = refl; rest = v; spelled = s; how = inl (refl, refl) }
first_single level (Differ a c) ts v s = record { one = Differ a c; is_single = refl; rest = v; spelled = s; how = inl (refl, refl) }
first_single level (Within a list) ts v s = record { one = Within a list; is_single = refl; rest = v; spelled = s; how = inl (refl, refl) }

single_vs : (level : Level) (a : ExprTree) → Vs a → (b : ExprTree) (ts u v : List Token) → Spells ts (spell_expr WithinAnd a) u → First level b ts v → at_first (level_at level) (first_mark u) ≡ false → at_first (level_at level) (first_mark v) ≡ false → (a ≡ b) × (u ≡ v)
single_vs level a vs b ts u v s f n k = by f.how
  where
    by : ((f.one ≡ b) × (f.rest ≡ v)) ⊎ ((at_first (level_at level) (first_mark f.rest) ≡ true) × (at_first begins_compared (first_mark f.rest) ≡ false)) → (a ≡ b) × (u ≡ v)
    by (inl e) =
        let g = vs f.one f.is_single ts u f.rest s f.spelled (level_compared level (first_mark u) n) (ap (λ x. at_first begins_compared (first_mark x)) e.1 ∙ level_compared level (first_mark v) k) in
        (g.0 ∙ e.0, g.1 ∙ e.1)
    by (inr e) =
        let g = vs f.one f.is_single ts u f.rest s f.spelled (level_compared level (first_mark u) n) e.1 in
        clash (at_first (level_at level) (first_mark u)) (ap (λ x. at_first (level_at level) (first_mark x)) g.1 ∙ e.0) n

-- the first condition without `||` in one: it is the whole, or `||` stands after it
record FirstBoth (level : Level) (b : ExprTree) (ts v : List Token) : Type 0 where
  one : ExprTree
  not_or : is_or one ≡ false
  rest : List Token
  spelled : Spells ts (spell_expr WithinOr one) rest
  how : ((one ≡ b) × (rest ≡ v)) ⊎ ((first_mark rest ≡ Some m.Or) × (level ≡ Anywhere))

within_or : (x : ExprTree) (ts u : List Token) → Spells ts (spell_expr WithinOr x) u → is_or x ≡ false
within_or (Or row) ts u s = absurd (never_spelled [] ts u s)
within_or _ ts u s = refl

first_both : (level : Level) (b : ExprTree) (ts v : List Token) → Spells ts (spell_expr level b) v → FirstBoth level b ts v
first_both Anywhere (Or NoExprs) ts v s = absurd (never_spelled [] ts v s)
first_both Anywhere (Or (ExprAnd x xs)) ts v s =
    let q = spells_split ts v (spell_expr WithinOr x) (spell_second WithinOr m.Or xs) s in
    record { one = x; not_or = within_or x ts q.0 q.1; rest = q.0; spelled = q.1; how = inr (second_first WithinOr m.Or xs q.0 v q.2, refl) }
first_both WithinOr (Or row) ts v s = absurd (never_spelled [] ts v s)
first_both WithinAnd (Or row) ts v s = absurd (never_spelled [] ts v s)
first_both Anywhere (And row) ts v s = record { one = And row; not_or = refl; rest = v; spelled = s; how = inl (refl, refl) }
first_both WithinOr (And row) ts v s = record { one = And row; not_or = refl; rest = v; spelled = s; how = inl (refl, refl) }
first_both WithinAnd (And row) ts v s = absurd (never_spelled [] ts v s)
first_both level (Not e) ts v s = record { one = Not e; not_or = refl; rest = v; spelled = s; how = inl (refl, refl) }
first_both level (Group e) ts v s = record { one = Group e; not_or = refl; rest = v; spelled = s; how = inl (refl, refl) }
first_both level (Bare a) ts v s = record { one = Bare a; not_or = refl; rest = v; spelled = s; how = inl (refl, refl) }
first_both level (Equal a c) ts v s = record { one = Equal a c; not_or = refl; rest = v; spelled = s; how = inl (refl, refl) }
first_both level (Differ a c) ts v s = record { one = Differ a c; not_or = refl; rest = v; spelled = s; how = inl (refl, refl) }
first_both level (Within a list) ts v s = record { one = Within a list; not_or = refl; rest = v; spelled = s; how = inl (refl, refl) }

-- members after the first
abbrev Ends : Level → TokenMark → List Token → Type 0
Ends level mark u = (at_first (level_at level) (first_mark u) ≡ false) × (first_mark u ≡ Some mark → ⊥)

joined_first : (level : Level) (mark : TokenMark) → level_at level mark ≡ false → (xs : ExprTrees) (ts u : List Token) → Spells ts (spell_joined level mark xs) u → Ends level mark u → at_first (level_at level) (first_mark ts) ≡ false
joined_first level mark h NoExprs ts u s n = ap (λ x. at_first (level_at level) (first_mark x)) s ∙ n.0
joined_first level mark h (ExprAnd x xs) ts u s n = ap (at_first (level_at level)) (key_first mark _ ts u s) ∙ h

abbrev OnlySecond : Level → TokenMark → ExprTrees → Type 0
OnlySecond level mark xs = (ys : ExprTrees) (ts u v : List Token) → Spells ts (spell_second level mark xs) u → Spells ts (spell_second level mark ys) v → Ends level mark u → Ends level mark v → (xs ≡ ys) × (u ≡ v)

-- two lists of members
pair_vs : (level : Level) (mark : TokenMark) → level_at level mark ≡ false → (x : ExprTree) (xs : ExprTrees) → Alone level x → OnlySecond level mark xs → (row : ExprTrees) (ts u v : List Token) → Spells ts (spell_pair level mark (ExprAnd x xs)) u → Spells ts (spell_pair level mark row) v → Ends level mark u → Ends level mark v → (ExprAnd x xs ≡ row) × (u ≡ v)
pair_vs level mark h x xs alone rest NoExprs ts u v s r n k = absurd (never_spelled [] ts v r)
pair_vs level mark h x xs alone rest (ExprAnd y ys) ts u v s r n k =
    let q = spells_split ts u (spell_expr level x) (spell_second level mark xs) s in
    let p = spells_split ts v (spell_expr level y) (spell_second level mark ys) r in
    let e = alone y ts q.0 p.0 q.1 p.1 (ap (at_first (level_at level)) (second_first level mark xs q.0 u q.2) ∙ h) (ap (at_first (level_at level)) (second_first level mark ys p.0 v p.2) ∙ h) in
    let f = rest ys q.0 u v q.2 (moved (spell_second level mark ys) q.0 p.0 v e.1 p.2) n k in
    (cong ExprAnd e.0 f.0, f.1)

or_ends : (u : List Token) → at_first begins_or (first_mark u) ≡ false → Ends WithinOr m.Or u
or_ends u n = (no_or_no_and (first_mark u) n, λ h. clash (at_first begins_or (first_mark u)) (ap (at_first begins_or) h) n)

and_ends : (u : List Token) → at_first begins_and (first_mark u) ≡ false → Ends WithinAnd m.And u
and_ends u n = (no_and_no_compared (first_mark u) n, λ h. clash (at_first begins_and (first_mark u)) (ap (at_first begins_and) h) n)

level_and : (level : Level) (o : Option TokenMark) → at_first (level_at level) o ≡ false → (level ≡ WithinAnd → ⊥) → at_first begins_and o ≡ false
level_and Anywhere o h other = no_or_no_and o h
level_and WithinOr o h other = h
level_and WithinAnd o h other = absurd (other refl)

-- a condition with `||` against one without
or_vs : (x : ExprTree) (xs : ExprTrees) → Alone WithinOr x → (b : ExprTree) (ts u v : List Token) → Spells ts (spell_pair WithinOr m.Or (ExprAnd x xs)) u → Spells ts (spell_expr WithinOr b) v → at_first begins_or (first_mark v) ≡ false → ⊥
or_vs x xs alone b ts u v s r k =
    let q = spells_split ts u (spell_expr WithinOr x) (spell_second WithinOr m.Or xs) s in
    let at_or = second_first WithinOr m.Or xs q.0 u q.2 in
    let e = alone b ts q.0 v q.1 r (ap (at_first begins_and) at_or) (no_or_no_and (first_mark v) k) in
    clash (at_first begins_or (first_mark v)) (ap (λ y. at_first begins_or (first_mark y)) (sym e.1) ∙ ap (at_first begins_or) at_or) k

-- a condition with `&&`
and_vs : (level : Level) → (level ≡ WithinAnd → ⊥) → (x : ExprTree) (xs : ExprTrees) → Alone WithinAnd x → OnlySecond WithinAnd m.And xs → (b : ExprTree) (ts u v : List Token) → Spells ts (spell_pair WithinAnd m.And (ExprAnd x xs)) u → FirstBoth level b ts v → at_first (level_at level) (first_mark u) ≡ false → at_first (level_at level) (first_mark v) ≡ false → (And (ExprAnd x xs) ≡ b) × (u ≡ v)
and_vs level other x xs alone rest b ts u v s f n k = by f.one f.not_or f.spelled f.how
  where
    no_and : (one : ExprTree) → ((one ≡ b) × (f.rest ≡ v)) ⊎ ((first_mark f.rest ≡ Some m.Or) × (level ≡ Anywhere)) → at_first begins_and (first_mark f.rest) ≡ false
    no_and one (inl e) = ap (λ y. at_first begins_and (first_mark y)) e.1 ∙ level_and level (first_mark v) k other
    no_and one (inr e) = ap (at_first begins_and) e.0

    whole : (one : ExprTree) → And (ExprAnd x xs) ≡ one → u ≡ f.rest → ((one ≡ b) × (f.rest ≡ v)) ⊎ ((first_mark f.rest ≡ Some m.Or) × (level ≡ Anywhere)) → (And (ExprAnd x xs) ≡ b) × (u ≡ v)
    whole one e g (inl h) = (e ∙ h.0, g ∙ h.1)
    whole one e g (inr h) = clash (at_first (level_at level) (first_mark u)) (ap (λ l. at_first (level_at l) (first_mark u)) h.1 ∙ ap (λ y. at_first begins_or (first_mark y)) g ∙ ap (at_first begins_or) h.0) n

    alone_vs : (c : ExprTree) → Spells ts (spell_expr WithinAnd c) f.rest → ((c ≡ b) × (f.rest ≡ v)) ⊎ ((first_mark f.rest ≡ Some m.Or) × (level ≡ Anywhere)) → ⊥
    alone_vs c r how =
        let q = spells_split ts u (spell_expr WithinAnd x) (spell_second WithinAnd m.And xs) s in
        let at_and = second_first WithinAnd m.And xs q.0 u q.2 in
        let e = alone c ts q.0 f.rest q.1 r (ap (at_first begins_compared) at_and) (no_and_no_compared (first_mark f.rest) (no_and c how)) in
        clash (at_first begins_and (first_mark f.rest)) (ap (λ y. at_first begins_and (first_mark y)) (sym e.1) ∙ ap (at_first begins_and) at_and) (no_and c how)

    by : (one : ExprTree) → is_or one ≡ false → Spells ts (spell_expr WithinOr one) f.rest → ((one ≡ b) × (f.rest ≡ v)) ⊎ ((first_mark f.rest ≡ Some m.Or) × (level ≡ Anywhere)) → (And (ExprAnd x xs) ≡ b) × (u ≡ v)
    by (Or row) h r how = cc
    by (And row) h r how =
        let e = pair_vs WithinAnd m.And refl x xs alone rest row ts u f.rest s r (and_ends u (level_and level (first_mark u) n other)) (and_ends f.rest (no_and (And row) how)) in
        whole (And row) (ap And e.0) e.1 how
    by (Not e) h r how = absurd (alone_vs (Not e) r how)
    by (Group e) h r how = absurd (alone_vs (Group e) r how)
    by (Bare a) h r how = absurd (alone_vs (Bare a) r how)
    by (Equal a c) h r how = absurd (alone_vs (Equal a c) r how)
    by (Differ a c) h r how = absurd (alone_vs (Differ a c) r how)
    by (Within a list) h r how = absurd (alone_vs (Within a list) r how)

mutual
  pub expr_one : (level : Level) (a b : ExprTree) (ts u v : List Token) → Spells ts (spell_expr level a) u → Spells ts (spell_expr level b) v → at_first (level_at level) (first_mark u) ≡ false → at_first (level_at level) (first_mark v) ≡ false → (a ≡ b) × (u ≡ v)
  expr_one WithinOr (Or row) b ts u v s r n k = absurd (never_spelled [] ts u s)
  expr_one WithinAnd (Or row) b ts u v s r n k = absurd (never_spelled [] ts u s)
  expr_one Anywhere (Or NoExprs) b ts u v s r n k = absurd (never_spelled [] ts u s)
  expr_one Anywhere (Or (ExprAnd x xs)) (Or row) ts u v s r n k =
      let e = pair_vs WithinOr m.Or refl x xs (λ c. expr_one WithinOr x c) (λ ys. second_one WithinOr m.Or refl xs ys) row ts u v s r (or_ends u n) (or_ends v k) in
      (ap Or e.0, e.1)
  expr_one Anywhere (Or (ExprAnd x xs)) (And row) ts u v s r n k = absurd (or_vs x xs (λ c. expr_one WithinOr x c) (And row) ts u v s r k)
  expr_one Anywhere (Or (ExprAnd x xs)) (Not e) ts u v s r n k = absurd (or_vs x xs (λ c. expr_one WithinOr x c) (Not e) ts u v s r k)
  expr_one Anywhere (Or (ExprAnd x xs)) (Group e) ts u v s r n k = absurd (or_vs x xs (λ c. expr_one WithinOr x c) (Group e) ts u v s r k)
  expr_one Anywhere (Or (ExprAnd x xs)) (Bare a) ts u v s r n k = absurd (or_vs x xs (λ c. expr_one WithinOr x c) (Bare a) ts u v s r k)
  expr_one Anywhere (Or (ExprAnd x xs)) (Equal a c) ts u v s r n k = absurd (or_vs x xs (λ c. expr_one WithinOr x c) (Equal a c) ts u v s r k)
  expr_one Anywhere (Or (ExprAnd x xs)) (Differ a c) ts u v s r n k = absurd (or_vs x xs (λ c. expr_one WithinOr x c) (Differ a c) ts u v s r k)
  expr_one Anywhere (Or (ExprAnd x xs)) (Within a list) ts u v s r n k = absurd (or_vs x xs (λ c. expr_one WithinOr x c) (Within a list) ts u v s r k)
  expr_one WithinAnd (And row) b ts u v s r n k = absurd (never_spelled [] ts u s)
  expr_one Anywhere (And NoExprs) b ts u v s r n k = absurd (never_spelled [] ts u s)
  expr_one WithinOr (And NoExprs) b ts u v s r n k = absurd (never_spelled [] ts u s)
  expr_one Anywhere (And (ExprAnd x xs)) b ts u v s r n k = and_vs Anywhere (λ e. cc) x xs (λ c. expr_one WithinAnd x c) (λ ys. second_one WithinAnd m.And refl xs ys) b ts u v s (first_both Anywhere b ts v r) n k
  expr_one WithinOr (And (ExprAnd x xs)) b ts u v s r n k = and_vs WithinOr (λ e. cc) x xs (λ c. expr_one WithinAnd x c) (λ ys. second_one WithinAnd m.And refl xs ys) b ts u v s (first_both WithinOr b ts v r) n k
  expr_one level (Not e) b ts u v s r n k = single_vs level (Not e) (not_vs e (λ c. expr_one WithinAnd e c)) b ts u v s (first_single level b ts v r) n k
  expr_one level (Group e) b ts u v s r n k = single_vs level (Group e) (group_vs e (λ c. expr_one Anywhere e c)) b ts u v s (first_single level b ts v r) n k
  expr_one level (Bare x) b ts u v s r n k = single_vs level (Bare x) (bare_vs x) b ts u v s (first_single level b ts v r) n k
  expr_one level (Equal x y) b ts u v s r n k = single_vs level (Equal x y) (equal_vs x y) b ts u v s (first_single level b ts v r) n k
  expr_one level (Differ x y) b ts u v s r n k = single_vs level (Differ x y) (differ_vs x y) b ts u v s (first_single level b ts v r) n k
  expr_one level (Within x y) b ts u v s r n k = single_vs level (Within x y) (within_vs x y) b ts u v s (first_single level b ts v r) n k

  second_one : (level : Level) (mark : TokenMark) → level_at level mark ≡ false → (xs ys : ExprTrees) (ts u v : List Token) → Spells ts (spell_second level mark xs) u → Spells ts (spell_second level mark ys) v → Ends level mark u → Ends level mark v → (xs ≡ ys) × (u ≡ v)
  second_one level mark h NoExprs ys ts u v s r n k = absurd (never_spelled [] ts u s)
  second_one level mark h (ExprAnd x xs) NoExprs ts u v s r n k = absurd (never_spelled [] ts v r)
  second_one level mark h (ExprAnd x xs) (ExprAnd y ys) ts u v s r n k =
      let q = spells_split (tail ts) u (spell_expr level x) (spell_joined level mark xs) (key_tail mark _ ts u s) in
      let p = spells_split (tail ts) v (spell_expr level y) (spell_joined level mark ys) (key_tail mark _ ts v r) in
      let e = expr_one level x y (tail ts) q.0 p.0 q.1 p.1 (joined_first level mark h xs q.0 u q.2 n) (joined_first level mark h ys p.0 v p.2 k) in
      let f = joined_one level mark h xs ys q.0 u v q.2 (moved (spell_joined level mark ys) q.0 p.0 v e.1 p.2) n k in
      (cong ExprAnd e.0 f.0, f.1)

  joined_one : (level : Level) (mark : TokenMark) → level_at level mark ≡ false → (xs ys : ExprTrees) (ts u v : List Token) → Spells ts (spell_joined level mark xs) u → Spells ts (spell_joined level mark ys) v → Ends level mark u → Ends level mark v → (xs ≡ ys) × (u ≡ v)
  joined_one level mark h NoExprs NoExprs ts u v s r n k = (refl, sym s ∙ r)
  joined_one level mark h NoExprs (ExprAnd y ys) ts u v s r n k = absurd (n.1 (ap first_mark (sym s) ∙ key_first mark _ ts v r))
  joined_one level mark h (ExprAnd x xs) NoExprs ts u v s r n k = absurd (k.1 (ap first_mark (sym r) ∙ key_first mark _ ts u s))
  joined_one level mark h (ExprAnd x xs) (ExprAnd y ys) ts u v s r n k =
      let q = spells_split (tail ts) u (spell_expr level x) (spell_joined level mark xs) (key_tail mark _ ts u s) in
      let p = spells_split (tail ts) v (spell_expr level y) (spell_joined level mark ys) (key_tail mark _ ts v r) in
      let e = expr_one level x y (tail ts) q.0 p.0 q.1 p.1 (joined_first level mark h xs q.0 u q.2 n) (joined_first level mark h ys p.0 v p.2 k) in
      let f = joined_one level mark h xs ys q.0 u v q.2 (moved (spell_joined level mark ys) q.0 p.0 v e.1 p.2) n k in
      (cong ExprAnd e.0 f.0, f.1)
