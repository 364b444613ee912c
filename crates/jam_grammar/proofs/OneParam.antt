-- Tokens spell one list of parameters at most where what follows is no part of it.
use Rattle.std.proofs.Common.{◌≡◌, ℕ, ◌==◌, ◌&&◌, List, [], ◌∷◌, ◌++◌, Bool, true, false, Option, Some, None, codes, flat_map, if◌then◌else◌, refl, sym, ap, ◌∙◌, arith}
use Rattle.std.specs.Str.{bytes_eq}
use Rattle.std.proofs.lemmas.Slice.Eq.{bytes_eq-Decides}
use Rattle.b2_base.specs.declared.token.Token.{Token}
use Rattle.jam_grammar.specs.declared.mark.TokenMark.{TokenMark}
use Rattle.jam_grammar.specs.declared.mark.TokenMark.TheVariants as m
use Rattle.jam_grammar.specs.declared.tree.Param.{Param}
use Rattle.jam_grammar.specs.Spelling.{Sym, Key, Never, Spells, mark_syms, param_syms, no_mark, takes_all, plist_syms, further_params, params_syms}
use Rattle.jam_grammar.proofs.PartsCompose.{spells_split}
use Rattle.jam_grammar.proofs.OneArg.{moved}
use Rattle.jam_grammar.proofs.FirstSymbolTellsFirstToken.{first_mark, tail, key_first, key_tail, name_at, named_first, named_text, named_tail, never_spelled, clash, same_first, at_first, cong}

-- the marks of parameters, and how a list of them goes on
abbrev pub marks_param : TokenMark → Bool
marks_param m.Query = true
marks_param m.Star = true
marks_param m.Plus = true
marks_param _ = false

abbrev pub begins_param : TokenMark → Bool
begins_param m.Plain = true
begins_param m.Together = true
begins_param m.Existing = true
begins_param m.Quietly = true
begins_param mark = marks_param mark

name_no_mark : (o : Option TokenMark) → name_at o ≡ true → at_first marks_param o ≡ false
name_no_mark None h = refl
name_no_mark (Some m.Plain) h = refl
name_no_mark (Some m.Together) h = refl
name_no_mark (Some m.Existing) h = refl
name_no_mark (Some m.Quietly) h = refl
name_no_mark (Some _) h = cc

name_begins : (o : Option TokenMark) → name_at o ≡ true → at_first begins_param o ≡ true
name_begins None h = h
name_begins (Some m.Plain) h = refl
name_begins (Some m.Together) h = refl
name_begins (Some m.Existing) h = refl
name_begins (Some m.Quietly) h = refl
name_begins (Some _) h = cc

abbrev char_at : Option TokenMark → ℕ
char_at (Some m.Query) = 63
char_at (Some m.Star) = 42
char_at (Some m.Plus) = 43
char_at _ = 0

record MarkRead (c : ℕ) (rest : List Sym) (ts u : List Token) : Type 0 where
  marked : at_first marks_param (first_mark ts) ≡ true
  char : c ≡ char_at (first_mark ts)
  after_it : Spells (tail ts) rest u

mark_read : (c : ℕ) (rest : List Sym) (ts u : List Token) → Spells ts (mark_syms (Some c) ++ rest) u → MarkRead c rest ts u
mark_read c rest ts u s = query (c == 63) refl s
  where
    read : (mark : TokenMark) → marks_param mark ≡ true → c ≡ char_at (Some mark) → Spells ts (Key mark ∷ rest) u → MarkRead c rest ts u
    read mark h e s = record { marked = ap (at_first marks_param) (key_first mark rest ts u s) ∙ h; char = e ∙ ap char_at (sym (key_first mark rest ts u s)); after_it = key_tail mark rest ts u s }

    plus : (b : Bool) → c == 43 ≡ b → Spells ts ((if b then Key m.Plus ∷ [] else Never ∷ []) ++ rest) u → MarkRead c rest ts u
    plus true e s = read m.Plus refl (grind (arith, e)) s
    plus false e s = absurd (never_spelled rest ts u s)

    star : (b : Bool) → c == 42 ≡ b → Spells ts ((if b then Key m.Star ∷ [] else if c == 43 then Key m.Plus ∷ [] else Never ∷ []) ++ rest) u → MarkRead c rest ts u
    star true e s = read m.Star refl (grind (arith, e)) s
    star false e s = plus (c == 43) refl s

    query : (b : Bool) → c == 63 ≡ b → Spells ts ((if b then Key m.Query ∷ [] else if c == 42 then Key m.Star ∷ [] else if c == 43 then Key m.Plus ∷ [] else Never ∷ []) ++ rest) u → MarkRead c rest ts u
    query true e s = read m.Query refl (grind (arith, e)) s
    query false e s = star (c == 42) refl s

-- names begin with a name, or are none
names_first : (xs : List Param) (ts u : List Token) → Spells ts (flat_map param_syms xs) u → at_first begins_param (first_mark u) ≡ false → at_first marks_param (first_mark ts) ≡ false
names_first [] ts u s n = no_mark_at (first_mark ts) (ap (λ x. at_first begins_param (first_mark x)) s ∙ n)
  where
    no_mark_at : (o : Option TokenMark) → at_first begins_param o ≡ false → at_first marks_param o ≡ false
    no_mark_at None h = refl
    no_mark_at (Some m.Plain) h = refl
    no_mark_at (Some m.Together) h = refl
    no_mark_at (Some m.Existing) h = refl
    no_mark_at (Some m.Quietly) h = refl
    no_mark_at (Some mark) h = h
names_first (x ∷ xs) ts u s n = name_no_mark (first_mark ts) (named_first x.name _ ts u s)

name_first : (x : Param) (xs : List Param) (ts u : List Token) → Spells ts (flat_map param_syms (x ∷ xs)) u → at_first begins_param (first_mark ts) ≡ true
name_first x xs ts u s = name_begins (first_mark ts) (named_first x.name _ ts u s)

mark_one : (a b : Option ℕ) (xs ys : List Param) (ts u v : List Token) → Spells ts (mark_syms a ++ flat_map param_syms xs) u → Spells ts (mark_syms b ++ flat_map param_syms ys) v → at_first begins_param (first_mark u) ≡ false → at_first begins_param (first_mark v) ≡ false → (a ≡ b) × ((w : List Token) × Spells w (flat_map param_syms xs) u × Spells w (flat_map param_syms ys) v)
mark_one None None xs ys ts u v s r n k = (refl, (ts, s, r))
mark_one None (Some d) xs ys ts u v s r n k = clash (at_first marks_param (first_mark ts)) ((mark_read d _ ts v r).marked) (names_first xs ts u s n)
mark_one (Some c) None xs ys ts u v s r n k = clash (at_first marks_param (first_mark ts)) ((mark_read c _ ts u s).marked) (names_first ys ts v r k)
mark_one (Some c) (Some d) xs ys ts u v s r n k =
    let q = mark_read c _ ts u s in
    let p = mark_read d _ ts v r in
    (ap Some (q.char ∙ sym p.char), (tail ts, q.after_it, p.after_it))

param_is : (x y : Param) → x.name ≡ y.name → x.mark ≡ y.mark → x ≡ y
param_is x y e h = cong (λ a b. record { name = a; mark = b }) e h

names_one : (xs ys : List Param) (ts u v : List Token) → Spells ts (flat_map param_syms xs) u → Spells ts (flat_map param_syms ys) v → at_first begins_param (first_mark u) ≡ false → at_first begins_param (first_mark v) ≡ false → (xs ≡ ys) × (u ≡ v)
names_one [] [] ts u v s r n k = (refl, sym s ∙ r)
names_one [] (y ∷ ys) ts u v s r n k = clash (at_first begins_param (first_mark ts)) (name_first y ys ts v r) (ap (λ x. at_first begins_param (first_mark x)) s ∙ n)
names_one (x ∷ xs) [] ts u v s r n k = clash (at_first begins_param (first_mark ts)) (name_first x xs ts u s) (ap (λ x. at_first begins_param (first_mark x)) r ∙ k)
names_one (x ∷ xs) (y ∷ ys) ts u v s r n k =
    let name = sym (named_text x.name _ ts u s) ∙ named_text y.name _ ts v r in
    let e = mark_one x.mark y.mark xs ys (tail ts) u v (named_tail x.name _ ts u s) (named_tail y.name _ ts v r) n k in
    let f = names_one xs ys e.1.0 u v e.1.1 e.1.2 n k in
    (cong (λ a b. a ∷ b) (param_is x y name e.0) f.0, f.1)

and_both : (a b : Bool) → a && b ≡ true → (a ≡ true) × (b ≡ true)
and_both true b h = (refl, h)
and_both false b h = cc

no_mark_is : (o : Option ℕ) → no_mark o ≡ true → o ≡ None
no_mark_is None h = refl
no_mark_is (Some c) h = cc

-- a list that takes all further arguments is one
abbrev star_param : Param
star_param = record { name = codes "*"; mark = None }

takes_all_is : (xs : List Param) → takes_all xs ≡ true → xs ≡ star_param ∷ []
takes_all_is [] h = cc
takes_all_is (x ∷ []) h =
    let both = and_both (bytes_eq x.name (codes "*")) (no_mark x.mark) h in
    ap (λ y. y ∷ []) (param_is x star_param ((bytes_eq-Decides x.name (codes "*")).0 both.0) (no_mark_is x.mark both.1))
takes_all_is (x ∷ y ∷ xs) h = cc

no_star : (xs : List Param) (ts u w : List Token) → Spells ts (flat_map param_syms xs) u → at_first begins_param (first_mark u) ≡ false → Spells ts (Key m.Star ∷ []) w → ⊥
no_star xs ts u w s n r = clash (at_first marks_param (first_mark ts)) (ap (at_first marks_param) (key_first m.Star [] ts w r)) (names_first xs ts u s n)

pub plist_one : (xs ys : List Param) (ts u v : List Token) → Spells ts (plist_syms xs) u → Spells ts (plist_syms ys) v → at_first begins_param (first_mark u) ≡ false → at_first begins_param (first_mark v) ≡ false → (xs ≡ ys) × (u ≡ v)
plist_one xs ys ts u v s r n k = by (takes_all xs) (takes_all ys) refl refl s r
  where
    by : (a b : Bool) → takes_all xs ≡ a → takes_all ys ≡ b → Spells ts (if a then Key m.Star ∷ [] else flat_map param_syms xs) u → Spells ts (if b then Key m.Star ∷ [] else flat_map param_syms ys) v → (xs ≡ ys) × (u ≡ v)
    by true true e f s r = (takes_all_is xs e ∙ sym (takes_all_is ys f), sym (key_tail m.Star [] ts u s) ∙ key_tail m.Star [] ts v r)
    by true false e f s r = absurd (no_star ys ts v u r k s)
    by false true e f s r = absurd (no_star xs ts u v s n r)
    by false false e f s r = names_one xs ys ts u v s r n k

-- lists after colons
abbrev pub goes_params : TokenMark → Bool
goes_params m.Colon = true
goes_params mark = begins_param mark

no_goes : (o : Option TokenMark) → at_first goes_params o ≡ false → at_first begins_param o ≡ false
no_goes None h = refl
no_goes (Some m.Colon) h = refl
no_goes (Some mark) h = h

further_end : (xs : List (List Param)) (ts u : List Token) → Spells ts (further_params xs) u → at_first goes_params (first_mark u) ≡ false → at_first begins_param (first_mark ts) ≡ false
further_end [] ts u s n = no_goes (first_mark ts) (ap (λ x. at_first goes_params (first_mark x)) s ∙ n)
further_end (x ∷ xs) ts u s n = ap (at_first begins_param) (key_first m.Colon _ ts u s)

further_one : (xs ys : List (List Param)) (ts u v : List Token) → Spells ts (further_params xs) u → Spells ts (further_params ys) v → at_first goes_params (first_mark u) ≡ false → at_first goes_params (first_mark v) ≡ false → (xs ≡ ys) × (u ≡ v)
further_one [] [] ts u v s r n k = (refl, sym s ∙ r)
further_one [] (y ∷ ys) ts u v s r n k = clash (at_first goes_params (first_mark ts)) (ap (at_first goes_params) (key_first m.Colon _ ts v r)) (ap (λ x. at_first goes_params (first_mark x)) s ∙ n)
further_one (x ∷ xs) [] ts u v s r n k = clash (at_first goes_params (first_mark ts)) (ap (at_first goes_params) (key_first m.Colon _ ts u s)) (ap (λ x. at_first goes_params (first_mark x)) r ∙ k)
further_one (x ∷ xs) (y ∷ ys) ts u v s r n k =
    let q = spells_split (tail ts) u (plist_syms x) (further_params xs) (key_tail m.Colon _ ts u s) in
    let p = spells_split (tail ts) v (plist_syms y) (further_params ys) (key_tail m.Colon _ ts v r) in
    let e = plist_one x y (tail ts) q.0 p.0 q.1 p.1 (further_end xs q.0 u q.2 n) (further_end ys p.0 v p.2 k) in
    let f = further_one xs ys q.0 u v q.2 (moved (further_params ys) q.0 p.0 v e.1 p.2) n k in
    (cong (λ a b. a ∷ b) e.0 f.0, f.1)

-- parameters in parentheses, or none
pub params_one : (xs ys : List (List Param)) (ts u v : List Token) → Spells ts (params_syms xs) u → Spells ts (params_syms ys) v → first_mark u ≡ Some m.BraceOpen → first_mark v ≡ Some m.BraceOpen → (xs ≡ ys) × (u ≡ v)
params_one [] [] ts u v s r n k = (refl, sym s ∙ r)
params_one [] (y ∷ ys) ts u v s r n k = let e = same_first (first_mark ts) m.ParenOpen m.BraceOpen (key_first m.ParenOpen _ ts v r) (ap first_mark s ∙ n) in cc
params_one (x ∷ xs) [] ts u v s r n k = let e = same_first (first_mark ts) m.ParenOpen m.BraceOpen (key_first m.ParenOpen _ ts u s) (ap first_mark r ∙ k) in cc
params_one (x ∷ xs) (y ∷ ys) ts u v s r n k =
    let q = spells_split (tail ts) u (plist_syms x ++ further_params xs) (Key m.ParenClose ∷ []) (key_tail m.ParenOpen _ ts u s) in
    let p = spells_split (tail ts) v (plist_syms y ++ further_params ys) (Key m.ParenClose ∷ []) (key_tail m.ParenOpen _ ts v r) in
    let q2 = spells_split (tail ts) q.0 (plist_syms x) (further_params xs) q.1 in
    let p2 = spells_split (tail ts) p.0 (plist_syms y) (further_params ys) p.1 in
    let nq = ap (at_first goes_params) (key_first m.ParenClose [] q.0 u q.2) in
    let np = ap (at_first goes_params) (key_first m.ParenClose [] p.0 v p.2) in
    let e = plist_one x y (tail ts) q2.0 p2.0 q2.1 p2.1 (further_end xs q2.0 q.0 q2.2 nq) (further_end ys p2.0 p.0 p2.2 np) in
    let f = further_one xs ys q2.0 q.0 p.0 q2.2 (moved (further_params ys) q2.0 p2.0 p.0 e.1 p2.2) nq np in
    (cong (λ a b. a ∷ b) e.0 f.0, sym (key_tail m.ParenClose [] q.0 u q.2) ∙ ap tail f.1 ∙ key_tail m.ParenClose [] p.0 v p.2)
