-- The modules above a module are one list that ends, also with one more parent set; and how names are found along it.
use Rattle.std.proofs.Common.{T, IsTrue, not, Bor, lit<, get_or, eqb, ◌≢◌, MatchOption, ◌≡◌, ℕ, suc, ◌+◌, ◌-◌, ◌<◌, ◌≤◌, true, false, Bool, cond, ◌&&◌, ◌||◌, List, [], ◌∷◌, ◌++◌, length, Option, Some, None, is_some, refl, sym, ap, subst, ◌∙◌, arith}
use Rattle.std.specs.List.{list_any, before_first, after_first}
use Rattle.std.proofs.lemmas.Bool.Decides.{Decides-eqb}
use Rattle.std.proofs.lemmas.Str.Pattern.{IsSplitOnceResult, split_once_first, split_parts}
use Rattle.std.specs.Ordering.{eq_by_cmp}
use Rattle.std.specs.Option.{option_copied, option_or, unwrap_or}
use Rattle.std.specs.Str.{bytes_eq}
use Rattle.std.specs.FinMap as map
use Rattle.std.specs.FinMap.{get, insert, remove}
use Rattle.std.proofs.lemmas.Slice.Eq.{bytes_eq-Decides}
use Rattle.jam_journal.specs.Tables.{Text, Key, Table, key_cmp, put}
use Rattle.jam_journal.proofs.ReplacingTouchesOnePair.{elsewhere, there, by_both, key_order}
use Rattle.jam_scope.specs.Lines.{upward, line_by, line, AreAbove, AreLines, may_be_above, in_each, first_at, is_dot}
use Rattle.jam_scope.specs.Heights.{HasLine, AllHaveLines, height, AllHaveLinesAtMarks}

same_some : (x y : Text) → Some x ≡ Some y → x ≡ y
same_some x y e = ap (λ o. unwrap_or o x) e

not_some : (x : Text) → None ≡ Some x → ⊥
not_some x e = subst T (sym (ap is_some e)) tt

flip : (a b : Text) → bytes_eq a b ≡ false → (t : Bool) → bytes_eq b a ≡ t → t ≡ false
flip a b e true f = sym ((bytes_eq-Decides a b).1 (sym ((bytes_eq-Decides b a).0 f))) ∙ e
flip a b e false f = refl

-- the keys of two modules are apart where the modules differ
keys_differ : (m x : Text) → bytes_eq m x ≡ false → eq_by_cmp key_cmp (x, []) (m, []) ≡ false
keys_differ m x e = by_both x [] m [] ∙ ap (λ b. b && bytes_eq [] []) (flip m x e (bytes_eq x m) refl)

or_false : (t u : Bool) → (t || u) ≡ false → (t ≡ false) × (u ≡ false)
or_false true u e = cc
or_false false u e = (refl, e)

-- another module's parent is no matter for modules that it is not among
above_still : (t : Table Text) (m : Text) (p : Option Text) (x : Text) (above : List Text) → AreAbove t x above → list_any (bytes_eq m) (x ∷ above) ≡ false → AreAbove (put t (m, []) p) x above
above_still t m p x [] h e = elsewhere t (m, []) (x, []) p (keys_differ m x (or_false (bytes_eq m x) false e).0) ∙ h
above_still t m p x (a ∷ more) h e =
    let two = or_false (bytes_eq m x) (list_any (bytes_eq m) (a ∷ more)) e in
    (elsewhere t (m, []) (x, []) p (keys_differ m x two.0) ∙ h.0, above_still t m p a more h.1 two.1)

-- there is one list of modules above a module
same_line : (t : Table Text) (x : Text) (one two : List Text) → AreAbove t x one → AreAbove t x two → length one ≡ length two
same_line t x [] [] g h = refl
same_line t x [] (b ∷ bs) g h = absurd (not_some b (sym g ∙ h.0))
same_line t x (a ∷ as_) [] g h = absurd (not_some a (sym h ∙ g.0))
same_line t x (a ∷ as_) (b ∷ bs) g h =
    ap suc (same_line t a as_ bs g.1 (subst (λ c. AreAbove t c bs) (sym (same_some a b (sym g.0 ∙ h.0))) h.1))

record Rest (t : Table Text) (m : Text) (most : ℕ) : Type 0 where
  line : List Text
  are : AreAbove t m line
  short : length line ≤ most

-- a module among these has the later ones above it
rest_of : (t : Table Text) (m x : Text) (above : List Text) → AreAbove t x above → list_any (bytes_eq m) (x ∷ above) ≡ true → Rest t m (length above)
rest_of t m x [] h e = by (bytes_eq m x) refl e
  where
    by : (b : Bool) → bytes_eq m x ≡ b → (b || false) ≡ true → Rest t m 0
    by true f g = record { line = []; are = ap (λ c. get t (c, [])) ((bytes_eq-Decides m x).0 f) ∙ h; short = omega arith }
    by false f g = cc
rest_of t m x (a ∷ more) h e = by (bytes_eq m x) refl e (rest_of t m a more h.1)
  where
    longer : Rest t m (length more) → Rest t m (suc (length more))
    longer r = let short : length r.line ≤ length more = r.short in record { line = r.line; are = r.are; short = omega arith }

    by : (b : Bool) → bytes_eq m x ≡ b → (b || list_any (bytes_eq m) (a ∷ more)) ≡ true → (list_any (bytes_eq m) (a ∷ more) ≡ true → Rest t m (length more)) → Rest t m (suc (length more))
    by true f g again = record { line = a ∷ more; are = subst (λ c. AreAbove t c (a ∷ more)) (sym ((bytes_eq-Decides m x).0 f)) h; short = omega arith }
    by false f g again = longer (again g)

-- no module is among those above it
not_above : (t : Table Text) (m a : Text) (more : List Text) → AreAbove t m (a ∷ more) → list_any (bytes_eq m) (a ∷ more) ≡ false
not_above t m a more h = by (list_any (bytes_eq m) (a ∷ more)) refl
  where
    never : Rest t m (length more) → ⊥
    never r =
        let same : length r.line ≡ suc (length more) = same_line t m r.line (a ∷ more) r.are h in
        let short : length r.line ≤ length more = r.short in
        omega arith

    by : (b : Bool) → list_any (bytes_eq m) (a ∷ more) ≡ b → b ≡ false
    by true e = absurd (never (rest_of t m a more h.1 e))
    by false e = refl

taken : (t : Table Text) (k : Key) (a : Text) → get t k ≡ Some a → suc (map.len (remove t k)) ≡ map.len t
taken t k a e = by (map.len t) refl
  where
    less : map.len (remove t k) ≡ map.len t - 1
    less = map.len-remove key_order t k ∙ ap (λ o. cond (is_some o) (map.len t - 1) (map.len t)) e

    by : (n : ℕ) → map.len t ≡ n → suc (map.len (remove t k)) ≡ map.len t
    by Prim.Native.Nat.zero f = absurd (not_some a (sym (ap (λ s. get s k) (map.empty_of_len t f) ∙ map.get-empty key_cmp k) ∙ e))
    by (suc n) f = let one : map.len (remove t k) ≡ map.len t - 1 = less in omega arith

-- at most as many modules are above one as have one above them
bounded : (above : List Text) (t : Table Text) (m : Text) → AreAbove t m above → length above ≤ map.len t
bounded [] t m h = omega arith
bounded (a ∷ more) t m h =
    let fewer : length more ≤ map.len (remove t (m, [])) = bounded more (remove t (m, [])) a (above_still t m None a more h.1 (not_above t m a more h)) in
    let one : suc (map.len (remove t (m, []))) ≡ map.len t = taken t (m, []) a h.0 in
    omega arith

line_is : (n : ℕ) (above : List Text) (t : Table Text) (m : Text) → length above ≤ n → AreAbove t m above → line_by n t m ≡ above
line_is Prim.Native.Nat.zero [] t m b h = refl
line_is Prim.Native.Nat.zero (a ∷ more) t m b h = absurd (omega arith)
line_is (suc n) [] t m b h = ap (λ o. upward o (line_by n t)) h
line_is (suc n) (a ∷ more) t m b h =
    let fits : length more ≤ n = omega arith in
    ap (λ o. upward o (line_by n t)) h.0 ∙ ap (λ l. a ∷ l) (line_is n more t a fits h.1)

-- what is above a module is its line
whole : (t : Table Text) (m : Text) (above : List Text) → AreAbove t m above → line t m ≡ above
whole t m above h = line_is (map.len t) above t m (bounded above t m h) h

pub lines : (t : Table Text) → AllHaveLines t → AreLines t
lines t lined m = subst (AreAbove t m) (sym (whole t m (lined m).line (lined m).are)) (lined m).are

pub line_next : (t : Table Text) (m a : Text) → AreLines t → get t (m, []) ≡ Some a → line t m ≡ a ∷ line t a
line_next t m a all e = whole t m (a ∷ line t a) (e, all a)

pub line_end : (t : Table Text) (m : Text) → get t (m, []) ≡ None → line t m ≡ []
line_end t m e = whole t m [] e

-- the same as a relation
abbrev pub MayBeAbove : Table Text → Text → Text → Type 0
MayBeAbove t p m = (above : List Text) → AreAbove t p above → list_any (bytes_eq m) (p ∷ above) ≡ false

not_true : (b : Bool) → IsTrue (not b) → b ≡ false
not_true true h = cc
not_true false h = refl

pub may_from : (t : Table Text) (p m : Text) → IsTrue (may_be_above t p m) → MayBeAbove t p m
may_from t p m h above are = ap (λ l. list_any (bytes_eq m) (p ∷ l)) (sym (whole t p above are)) ∙ not_true _ h

-- whether a module is another one or above it, where it is not the one
abbrev pub is_among : Table Text → Text → Text → Bool
is_among t m x = list_any (bytes_eq m) (x ∷ line t x)

pub among_next : (t : Table Text) (m x a : Text) → AreLines t → get t (x, []) ≡ Some a → bytes_eq m x ≡ false → is_among t m x ≡ is_among t m a
among_next t m x a all e apart = (λ i. apart i || list_any (bytes_eq m) (line_next t x a all e i))

pub among_end : (t : Table Text) (m x : Text) → get t (x, []) ≡ None → bytes_eq m x ≡ false → is_among t m x ≡ false
among_end t m x e apart = (λ i. apart i || list_any (bytes_eq m) (line_end t x e i))

pub among_here : (t : Table Text) (m x : Text) → bytes_eq m x ≡ true → is_among t m x ≡ true
among_here t m x e = ap (λ b. b || list_any (bytes_eq m) (line t x)) e

height_is : (above : List Text) (t : Table Text) (m : Text) → AreAbove t m above → height t m ≡ length above
height_is above t m h = ap length (line_is (map.len t) above t m (bounded above t m h) h)

lower_by : (above : List Text) (t : Table Text) (m a : Text) → AreAbove t m above → get t (m, []) ≡ Some a → height t a < height t m
lower_by [] t m a h e = absurd (not_some a (sym h ∙ e))
lower_by (b ∷ more) t m a h e =
    let same : b ≡ a = same_some b a (sym h.0 ∙ e) in
    let one : height t a ≡ length more = height_is more t a (subst (λ c. AreAbove t c more) same h.1) in
    let two : height t m ≡ suc (length more) = height_is (b ∷ more) t m h in
    omega arith

-- the module above a module has fewer above it
pub lower : (t : Table Text) (m a : Text) → AllHaveLines t → get t (m, []) ≡ Some a → height t a < height t m
lower t m a lined e = lower_by (lined m).line t m a (lined m).are e

line_with : (t : Table Text) (m p : Text) → HasLine t p → MayBeAbove t p m → (above : List Text) (x : Text) → AreAbove t x above → HasLine (insert t (m, []) p) x
line_with t m p below may [] x h = by (bytes_eq m x) refl
  where
    by : (b : Bool) → bytes_eq m x ≡ b → HasLine (insert t (m, []) p) x
    by true f = record {
      line = p ∷ below.line;
      are = (ap (λ c. get (insert t (m, []) p) (c, [])) (sym ((bytes_eq-Decides m x).0 f)) ∙ there t (m, []) (Some p), above_still t m (Some p) p below.line below.are (may below.line below.are));
    }
    by false f = record { line = []; are = elsewhere t (m, []) (x, []) (Some p) (keys_differ m x f) ∙ h }
line_with t m p below may (a ∷ more) x h = by (bytes_eq m x) refl (line_with t m p below may more a h.1)
  where
    by : (b : Bool) → bytes_eq m x ≡ b → HasLine (insert t (m, []) p) a → HasLine (insert t (m, []) p) x
    by true f again = record {
      line = p ∷ below.line;
      are = (ap (λ c. get (insert t (m, []) p) (c, [])) (sym ((bytes_eq-Decides m x).0 f)) ∙ there t (m, []) (Some p), above_still t m (Some p) p below.line below.are (may below.line below.are));
    }
    by false f again = record { line = a ∷ again.line; are = (elsewhere t (m, []) (x, []) (Some p) (keys_differ m x f) ∙ h.0, again.are) }

-- the modules above each module still end
pub lined_with : (t : Table Text) (m p : Text) → AllHaveLines t → MayBeAbove t p m → AllHaveLines (insert t (m, []) p)
lined_with t m p lined may x = line_with t m p (lined p) may (lined x).line x (lined x).are

-- ---- looking

-- the rest of a line, from a module on
pub record Goes {X : Type 0} (table : Table X) (t : Table Text) (name first now : Text) : Type 0 where
  pub goes : (above : List Text) → AreAbove t first above → (rest : List Text) × (AreAbove t now rest) × (first_at table (in_each name (first ∷ above)) ≡ first_at table (in_each name (now ∷ rest)))

module _ {X : Type 0} (table : Table X) (t : Table Text) (name first now : Text) (g : Goes table t name first now) (missing : get table (now, name) ≡ None) where
  next_by : (next : Text) → get t (now, []) ≡ Some next → (start : Option Key) (rest : List Text) → AreAbove t now rest → start ≡ first_at table (in_each name (now ∷ rest)) → (more : List Text) × (AreAbove t next more) × (start ≡ first_at table (in_each name (next ∷ more)))
  next_by next e start [] h f = absurd (not_some next (sym h ∙ e))
  next_by next e start (a ∷ more) h f =
      let same : a ≡ next = same_some a next (sym h.0 ∙ e) in (
        more,
        subst (λ c. AreAbove t c more) same h.1,
        f ∙ ap (λ o. cond (is_some o) (Some (now, name)) (first_at table (in_each name (a ∷ more)))) missing ∙ ap (λ c. first_at table (in_each name (c ∷ more))) same,
      )

  pub goes_next : (next : Text) → get t (now, []) ≡ Some next → Goes table t name first next
  goes_next next e = record {
    goes = λ above h.
        let r = g.goes above h in
        next_by next e (first_at table (in_each name (first ∷ above))) r.0 r.1 r.2;
  }

  end_by : get t (now, []) ≡ None → (start : Option Key) (rest : List Text) → AreAbove t now rest → start ≡ first_at table (in_each name (now ∷ rest)) → start ≡ None
  end_by e start [] h f = f ∙ ap (λ o. cond (is_some o) (Some (now, name)) None) missing
  end_by e start (a ∷ more) h f = absurd (not_some a (sym e ∙ h.0))

  pub goes_end : get t (now, []) ≡ None → (above : List Text) → AreAbove t first above → None ≡ first_at table (in_each name (first ∷ above))
  goes_end e above h =
      let r = g.goes above h in
      sym (end_by e (first_at table (in_each name (first ∷ above))) r.0 r.1 r.2)

or_by : (t : Bool) (k : Key) (x y : Option Key) → cond t (Some k) (option_or x y) ≡ option_or (cond t (Some k) x) y
or_by true k x y = refl
or_by false k x y = refl

-- the first place of two lists
pub first_append : {X : Type 0} (table : Table X) (ks ls : List Key) → first_at table (ks ++ ls) ≡ option_or (first_at table ks) (first_at table ls)
first_append table [] ls = refl
first_append table (k ∷ ks) ls = ap (cond (is_some (get table k)) (Some k)) (first_append table ks ls) ∙ or_by (is_some (get table k)) k (first_at table ks) (first_at table ls)

pub none_of : {V : Type 0} (r : Option (Bor V)) (b : Bool) → is_some r ≡ not b → b ≡ true → option_copied r ≡ None
none_of None b e f = refl
none_of (Some x) b e f = let never : true ≡ false = e ∙ ap not f in cc

found_or : (k : Key) (x y : Option Key) → Some k ≡ x → Some k ≡ option_or x y
found_or k x y e = ap (λ o. option_or o y) e

-- a place among the first ones
pub found_first : {X : Type 0} (table : Table X) (ks ls : List Key) (k : Key) → Some k ≡ first_at table ks → Some k ≡ first_at table (ks ++ ls)
found_first table ks ls k e = found_or k (first_at table ks) (first_at table ls) e ∙ sym (first_append table ks ls)

-- a place among the later ones
pub found_later : {X : Type 0} (table : Table X) (ks ls : List Key) (o : Option Key) → None ≡ first_at table ks → o ≡ first_at table ls → o ≡ first_at table (ks ++ ls)
found_later table ks ls o e f = f ∙ ap (λ x. option_or x (first_at table ls)) e ∙ sym (first_append table ks ls)

-- without a module above any, each line is empty
pub first_lined : AllHaveLinesAtMarks (map.empty, [])
first_lined = ((λ owner. record { line = []; are = map.get-empty key_cmp (owner, []) }), tt)

-- ---- the first dot

no_dot : (xs : List ℕ) → ((i : ℕ) → i < length xs → get_or xs i 0 ≢ 46) → list_any is_dot xs ≡ false
no_dot [] h = refl
no_dot (x ∷ xs) h = go (eqb x 46) refl (no_dot xs (λ i l. h (suc i) (omega (arith, l))))
  where
    go : (b : Bool) → eqb x 46 ≡ b → list_any is_dot xs ≡ false → (b || list_any is_dot xs) ≡ false
    go true e more = absurd (h 0 (omega arith) ((Decides-eqb x 46).0 e))
    go false e more = more

with_dot : (xs ys : List ℕ) → list_any is_dot (xs ++ 46 ∷ ys) ≡ true
with_dot [] ys = refl
with_dot (x ∷ xs) ys = or_true (eqb x 46) (with_dot xs ys)
  where
    or_true : (a : Bool) {b : Bool} → b ≡ true → (a || b) ≡ true
    or_true true e = refl
    or_true false e = e

-- what stands before and after the first dot
pub halves_of : (text : List ℕ) (r : Option (Bor (List ℕ) × Bor (List ℕ))) → IsSplitOnceResult 46 text r → MatchOption r (list_any is_dot text ≡ false) (λ parts. (list_any is_dot text ≡ true) × (parts.0.now ≡ before_first is_dot text) × (parts.1.now ≡ after_first is_dot text))
halves_of text None h = no_dot text (split_parts 46 text None h (lit< tt))
halves_of text (Some x) h =
    let cuts = split_once_first 46 text (Some x) h (lit< tt) in
    let parts = split_parts 46 text (Some x) h (lit< tt) in
    (ap (list_any is_dot) parts.0 ∙ with_dot x.0.now x.1.now, cuts.1, cuts.2)
