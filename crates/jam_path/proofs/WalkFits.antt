use Rattle.std.proofs.Common.{◌≡◌, ◌≢◌, ◌↔◌, ◌⊎◌, inl, inr, ℕ, ◌+◌, Bool, true, false, cond, eqb, suc, zero, List, [], ◌∷◌, ◌++◌, length, drop, refl, ap, sym, ◌∙◌, subst, arith, append_assoc, Some, None}
use Rattle.std.specs.List.{before_first, after_first}
use Rattle.std.proofs.lemmas.Bool.{ne_eqb, eq-eqb, eqb-true, eqb-false}
use Rattle.std.proofs.lemmas.Option.{cond_some, none-some, same_Some}
use Rattle.std.proofs.lemmas.List.{drop-drop}
use Rattle.b2_base.specs.Bytes.{Lacks}
use Rattle.b2_base.proofs.NamesAreCutAtLastSigns.{has_not, has_at}
use Rattle.jam_path.specs.Patterns.{is_taken, IsItself, Takes, Match}
use Rattle.jam_path.specs.Patterns.Takes.{any, escaped, class, itself}
use Rattle.jam_path.specs.Patterns.Match.{ends, run, one}
use Rattle.jam_path.specs.Names.{has}
use Rattle.jam_path.specs.Steps.{IsStarless, after_one, after_exact, after_escape, after_class, after_bracket}
use Rattle.jam_path.proofs.CutAtSign.{First, before_at, after_at}
use Rattle.jam_path.proofs.PartsMakeTheText.{first_or}

-- ---- the first piece, as the code finds it

itself_after : (c : ℕ) (rest : List ℕ) → IsItself c rest → after_one (c ∷ rest) c ≡ Some rest
itself_after c rest i = rw (ne_eqb c 42 i.run, ne_eqb c 63 i.any) (go (eqb c 92) refl)
  where
    escape : (rest : List ℕ) → rest ≡ [] → c ≡ 92 → after_escape rest c ≡ Some rest
    escape [] e h = rw (eq-eqb 92 c (sym h)) refl
    escape (x ∷ xs) e h = let k : suc (length xs) ≡ 0 = ap length e in absurd (omega (arith, k))

    bracket : (t : Bool) → eqb c 91 ≡ t → cond t (after_bracket rest c) (after_exact c rest c) ≡ Some rest
    bracket true e = rw (has_not 93 rest (i.class (eqb-true c 91 e)), eq-eqb 91 c (sym (eqb-true c 91 e))) refl
    bracket false e = rw (eq-eqb c c refl) refl

    go : (t : Bool) → eqb c 92 ≡ t → cond t (after_escape rest c) (cond (eqb c 91) (after_bracket rest c) (after_exact c rest c)) ≡ Some rest
    go true e = escape rest (i.escape (eqb-true c 92 e)) (eqb-true c 92 e)
    go false e = bracket (eqb c 91) refl

pub takes_after : (pattern : List ℕ) (c : ℕ) (rest : List ℕ) → Takes pattern c rest → after_one pattern c ≡ Some rest
takes_after pattern c rest (any _ _) = refl
takes_after pattern c rest (escaped _ _) = rw (eq-eqb c c refl) refl
takes_after pattern c rest (class members _ _ h t) = rw (has_at 93 members rest, before_at 93 members rest h, after_at 93 members rest h, t) refl
takes_after pattern c rest (itself _ _ i) = itself_after c rest i

exact_is : (exact : ℕ) (rest : List ℕ) (c : ℕ) (after : List ℕ) → after_exact exact rest c ≡ Some after → (exact ≡ c) × (rest ≡ after)
exact_is exact rest c after e = let p = cond_some (eqb exact c) rest after e in (eqb-true exact c p.0, p.1)

as_itself : (c : ℕ) (rest after : List ℕ) (d : ℕ) → IsItself c rest → after_exact c rest d ≡ Some after → Takes (c ∷ rest) d after
as_itself c rest after d i e =
    let p = exact_is c rest d after e in
    subst (λ x. Takes (c ∷ rest) x after) p.0 (subst (λ r. Takes (c ∷ rest) c r) p.1 (itself c rest i))

after_escape_takes : (rest : List ℕ) (d : ℕ) (after : List ℕ) → after_escape rest d ≡ Some after → Takes (92 ∷ rest) d after
after_escape_takes [] d after e = as_itself 92 [] after d (record { run = λ h. omega (arith, h); any = λ h. omega (arith, h); escape = λ _. refl; class = λ h. absurd (omega (arith, h)) }) e
after_escape_takes (next ∷ rest) d after e =
    let p = exact_is next rest d after e in
    subst (λ x. Takes (92 ∷ next ∷ rest) x after) p.0 (subst (λ r. Takes (92 ∷ next ∷ rest) next r) p.1 (escaped next rest))

after_bracket_takes : (rest : List ℕ) (d : ℕ) (after : List ℕ) → after_bracket rest d ≡ Some after → Takes (91 ∷ rest) d after
after_bracket_takes rest d after e = go (first_or 93 rest)
  where
    go : Lacks 93 rest ⊎ First 93 rest → Takes (91 ∷ rest) d after
    go (inl h) = as_itself 91 rest after d (record { run = λ k. omega (arith, k); any = λ k. omega (arith, k); escape = λ k. absurd (omega (arith, k)); class = λ _. h }) (rw (has_not 93 rest h) at e)
    go (inr p) =
        let found : after_bracket rest d ≡ after_class p.front p.back d = rw (p.whole, has_at 93 p.front p.back, before_at 93 p.front p.back p.lacks, after_at 93 p.front p.back p.lacks) refl in
        let q = cond_some (is_taken p.front d) p.back after (sym found ∙ e) in
        subst (λ r. Takes (91 ∷ r) d after) (sym p.whole) (subst (λ r. Takes (91 ∷ (p.front ++ 93 ∷ p.back)) d r) q.1 (class p.front d p.back p.lacks q.0))

pub after_takes : (pattern : List ℕ) (c : ℕ) (rest : List ℕ) → after_one pattern c ≡ Some rest → Takes pattern c rest
after_takes [] c rest e = absurd (none-some rest e)
after_takes (f ∷ p) c rest e = star (eqb f 42) refl e
  where
    bracket : (t : Bool) → eqb f 91 ≡ t → eqb f 42 ≡ false → eqb f 63 ≡ false → eqb f 92 ≡ false → cond t (after_bracket p c) (after_exact f p c) ≡ Some rest → Takes (f ∷ p) c rest
    bracket true e n m k h = subst (λ x. Takes (x ∷ p) c rest) (sym (eqb-true f 91 e)) (after_bracket_takes p c rest h)
    bracket false e n m k h = as_itself f p rest c (record { run = eqb-false f 42 n; any = eqb-false f 63 m; escape = λ q. absurd (eqb-false f 92 k q); class = λ q. absurd (eqb-false f 91 e q) }) h

    escape : (t : Bool) → eqb f 92 ≡ t → eqb f 42 ≡ false → eqb f 63 ≡ false → cond t (after_escape p c) (cond (eqb f 91) (after_bracket p c) (after_exact f p c)) ≡ Some rest → Takes (f ∷ p) c rest
    escape true e n m h = subst (λ x. Takes (x ∷ p) c rest) (sym (eqb-true f 92 e)) (after_escape_takes p c rest h)
    escape false e n m h = bracket (eqb f 91) refl n m e h

    anyone : (t : Bool) → eqb f 63 ≡ t → eqb f 42 ≡ false → cond t (Some p) (cond (eqb f 92) (after_escape p c) (cond (eqb f 91) (after_bracket p c) (after_exact f p c))) ≡ Some rest → Takes (f ∷ p) c rest
    anyone true e n h = subst (λ x. Takes (x ∷ p) c rest) (sym (eqb-true f 63 e)) (subst (λ r. Takes (63 ∷ p) c r) (same_Some p rest h) (any c p))
    anyone false e n h = escape (eqb f 92) refl n e h

    star : (t : Bool) → eqb f 42 ≡ t → cond t None (cond (eqb f 63) (Some p) (cond (eqb f 92) (after_escape p c) (cond (eqb f 91) (after_bracket p c) (after_exact f p c)))) ≡ Some rest → Takes (f ∷ p) c rest
    star true e h = absurd (none-some rest h)
    star false e h = anyone (eqb f 63) refl e h

-- ---- where the first piece ends, whatever character it takes

abbrev escape_end : List ℕ → List ℕ
escape_end [] = []
escape_end (next ∷ rest) = rest

abbrev bracket_end : List ℕ → List ℕ
bracket_end rest = cond (has 93 rest) (after_first (λ x. eqb x 93) rest) rest

abbrev piece_end : List ℕ → List ℕ
piece_end [] = []
piece_end (f ∷ p) = cond (eqb f 92) (escape_end p) (cond (eqb f 91) (bracket_end p) p)

escape_end_is : (rest : List ℕ) (c : ℕ) (after : List ℕ) → after_escape rest c ≡ Some after → after ≡ escape_end rest
escape_end_is [] c after e = sym (exact_is 92 [] c after e).1
escape_end_is (next ∷ rest) c after e = sym (exact_is next rest c after e).1

bracket_end_is : (rest : List ℕ) (c : ℕ) (after : List ℕ) → after_bracket rest c ≡ Some after → after ≡ bracket_end rest
bracket_end_is rest c after = go (has 93 rest)
  where
    go : (t : Bool) → cond t (after_class (before_first (λ x. eqb x 93) rest) (after_first (λ x. eqb x 93) rest) c) (after_exact 91 rest c) ≡ Some after → after ≡ cond t (after_first (λ x. eqb x 93) rest) rest
    go true e = sym (cond_some _ _ after e).1
    go false e = sym (exact_is 91 rest c after e).1

piece_end_is : (pattern : List ℕ) (c : ℕ) (after : List ℕ) → after_one pattern c ≡ Some after → after ≡ piece_end pattern
piece_end_is [] c after e = absurd (none-some after e)
piece_end_is (f ∷ p) c after e = star (eqb f 42) (eqb f 63) refl e
  where
    bracket : (t : Bool) → cond t (after_bracket p c) (after_exact f p c) ≡ Some after → after ≡ cond t (bracket_end p) p
    bracket true h = bracket_end_is p c after h
    bracket false h = sym (exact_is f p c after h).1

    escape : (t : Bool) → cond t (after_escape p c) (cond (eqb f 91) (after_bracket p c) (after_exact f p c)) ≡ Some after → after ≡ cond t (escape_end p) (cond (eqb f 91) (bracket_end p) p)
    escape true h = escape_end_is p c after h
    escape false h = bracket (eqb f 91) h

    star : (t u : Bool) → eqb f 63 ≡ u → cond t None (cond u (Some p) (cond (eqb f 92) (after_escape p c) (cond (eqb f 91) (after_bracket p c) (after_exact f p c)))) ≡ Some after → after ≡ piece_end (f ∷ p)
    star true u n h = absurd (none-some after h)
    star false true n h = rw (eqb-true f 63 n) (sym (same_Some p after h))
    star false false n h = escape (eqb f 92) h

-- ---- a match, taken apart

record Run (pattern text : List ℕ) : Type 0 where
  rest : List ℕ
  skipped : List ℕ
  left : List ℕ
  pattern_is : pattern ≡ 42 ∷ rest
  text_is : text ≡ skipped ++ left
  more : Match rest left

record One (pattern text : List ℕ) : Type 0 where
  character : ℕ
  rest : List ℕ
  left : List ℕ
  found : after_one pattern character ≡ Some rest
  text_is : text ≡ character ∷ left
  more : Match rest left

data View (pattern text : List ℕ) : Type 0 where
  at_end : pattern ≡ [] → text ≡ [] → View pattern text
  at_run : Run pattern text → View pattern text
  at_one : One pattern text → View pattern text

view : (pattern text : List ℕ) → Match pattern text → View pattern text
view pattern text ends = at_end refl refl
view pattern text (run rest skipped left m) = at_run (record { rest = rest; skipped = skipped; left = left; pattern_is = refl; text_is = refl; more = m })
view pattern text (one _ rest left c t m) = at_one (record { character = c; rest = rest; left = left; found = takes_after pattern c rest t; text_is = refl; more = m })

cons_not_nil : (x : ℕ) (xs : List ℕ) → x ∷ xs ≡ [] → ⊥
cons_not_nil x xs e = let k : suc (length xs) ≡ 0 = ap length e in omega (arith, k)

cons_parts : (x y : ℕ) (xs ys : List ℕ) → x ∷ xs ≡ y ∷ ys → (x ≡ y) × (xs ≡ ys)
cons_parts x y xs ys e = (grind (arith, e), grind (arith, e))

-- a match of a pattern that begins with a `*`
star_view : (p text : List ℕ) → Match (42 ∷ p) text → (skipped : List ℕ) × ((left : List ℕ) × ((text ≡ skipped ++ left) × Match p left))
star_view p text m = go (view (42 ∷ p) text m)
  where
    go : View (42 ∷ p) text → (skipped : List ℕ) × ((left : List ℕ) × ((text ≡ skipped ++ left) × Match p left))
    go (at_end e _) = absurd (cons_not_nil 42 p e)
    go (at_run r) = (r.skipped, (r.left, (r.text_is, subst (λ q. Match q r.left) (sym (cons_parts 42 42 p r.rest r.pattern_is).1) r.more)))
    go (at_one o) = absurd (none-some o.rest o.found)

-- a match of a pattern that begins otherwise
piece_view : (p text : List ℕ) → IsStarless p → Match p text → ((p ≡ []) × (text ≡ [])) ⊎ One p text
piece_view p text starless m = go (view p text m)
  where
    go : View p text → ((p ≡ []) × (text ≡ [])) ⊎ One p text
    go (at_end e f) = inl (e, f)
    go (at_run r) = absurd (starless r.rest r.pattern_is)
    go (at_one o) = inr o

-- a `*` takes more
pub star_more : (p front text : List ℕ) → Match (42 ∷ p) text → Match (42 ∷ p) (front ++ text)
star_more p front text m =
    let v = star_view p text m in
    subst (Match (42 ∷ p)) (append_assoc front v.0 v.1.0 ∙ ap (λ r. front ++ r) (sym v.1.1.0)) (run p (front ++ v.0) v.1.0 v.1.1.1)

-- what is left of a text, cut at k, ends with what is left of its end, cut at k
drop_front : (k : ℕ) (front x : List ℕ) → (more : List ℕ) × (drop k (front ++ x) ≡ more ++ drop k x)
drop_front k [] x = ([], refl)
drop_front zero (f ∷ front) x = (f ∷ front, refl)
drop_front (suc k) (f ∷ front) x =
    let h = drop_front k front x in
    let s = drop_one k x in
    (h.0 ++ s.0, h.1 ∙ ap (λ r. h.0 ++ r) s.1 ∙ sym (append_assoc h.0 s.0 (drop (suc k) x)))
  where
    drop_one : (k : ℕ) (x : List ℕ) → (more : List ℕ) × (drop k x ≡ more ++ drop (suc k) x)
    drop_one k [] = ([], drop_nil k)
      where
        drop_nil : (k : ℕ) → drop {A = ℕ} k [] ≡ [] ++ drop (suc k) []
        drop_nil zero = refl
        drop_nil (suc k) = refl
    drop_one zero (y ∷ x) = (y ∷ [], refl)
    drop_one (suc k) (y ∷ x) = drop_one k x

-- ---- a walk: k pieces took k characters each

pub record Fed (pattern text rest left : List ℕ) : Type 0 where
  pub count : ℕ
  pub left_is : left ≡ drop count text
  pub back : Match rest left → Match pattern text
  pub ahead : (x : List ℕ) → Match pattern x → Match rest (drop count x)

pub fed_start : (pattern text : List ℕ) → Fed pattern text pattern text
fed_start pattern text = record { count = 0; left_is = refl; back = λ m. m; ahead = λ x m. m }

starless_from : (p : List ℕ) (c : ℕ) (after : List ℕ) → after_one p c ≡ Some after → IsStarless p
starless_from p c after e rest h = none-some after (ap (λ q. after_one q c) (sym h) ∙ e)

drop_tail : (k : ℕ) (x : List ℕ) (c : ℕ) (r : List ℕ) → drop k x ≡ c ∷ r → drop (k + 1) x ≡ r
drop_tail k x c r e = sym (drop-drop 1 k x) ∙ ap (drop 1) e

pub fed_more : (pattern text rest left : List ℕ) (c : ℕ) (after remaining : List ℕ) → Fed pattern text rest left → left ≡ c ∷ remaining → after_one rest c ≡ Some after → Fed pattern text after remaining
fed_more pattern text rest left c after remaining f l e = record {
  count = f.count + 1;
  left_is = sym (drop_tail f.count text c remaining (sym f.left_is ∙ l));
  back = λ m. f.back (subst (Match rest) (sym l) (one rest after remaining c (after_takes rest c after e) m));
  ahead = λ x m. go x (piece_view rest (drop f.count x) (starless_from rest c after e) (f.ahead x m));
}
  where
    go : (x : List ℕ) → ((rest ≡ []) × (drop f.count x ≡ [])) ⊎ One rest (drop f.count x) → Match after (drop (f.count + 1) x)
    go x (inl p) = absurd (none-some after (ap (λ q. after_one q c) (sym p.0) ∙ e))
    go x (inr o) =
        let same : o.rest ≡ after = piece_end_is rest o.character o.rest o.found ∙ sym (piece_end_is rest c after e) in
        subst (λ t. Match after t) (sym (drop_tail f.count x o.character o.left o.text_is)) (subst (λ p. Match p o.left) same o.more)

pub fed_fits : (pattern text rest left : List ℕ) → Fed pattern text rest left → rest ≡ [] → left ≡ [] → Match pattern text
fed_fits pattern text rest left f r l = f.back (subst (λ t. Match rest t) (sym l) (subst (λ p. Match p []) (sym r) ends))

pub fed_ended : (pattern text rest left : List ℕ) → Fed pattern text rest left → IsStarless rest → left ≡ [] → rest ≢ [] → ¬ Match pattern text
fed_ended pattern text rest left f s l r m = go (piece_view rest (drop f.count text) s (f.ahead text m))
  where
    go : ((rest ≡ []) × (drop f.count text ≡ [])) ⊎ One rest (drop f.count text) → ⊥
    go (inl p) = r p.0
    go (inr o) = cons_not_nil o.character o.left (sym o.text_is ∙ sym f.left_is ∙ l)

pub fed_fails : (pattern text rest left : List ℕ) (c : ℕ) (remaining : List ℕ) → Fed pattern text rest left → IsStarless rest → left ≡ c ∷ remaining → after_one rest c ≡ None → ¬ Match pattern text
fed_fails pattern text rest left c remaining f s l e m = go (piece_view rest (drop f.count text) s (f.ahead text m))
  where
    go : ((rest ≡ []) × (drop f.count text ≡ [])) ⊎ One rest (drop f.count text) → ⊥
    go (inl p) = cons_not_nil c remaining (sym l ∙ f.left_is ∙ p.1)
    go (inr o) =
        let same : o.character ≡ c = (cons_parts o.character c o.left remaining (sym o.text_is ∙ sym f.left_is ∙ l)).0 in
        none-some o.rest (sym e ∙ ap (after_one rest) (sym same) ∙ o.found)

pub fed_star : (pattern text rest left after : List ℕ) → Fed pattern text rest left → rest ≡ 42 ∷ after → (Match pattern text ↔ Match (42 ∷ after) left) × (Match (42 ∷ pattern) text ↔ Match (42 ∷ after) left)
fed_star pattern text rest left after f r =
    let to : Match pattern text → Match (42 ∷ after) left = λ m. subst (λ t. Match (42 ∷ after) t) (sym f.left_is) (subst (λ p. Match p (drop f.count text)) r (f.ahead text m)) in
    let from : Match (42 ∷ after) left → Match pattern text = λ m. f.back (subst (λ p. Match p left) (sym r) m) in
    ((to, from), (far, λ m. run pattern [] text (from m)))
  where
    far : Match (42 ∷ pattern) text → Match (42 ∷ after) left
    far m =
        let v = star_view pattern text m in
        let d = drop_front f.count v.0 v.1.0 in
        subst (λ t. Match (42 ∷ after) t) (sym (f.left_is ∙ ap (drop f.count) v.1.1.0 ∙ d.1))
        (star_more after d.0 (drop f.count v.1.0) (subst (λ p. Match p (drop f.count v.1.0)) r (f.ahead v.1.0 v.1.1.1)))

-- ---- places for the pieces after a `*`

pub star_here : (p text : List ℕ) → Match p text → Match (42 ∷ p) text
star_here p text m = run p [] text m

pub star_later : (p text : List ℕ) (c : ℕ) (remaining : List ℕ) → text ≡ c ∷ remaining → ¬ Match p text → Match (42 ∷ p) text ↔ Match (42 ∷ p) remaining
star_later p text c remaining e never =
    (λ m. let v = star_view p text m in go v.0 v.1.0 v.1.1.0 v.1.1.1, λ m. subst (Match (42 ∷ p)) (sym e) (star_more p (c ∷ []) remaining m))
  where
    go : (skipped left : List ℕ) → text ≡ skipped ++ left → Match p left → Match (42 ∷ p) remaining
    go [] left t m = absurd (never (subst (Match p) (sym t) m))
    go (s ∷ skipped) left t m = subst (Match (42 ∷ p)) (sym (cons_parts c s remaining (skipped ++ left) (sym e ∙ t)).1) (run p skipped left m)

pub star_never : (p text : List ℕ) → text ≡ [] → ¬ Match p text → ¬ Match (42 ∷ p) text
star_never p text e never m = let v = star_view p text m in go v.0 v.1.0 v.1.1.0 v.1.1.1
  where
    go : (skipped left : List ℕ) → text ≡ skipped ++ left → Match p left → ⊥
    go [] left t m = never (subst (Match p) (sym t) m)
    go (s ∷ skipped) left t m = cons_not_nil s (skipped ++ left) (sym t ∙ e)
