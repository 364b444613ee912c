-- A search by a stack meets what the list meets: a target comes off, and what comes behind it is put on.
use Rattle.std.proofs.Common.{◌≡◌, ◌≤◌, ◌<◌, ℕ, ◌+◌, Bool, true, false, cond, not, ◌||◌, List, [], ◌∷◌, ◌++◌, length, filter, reverse, refl, sym, ap, ap₂, ◌∙◌, subst, arith, append_assoc, append-nil, length-append}
use Rattle.std.specs.Borrow.{Bor}
use Rattle.std.specs.FinMap.{insert}
use Rattle.std.specs.List.{cons_option}
use Rattle.std.specs.Prelude.{if◌then◌else◌, Some, None}
use Rattle.std.specs.Str.{bytes_eq}
use Rattle.std.proofs.lemmas.List.{reverse-append, reverse-reverse, length-reverse}
use Rattle.std.proofs.lemmas.List.Folds.{list_any-append}
use Rattle.std.proofs.lemmas.Slice.Eq.{bytes_eq-Decides}
use Rattle.jam_journal.specs.Tables.{Text, Names}
use Rattle.jam_journal.specs.Scopes.{Value}
use Rattle.jam_graph.specs.declared.graph.Graph.{Graph}
use Rattle.jam_engine.specs.Tables.{is_in}
use Rattle.jam_engine.specs.Targets.{has, seconds, is_acted, includes_of, depends_of}
use Rattle.jam_engine.specs.Spreads.{next, Meets, none, again, first}
use Rattle.jam_engine.specs.Spreading.{MeetsOne, stacked}
use Rattle.jam_engine.proofs.SetsGrow.{in_more, has_more}
use Rattle.jam_engine.proofs.Spreading.{SameTexts, meets_by}

-- ---- a list in two parts

four : (a b x s : Bool) → (a || (b || (x || s))) ≡ (x || ((b || a) || s))
four true true true s = refl
four true true false s = refl
four true false true s = refl
four true false false s = refl
four false true true s = refl
four false true false s = refl
four false false true s = refl
four false false false s = refl

-- the order of what was seen does not count
moved : (below more : Value) (target : Text) (seen : Value) → SameTexts (more ++ (below ++ target ∷ seen)) ((target ∷ (below ++ more)) ++ seen)
moved below more target seen text =
    list_any-append (bytes_eq text) more (below ++ target ∷ seen)
    ∙ ap (λ b. has more text || b) (list_any-append (bytes_eq text) below (target ∷ seen))
    ∙ four (has more text) (has below text) (bytes_eq text target) (has seen text)
    ∙ sym (ap (λ b. bytes_eq text target || b) (list_any-append (bytes_eq text) (below ++ more) seen ∙ ap (λ b. b || has seen text) (list_any-append (bytes_eq text) below more)))

-- what the parts of a list meet, one after the other
pub record Parts (g : Graph) (seen xs ys met : Value) : Type 0 where
  pub one : Value
  pub other : Value
  pub meets_one : Meets g seen xs one
  pub meets_other : Meets g (one ++ seen) ys other
  pub is : met ≡ one ++ other

pub in_parts : (g : Graph) (seen xs ys met : Value) → Meets g seen (xs ++ ys) met → Parts g seen xs ys met
in_parts g seen [] ys met h = record { one = []; other = met; meets_one = none; meets_other = h; is = refl }
in_parts g seen (x ∷ xs) ys met (again h m) =
    let rest : Parts g seen xs ys met = in_parts g seen xs ys met m in
    record { one = rest.one; other = rest.other; meets_one = again h rest.meets_one; meets_other = rest.meets_other; is = rest.is }
in_parts g seen (x ∷ xs) ys _ (first {below = below} {others = others} h p q) =
    let rest : Parts g (below ++ x ∷ seen) xs ys others = in_parts g (below ++ x ∷ seen) xs ys others q in
    record {
      one = x ∷ (below ++ rest.one);
      other = rest.other;
      meets_one = first h p rest.meets_one;
      meets_other = meets_by g (rest.one ++ (below ++ x ∷ seen)) ((x ∷ (below ++ rest.one)) ++ seen) ys rest.other (moved below rest.one x seen) rest.meets_other;
      is = ap (λ (l : Value). x ∷ l) (ap (λ (l : Value). below ++ l) rest.is ∙ sym (append_assoc below rest.one rest.other));
    }

at_end : (seen : Value) (target : Text) → SameTexts (seen ++ target ∷ []) (target ∷ seen)
at_end seen target text = has_more seen target text ∙ swap (has seen text) (bytes_eq text target)
  where
    swap : (a b : Bool) → (a || b) ≡ (b || a)
    swap true true = refl
    swap true false = refl
    swap false true = refl
    swap false false = refl

-- a new target, behind what was met: what it leads to, and then the rest
pub opened : (g : Graph) (met rest more : Value) (target : Text) → has met target ≡ false → Meets g (met ++ target ∷ []) (next g target ++ rest) more → Meets g met (target ∷ rest) (target ∷ more)
opened g met rest more target new h =
    let parts : Parts g (target ∷ met) (next g target) rest more =
    in_parts g (target ∷ met) (next g target) rest more (meets_by g (met ++ target ∷ []) (target ∷ met) (next g target ++ rest) more (at_end met target) h) in
    subst (λ (l : Value). Meets g met (target ∷ rest) (target ∷ l)) (sym parts.is)
    (first new parts.meets_one (meets_by g (parts.one ++ target ∷ met) (parts.one ++ target ∷ met) rest parts.other (λ t. refl) parts.meets_other))

-- ---- one target of the stack

-- the stack turned round
turned : (g : Graph) (rest : Value) (target : Text) → reverse (rest ++ target ∷ []) ≡ target ∷ reverse rest
turned g rest target = reverse-append rest (target ∷ [])

pub put_on : (rest behind : Value) → reverse (rest ++ reverse behind) ≡ behind ++ reverse rest
put_on rest behind = reverse-append rest (reverse behind) ∙ ap (λ (l : Value). l ++ reverse rest) (reverse-reverse behind)

-- a list put on an empty stack
pub begun : (g : Graph) (texts stack : Value) → stack ≡ reverse texts → (more : Value) → Meets g [] (reverse stack) more → Meets g [] texts ([] ++ more)
begun g texts stack is more h = subst (λ (l : Value). Meets g [] l more) (ap reverse is ∙ reverse-reverse texts) h

abbrev pub GoesOn : Graph → Value → Value → Value → Type 0
GoesOn g texts met stack = (more : Value) → Meets g met (reverse stack) more → Meets g [] texts (met ++ more)

-- by whether the target was seen
goes : (g : Graph) (texts met rest : Value) (target : Text) (later : Value) (waits : Value) (seen : Bool) → has met target ≡ seen
    → later ≡ (if seen then met else met ++ target ∷ []) → waits ≡ (if seen then rest else rest ++ reverse (next g target)) → GoesOn g texts met (rest ++ target ∷ []) → GoesOn g texts later waits
goes g texts met rest target later waits true was met_is stack_is h more m =
    subst (λ (l : Value). Meets g [] texts (l ++ more)) (sym met_is)
    (h more (subst (λ (l : Value). Meets g met l more) (sym (turned g rest target)) (again was (
    subst (λ (l : Value). Meets g l (reverse rest) more) met_is (subst (λ (l : Value). Meets g later (reverse l) more) stack_is m)))))
goes g texts met rest target later waits false was met_is stack_is h more m =
    subst (λ (l : Value). Meets g [] texts (l ++ more)) (sym met_is)
    (subst (Meets g [] texts) (sym (append_assoc met (target ∷ []) more))
    (h (target ∷ more) (subst (λ (l : Value). Meets g met l (target ∷ more)) (sym (turned g rest target))
    (opened g met (reverse rest) more target was (
    subst (λ (l : Value). Meets g (met ++ target ∷ []) l more) (put_on rest (next g target))
    (subst (λ (l : Value). Meets g l (reverse (rest ++ reverse (next g target))) more) met_is (subst (λ (l : Value). Meets g later (reverse l) more) stack_is m)))))))

pub goes_on : (g : Graph) (texts : Value) (target : Text) (seen after : Names Bool) (met later stack rest waits : Value) → ((t : Text) → is_in seen t ≡ has met t)
    → MeetsOne g target seen after met later rest waits → stack ≡ rest ++ target ∷ [] → GoesOn g texts met stack → GoesOn g texts later waits
goes_on g texts target seen after met later stack rest waits same one pops h =
    goes g texts met rest target later waits (is_in seen target) (sym (same target)) one.met_now one.waiting (subst (GoesOn g texts met) pops h)

-- what was seen is what was met
pub seen_on : (g : Graph) (target : Text) (seen after : Names Bool) (met later rest waits : Value) → ((t : Text) → is_in seen t ≡ has met t)
    → MeetsOne g target seen after met later rest waits → (t : Text) → is_in after t ≡ has later t
seen_on g target seen after met later rest waits same one t = go (is_in seen target) one.set one.met_now
  where
    go : (b : Bool) → after ≡ (if b then seen else insert seen target true) → later ≡ (if b then met else met ++ target ∷ []) → is_in after t ≡ has later t
    go true set met_is = ap (λ (m : Names Bool). is_in m t) set ∙ same t ∙ sym (ap (λ (l : Value). has l t) met_is)
    go false set met_is =
        ap (λ (m : Names Bool). is_in m t) set ∙ in_more seen target t ∙ ap (λ b. b || bytes_eq t target) (same t) ∙ sym (has_more met target t)
        ∙ sym (ap (λ (l : Value). has l t) met_is)

-- ---- the measure: the stack, and the pairs that begin with a target which was not seen

abbrev Pairs : Type 0
Pairs = List (Text × Text)

abbrev pub unseen : Names Bool → Pairs → ℕ
unseen seen pairs = length (filter (λ pair. not (is_in seen pair.0)) pairs)

-- the same two texts, the other way round
pub flip : (a b : Text) → bytes_eq a b ≡ bytes_eq b a
flip a b = go (bytes_eq a b) (bytes_eq b a) refl refl
  where
    go : (p q : Bool) → bytes_eq a b ≡ p → bytes_eq b a ≡ q → p ≡ q
    go true true e f = refl
    go false false e f = refl
    go true false e f = sym ((bytes_eq-Decides b a).1 (sym ((bytes_eq-Decides a b).0 e))) ∙ f
    go false true e f = sym e ∙ (bytes_eq-Decides a b).1 (sym ((bytes_eq-Decides b a).0 f))

fewer : (g : Graph) (seen : Names Bool) (target : Text) (pairs : Pairs) → is_in seen target ≡ false
    → unseen (insert seen target true) pairs + length (seconds g pairs target) ≡ unseen seen pairs
fewer g seen target [] new = refl
fewer g seen target (pair ∷ pairs) new = go (bytes_eq target pair.0) refl (fewer g seen target pairs new)
  where
    after : Names Bool
    after = insert seen target true

    go : (b : Bool) → bytes_eq target pair.0 ≡ b → unseen after pairs + length (seconds g pairs target) ≡ unseen seen pairs
        → unseen after (pair ∷ pairs) + length (seconds g (pair ∷ pairs) target) ≡ unseen seen (pair ∷ pairs)
    go true e h =
        let old : is_in seen pair.0 ≡ false = subst (λ (t : Text). is_in seen t ≡ false) ((bytes_eq-Decides target pair.0).0 e) new in
        let now : is_in after pair.0 ≡ true = in_more seen target pair.0 ∙ ap₂ (λ a b. a || b) old (flip pair.0 target ∙ e) in
        rw (now, old, e) (let k = h in omega arith)
    go false e h =
        let same : is_in after pair.0 ≡ is_in seen pair.0 = in_more seen target pair.0 ∙ ap (λ b. is_in seen pair.0 || b) (flip pair.0 target ∙ e) ∙ or_false (is_in seen pair.0) in
        rw (same, e) (by_old (is_in seen pair.0) h)
      where
        or_false : (a : Bool) → (a || false) ≡ a
        or_false true = refl
        or_false false = refl

        by_old : (b : Bool) → unseen after pairs + length (seconds g pairs target) ≡ unseen seen pairs
            → length (cond (not b) (pair ∷ filter (λ p. not (is_in after p.0)) pairs) (filter (λ p. not (is_in after p.0)) pairs)) + length (seconds g pairs target)
            ≡ length (cond (not b) (pair ∷ filter (λ p. not (is_in seen p.0)) pairs) (filter (λ p. not (is_in seen p.0)) pairs))
        by_old true k = k
        by_old false k = omega (arith, k)

seconds_both : (g : Graph) (one other : Pairs) (target : Text) → length (seconds g (one ++ other) target) ≡ length (seconds g one target) + length (seconds g other target)
seconds_both g [] other target = omega arith
seconds_both g (pair ∷ one) other target = go (bytes_eq target pair.0) (seconds_both g one other target)
  where
    go : (b : Bool) → length (seconds g (one ++ other) target) ≡ length (seconds g one target) + length (seconds g other target)
        → length (cons_option (cond b (Some pair.1) None) (seconds g (one ++ other) target)) ≡ length (cons_option (cond b (Some pair.1) None) (seconds g one target)) + length (seconds g other target)
    go true h = omega (arith, h)
    go false h = h

behind_length : (g : Graph) (target : Text) → length (next g target) ≤ length (seconds g (g.depends ++ g.includes) target)
behind_length g target = go (is_acted g target)
  where
    both : length (seconds g (g.depends ++ g.includes) target) ≡ length (depends_of g target) + length (includes_of g target)
    both = seconds_both g g.depends g.includes target

    go : (b : Bool) → length (includes_of g target ++ cond b [] (depends_of g target)) ≤ length (seconds g (g.depends ++ g.includes) target)
    go true = let e = length-append (includes_of g target) [] in omega (arith, both, e)
    go false = let e = length-append (includes_of g target) (depends_of g target) in omega (arith, both, e)

pub falls : (g : Graph) (target : Text) (seen after : Names Bool) (met later stack rest waits : Value) → MeetsOne g target seen after met later rest waits → stack ≡ rest ++ target ∷ []
    → length waits + unseen after (g.depends ++ g.includes) < length stack + unseen seen (g.depends ++ g.includes)
falls g target seen after met later stack rest waits one pops = go (is_in seen target) refl one.set one.waiting
  where
    all : Pairs
    all = g.depends ++ g.includes

    shorter : length stack ≡ length rest + 1
    shorter = ap length pops ∙ length-append rest (target ∷ [])

    go : (b : Bool) → is_in seen target ≡ b → after ≡ (if b then seen else insert seen target true) → waits ≡ (if b then rest else rest ++ reverse (next g target))
        → length waits + unseen after all < length stack + unseen seen all
    go true was set waiting =
        let e : length waits ≡ length rest = ap length waiting in
        let f : unseen after all ≡ unseen seen all = ap (λ (m : Names Bool). unseen m all) set in
        omega (arith, shorter, e, f)
    go false was set waiting =
        let e : length waits ≡ length rest + length (next g target) = ap length waiting ∙ length-append rest (reverse (next g target)) ∙ ap (λ n. length rest + n) (length-reverse (next g target)) in
        let f : unseen after all + length (seconds g all target) ≡ unseen seen all = ap (λ (m : Names Bool). unseen m all + length (seconds g all target)) set ∙ fewer g seen target all was in
        let h : length (next g target) ≤ length (seconds g all target) = behind_length g target in
        omega (arith, shorter, e, f, h)

-- ---- a stack that lends texts

pub stacked_last : (stack : List (Bor Text)) (text : Bor Text) → stacked (stack ++ text ∷ []) ≡ stacked stack ++ text.now ∷ []
stacked_last [] text = refl
stacked_last (one ∷ stack) text = ap (λ (l : Value). one.now ∷ l) (stacked_last stack text)

-- nothing waits any more
pub all_met : (g : Graph) (texts met : Value) (stack : List (Bor Text)) → stack ≡ [] → GoesOn g texts met (stacked stack) → Meets g [] texts met
all_met g texts met stack ends h =
    subst (Meets g [] texts) (append-nil met) (h [] (subst (λ (s : List (Bor Text)). Meets g met (reverse (stacked s)) []) (sym ends) none))
