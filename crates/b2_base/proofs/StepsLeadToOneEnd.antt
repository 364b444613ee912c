-- Steps to simpler lists of segments shorten them and end only at what is kept of them; for normal paths.
use Rattle.std.proofs.Common.{◌≡◌, ◌≢◌, ℕ, ◌+◌, ◌<◌, ◌≤◌, Bool, true, false, cond, ◌||◌, ◌⊎◌, inl, inr, List, [], ◌∷◌, ◌++◌, codes, length, suc, reverse, fold, refl, ap, sym, ◌∙◌, subst, append_assoc, arith, length-append}
use Rattle.std.proofs.lemmas.Bool.{true≢false}
use Rattle.std.specs.List.{AllByRecursion}
use Rattle.std.proofs.lemmas.List.{append-nil, reverse-append, length-reverse}
use Rattle.std.proofs.lemmas.List.Sums.{fold-append}
use Rattle.std.proofs.lemmas.Slice.Eq.{bytes_eq-Decides}
use Rattle.std.specs.Str.{bytes_eq}
use Rattle.b2_base.specs.Segments.{is_dropped, is_up, climb, step, kept}
use Rattle.b2_base.specs.Simpler.{IsEntry, Simpler, blank, dot, back, leading, Reaches, here, onward, IsSimplest}
use Rattle.b2_base.proofs.NormalMakesNormalForms.{two_dots, all_climb}

-- ---- the tests of a segment

not_up_test : (s : List ℕ) → s ≢ two_dots → (u : Bool) → is_up s ≡ u → is_up s ≡ false
not_up_test s h true e = absurd (h ((bytes_eq-Decides s two_dots).0 e))
not_up_test s h false e = e

entry_is_not_up : (s : List ℕ) → IsEntry s → is_up s ≡ false
entry_is_not_up s n = not_up_test s n.not_up (is_up s) refl

dropped_is : (s : List ℕ) → is_dropped s ≡ true → (s ≡ []) ⊎ (s ≡ codes ".")
dropped_is s e = go (bytes_eq s []) (bytes_eq s (codes ".")) refl refl e
  where
    go : (x y : Bool) → bytes_eq s [] ≡ x → bytes_eq s (codes ".") ≡ y → (x || y) ≡ true → (s ≡ []) ⊎ (s ≡ codes ".")
    go true y p q r = inl ((bytes_eq-Decides s []).0 p)
    go false true p q r = inr ((bytes_eq-Decides s (codes ".")).0 q)
    go false false p q r = absurd (true≢false (sym r))

entry_is_shown : (s : List ℕ) → IsEntry s → is_dropped s ≡ false
entry_is_shown s n = go (is_dropped s) refl
  where
    go : (d : Bool) → is_dropped s ≡ d → is_dropped s ≡ false
    go true e = elim (dropped_is s e) [ inl same ↦ absurd (n.not_empty same) | inr same ↦ absurd (n.not_dot same) ]
    go false e = e

is_entry : (s : List ℕ) → is_dropped s ≡ false → is_up s ≡ false → IsEntry s
is_entry s shown name = record {
  not_empty = λ e. true≢false (sym (ap is_dropped e) ∙ shown);
  not_dot = λ e. true≢false (sym (ap is_dropped e) ∙ shown);
  not_up = λ e. true≢false (sym (ap is_up e) ∙ name);
}

-- ---- a step changes nothing of what is kept

push_name : (rooted : Bool) (found : List (List ℕ)) (name : List ℕ) → IsEntry name → step rooted found name ≡ name ∷ found
push_name rooted found name n =
    ap (λ d. cond d found (cond (is_up name) (climb rooted found name) (name ∷ found))) (entry_is_shown name n)
    ∙ ap (λ u. cond u (climb rooted found name) (name ∷ found)) (entry_is_not_up name n)

pop_name : (rooted : Bool) (found : List (List ℕ)) (name : List ℕ) → IsEntry name → step rooted (step rooted found name) two_dots ≡ found
pop_name rooted found name n =
    ap (λ f. step rooted f two_dots) (push_name rooted found name n)
    ∙ ap (λ u. cond u (two_dots ∷ name ∷ found) found) (entry_is_not_up name n)

fold_same : (rooted : Bool) (a b : List (List ℕ)) → Simpler rooted a b → fold (step rooted) [] a ≡ fold (step rooted) [] b
fold_same rooted a b (blank before after) = fold-append (step rooted) [] before ([] ∷ after) ∙ sym (fold-append (step rooted) [] before after)
fold_same rooted a b (dot before after) = fold-append (step rooted) [] before (codes "." ∷ after) ∙ sym (fold-append (step rooted) [] before after)
fold_same rooted a b (back before name after n) =
    fold-append (step rooted) [] before (name ∷ two_dots ∷ after)
    ∙ ap (λ f. fold (step rooted) f after) (pop_name rooted (fold (step rooted) [] before) name n)
    ∙ sym (fold-append (step rooted) [] before after)
fold_same rooted a b (leading after root) = ap (λ r. fold (step rooted) (cond r [] (two_dots ∷ [])) after) root

pub kept_same : (rooted : Bool) (a b : List (List ℕ)) → Reaches rooted a b → kept rooted a ≡ kept rooted b
kept_same rooted a b (here segments) = refl
kept_same rooted a b (onward from next to first more) = ap reverse (fold_same rooted from next first) ∙ kept_same rooted next to more

-- ---- each step shortens the list

shorter_by : (before longer after : List (List ℕ)) → length after < length longer → length (before ++ after) < length (before ++ longer)
shorter_by before longer after h = omega (arith, h, length-append before longer, length-append before after)

pub step_shortens : (rooted : Bool) (a b : List (List ℕ)) → Simpler rooted a b → length b < length a
step_shortens rooted a b (blank before after) = shorter_by before ([] ∷ after) after (omega arith)
step_shortens rooted a b (dot before after) = shorter_by before (codes "." ∷ after) after (omega arith)
step_shortens rooted a b (back before name after n) = shorter_by before (name ∷ two_dots ∷ after) after (omega arith)
step_shortens rooted a b (leading after root) = omega arith

climb_length : (rooted : Bool) (found : List (List ℕ)) (up : List ℕ) → length (climb rooted found up) ≤ suc (length found)
climb_length true [] up = omega arith
climb_length false [] up = omega arith
climb_length rooted (top ∷ below) up = elim (is_up top) as (λ u. length (cond u (up ∷ top ∷ below) below) ≤ suc (suc (length below))) [ true ↦ omega arith | false ↦ omega arith ]

step_length : (rooted : Bool) (found : List (List ℕ)) (s : List ℕ) → length (step rooted found s) ≤ suc (length found)
step_length rooted found s =
    elim (is_dropped s) as (λ d. length (cond d found (cond (is_up s) (climb rooted found s) (s ∷ found))) ≤ suc (length found)) [
      | true ↦ omega arith
      | false ↦ elim (is_up s) as (λ u. length (cond u (climb rooted found s) (s ∷ found)) ≤ suc (length found)) [ true ↦ climb_length rooted found s | false ↦ omega arith ]
    ]

fold_length : (rooted : Bool) (found cuts : List (List ℕ)) → length (fold (step rooted) found cuts) ≤ length found + length cuts
fold_length rooted found [] = omega arith
fold_length rooted found (s ∷ cuts) = omega (arith, step_length rooted found s, fold_length rooted (step rooted found s) cuts)

-- what is kept of a list is no longer than it
kept_length : (rooted : Bool) (a : List (List ℕ)) → length (kept rooted a) ≤ length a
kept_length rooted a = omega (arith, length-reverse (fold (step rooted) [] a), fold_length rooted [] a)

-- no step leads on from a list that is kept whole
pub stays_simplest : (rooted : Bool) (a : List (List ℕ)) → kept rooted a ≡ a → IsSimplest rooted a
stays_simplest rooted a whole next first =
    let same : length (kept rooted a) ≡ length (kept rooted next) = ap (λ f. length (reverse f)) (fold_same rooted a next first) in
    let all : length (kept rooted a) ≡ length a = ap length whole in
    omega (arith, same, all, kept_length rooted next, step_shortens rooted a next first)

-- ---- what is kept is reached by steps

abbrev AllShown : List (List ℕ) → Type 0
AllShown = AllByRecursion (λ s. is_dropped s ≡ false)

-- the segments so far, and then one more
next_on : (found : List (List ℕ)) (s : List ℕ) (cuts : List (List ℕ)) → reverse (s ∷ found) ++ cuts ≡ reverse found ++ s ∷ cuts
next_on found s cuts = ap (λ r. r ++ cuts) (reverse-append (s ∷ []) found) ∙ append_assoc (reverse found) (s ∷ []) cuts

no_step : (rooted : Bool) (a b to : List (List ℕ)) → b ≡ a → Reaches rooted b to → Reaches rooted a to
no_step rooted a b to same more = subst (λ from. Reaches rooted from to) same more

-- a `..` is taken in by at most one step
climb_reaches : (rooted : Bool) (found cuts to : List (List ℕ)) → AllShown found → Reaches rooted (reverse (climb rooted found two_dots) ++ cuts) to → Reaches rooted (reverse found ++ two_dots ∷ cuts) to
climb_reaches true [] cuts to a more = onward (two_dots ∷ cuts) cuts to (leading cuts refl) more
climb_reaches false [] cuts to a more = more
climb_reaches rooted (top ∷ below) cuts to a more = go (is_up top) refl more
  where
    go : (u : Bool) → is_up top ≡ u → Reaches rooted (reverse (cond u (two_dots ∷ top ∷ below) below) ++ cuts) to → Reaches rooted (reverse (top ∷ below) ++ two_dots ∷ cuts) to
    go true e more = no_step rooted (reverse (top ∷ below) ++ two_dots ∷ cuts) (reverse (two_dots ∷ top ∷ below) ++ cuts) to (next_on (top ∷ below) two_dots cuts) more
    go false e more =
        no_step rooted (reverse (top ∷ below) ++ two_dots ∷ cuts) (reverse below ++ top ∷ two_dots ∷ cuts) to (sym (next_on below top (two_dots ∷ cuts)))
        (onward (reverse below ++ top ∷ two_dots ∷ cuts) (reverse below ++ cuts) to (back (reverse below) top cuts (is_entry top a.0 e)) more)

-- so is each segment
step_reaches : (rooted : Bool) (found : List (List ℕ)) (s : List ℕ) (cuts to : List (List ℕ)) → AllShown found → Reaches rooted (reverse (step rooted found s) ++ cuts) to → Reaches rooted (reverse found ++ s ∷ cuts) to
step_reaches rooted found s cuts to a = go (is_dropped s) refl
  where
    drop_one : (s ≡ []) ⊎ (s ≡ codes ".") → Simpler rooted (reverse found ++ s ∷ cuts) (reverse found ++ cuts)
    drop_one (inl same) = subst (λ t. Simpler rooted (reverse found ++ t ∷ cuts) (reverse found ++ cuts)) (sym same) (blank (reverse found) cuts)
    drop_one (inr same) = subst (λ t. Simpler rooted (reverse found ++ t ∷ cuts) (reverse found ++ cuts)) (sym same) (dot (reverse found) cuts)

    up : (u : Bool) → is_up s ≡ u → Reaches rooted (reverse (cond u (climb rooted found s) (s ∷ found)) ++ cuts) to → Reaches rooted (reverse found ++ s ∷ cuts) to
    up true e more =
        let dots : s ≡ two_dots = (bytes_eq-Decides s two_dots).0 e in
        subst (λ t. Reaches rooted (reverse found ++ t ∷ cuts) to) (sym dots) (climb_reaches rooted found cuts to a (subst (λ t. Reaches rooted (reverse (climb rooted found t) ++ cuts) to) dots more))
    up false e more = no_step rooted (reverse found ++ s ∷ cuts) (reverse (s ∷ found) ++ cuts) to (next_on found s cuts) more

    go : (d : Bool) → is_dropped s ≡ d → Reaches rooted (reverse (cond d found (cond (is_up s) (climb rooted found s) (s ∷ found))) ++ cuts) to → Reaches rooted (reverse found ++ s ∷ cuts) to
    go true e more = onward (reverse found ++ s ∷ cuts) (reverse found ++ cuts) to (drop_one (dropped_is s e)) more
    go false e more = up (is_up s) refl more

shown_step : (rooted : Bool) (found : List (List ℕ)) (s : List ℕ) → AllShown found → AllShown (step rooted found s)
shown_step rooted found s a = go (is_dropped s) refl
  where
    go : (d : Bool) → is_dropped s ≡ d → AllShown (cond d found (cond (is_up s) (climb rooted found s) (s ∷ found)))
    go true e = a
    go false e = elim (is_up s) as (λ u. AllShown (cond u (climb rooted found s) (s ∷ found))) [ true ↦ all_climb (λ t. is_dropped t ≡ false) rooted found s e a | false ↦ (e, a) ]

fold_reaches : (rooted : Bool) (found cuts : List (List ℕ)) → AllShown found → Reaches rooted (reverse found ++ cuts) (reverse (fold (step rooted) found cuts))
fold_reaches rooted found [] a = no_step rooted (reverse found ++ []) (reverse found) (reverse found) (sym (append-nil (reverse found))) (here (reverse found))
fold_reaches rooted found (s ∷ cuts) a = step_reaches rooted found s cuts (reverse (fold (step rooted) (step rooted found s) cuts)) a (fold_reaches rooted (step rooted found s) cuts (shown_step rooted found s a))

pub kept_reached : (rooted : Bool) (a : List (List ℕ)) → Reaches rooted a (kept rooted a)
kept_reached rooted a = fold_reaches rooted [] a tt

-- ---- the only end

pub kept_simplest : (rooted : Bool) (a : List (List ℕ)) → IsSimplest rooted (kept rooted a)
kept_simplest rooted a = stays_simplest rooted (kept rooted a) (sym (kept_same rooted a (kept rooted a) (kept_reached rooted a)))

no_further : (rooted : Bool) (a b : List (List ℕ)) → Reaches rooted a b → IsSimplest rooted a → a ≡ b
no_further rooted a b (here segments) h = refl
no_further rooted a b (onward from next to first more) h = absurd (h next first)

pub simplest_is_kept : (rooted : Bool) (a : List (List ℕ)) → IsSimplest rooted a → a ≡ kept rooted a
simplest_is_kept rooted a h = no_further rooted a (kept rooted a) (kept_reached rooted a) h

-- where steps end there stands what is kept
pub end_is_kept : (rooted : Bool) (a b : List (List ℕ)) → Reaches rooted a b → IsSimplest rooted b → b ≡ kept rooted a
end_is_kept rooted a b r h = simplest_is_kept rooted b h ∙ sym (kept_same rooted a b r)

pub one_end : (rooted : Bool) (a b c : List (List ℕ)) → Reaches rooted a b → Reaches rooted a c → IsSimplest rooted b → IsSimplest rooted c → b ≡ c
one_end rooted a b c r q h k = end_is_kept rooted a b r h ∙ sym (end_is_kept rooted a c q k)
