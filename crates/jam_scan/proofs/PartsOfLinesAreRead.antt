-- What the parts of a line are, of which an include is put together.
use Rattle.std.proofs.Common.{◌≡◌, ℕ, ◌+◌, eqb, ltb, Bool, true, false, not, cond, ◌&&◌, List, [], ◌∷◌, ◌++◌, length, take, drop, get_or, All, Option, Some, None, MatchOption, option_map, refl, sym, ap, subst, ◌∙◌, arith, add_comm, add-one, ◌||◌}
use Rattle.std.specs.Borrow.{Bor}
use Rattle.std.specs.List.{prefix_len, position_or_len, before_first, list_any, list_all}
use Rattle.std.specs.Str.{is_utf8, bytes_eq}
use Rattle.std.proofs.lemmas.Bool.{and_parts, and_from, not-true, not_from_false, ltb-true, lt-ltb, eqb-true, eqb-false, eq-eqb, ne_eqb, false_from_ne_true}
use Rattle.std.proofs.lemmas.List.{take_at, drop_at, take-append-drop, get_or_default}
use Rattle.std.proofs.lemmas.List.Folds.{list_any_at, list_any_none}
use Rattle.std.proofs.lemmas.List.Sums.{AllPass-from_list_all, list_all-from_AllPass, position_or_len_is}
use Rattle.std.proofs.lemmas.Slice.Eq.{bytes_eq-Decides}
use Rattle.std.proofs.lemmas.Str.{IsUtf8-from_is_utf8, is_utf8-from_IsUtf8}
use Rattle.memchr.specs.Find.{Nowhere, NoneBefore, Passes, is_byte}
use Rattle.b2_base.specs.Bytes.{Lacks}
use Rattle.jam_scan.specs.IncludeLines.{IsName, is_blank, after_blanks, after_word, before_sign, is_name}

-- ---- a word at the front

pub word_read : (word text : List ℕ) (r : Option (Bor (List ℕ))) → MatchOption r (bytes_eq (take (length word) text) word ≡ false) (λ x. (bytes_eq (take (length word) text) word ≡ true) × (x.now ≡ drop (length word) text) × (length x.now + length word ≡ length text)) → option_map (λ rest. rest.now) r ≡ after_word word text
unfolding after_word
word_read word text None h = sym (ap (λ b. cond b (Some (drop (length word) text)) None) h)
word_read word text (Some x) h = ap Some h.1 ∙ sym (ap (λ b. cond b (Some (drop (length word) text)) None) h.0)

pub word_there : (word rest : List ℕ) → after_word word (word ++ rest) ≡ Some rest
unfolding after_word
word_there word rest =
    ap (λ b. cond b (Some (drop (length word) (word ++ rest))) None) ((bytes_eq-Decides (take (length word) (word ++ rest)) word).1 (take_at word rest (length word) refl))
    ∙ ap Some (drop_at word rest (length word) refl)

pub word_tells : (word text rest : List ℕ) → after_word word text ≡ Some rest → text ≡ word ++ rest
unfolding after_word
word_tells word text rest = go (bytes_eq (take (length word) text) word) refl
  where
    go : (b : Bool) → bytes_eq (take (length word) text) word ≡ b → cond b (Some (drop (length word) text)) None ≡ Some rest → text ≡ word ++ rest
    go true same e =
        let front : take (length word) text ≡ word = (bytes_eq-Decides (take (length word) text) word).0 same in
        let left : drop (length word) text ≡ rest = cc in
        sym (take-append-drop (length word) text) ∙ ap (λ f. f ++ drop (length word) text) front ∙ ap (λ r. word ++ r) left
    go false same e = cc

-- ---- blanks at the front

pub blanks_over : (front : List ℕ) (next : ℕ) (rest : List ℕ) → All (λ byte. is_blank byte ≡ true) front → is_blank next ≡ false → after_blanks (front ++ next ∷ rest) ≡ next ∷ rest
blanks_over front next rest blank stops = drop_at front (next ∷ rest) (prefix_len is_blank (front ++ next ∷ rest)) (sym (counted front (list_all-from_AllPass is_blank front blank)))
  where
    counted : (front : List ℕ) → list_all is_blank front ≡ true → prefix_len is_blank (front ++ next ∷ rest) ≡ length front
    counted [] h = ap (λ b. cond b (1 + prefix_len is_blank rest) 0) stops
    counted (x ∷ xs) h =
        let parts = and_parts (is_blank x) (list_all is_blank xs) h in
        ap (λ b. cond b (1 + prefix_len is_blank (xs ++ next ∷ rest)) 0) parts.0 ∙ omega (arith, counted xs parts.1)

-- the blanks at the front
pub front_blanks : List ℕ → List ℕ
front_blanks text = take (prefix_len is_blank text) text

pub blanks_before : (text : List ℕ) → text ≡ front_blanks text ++ after_blanks text
unfolding front_blanks
blanks_before text = sym (take-append-drop (prefix_len is_blank text) text)

-- each element of the front that passes a test passes it
front_passes : (p : ℕ → Bool) (text : List ℕ) → list_all p (take (prefix_len p text) text) ≡ true
front_passes p [] = refl
front_passes p (x ∷ xs) = go (p x) refl (front_passes p xs)
  where
    go : (b : Bool) → p x ≡ b → list_all p (take (prefix_len p xs) xs) ≡ true → list_all p (take (cond b (1 + prefix_len p xs) 0) (x ∷ xs)) ≡ true
    go true e more = rw (add_comm 1 (prefix_len p xs), add-one) (and_from (p x) (list_all p (take (prefix_len p xs) xs)) e more)
    go false e more = refl

pub blanks_blank : (text : List ℕ) → All (λ byte. is_blank byte ≡ true) (front_blanks text)
unfolding front_blanks
blanks_blank text = AllPass-from_list_all is_blank (take (prefix_len is_blank text) text) (front_passes is_blank text)

-- ---- what stands before a sign

pub sign_place : (sign : ℕ) (text : List ℕ) (k : ℕ) → NoneBefore (Passes (is_byte sign) text) 0 (length text) k → Passes (is_byte sign) text k → position_or_len (λ byte. eqb byte sign) text ≡ k
sign_place sign text k first here = position_or_len_is (λ byte. eqb byte sign) text k 0 (omega (arith, first.high)) (λ j l. false_from_ne_true _ (first.before j (omega arith) l)) (λ _. here)

pub sign_read : (sign : ℕ) (text : List ℕ) (k : ℕ) → NoneBefore (Passes (is_byte sign) text) 0 (length text) k → Passes (is_byte sign) text k → before_sign sign text ≡ Some (take k text)
unfolding before_sign
sign_read sign text k first here =
    ap (λ b. cond b (Some (before_first (λ byte. eqb byte sign) text)) None) (list_any_at (λ byte. eqb byte sign) text k 0 first.high here)
    ∙ ap (λ n. Some (take n text)) (sign_place sign text k first here)

pub sign_nowhere : (sign : ℕ) (text : List ℕ) → Nowhere (Passes (is_byte sign) text) 0 (length text) → list_any (λ byte. eqb byte sign) text ≡ false
sign_nowhere sign text none = list_any_none (λ byte. eqb byte sign) text (λ k d l. ap (λ byte. eqb byte sign) (get_or_default text k d 0 l) ∙ false_from_ne_true _ (none k (omega arith) l))

pub sign_not_read : (sign : ℕ) (text : List ℕ) → Nowhere (Passes (is_byte sign) text) 0 (length text) → before_sign sign text ≡ None
unfolding before_sign
sign_not_read sign text none = ap (λ b. cond b (Some (before_first (λ byte. eqb byte sign) text)) None) (sign_nowhere sign text none)

pub sign_there : (sign : ℕ) (front rest : List ℕ) → Lacks sign front → before_sign sign (front ++ sign ∷ rest) ≡ Some front
unfolding before_sign
sign_there sign front rest lacks =
    ap (λ b. cond b (Some (before_first (λ byte. eqb byte sign) (front ++ sign ∷ rest))) None) (found front)
    ∙ ap (λ n. Some (take n (front ++ sign ∷ rest))) (counted front lacks) ∙ ap Some (take_at front (sign ∷ rest) (length front) refl)
  where
    found : (front : List ℕ) → list_any (λ byte. eqb byte sign) (front ++ sign ∷ rest) ≡ true
    found [] = rw (eq-eqb sign sign refl) refl
    found (x ∷ xs) = rw (found xs) (grind arith)

    counted : (front : List ℕ) → Lacks sign front → position_or_len (λ byte. eqb byte sign) (front ++ sign ∷ rest) ≡ length front
    counted [] h = rw (eq-eqb sign sign refl) refl
    counted (x ∷ xs) h = rw (ne_eqb x sign h.0) (omega (arith, counted xs h.1))

-- the text stands before the first such sign
pub record EndsAt (sign : ℕ) (text front : List ℕ) : Type 0 where
  pub rest : List ℕ
  pub text_is : text ≡ front ++ sign ∷ rest
  pub lacks : Lacks sign front

-- the text before the first such sign, one element more
one_before : (sign x : ℕ) (xs front : List ℕ) → before_sign sign (x ∷ xs) ≡ Some front → ((more : List ℕ) → before_sign sign xs ≡ Some more → EndsAt sign xs more) → EndsAt sign (x ∷ xs) front
unfolding before_sign
one_before sign x xs front e more = go (eqb x sign) (list_any p xs) refl refl e
  where
    p : ℕ → Bool
    p = λ byte. eqb byte sign

    go : (b c : Bool) → eqb x sign ≡ b → list_any p xs ≡ c → cond (b || c) (Some (take (cond (not b) (1 + position_or_len p xs) 0) (x ∷ xs))) None ≡ Some front → EndsAt sign (x ∷ xs) front
    go true c here there e =
        let none : [] ≡ front = cc in
        record {
          rest = xs;
          text_is = ap (λ y. y ∷ xs) (eqb-true x sign here) ∙ ap (λ f. f ++ sign ∷ xs) none;
          lacks = subst (Lacks sign) none tt;
        }
    go false true here there e =
        let front_is : x ∷ before_first p xs ≡ front = let f : Some (take (1 + position_or_len p xs) (x ∷ xs)) ≡ Some (x ∷ before_first p xs) = rw (add_comm 1 (position_or_len p xs), add-one) refl in cc in
        let tail = more (before_first p xs) (ap (λ b. cond b (Some (before_first p xs)) None) there) in
        subst (EndsAt sign (x ∷ xs)) front_is (record { rest = tail.rest; text_is = ap (λ l. x ∷ l) tail.text_is; lacks = (eqb-false x sign here, tail.lacks) })
    go false false here there e = cc

none_before : (sign : ℕ) (front : List ℕ) → before_sign sign [] ≡ Some front → ⊥
unfolding before_sign
none_before sign front e = cc

pub sign_tells : (sign : ℕ) (text front : List ℕ) → before_sign sign text ≡ Some front → EndsAt sign text front
sign_tells sign [] front e = absurd (none_before sign front e)
sign_tells sign (x ∷ xs) front e = one_before sign x xs front e (sign_tells sign xs)

-- ---- names

pub name_tells : (name : List ℕ) → is_name name ≡ true → IsName name
unfolding is_name
name_tells name e =
    let both = and_parts (is_utf8 name && not (bytes_eq name [])) (list_all (λ byte. ltb 0 byte) name) e in
    let first = and_parts (is_utf8 name) (not (bytes_eq name [])) both.0 in
    record {
      utf8 = IsUtf8-from_is_utf8 name first.0;
      not_empty = λ none. let is : bytes_eq name [] ≡ true = (bytes_eq-Decides name []).1 none in let is_not : bytes_eq name [] ≡ false = not-true (bytes_eq name []) first.1 in cc;
      no_zero = λ k d l. ltb-true 0 (get_or name k d) (AllPass-from_list_all (λ byte. ltb 0 byte) name both.1 k d l);
    }

pub name_so : (name : List ℕ) → IsName name → is_name name ≡ true
unfolding is_name
name_so name n =
    and_from (is_utf8 name && not (bytes_eq name [])) (list_all (λ byte. ltb 0 byte) name)
    (and_from (is_utf8 name) (not (bytes_eq name [])) (is_utf8-from_IsUtf8 name n.utf8) (not_from_false (bytes_eq name []) (false_from_ne_true (bytes_eq name []) (λ e. n.not_empty ((bytes_eq-Decides name []).0 e)))))
    (list_all-from_AllPass (λ byte. ltb 0 byte) name (λ k d l. lt-ltb 0 (get_or name k d) (n.no_zero k d l)))

pub name_not : (name : List ℕ) → (IsName name → ⊥) → is_name name ≡ false
name_not name no_name = false_from_ne_true (is_name name) (λ e. no_name (name_tells name e))
