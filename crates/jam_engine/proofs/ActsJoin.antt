-- An act joins the first that it joins, which look-ups find, or stands at the end.
use Rattle.std.proofs.Common.{◌≡◌, ℕ, zero, suc, ◌+◌, ◌<◌, Bool, true, false, cond, ◌&&◌, List, [], ◌∷◌, ◌++◌, length, get_or, take, fold, Option, Some, None, refl, sym, ap, ap₂, ◌∙◌, subst, arith, append_assoc, append-nil, length-append}
use Rattle.std.specs.Prelude.{slice_get, unwrap_or}
use Rattle.std.specs.FinMap.{get, from_entries}
use Rattle.std.specs.List.{find, slice_set}
use Rattle.std.specs.Option.{option_map_or}
use Rattle.std.specs.Str.{bytes_eq}
use Rattle.std.proofs.lemmas.Bool.{true≢false}
use Rattle.std.proofs.lemmas.Option.{same_Some}
use Rattle.std.proofs.lemmas.Slice.Eq.{bytes_eq-Decides}
use Rattle.jam_journal.specs.Tables.{Text, Names}
use Rattle.jam_journal.specs.Scopes.{Value}
use Rattle.jam_scope.specs.Worlds.{World}
use Rattle.jam_graph.specs.declared.graph.Act.{Act}
use Rattle.jam_graph.proofs.ListsGrow.{taken}
use Rattle.jam_engine.specs.declared.joining.Joined.{Joined}
use Rattle.jam_engine.specs.Acts.{is_together_in, are_alike, same_texts, joins}
use Rattle.jam_engine.specs.Joining.{put_plainly, plainly_joined, begins, begins_with, together_at, AreJoined, is_alike_at}
use Rattle.jam_engine.specs.Tables.{HasOneMore}
use Rattle.jam_engine.proofs.NumbersGrow.{no_numbers}

-- ---- lists of texts

pub and_left : (a b : Bool) → (a && b) ≡ true → a ≡ true
and_left true b e = refl
and_left false b e = e

pub and_right : (a b : Bool) → (a && b) ≡ true → b ≡ true
and_right true b e = e
and_right false b e = absurd (true≢false (sym e))

both : (a b : Bool) → a ≡ true → b ≡ true → (a && b) ≡ true
both true b e f = f
both false b e f = absurd (true≢false (sym e))

pub texts_same : (xs : Value) → same_texts xs xs ≡ true
texts_same [] = refl
texts_same (x ∷ xs) = both (bytes_eq x x) (same_texts xs xs) ((bytes_eq-Decides x x).1 refl) (texts_same xs)

pub texts_are : (xs ys : Value) → same_texts xs ys ≡ true → xs ≡ ys
texts_are [] [] e = refl
texts_are [] (y ∷ ys) e = absurd (true≢false (sym e))
texts_are (x ∷ xs) [] e = absurd (true≢false (sym e))
texts_are (x ∷ xs) (y ∷ ys) e =
    ap₂ (λ (z : Text) (zs : Value). z ∷ zs) ((bytes_eq-Decides x y).0 (and_left (bytes_eq x y) (same_texts xs ys) e)) (texts_are xs ys (and_right (bytes_eq x y) (same_texts xs ys) e))

-- lists that differ are not the same
pub texts_differ : (xs ys : Value) → (xs ≡ ys → ⊥) → same_texts xs ys ≡ false
texts_differ xs ys other = go (same_texts xs ys) refl
  where
    go : (b : Bool) → same_texts xs ys ≡ b → same_texts xs ys ≡ false
    go true e = absurd (other (texts_are xs ys e))
    go false e = e

pub texts_step : (xs ys : Value) (i : ℕ) (x y : Text) → i < length xs → i < length ys → x ≡ get_or xs i x → y ≡ get_or ys i y → x ≡ y → same_texts (take i xs) (take i ys) ≡ true → same_texts (take (i + 1) xs) (take (i + 1) ys) ≡ true
texts_step xs ys i x y low low₁ is is₁ same h =
    subst (λ (l : Value). same_texts (take (i + 1) xs) l ≡ true)
    (sym (taken xs i x low is) ∙ ap₂ (λ (l : Value) (t : Text). l ++ t ∷ []) (texts_are (take i xs) (take i ys) h) same ∙ taken ys i y low₁ is₁) (texts_same (take (i + 1) xs))

-- ---- acts that are alike

alike_targets : (a b : Act) → are_alike a b ≡ true → a.targets ≡ b.targets
alike_targets a b e =
    texts_are a.targets b.targets (and_right (bytes_eq a.«module» b.«module») (same_texts a.targets b.targets) (and_right (bytes_eq a.name b.name) (bytes_eq a.«module» b.«module» && same_texts a.targets b.targets) e))

-- one of them may be joined where the other may
alike_together : (w : World) (a b : Act) → are_alike a b ≡ true → is_together_in w a ≡ is_together_in w b
alike_together w a b e =
    ap₂ (λ (o : Text) (n : Text). is_together_in w (record a { «module» = o; name = n })) (
    (bytes_eq-Decides a.«module» b.«module»).0 (and_left (bytes_eq a.«module» b.«module») (same_texts a.targets b.targets) (and_right (bytes_eq a.name b.name) (bytes_eq a.«module» b.«module» && same_texts a.targets b.targets) e))
    ) ((bytes_eq-Decides a.name b.name).0 (and_left (bytes_eq a.name b.name) (bytes_eq a.«module» b.«module» && same_texts a.targets b.targets) e))

-- an act that may not be joined stands at the end
pub put_alone : (w : World) (xs : List Act) (a : Act) → is_together_in w a ≡ false → put_plainly w xs a ≡ xs ++ a ∷ []
put_alone w [] a alone = refl
put_alone w (x ∷ xs) a alone = go (joins w x a) refl (put_alone w xs a alone)
  where
    go : (b : Bool) → joins w x a ≡ b → put_plainly w xs a ≡ xs ++ a ∷ [] → cond b (record x { sources = x.sources ++ a.sources } ∷ xs) (x ∷ put_plainly w xs a) ≡ x ∷ (xs ++ a ∷ [])
    go true e h =
        absurd (true≢false (sym (and_left (is_together_in w x) (are_alike x a) e) ∙ alike_together w x a (and_right (is_together_in w x) (are_alike x a) e) ∙ alone))
    go false e h = ap (λ (l : List Act). x ∷ l) h

-- ---- found by look-ups

abbrev with_more : Act → Act → Act
with_more x a = record x { sources = x.sources ++ a.sources }

front : (pre : List Act) (x : Act) (xs : List Act) → slice_get (pre ++ x ∷ xs) (length pre) ≡ Some x
front [] x xs = refl
front (y ∷ pre) x xs = front pre x xs

set_front : (pre : List Act) (x y : Act) (xs : List Act) → slice_set (pre ++ x ∷ xs) (length pre) y ≡ pre ++ y ∷ xs
set_front [] x y xs = refl
set_front (z ∷ pre) x y xs = ap (λ (l : List Act). z ∷ l) (set_front pre x y xs)

-- what comes of an act that was found at a place, or at none
abbrev Put : World → List Act → List Act → Act → Option ℕ → Type 0
Put w pre xs a None = put_plainly w xs a ≡ xs ++ a ∷ []
Put w pre xs a (Some place) = (x : Act) × (slice_get (pre ++ xs) place ≡ Some x) × (pre ++ put_plainly w xs a ≡ slice_set (pre ++ xs) place (with_more x a))

module _ (w : World) (a : Act) (target : Text) (more : Value) (begins_so : a.targets ≡ target ∷ more) where
  -- an act that is joined begins with the same target
  joined_begins : (x : Act) → are_alike x a ≡ true → begins_with target x ≡ true
  joined_begins x e = ap (begins target) (alike_targets x a e ∙ begins_so) ∙ (bytes_eq-Decides target target).1 refl

  put_later : (pre : List Act) (x : Act) (xs : List Act) (o : Option ℕ) → joins w x a ≡ false → Put w (pre ++ x ∷ []) xs a o → Put w pre (x ∷ xs) a o
  put_later pre x xs None other h = ap (λ b. cond b (with_more x a ∷ xs) (x ∷ put_plainly w xs a)) other ∙ ap (λ (l : List Act). x ∷ l) h
  put_later pre x xs (Some place) other (y, at, is) = (
    y,
    ap (λ (l : List Act). slice_get l place) (sym (append_assoc pre (x ∷ []) xs)) ∙ at,
    ap (λ b. pre ++ cond b (with_more x a ∷ xs) (x ∷ put_plainly w xs a)) other ∙ sym (append_assoc pre (x ∷ []) (put_plainly w xs a)) ∙ is
        ∙ ap (λ (l : List Act). slice_set l place (with_more y a)) (append_assoc pre (x ∷ []) xs),
  )

  found : (pre xs : List Act) → Put w pre xs a (find (is_alike_at (pre ++ xs) a) (together_at w (length pre) xs target))
  found pre [] = refl
  found pre (x ∷ xs) = by (is_together_in w x) (begins_with target x) (are_alike x a) refl refl refl (rest (found (pre ++ x ∷ []) xs))
    where
      longer : length (pre ++ x ∷ []) ≡ length pre + 1
      longer = length-append pre (x ∷ [])

      rest : Put w (pre ++ x ∷ []) xs a (find (is_alike_at ((pre ++ x ∷ []) ++ xs) a) (together_at w (length (pre ++ x ∷ [])) xs target)) → Put w (pre ++ x ∷ []) xs a (find (is_alike_at (pre ++ x ∷ xs) a) (together_at w (length pre + 1) xs target))
      rest h =
          subst (λ n. Put w (pre ++ x ∷ []) xs a (find (is_alike_at (pre ++ x ∷ xs) a) (together_at w n xs target))) longer
          (subst (λ (l : List Act). Put w (pre ++ x ∷ []) xs a (find (is_alike_at l a) (together_at w (length (pre ++ x ∷ [])) xs target))) (append_assoc pre (x ∷ []) xs) h)

      alike_here : is_alike_at (pre ++ x ∷ xs) a (length pre) ≡ are_alike x a
      alike_here = ap (λ o. option_map_or (λ one. are_alike one a) o false) (front pre x xs)

      by : (t b s : Bool) → is_together_in w x ≡ t → begins_with target x ≡ b → are_alike x a ≡ s
          → Put w (pre ++ x ∷ []) xs a (find (is_alike_at (pre ++ x ∷ xs) a) (together_at w (length pre + 1) xs target))
          → Put w pre (x ∷ xs) a (find (is_alike_at (pre ++ x ∷ xs) a) (cond (is_together_in w x && begins_with target x) (length pre ∷ together_at w (length pre + 1) xs target) (together_at w (length pre + 1) xs target)))
      by true true true e f k h =
          let here : is_alike_at (pre ++ x ∷ xs) a (length pre) ≡ true = alike_here ∙ k in
          subst (Put w pre (x ∷ xs) a)
          (sym (ap (λ u. find (is_alike_at (pre ++ x ∷ xs) a) (cond u (length pre ∷ together_at w (length pre + 1) xs target) (together_at w (length pre + 1) xs target))) (ap₂ (λ u v. u && v) e f)
          ∙ ap (λ u. cond u (Some (length pre)) (find (is_alike_at (pre ++ x ∷ xs) a) (together_at w (length pre + 1) xs target))) here))
          (x, front pre x xs, ap (λ u. pre ++ cond u (with_more x a ∷ xs) (x ∷ put_plainly w xs a)) (ap₂ (λ u v. u && v) e k) ∙ sym (set_front pre x (with_more x a) xs))
      by true true false e f k h =
          let here : is_alike_at (pre ++ x ∷ xs) a (length pre) ≡ false = alike_here ∙ k in
          subst (Put w pre (x ∷ xs) a)
          (sym (ap (λ u. find (is_alike_at (pre ++ x ∷ xs) a) (cond u (length pre ∷ together_at w (length pre + 1) xs target) (together_at w (length pre + 1) xs target))) (ap₂ (λ u v. u && v) e f)
          ∙ ap (λ u. cond u (Some (length pre)) (find (is_alike_at (pre ++ x ∷ xs) a) (together_at w (length pre + 1) xs target))) here))
          (put_later pre x xs (find (is_alike_at (pre ++ x ∷ xs) a) (together_at w (length pre + 1) xs target)) (ap₂ (λ u v. u && v) e k) h)
      by true false true e f k h = absurd (true≢false (sym (joined_begins x k) ∙ f))
      by true false false e f k h =
          subst (Put w pre (x ∷ xs) a)
          (sym (ap (λ u. find (is_alike_at (pre ++ x ∷ xs) a) (cond u (length pre ∷ together_at w (length pre + 1) xs target) (together_at w (length pre + 1) xs target))) (ap₂ (λ u v. u && v) e f)))
          (put_later pre x xs (find (is_alike_at (pre ++ x ∷ xs) a) (together_at w (length pre + 1) xs target)) (ap₂ (λ u v. u && v) e k) h)
      by false b s e f k h =
          subst (Put w pre (x ∷ xs) a)
          (sym (ap (λ u. find (is_alike_at (pre ++ x ∷ xs) a) (cond (u && begins_with target x) (length pre ∷ together_at w (length pre + 1) xs target) (together_at w (length pre + 1) xs target))) e))
          (put_later pre x xs (find (is_alike_at (pre ++ x ∷ xs) a) (together_at w (length pre + 1) xs target)) (ap (λ u. u && are_alike x a) e) h)

-- ---- the places of acts by their first targets

together_push : (w : World) (k : ℕ) (xs : List Act) (a : Act) (target : Text) → together_at w k (xs ++ a ∷ []) target ≡ together_at w k xs target ++ cond (is_together_in w a && begins_with target a) ((k + length xs) ∷ []) []
together_push w k [] a target = go (is_together_in w a && begins_with target a)
  where
    same : k ≡ k + 0
    same = omega arith

    go : (b : Bool) → cond b (k ∷ []) [] ≡ [] ++ cond b ((k + 0) ∷ []) []
    go true = ap (λ (n : ℕ). let made : List ℕ = n ∷ [] in made) same
    go false = refl
together_push w k (x ∷ xs) a target =
    ap (λ (ns : List ℕ). cond (is_together_in w x && begins_with target x) (k ∷ ns) ns) (together_push w (k + 1) xs a target ∙ ap (λ (n : ℕ). together_at w (k + 1) xs target ++ cond (is_together_in w a && begins_with target a) (n ∷ []) []) next)
    ∙ go (is_together_in w x && begins_with target x)
  where
    next : (k + 1) + length xs ≡ k + suc (length xs)
    next = omega arith

    last : List ℕ
    last = cond (is_together_in w a && begins_with target a) ((k + suc (length xs)) ∷ []) []

    go : (b : Bool) → cond b (k ∷ (together_at w (k + 1) xs target ++ last)) (together_at w (k + 1) xs target ++ last) ≡ cond b (k ∷ together_at w (k + 1) xs target) (together_at w (k + 1) xs target) ++ last
    go true = refl
    go false = refl

-- other sources change no place
together_set : (w : World) (k place : ℕ) (xs : List Act) (x : Act) (sources : Value) (target : Text) → slice_get xs place ≡ Some x → together_at w k (slice_set xs place (record x { sources = sources })) target ≡ together_at w k xs target
together_set w k place [] x sources target at = refl
together_set w k zero (y ∷ xs) x sources target at = ap (λ (z : Act). cond (is_together_in w z && begins_with target z) (k ∷ together_at w (k + 1) xs target) (together_at w (k + 1) xs target)) (sym (same_Some y x at))
together_set w k (suc place) (y ∷ xs) x sources target at =
    ap (λ (ns : List ℕ). cond (is_together_in w y && begins_with target y) (k ∷ ns) ns) (together_set w (k + 1) place xs x sources target at)

joined_more : (w : World) (before : List Act) (a : Act) → plainly_joined w (before ++ a ∷ []) ≡ put_plainly w (plainly_joined w before) a
joined_more w before a = go before []
  where
    go : (xs start : List Act) → fold (put_plainly w) start (xs ++ a ∷ []) ≡ put_plainly w (fold (put_plainly w) start xs) a
    go [] start = refl
    go (x ∷ xs) start = go xs (put_plainly w start x)

-- ---- one act more

-- nothing is joined yet
pub none_joined : (w : World) (joined : Joined) → joined.acts.items ≡ [] → joined.places ≡ from_entries [] → AreJoined w [] joined
none_joined w joined acts places = record {
  acts = acts;
  places = λ target. no_numbers joined.places target places ∙ sym (ap (λ (l : List Act). together_at w 0 l target) acts);
}

-- an act was found that it joins
pub joins_found : (w : World) (a : Act) (target : Text) (more : Value) (place : ℕ) (x : Act) (sources : Value) (before : List Act) (old new : Joined) → a.targets ≡ target ∷ more
    → Some place ≡ find (is_alike_at old.acts.items a) (together_at w 0 old.acts.items target) → slice_get old.acts.items place ≡ Some x → sources ≡ x.sources ++ a.sources
    → new.acts.items ≡ slice_set old.acts.items place (record x { sources = sources }) → new.places ≡ old.places → AreJoined w before old → AreJoined w (before ++ a ∷ []) new
joins_found w a target more place x sources before old new begins_so finds at sources_are sets places_are h = record {
  acts =
      sets ∙ ap (λ (s : Value). slice_set old.acts.items place (record x { sources = s })) sources_are
      ∙ ap (λ (y : Act). slice_set old.acts.items place (with_more y a)) (same_Some _ _ (sym at ∙ put.1)) ∙ sym put.2 ∙ ap (λ (l : List Act). put_plainly w l a) h.acts ∙ sym (joined_more w before a);
  places = λ t.
      ap (λ (m : Names (List ℕ)). unwrap_or (get m t) []) places_are ∙ h.places t ∙ sym (together_set w 0 place old.acts.items x sources t at) ∙ sym (ap (λ (l : List Act). together_at w 0 l t) sets);
}
  where
    put : Put w [] old.acts.items a (Some place)
    put = subst (Put w [] old.acts.items a) (sym finds) (found w a target more begins_so [] old.acts.items)

-- none was found
pub joins_none : (w : World) (a : Act) (target : Text) (more : Value) (before : List Act) (old new : Joined) → a.targets ≡ target ∷ more → is_together_in w a ≡ true
    → None ≡ find (is_alike_at old.acts.items a) (together_at w 0 old.acts.items target) → new.acts.items ≡ old.acts.items ++ a ∷ [] → HasOneMore target (length old.acts.items) old.places new.places
    → AreJoined w before old → AreJoined w (before ++ a ∷ []) new
joins_none w a target more before old new begins_so together finds pushes one_more h = record {
  acts = pushes ∙ sym put ∙ ap (λ (l : List Act). put_plainly w l a) h.acts ∙ sym (joined_more w before a);
  places = λ t. one_more t ∙ by t (bytes_eq t target) refl ∙ sym (ap (λ (l : List Act). together_at w 0 l t) pushes ∙ together_push w 0 old.acts.items a t);
}
  where
    put : Put w [] old.acts.items a None
    put = subst (Put w [] old.acts.items a) (sym finds) (found w a target more begins_so [] old.acts.items)

    count : 0 + length old.acts.items ≡ length old.acts.items
    count = omega arith

    test : (t : Text) → (is_together_in w a && begins_with t a) ≡ bytes_eq target t
    test t = ap₂ (λ b (l : Value). b && begins t l) together begins_so

    flip : (t : Text) (b : Bool) → bytes_eq t target ≡ b → bytes_eq target t ≡ b
    flip t true e = (bytes_eq-Decides target t).1 (sym ((bytes_eq-Decides t target).0 e))
    flip t false e = go (bytes_eq target t) refl
      where
        go : (c : Bool) → bytes_eq target t ≡ c → bytes_eq target t ≡ false
        go true f = absurd (true≢false (sym ((bytes_eq-Decides t target).1 (sym ((bytes_eq-Decides target t).0 f))) ∙ e))
        go false f = f

    by : (t : Text) (b : Bool) → bytes_eq t target ≡ b
        → cond (bytes_eq t target) (unwrap_or (get old.places t) [] ++ length old.acts.items ∷ []) (unwrap_or (get old.places t) [])
        ≡ together_at w 0 old.acts.items t ++ cond (is_together_in w a && begins_with t a) ((0 + length old.acts.items) ∷ []) []
    by t true e =
        ap (λ b. cond b (unwrap_or (get old.places t) [] ++ length old.acts.items ∷ []) (unwrap_or (get old.places t) [])) e
        ∙ ap₂ (λ (l : List ℕ) (n : ℕ). l ++ n ∷ []) (h.places t) (sym count)
        ∙ sym (ap (λ b. together_at w 0 old.acts.items t ++ cond b ((0 + length old.acts.items) ∷ []) []) (test t ∙ flip t true e))
    by t false e =
        ap (λ b. cond b (unwrap_or (get old.places t) [] ++ length old.acts.items ∷ []) (unwrap_or (get old.places t) [])) e
        ∙ h.places t ∙ sym (append-nil (together_at w 0 old.acts.items t))
        ∙ sym (ap (λ b. together_at w 0 old.acts.items t ++ cond b ((0 + length old.acts.items) ∷ []) []) (test t ∙ flip t false e))

-- an act that may not be joined
pub joins_alone : (w : World) (a : Act) (before : List Act) (old new : Joined) → is_together_in w a ≡ false → new.acts.items ≡ old.acts.items ++ a ∷ [] → new.places ≡ old.places → AreJoined w before old → AreJoined w (before ++ a ∷ []) new
joins_alone w a before old new alone pushes places_are h = record {
  acts = pushes ∙ sym (put_alone w old.acts.items a alone) ∙ ap (λ (l : List Act). put_plainly w l a) h.acts ∙ sym (joined_more w before a);
  places = λ t.
      ap (λ (m : Names (List ℕ)). unwrap_or (get m t) []) places_are ∙ h.places t ∙ sym (append-nil (together_at w 0 old.acts.items t))
      ∙ sym (ap (λ (l : List Act). together_at w 0 l t) pushes ∙ together_push w 0 old.acts.items a t
      ∙ ap (λ b. together_at w 0 old.acts.items t ++ cond (b && begins_with t a) ((0 + length old.acts.items) ∷ []) []) alone);
}
