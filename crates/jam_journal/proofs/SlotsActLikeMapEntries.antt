-- Slots at the places of argument lists change as a map does at the names of these places: for rows with slots.
use Rattle.std.proofs.Common.{Bor, String, Global, drop, ◌≡◌, ◌≢◌, ℕ, zero, suc, ◌+◌, ◌-◌, ◌<◌, ◌≤◌, ◌==◌, true, false, Bool, cond, ◌&&◌, nat_lt, List, [], ◌∷◌, ◌++◌, length, slice_index_or, slice_set, Option, Some, None, is_some, Result, Ok, Err, OnErr, string_bytes, refl, sym, ap, subst, ◌∙◌, arith}
use Rattle.std.specs.declared.cmp.Ordering.{Ordering}
use Rattle.std.specs.declared.cmp.Ordering.TheVariants.{Less, Equal, Greater}
use Rattle.std.specs.List.{insert}
use Rattle.std.specs.Option.{unwrap_or}
use Rattle.std.specs.Ordering.{nat_cmp, is_lt, is_eq, ordering_reverse}
use Rattle.std.specs.Cmp.Lexicographic.{slice_cmp}
use Rattle.std.specs.Str.{bytes_eq}
use Rattle.std.specs.FinMap.{get, empty, entries, get-empty, get-entries, entries-insert}
use Rattle.std.specs.FinMap.Entries.{find, put, by_order}
use Rattle.std.proofs.lemmas.Bool.Decides.{Decides-ltb, Decides-eqb}
use Rattle.std.proofs.lemmas.Cmp.{nat_list_cmp_total}
use Rattle.std.proofs.lemmas.List.{at_drop_more, at_drop_all}
use Rattle.std.proofs.lemmas.Slice.Eq.{bytes_eq-Decides}
use Rattle.jam_journal.specs.declared.slots.Slot.{Slot}
use Rattle.jam_journal.specs.Tables.{Text, Names, put_name, back_name, lent_row}
use Rattle.jam_journal.specs.Slots.{slot_of, slot_name, fixed_name, slot_value, with_value, back_value, with_slots, with_entry, with_entries, smaller, AreSlots, AreApart, IsGrown}
use Rattle.jam_journal.proofs.ReplacingTouchesOneName.{same_names, get_put_name, back_none}

-- ---- the names of places

both : (a b : Bool) → (a && b) ≡ true → (a ≡ true) × (b ≡ true)
both true b e = (refl, e)
both false b e = cc

some_is : (a b : ℕ) → Some a ≡ Some b → a ≡ b
some_is a b e = ap (λ o. unwrap_or o a) e

-- a name that has a place is the name of this place
pub placed : (name : Text) (place : ℕ) → slot_of name ≡ Some place → (name ≡ slot_name place) × (place < 14)
placed [] place e = cc
placed (byte ∷ []) place e = by (nat_lt 48 byte && nat_lt byte 63) refl e
  where
    by : (t : Bool) → (nat_lt 48 byte && nat_lt byte 63) ≡ t → cond t (Some (byte - 49)) None ≡ Some place → (byte ∷ [] ≡ slot_name place) × (place < 14)
    by true h e =
        let two = both (nat_lt 48 byte) (nat_lt byte 63) h in
        let low : 48 < byte = (Decides-ltb 48 byte).0 two.0 in
        let high : byte < 63 = (Decides-ltb byte 63).0 two.1 in
        let is : byte - 49 ≡ place = some_is (byte - 49) place e in
        let there : byte ≡ 49 + place = omega arith in
        (ap (λ b. b ∷ []) there, omega arith)
    by false h e = cc
placed (byte ∷ more ∷ bytes) place e = cc

-- the name of a place has this place
pub name_placed : (place : ℕ) → place < 14 → slot_of (slot_name place) ≡ Some place
name_placed place h =
    let low : nat_lt 48 (49 + place) ≡ true = (Decides-ltb 48 (49 + place)).1 (omega arith) in
    let high : nat_lt (49 + place) 63 ≡ true = (Decides-ltb (49 + place) 63).1 (omega arith) in
    (λ i. cond (low i && high i) (Some (49 + place - 49)) None) ∙ ap (λ n. Some n) (omega arith)

pub fixed_is : (place : ℕ) → place < 14 → fixed_name place ≡ slot_name place
fixed_is place h = ap (λ b. cond b (slot_name place) []) ((Decides-ltb place 14).1 h)

unequal : (a b : ℕ) → a ≢ b → (a == b) ≡ false
unequal a b h = by (a == b) refl
  where
    by : (t : Bool) → (a == b) ≡ t → t ≡ false
    by true e = absurd (h ((Decides-eqb a b).0 e))
    by false e = refl

later : (p r : ℕ) → (suc r == suc p) ≡ (r == p)
later p r = by (suc r == suc p) (r == p) refl refl
  where
    by : (s t : Bool) → (suc r == suc p) ≡ s → (r == p) ≡ t → s ≡ t
    by true true e f = refl
    by false false e f = refl
    by true false e f =
        let same : suc r ≡ suc p = (Decides-eqb (suc r) (suc p)).0 e in
        sym ((Decides-eqb r p).1 (omega arith)) ∙ f
    by false true e f = sym e ∙ (Decides-eqb (suc r) (suc p)).1 (ap (λ n. suc n) ((Decides-eqb r p).0 f))

abbrev first_byte : Text → ℕ
first_byte [] = 0
first_byte (byte ∷ bytes) = byte

-- the names of two places
pub places_apart : (p n : ℕ) → p ≢ n → bytes_eq (slot_name p) (slot_name n) ≡ false
places_apart p n h = by (bytes_eq (slot_name p) (slot_name n)) refl
  where
    by : (t : Bool) → bytes_eq (slot_name p) (slot_name n) ≡ t → t ≡ false
    by true e =
        let same : 49 + p ≡ 49 + n = ap first_byte ((bytes_eq-Decides (slot_name p) (slot_name n)).0 e) in
        absurd (h (omega arith))
    by false e = refl

-- a name without a place is none of theirs
pub not_placed : (name : Text) (n : ℕ) → n < 14 → slot_of name ≡ None → bytes_eq name (slot_name n) ≡ false
not_placed name n low h = by (bytes_eq name (slot_name n)) refl
  where
    by : (t : Bool) → bytes_eq name (slot_name n) ≡ t → t ≡ false
    by true e = let two : Some n ≡ None = sym (name_placed n low) ∙ ap slot_of (sym ((bytes_eq-Decides name (slot_name n)).0 e)) ∙ h in cc
    by false e = refl

-- names with and without a place differ
pub kinds_apart : (q name : Text) (o : Option ℕ) → slot_of q ≡ o → slot_of name ≢ o → bytes_eq q name ≡ false
kinds_apart q name o e h = by (bytes_eq q name) refl
  where
    by : (t : Bool) → bytes_eq q name ≡ t → t ≡ false
    by true f = absurd (h (ap slot_of (sym ((bytes_eq-Decides q name).0 f)) ∙ e))
    by false f = refl

-- names with places are the same where the places are
pub same_place : (q name : Text) (r p : ℕ) → slot_of q ≡ Some r → slot_of name ≡ Some p → (r == p) ≡ bytes_eq q name
same_place q name r p e h = by (bytes_eq q name) (r == p) refl refl
  where
    by : (s t : Bool) → bytes_eq q name ≡ s → (r == p) ≡ t → t ≡ s
    by true true f g = refl
    by false false f g = refl
    by true false f g =
        let is : Some r ≡ Some p = sym e ∙ ap slot_of ((bytes_eq-Decides q name).0 f) ∙ h in
        sym g ∙ (Decides-eqb r p).1 (some_is r p is)
    by false true f g =
        let is : q ≡ name = (placed q r e).0 ∙ ap slot_name ((Decides-eqb r p).0 g) ∙ sym ((placed name p h).0) in
        sym ((bytes_eq-Decides q name).1 is) ∙ f

pub if_err : {T E P : Type 0} (r : Result T E) → P → OnErr r P
if_err (Ok x) p = tt
if_err (Err e) p = p

module _ {X : Type 0} where
  -- ---- slots

  pub kept : (n : ℕ) (ss : List (Slot X)) (p : ℕ) (x : Option X) → AreSlots n ss → AreSlots n (with_value ss p x)
  kept n [] p x h = h
  kept n (s ∷ ss) zero x h = h
  kept n (s ∷ ss) (suc p) x h = (h.0, h.1, kept (suc n) ss p x h.2)

  pub value_index : (ss : List (Slot X)) (p : ℕ) (s : Slot X) → p < length ss → s ≡ slice_index_or ss p s → slot_value ss p ≡ s.value
  value_index [] p s h e = absurd (omega arith)
  value_index (t ∷ ss) zero s h e = ap (λ (s : Slot X). s.value) (sym e)
  value_index (t ∷ ss) (suc p) s h e = value_index ss p s (omega arith) e

  pub value_outside : (ss : List (Slot X)) (p : ℕ) → length ss ≤ p → slot_value ss p ≡ None
  value_outside [] p h = refl
  value_outside (t ∷ ss) zero h = absurd (omega arith)
  value_outside (t ∷ ss) (suc p) h = value_outside ss p (omega arith)

  pub set_is : (ss : List (Slot X)) (p : ℕ) (x : Option X) (s : Slot X) → p < length ss → s ≡ slice_index_or ss p s → slice_set ss p (record s { value = x }) ≡ with_value ss p x
  set_is [] p x s h e = absurd (omega arith)
  set_is (t ∷ ss) zero x s h e = ap (λ (s : Slot X). record s { value = x } ∷ ss) e
  set_is (t ∷ ss) (suc p) x s h e = ap (λ more. t ∷ more) (set_is ss p x s (omega arith) e)

  pub set_outside : (ss : List (Slot X)) (p : ℕ) (x : Option X) → length ss ≤ p → with_value ss p x ≡ ss
  set_outside [] p x h = refl
  set_outside (t ∷ ss) zero x h = absurd (omega arith)
  set_outside (t ∷ ss) (suc p) x h = ap (λ more. t ∷ more) (set_outside ss p x (omega arith))

  pub value_put : (ss : List (Slot X)) (p : ℕ) (x : Option X) → p < length ss → (r : ℕ) → slot_value (with_value ss p x) r ≡ cond (r == p) x (slot_value ss r)
  value_put [] p x h r = absurd (omega arith)
  value_put (s ∷ ss) zero x h zero = refl
  value_put (s ∷ ss) zero x h (suc r) = ap (λ b. cond b x (slot_value ss r)) (sym (unequal (suc r) 0 (λ (same : suc r ≡ 0). omega arith)))
  value_put (s ∷ ss) (suc p) x h zero = ap (λ b. cond b x s.value) (sym (unequal 0 (suc p) (λ (same : 0 ≡ suc p). omega arith)))
  value_put (s ∷ ss) (suc p) x h (suc r) = value_put ss p x (omega arith) r ∙ ap (λ b. cond b x (slot_value ss r)) (sym (later p r))

  alike : (b : Bool) (o : Option X) → o ≡ cond b o o
  alike true o = refl
  alike false o = refl

  pub value_gone : (ss : List (Slot X)) (p r : ℕ) → slot_value (with_value ss p None) r ≡ cond (r == p) None (slot_value ss r)
  value_gone [] p r = alike (r == p) None
  value_gone (s ∷ ss) zero zero = refl
  value_gone (s ∷ ss) zero (suc r) = ap (λ b. cond b None (slot_value ss r)) (sym (unequal (suc r) 0 (λ (same : suc r ≡ 0). omega arith)))
  value_gone (s ∷ ss) (suc p) zero = ap (λ b. cond b None s.value) (sym (unequal 0 (suc p) (λ (same : 0 ≡ suc p). omega arith)))
  value_gone (s ∷ ss) (suc p) (suc r) = value_gone ss p r ∙ ap (λ b. cond b None (slot_value ss r)) (sym (later p r))

  pub value_within : (ss : List (Slot X)) (p : ℕ) → is_some (slot_value ss p) ≡ true → p < length ss
  value_within [] p e = cc
  value_within (s ∷ ss) zero e = omega arith
  value_within (s ∷ ss) (suc p) e = let low = value_within ss p e in omega arith

  pub first_apart : (ss : List (Slot X)) (m : Names X) → ss ≡ [] → m ≡ empty → AreApart ss m
  first_apart ss m e f = record {
    slots = subst (AreSlots 0) (sym e) tt;
    others = λ p low. ap (λ m. get m (slot_name p)) f ∙ get-empty (slice_cmp nat_cmp) (slot_name p);
  }

  -- ---- what a map has

  pub get_unplaced : (n : ℕ) (ss : List (Slot X)) → AreSlots n ss → (m : Names X) (q : Text) → slot_of q ≡ None → get (with_slots n ss m) q ≡ get m q
  get_unplaced n [] h m q e = refl
  get_unplaced n (s ∷ ss) h m q e =
      get_put_name (with_slots (suc n) ss m) (slot_name n) s.value q
      ∙ ap (λ b. cond b s.value (get (with_slots (suc n) ss m) q)) (not_placed q n h.0 e)
      ∙ get_unplaced (suc n) ss h.2 m q e

  pub get_placed : (n : ℕ) (ss : List (Slot X)) (m : Names X) (i p : ℕ) → p ≡ n + i → get m (slot_name p) ≡ None → get (with_slots n ss m) (slot_name p) ≡ slot_value ss i
  get_placed n [] m i p e none = none
  get_placed n (s ∷ ss) m zero p e none =
      get_put_name (with_slots (suc n) ss m) (slot_name n) s.value (slot_name p)
      ∙ ap (λ b. cond b s.value (get (with_slots (suc n) ss m) (slot_name p))) ((bytes_eq-Decides (slot_name p) (slot_name n)).1 (ap slot_name (omega arith)))
  get_placed n (s ∷ ss) m (suc i) p e none =
      get_put_name (with_slots (suc n) ss m) (slot_name n) s.value (slot_name p)
      ∙ ap (λ b. cond b s.value (get (with_slots (suc n) ss m) (slot_name p))) (places_apart p n (λ (same : p ≡ n). omega arith))
      ∙ get_placed (suc n) ss m i p (omega arith) none

  pub get_before : (n : ℕ) (ss : List (Slot X)) (m : Names X) (p : ℕ) → p < n → get (with_slots n ss m) (slot_name p) ≡ get m (slot_name p)
  get_before n [] m p h = refl
  get_before n (s ∷ ss) m p h =
      get_put_name (with_slots (suc n) ss m) (slot_name n) s.value (slot_name p)
      ∙ ap (λ b. cond b s.value (get (with_slots (suc n) ss m) (slot_name p))) (places_apart p n (λ (same : p ≡ n). omega arith))
      ∙ get_before (suc n) ss m p (omega arith)

  abbrev pub by_place : List (Slot X) → Names X → Text → Option ℕ → Option X
  by_place ss m q None = get m q
  by_place ss m q (Some p) = slot_value ss p

  -- what the map has at a text
  pub found_at : (ss : List (Slot X)) (m : Names X) → AreApart ss m → (q : Text) (o : Option ℕ) → slot_of q ≡ o → get (with_slots 0 ss m) q ≡ by_place ss m q o
  found_at ss m h q None e = get_unplaced 0 ss h.slots m q e
  found_at ss m h q (Some p) e =
      let two = placed q p e in
      ap (get (with_slots 0 ss m)) two.0 ∙ get_placed 0 ss m p p (omega arith) (h.others p two.1)

  -- ---- changes

  -- another value at a place
  pub put_placed : (ss ts : List (Slot X)) (m : Names X) → AreApart ss m → AreSlots 0 ts → (name : Text) (p : ℕ) (x : Option X) → slot_of name ≡ Some p → ((r : ℕ) → slot_value ts r ≡ cond (r == p) x (slot_value ss r)) → with_slots 0 ts m ≡ put_name (with_slots 0 ss m) name x
  put_placed ss ts m h are name p x is values = same_names _ _ (λ q.
      found_at ts m (record { slots = are; others = h.others }) q (slot_of q) refl
      ∙ by q (slot_of q) refl
      ∙ sym (get_put_name (with_slots 0 ss m) name x q))
    where
      by : (q : Text) (o : Option ℕ) → slot_of q ≡ o → by_place ts m q o ≡ cond (bytes_eq q name) x (get (with_slots 0 ss m) q)
      by q None e =
          sym (found_at ss m h q None e)
          ∙ ap (λ b. cond b x (get (with_slots 0 ss m) q)) (sym (kinds_apart q name None e (λ (f : slot_of name ≡ None). let two : Some p ≡ None = sym is ∙ f in cc)))
      by q (Some r) e =
          values r
          ∙ (λ i. cond (same_place q name r p e is i) x (sym (found_at ss m h q (Some r) e) i))

  -- slots that are added change nothing
  pub grown_same : (ss ts : List (Slot X)) (m : Names X) → AreApart ss m → IsGrown ss ts → with_slots 0 ts m ≡ with_slots 0 ss m
  grown_same ss ts m h g = same_names _ _ (λ q.
      found_at ts m (record { slots = g.slots; others = h.others }) q (slot_of q) refl
      ∙ by q (slot_of q)
      ∙ sym (found_at ss m h q (slot_of q) refl))
    where
      by : (q : Text) (o : Option ℕ) → by_place ts m q o ≡ by_place ss m q o
      by q None = refl
      by q (Some r) = g.values r

  -- another value at a name without a place
  pub apart_put : (ss : List (Slot X)) (m : Names X) → AreApart ss m → (name : Text) → slot_of name ≡ None → (x : Option X) → AreApart ss (put_name m name x)
  apart_put ss m h name none x = record {
    slots = h.slots;
    others = λ p low.
        get_put_name m name x (slot_name p)
        ∙ ap (λ b. cond b x (get m (slot_name p))) (kinds_apart (slot_name p) name (Some p) (name_placed p low) (λ (f : slot_of name ≡ Some p). let two : None ≡ Some p = sym none ∙ f in cc))
        ∙ h.others p low;
  }

  pub put_unplaced : (ss : List (Slot X)) (m : Names X) → AreApart ss m → (name : Text) → slot_of name ≡ None → (x : Option X) → with_slots 0 ss (put_name m name x) ≡ put_name (with_slots 0 ss m) name x
  put_unplaced ss m h name none x = same_names _ _ (λ q.
      found_at ss (put_name m name x) (apart_put ss m h name none x) q (slot_of q) refl
      ∙ by q (slot_of q) refl
      ∙ sym (get_put_name (with_slots 0 ss m) name x q))
    where
      by : (q : Text) (o : Option ℕ) → slot_of q ≡ o → by_place ss (put_name m name x) q o ≡ cond (bytes_eq q name) x (get (with_slots 0 ss m) q)
      by q None e = get_put_name m name x q ∙ ap (cond (bytes_eq q name) x) (sym (found_at ss m h q None e))
      by q (Some r) e =
          sym (found_at ss m h q (Some r) e)
          ∙ ap (λ b. cond b x (get (with_slots 0 ss m) q)) (sym (kinds_apart q name (Some r) e (λ (f : slot_of name ≡ Some r). let two : None ≡ Some r = sym none ∙ f in cc)))

  -- a value is put back at a place
  pub back_placed : (ss : List (Slot X)) (m : Names X) → AreApart ss m → (name : Text) (p : ℕ) (x : Option X) → slot_of name ≡ Some p → with_slots 0 (back_value ss p x) m ≡ back_name (with_slots 0 ss m) name x
  back_placed ss m h name p x is =
      by (is_some (slot_value ss p)) refl
      ∙ ap (λ o. cond (is_some o) (put_name (with_slots 0 ss m) name x) (with_slots 0 ss m)) (sym (found_at ss m h name (Some p) is))
    where
      by : (t : Bool) → is_some (slot_value ss p) ≡ t → with_slots 0 (cond t (with_value ss p x) ss) m ≡ cond t (put_name (with_slots 0 ss m) name x) (with_slots 0 ss m)
      by true e = put_placed ss (with_value ss p x) m h (kept 0 ss p x h.slots) name p x is (value_put ss p x (value_within ss p e))
      by false e = refl

  pub back_slots : (n : ℕ) (ss : List (Slot X)) (p : ℕ) (x : Option X) → AreSlots n ss → AreSlots n (back_value ss p x)
  back_slots n ss p x h = by (is_some (slot_value ss p))
    where
      by : (t : Bool) → AreSlots n (cond t (with_value ss p x) ss)
      by true = kept n ss p x h
      by false = h

  -- a value is put back at a name without a place
  pub back_unplaced : (ss : List (Slot X)) (m : Names X) → AreApart ss m → (name : Text) → slot_of name ≡ None → (x : Option X) → with_slots 0 ss (back_name m name x) ≡ back_name (with_slots 0 ss m) name x
  back_unplaced ss m h name none x =
      by (is_some (get m name))
      ∙ ap (λ o. cond (is_some o) (put_name (with_slots 0 ss m) name x) (with_slots 0 ss m)) (sym (found_at ss m h name None none))
    where
      by : (t : Bool) → with_slots 0 ss (cond t (put_name m name x) m) ≡ cond t (put_name (with_slots 0 ss m) name x) (with_slots 0 ss m)
      by true = put_unplaced ss m h name none x
      by false = refl

  pub apart_back : (ss : List (Slot X)) (m : Names X) → AreApart ss m → (name : Text) → slot_of name ≡ None → (x : Option X) → AreApart ss (back_name m name x)
  apart_back ss m h name none x = by (is_some (get m name))
    where
      by : (t : Bool) → AreApart ss (cond t (put_name m name x) m)
      by true = apart_put ss m h name none x
      by false = h

  -- ---- a slot more

  pub one_more : (n : ℕ) (ss : List (Slot X)) (s : Slot X) → AreSlots n ss → n + length ss < 14 → string_bytes s.key ≡ slot_name (n + length ss) → AreSlots n (ss ++ s ∷ [])
  one_more n [] s h low e = (omega arith, e ∙ ap slot_name (omega arith), tt)
  one_more n (t ∷ ss) s h low e = (h.0, h.1, one_more (suc n) ss s h.2 (omega arith) (e ∙ ap slot_name (omega arith)))

  pub vacant_more : (ss : List (Slot X)) (s : Slot X) → s.value ≡ None → (p : ℕ) → slot_value (ss ++ s ∷ []) p ≡ slot_value ss p
  vacant_more [] s e zero = e
  vacant_more [] s e (suc p) = refl
  vacant_more (t ∷ ss) s e zero = refl
  vacant_more (t ∷ ss) s e (suc p) = vacant_more ss s e p

  pub grown_more : (ss : List (Slot X)) (s : Slot X) → AreSlots 0 ss → length ss < 14 → string_bytes s.key ≡ slot_name (length ss) → s.value ≡ None → IsGrown ss (ss ++ s ∷ [])
  grown_more ss s h low e none = record { slots = one_more 0 ss s h (omega arith) (e ∙ ap slot_name (omega arith)); values = vacant_more ss s none }

  pub grown_none : (ss : List (Slot X)) → AreSlots 0 ss → IsGrown ss ss
  grown_none ss h = record { slots = h; values = λ p. refl }

  pub grown_then : (ss ts us : List (Slot X)) → IsGrown ss ts → IsGrown ts us → IsGrown ss us
  grown_then ss ts us g h = record { slots = h.slots; values = λ p. h.values p ∙ g.values p }

  pub grown_apart : (ss ts : List (Slot X)) (m : Names X) → AreApart ss m → IsGrown ss ts → AreApart ts m
  grown_apart ss ts m h g = record { slots = g.slots; others = h.others }

  -- a value is put at a place for which there is a slot
  pub slot_put : (ss ts us : List (Slot X)) (m : Names X) → AreApart ss m → IsGrown ss ts → (name : Text) (p : ℕ) (x : Option X) → slot_of name ≡ Some p → p < length ts → us ≡ with_value ts p x → with_slots 0 us m ≡ put_name (with_slots 0 ss m) name x
  slot_put ss ts us m h g name p x is low e =
      ap (λ us. with_slots 0 us m) e
      ∙ put_placed ts (with_value ts p x) m (grown_apart ss ts m h g) (kept 0 ts p x g.slots) name p x is (value_put ts p x low)
      ∙ ap (λ m. put_name m name x) (grown_same ss ts m h g)

  -- ---- rows

  -- a new entry in its place
  pub put_here : (name : Text) (v : X) (row : List (Text × X)) → find (slice_cmp nat_cmp) name row ≡ None → insert row (smaller name row) (name, v) ≡ put (slice_cmp nat_cmp) name v row
  put_here name v [] h = refl
  put_here name v (e ∷ row) h = by (slice_cmp nat_cmp name e.0) refl (put_here name v row)
    where
      turned : (r : Ordering) → slice_cmp nat_cmp name e.0 ≡ r → slice_cmp nat_cmp e.0 name ≡ ordering_reverse r
      turned r is = nat_list_cmp_total.antisymm e.0 name ∙ ap ordering_reverse is

      by : (r : Ordering) → slice_cmp nat_cmp name e.0 ≡ r → (find (slice_cmp nat_cmp) name row ≡ None → insert row (smaller name row) (name, v) ≡ put (slice_cmp nat_cmp) name v row)
          → insert (e ∷ row) (cond (is_lt (slice_cmp nat_cmp e.0 name)) (suc (smaller name row)) 0) (name, v) ≡ by_order r ((name, v) ∷ e ∷ row) ((e.0, v) ∷ row) (e ∷ put (slice_cmp nat_cmp) name v row)
      by Less is again = ap (λ r. insert (e ∷ row) (cond (is_lt r) (suc (smaller name row)) 0) (name, v)) (turned Less is)
      by Equal is again = let two : Some e.1 ≡ None = ap (λ r. cond (is_eq r) (Some e.1) (find (slice_cmp nat_cmp) name row)) (sym is) ∙ h in cc
      by Greater is again =
          let none : find (slice_cmp nat_cmp) name row ≡ None = ap (λ r. cond (is_eq r) (Some e.1) (find (slice_cmp nat_cmp) name row)) (sym is) ∙ h in
          ap (λ r. insert (e ∷ row) (cond (is_lt r) (suc (smaller name row)) 0) (name, v)) (turned Greater is)
          ∙ ap (λ more. e ∷ more) (again none)

  smaller_at : (name : Text) (row : List (Bor (String Global) × Bor X)) (i : ℕ) (e : Bor (String Global) × Bor X) → i < length row → e ≡ slice_index_or row i e
      → smaller name (lent_row (drop i row)) ≡ cond (is_lt (slice_cmp nat_cmp (string_bytes e.0.now) name)) (suc (smaller name (lent_row (drop (i + 1) row)))) 0
  smaller_at name row i e lt is =
      at_drop_more (λ es. smaller name (lent_row es)) row i e lt
      ∙ sym (ap (λ (t : Bor (String Global) × Bor X). cond (is_lt (slice_cmp nat_cmp (string_bytes t.0.now) name)) (suc (smaller name (lent_row (drop (i + 1) row)))) 0) is)

  -- an entry that is not smaller ends the smaller ones
  pub stops_at : (name : Text) (row : List (Bor (String Global) × Bor X)) (i : ℕ) (e : Bor (String Global) × Bor X) → i < length row → e ≡ slice_index_or row i e → is_lt (slice_cmp nat_cmp (string_bytes e.0.now) name) ≡ false
      → smaller name (lent_row row) ≡ i + smaller name (lent_row (drop i row)) → i ≡ smaller name (lent_row row)
  stops_at name row i e lt is low so_far =
      let none : smaller name (lent_row (drop i row)) ≡ 0 = smaller_at name row i e lt is ∙ ap (λ b. cond b (suc (smaller name (lent_row (drop (i + 1) row)))) 0) low in
      omega arith

  pub goes_on : (name : Text) (row : List (Bor (String Global) × Bor X)) (i : ℕ) (e : Bor (String Global) × Bor X) → i < length row → e ≡ slice_index_or row i e → is_lt (slice_cmp nat_cmp (string_bytes e.0.now) name) ≡ true
      → smaller name (lent_row row) ≡ i + smaller name (lent_row (drop i row)) → smaller name (lent_row row) ≡ i + 1 + smaller name (lent_row (drop (i + 1) row))
  goes_on name row i e lt is low so_far =
      let more : smaller name (lent_row (drop i row)) ≡ suc (smaller name (lent_row (drop (i + 1) row))) = smaller_at name row i e lt is ∙ ap (λ b. cond b (suc (smaller name (lent_row (drop (i + 1) row)))) 0) low in
      omega arith

  pub ends_at : (name : Text) (row : List (Bor (String Global) × Bor X)) (i : ℕ) → length row ≤ i → smaller name (lent_row row) ≡ i + smaller name (lent_row (drop i row)) → i ≡ smaller name (lent_row row)
  ends_at name row i le so_far =
      let none : smaller name (lent_row (drop i row)) ≡ 0 = at_drop_all (λ es. smaller name (lent_row es)) row i le in
      omega arith

  pub smaller_within : (name : Text) (row : List (Bor (String Global) × Bor X)) → smaller name (lent_row row) ≤ length row
  smaller_within name [] = omega arith
  smaller_within name (e ∷ row) = by (is_lt (slice_cmp nat_cmp (string_bytes e.0.now) name)) (smaller_within name row)
    where
      by : (t : Bool) → smaller name (lent_row row) ≤ length row → cond t (suc (smaller name (lent_row row))) 0 ≤ suc (length row)
      by true low = omega arith
      by false low = omega arith

  pub lent_insert : (row : List (Bor (String Global) × Bor X)) (i : ℕ) (e : Bor (String Global) × Bor X) → lent_row (insert row i e) ≡ insert (lent_row row) i (string_bytes e.0.now, e.1.now)
  lent_insert [] zero e = refl
  lent_insert [] (suc i) e = refl
  lent_insert (t ∷ row) zero e = refl
  lent_insert (t ∷ row) (suc i) e = ap (λ more. (string_bytes t.0.now, t.1.now) ∷ more) (lent_insert row i e)

  pub entry_here : (name : Text) (o : Option X) (m : Names X) → get m name ≡ None → with_entry name o (entries m) ≡ entries (put_name m name o)
  entry_here name None m none = ap entries (sym (back_none m name ∙ ap (λ o. cond (is_some o) (put_name m name None) m) none))
  entry_here name (Some v) m none = put_here name v (entries m) (sym (get-entries m name) ∙ none) ∙ sym (entries-insert nat_list_cmp_total m name v)

  -- the entries of the map are those of the others, with what the slots have in between
  pub entries_here : (n : ℕ) (ss : List (Slot X)) → AreSlots n ss → (m : Names X) → ((p : ℕ) → p < 14 → get m (slot_name p) ≡ None) → with_entries ss (entries m) ≡ entries (with_slots n ss m)
  entries_here n [] h m none = refl
  entries_here n (s ∷ ss) h m none =
      (λ i. with_entry (h.1 i) s.value (entries_here (suc n) ss h.2 m none i))
      ∙ entry_here (slot_name n) s.value (with_slots (suc n) ss m) (get_before (suc n) ss m n (omega arith) ∙ none n h.0)
