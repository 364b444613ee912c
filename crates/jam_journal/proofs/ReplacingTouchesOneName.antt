-- Finite maps from texts in which the value at one text is replaced.
use Rattle.std.proofs.Common.{T, Bor, String, string_bytes, ◌≡◌, true, false, Bool, cond, ◌&&◌, List, [], ◌∷◌, length, map as each, Option, Some, None, is_some, refl, sym, ap, subst, ◌∙◌}
use Rattle.std.specs.declared.cmp.Ordering.TheVariants.{Less}
use Rattle.std.specs.Ordering.{nat_cmp, is_lt}
use Rattle.std.specs.List.{AllByRecursion}
use Rattle.std.specs.List.Sorted.{IsStrictlySortedBy}
use Rattle.std.specs.Str.{bytes_eq}
use Rattle.std.specs.Map.{lookup, keys_of}
use Rattle.std.specs.Map.Iter.{deref_pair}
use Rattle.std.specs.Cmp.Lexicographic.{slice_cmp}
use Rattle.std.specs.FinMap.{get, empty, entries, remove, from_sorted, get-empty, get-insert, get-remove, get-from_entries, get-from_sorted, entries-from_sorted, same_map}
use Rattle.std.specs.FinMap.Entries.{find, is_sorted, below_all}
use Rattle.std.proofs.lemmas.Cmp.{nat_list_cmp_total, nat_list_eq_equiv}
use Rattle.std.proofs.lemmas.Map.Lookups.{exact_bytes}
use Rattle.std.proofs.lemmas.Map.Text.{is_eq-slice_cmp, hash_map_updates_text, btree_map_updates_text}
use Rattle.std.proofs.lemmas.Slice.Eq.{bytes_eq-Decides}
use Rattle.std.specs.BTreeMap as tree
use Rattle.std.specs.BTreeMap.{BTreeMap, is_at}
use Rattle.std.specs.HashMap.{HashMap, UpdatesBy}
use Rattle.std.specs.String.{string_cmp, string_eq}
use Rattle.jam_journal.specs.Tables.{Text, Names, put_name, back_name, names_of}

module _ {X : Type 0} where
  pub same_names : (m n : Names X) → ((q : Text) → get m q ≡ get n q) → m ≡ n
  same_names = same_map nat_list_cmp_total exact_bytes

  -- what a map has at a text after another text got a value, or lost it
  pub get_put_name : (m : Names X) (k : Text) (x : Option X) (q : Text) → get (put_name m k x) q ≡ cond (bytes_eq q k) x (get m q)
  get_put_name m k None q = get-remove nat_list_cmp_total m k q ∙ ap (λ b. cond b None (get m q)) (is_eq-slice_cmp q k)
  get_put_name m k (Some v) q = get-insert nat_list_cmp_total m k v q ∙ ap (λ b. cond b (Some v) (get m q)) (is_eq-slice_cmp q k)

  module _ {K : Type 0} (text : K → Text) where
    -- the entry that is found by a text
    abbrev pub at_name : List (K × X) → Text → Option X
    at_name entries name = lookup (λ key. bytes_eq name (text key)) entries

    find_names : (es : List (K × X)) (q : Text) → find (slice_cmp nat_cmp) q (each (λ e. (text e.0, e.1)) es) ≡ at_name es q
    find_names [] q = refl
    find_names (e ∷ es) q = λ i. cond (is_eq-slice_cmp q (text e.0) i) (Some e.1) (find_names es q i)

    -- what the map that entries stand for has at a text
    pub get_names : (es : List (K × X)) (q : Text) → get (names_of text es) q ≡ at_name es q
    get_names es q = get-from_entries nat_list_cmp_total (each (λ e. (text e.0, e.1)) es) q ∙ find_names es q

    -- entries that differ at one text stand for maps that differ there
    pub put_names : (es fs : List (K × X)) (s : Text) (w : Option X) → ((q : Text) → at_name fs q ≡ cond (bytes_eq s q) w (at_name es q)) → names_of text fs ≡ put_name (names_of text es) s w
    put_names es fs s w h = same_names _ _ (λ q.
        get_names fs q ∙ h q
        ∙ (λ i. cond (nat_list_eq_equiv.symm s q i) w (sym (get_names es q) i))
        ∙ sym (get_put_name (names_of text es) s w q))

    -- the map that no entries stand for
    pub none_named : (es : List (K × X)) → length es ≡ 0 → names_of text es ≡ empty
    none_named [] e = same_names _ _ (λ q. get_names [] q ∙ sym (get-empty (slice_cmp nat_cmp) q))
    none_named (e ∷ es) h = cc

    pub named_none : (es : List (K × X)) → names_of text es ≡ empty → length es ≡ 0
    named_none [] h = refl
    named_none (e ∷ es) h =
        let two : Some e.1 ≡ None =
        ap (λ b. cond b (Some e.1) (at_name es (text e.0))) (sym ((bytes_eq-Decides (text e.0) (text e.0)).1 refl))
        ∙ sym (get_names (e ∷ es) (text e.0)) ∙ ap (λ m. get m (text e.0)) h ∙ get-empty (slice_cmp nat_cmp) (text e.0) in cc

module _ {X : Type 0} where
  gone : (m : Names X) (k q : Text) → get m k ≡ None → (t : Bool) → bytes_eq q k ≡ t → cond t None (get m q) ≡ get m q
  gone m k q e true h = sym e ∙ ap (get m) (sym ((bytes_eq-Decides q k).0 h))
  gone m k q e false h = refl

  back_none_by : (m : Names X) (k : Text) (o : Option X) → get m k ≡ o → remove m k ≡ cond (is_some o) (remove m k) m
  back_none_by m k None e = same_names _ _ (λ q. get_put_name m k None q ∙ gone m k q e (bytes_eq q k) refl)
  back_none_by m k (Some x) e = refl

  -- to take away what is not there changes nothing
  pub back_none : (m : Names X) (k : Text) → remove m k ≡ back_name m k None
  back_none m k = back_none_by m k (get m k) refl

  module _ {K : Type 0} (text : K → Text) where
    -- another value at a text that has one
    pub back_found : (m : Names X) (es fs : List (K × X)) (k : Text) (w : Option X) → names_of text es ≡ m → is_some (at_name text es k) ≡ true → names_of text fs ≡ put_name (names_of text es) k w → names_of text fs ≡ back_name m k w
    back_found m es fs k w e found h =
        h ∙ ap (λ n. put_name n k w) e
        ∙ sym (ap (λ b. cond b (put_name m k w) m) (ap (λ n. is_some (get n k)) (sym e) ∙ ap is_some (get_names text es k) ∙ found))

    -- a text without a value
    pub back_absent : (m : Names X) (es fs : List (K × X)) (k : Text) (w : Option X) → names_of text es ≡ m → at_name text es k ≡ None → fs ≡ es → names_of text fs ≡ back_name m k w
    back_absent m es fs k w e absent same =
        ap (names_of text) same ∙ e
        ∙ sym (ap (λ b. cond b (put_name m k w) m) (ap (λ n. is_some (get n k)) (sym e) ∙ ap is_some (get_names text es k) ∙ ap is_some absent))

-- a tree compares texts, and what is found by a text is found by its bytes
pub by_bytes : {Y X : Type 0} (es : List (String Y × X)) (q : Text) → lookup (is_at (λ key. slice_cmp nat_cmp q (string_bytes key))) es ≡ at_name string_bytes es q
by_bytes [] q = refl
by_bytes (e ∷ es) q = λ i. cond (is_eq-slice_cmp q (string_bytes e.0) i) (Some e.1) (by_bytes es q i)

-- what a change of the map in the code is
pub put_tree : {Y X : Type 0} (m n : BTreeMap (String Y) X) (bs : Text) (w : Option X) → tree.UpdatesBy string_cmp (λ key. slice_cmp nat_cmp bs (string_bytes key)) m n w → names_of string_bytes n.entries ≡ put_name (names_of string_bytes m.entries) bs w
put_tree m n bs w h =
    put_names string_bytes m.entries n.entries bs w
    (λ q. sym (by_bytes n.entries q) ∙ btree_map_updates_text bs m n w h q ∙ ap (cond (bytes_eq bs q) w) (by_bytes m.entries q))

pub both_hold : (a b : Bool) → T a → T b → T (a && b)
both_hold true b p q = q
both_hold false b p q = p

module _ {Y X : Type 0} where
  abbrev pub shown : List (String Y × X) → List (Text × X)
  shown es = each (λ e. (string_bytes e.0, e.1)) es

  below : (key : String Y) (es : List (String Y × X)) → AllByRecursion (λ other. string_cmp key other ≡ Less) (keys_of es) → T (below_all (slice_cmp nat_cmp) (string_bytes key) (shown es))
  below key [] h = tt
  below key (e ∷ es) h = both_hold _ _ (subst (λ r. T (is_lt r)) (sym h.0) tt) (below key es h.1)

  rising : (es : List (String Y × X)) → IsStrictlySortedBy string_cmp (keys_of es) → T (is_sorted (slice_cmp nat_cmp) (shown es))
  unfolding IsStrictlySortedBy
  rising [] h = tt
  rising (e ∷ es) h = both_hold _ _ (below e.0 es h.0) (rising es h.1)

  -- the entries of a tree are those of the map that they stand for
  pub entries_shown : (es : List (String Y × X)) → IsStrictlySortedBy string_cmp (keys_of es) → entries (names_of string_bytes es) ≡ shown es
  entries_shown es h =
      ap entries (same_names (names_of string_bytes es) (from_sorted (shown es)) (λ q. get-from_entries nat_list_cmp_total (shown es) q ∙ sym (get-from_sorted (slice_cmp nat_cmp) (shown es) q (rising es h))))
      ∙ entries-from_sorted (slice_cmp nat_cmp) (shown es) (rising es h)

  -- entries that are lent
  pub shown_lent : (lent : List (Bor (String Y) × Bor X)) → each (λ e. (string_bytes e.0.now, e.1.now)) lent ≡ shown (each deref_pair lent)
  shown_lent [] = refl
  shown_lent (e ∷ lent) = ap (λ more. (string_bytes e.0.now, e.1.now) ∷ more) (shown_lent lent)

-- what the map in the code has at a text after another text got a value
pub at_changed : {Y X S : Type 0} (m n : HashMap (String Y) X S) (bs : Text) (v w : X) → UpdatesBy string_eq (λ k. bytes_eq bs (string_bytes k)) m n (Some v) → v ≡ w → (a : Text) → at_name string_bytes n.entries a ≡ cond (bytes_eq bs a) (Some w) (at_name string_bytes m.entries a)
at_changed m n bs v w h e a = hash_map_updates_text bs m n (Some v) h a ∙ ap (λ x. cond (bytes_eq bs a) (Some x) (at_name string_bytes m.entries a)) e

-- what it has where the value at a text went
pub at_gone : {Y X S : Type 0} (m n : HashMap (String Y) X S) (bs : Text) → UpdatesBy string_eq (λ k. bytes_eq bs (string_bytes k)) m n None → (a : Text) → at_name string_bytes n.entries a ≡ cond (bytes_eq bs a) None (at_name string_bytes m.entries a)
at_gone m n bs h a = hash_map_updates_text bs m n None h a

module _ {X : Type 0} where
  name_twice : (t : Bool) (x y z : Option X) → cond t y (cond t x z) ≡ cond t y z
  name_twice true x y z = refl
  name_twice false x y z = refl

  name_stays : (m : Names X) (k q : Text) (t : Bool) → bytes_eq q k ≡ t → cond t (get m k) (get m q) ≡ get m q
  name_stays m k q true e = ap (get m) (sym ((bytes_eq-Decides q k).0 e))
  name_stays m k q false e = refl

  pub name_there : (m : Names X) (k : Text) (x : Option X) → get (put_name m k x) k ≡ x
  name_there m k x = get_put_name m k x k ∙ ap (λ b. cond b x (get m k)) ((bytes_eq-Decides k k).1 refl)

  -- what stood at a text is put back over what came after it
  pub undo_put_name : (m : Names X) (k : Text) (v : X) → back_name (put_name m k (Some v)) k (get m k) ≡ m
  undo_put_name m k v =
      ap (λ b. cond b (put_name (put_name m k (Some v)) k (get m k)) (put_name m k (Some v))) (ap is_some (name_there m k (Some v)))
      ∙ same_names _ _ (λ q.
      get_put_name (put_name m k (Some v)) k (get m k) q
      ∙ ap (cond (bytes_eq q k) (get m k)) (get_put_name m k (Some v) q)
      ∙ name_twice (bytes_eq q k) (Some v) (get m k) (get m q)
      ∙ name_stays m k q (bytes_eq q k) refl)

  pub get_back_name_apart : (m : Names X) (k l : Text) (x : Option X) → bytes_eq k l ≡ false → get (back_name m l x) k ≡ get m k
  get_back_name_apart m k l x e = by (is_some (get m l))
    where
      by : (t : Bool) → get (cond t (put_name m l x) m) k ≡ get m k
      by true = get_put_name m l x k ∙ ap (λ b. cond b x (get m k)) e
      by false = refl
