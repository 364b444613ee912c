-- Finite maps from pairs of texts in which the value at one pair is replaced, and the rows that they are kept in.
use Rattle.std.proofs.Common.{◌≡◌, true, false, Bool, cond, not, ◌&&◌, List, [], ◌∷◌, ◌++◌, map as each, Option, Some, None, is_some, refl, sym, ap, ◌∙◌}
use Rattle.std.specs.declared.cmp.Ordering.{Ordering}
use Rattle.std.specs.declared.cmp.Ordering.TheVariants.{Less, Equal, Greater}
use Rattle.std.specs.List.{filter}
use Rattle.std.specs.Option.{option_or}
use Rattle.std.specs.Ordering.{nat_cmp, eq_by_cmp, is_eq, ordering_then}
use Rattle.std.specs.Str.{bytes_eq}
use Rattle.std.specs.Cmp.{IsTotalOrder, then_total, tied_itself}
use Rattle.std.specs.Cmp.Lexicographic.{slice_cmp, on_texts}
use Rattle.std.specs.FinMap.{get, empty, entries, retain_keys, from_sorted, get-empty, get-entries, get-insert, get-remove, get-retain_keys, get-from_entries, get-from_sorted, entries-from_sorted, same_map, IsAntisymmetric}
use Rattle.std.specs.FinMap.Entries.{find}
use Rattle.std.proofs.lemmas.Cmp.{nat_list_eq_equiv, nat_list_cmp_total, eq_by_cmp_equiv}
use Rattle.std.proofs.lemmas.Map.Lookups.{exact_bytes}
use Rattle.std.proofs.lemmas.Map.Text.{is_eq-slice_cmp}
use Rattle.std.proofs.lemmas.Slice.Eq.{bytes_eq-Decides}
use Rattle.jam_journal.specs.Tables.{Text, Key, Names, Table, key_cmp, put_name, back_name, put, put_back, row_of, with_row, table_of}
use Rattle.jam_journal.proofs.ReplacingTouchesOneName.{same_names, get_put_name, at_name}

pub key_order : IsTotalOrder key_cmp
key_order = then_total (on_texts (λ (k : Key). k.0)) (on_texts (λ (k : Key). k.1))

equal : (r : Ordering) → is_eq r ≡ true → r ≡ Equal
equal Less e = cc
equal Equal e = refl
equal Greater e = cc

both : (r s : Ordering) → ordering_then r s ≡ Equal → (r ≡ Equal) × (s ≡ Equal)
both Less s e = cc
both Equal s e = (refl, e)
both Greater s e = cc

pub keys_tie : IsAntisymmetric key_cmp
keys_tie x y e =
    let two = both (slice_cmp nat_cmp x.0 y.0) (slice_cmp nat_cmp x.1 y.1) e in
    λ i. (exact_bytes x.0 y.0 two.0 i, exact_bytes x.1 y.1 two.1 i)

pub same_key : (x y : Key) → eq_by_cmp key_cmp x y ≡ true → x ≡ y
same_key x y e = keys_tie x y (equal (key_cmp x y) e)

pub key_itself : (k : Key) → eq_by_cmp key_cmp k k ≡ true
key_itself k = ap is_eq (tied_itself key_order k)

then_eq : (r s : Ordering) → is_eq (ordering_then r s) ≡ (is_eq r && is_eq s)
then_eq Less s = refl
then_eq Equal s = refl
then_eq Greater s = refl

by_first : (a n f e : Text) → eq_by_cmp key_cmp (a, n) (f, e) ≡ (bytes_eq a f && eq_by_cmp (slice_cmp nat_cmp) n e)
by_first a n f e = then_eq (slice_cmp nat_cmp a f) (slice_cmp nat_cmp n e) ∙ ap (λ b. b && is_eq (slice_cmp nat_cmp n e)) (is_eq-slice_cmp a f)

-- two keys tie where both texts are equal
pub by_both : (a n f e : Text) → eq_by_cmp key_cmp (a, n) (f, e) ≡ (bytes_eq a f && bytes_eq n e)
by_both a n f e = by_first a n f e ∙ ap (λ b. bytes_eq a f && b) (is_eq-slice_cmp n e)

pub keys_apart : (k l : Key) → eq_by_cmp key_cmp k l ≡ false → eq_by_cmp key_cmp l k ≡ false
keys_apart k l e = (eq_by_cmp_equiv key_order).symm l k ∙ e

flipped : (f a : Text) (t : Bool) → bytes_eq f a ≡ t → bytes_eq a f ≡ t
flipped f a t e = nat_list_eq_equiv.symm a f ∙ e

module _ {X : Type 0} where
  pub same : (m n : Table X) → ((q : Key) → get m q ≡ get n q) → m ≡ n
  same = same_map key_order keys_tie

  pub get_put : (m : Table X) (k : Key) (x : Option X) (q : Key) → get (put m k x) q ≡ cond (eq_by_cmp key_cmp q k) x (get m q)
  get_put m k None q = get-remove key_order m k q
  get_put m k (Some v) q = get-insert key_order m k v q

  find_append : (es fs : List (Key × X)) (q : Key) → find key_cmp q (es ++ fs) ≡ option_or (find key_cmp q es) (find key_cmp q fs)
  find_append [] fs q = refl
  find_append (e ∷ es) fs q = by (eq_by_cmp key_cmp q e.0) (find_append es fs q)
    where
      by : (t : Bool) → find key_cmp q (es ++ fs) ≡ option_or (find key_cmp q es) (find key_cmp q fs) → cond t (Some e.1) (find key_cmp q (es ++ fs)) ≡ option_or (cond t (Some e.1) (find key_cmp q es)) (find key_cmp q fs)
      by true again = refl
      by false again = again

  in_row : (t u : Bool) (v : X) (y : Option X) → cond (t && u) (Some v) (cond t y None) ≡ cond t (cond u (Some v) y) None
  in_row true true v y = refl
  in_row true false v y = refl
  in_row false u v y = refl

  neither : (t : Bool) (o : Option X) → o ≡ cond t o o
  neither true o = refl
  neither false o = refl

  find_row : (f : Text) (es : List (Text × X)) (a n : Text) → find key_cmp (a, n) (each (λ e. ((f, e.0), e.1)) es) ≡ cond (bytes_eq a f) (find (slice_cmp nat_cmp) n es) None
  find_row f [] a n = neither (bytes_eq a f) None
  find_row f (e ∷ es) a n =
      (λ i. cond (by_first a n f e.0 i) (Some e.1) (find_row f es a n i))
      ∙ in_row (bytes_eq a f) (eq_by_cmp (slice_cmp nat_cmp) n e.0) e.1 (find (slice_cmp nat_cmp) n es)

  or_none : (x : Option X) → option_or x None ≡ x
  or_none None = refl
  or_none (Some v) = refl

  joined : (t : Bool) (x y : Option X) → option_or (cond t x None) (cond (not t) y None) ≡ cond t x y
  joined true x y = or_none x
  joined false x y = refl

  retained : (f : Text) (t : Table X) (a n : Text) → find key_cmp (a, n) (entries (retain_keys t (λ key. not (bytes_eq key.0 f)))) ≡ cond (not (bytes_eq a f)) (get t (a, n)) None
  retained f t a n =
      sym (get-entries (retain_keys t (λ key. not (bytes_eq key.0 f))) (a, n))
      ∙ get-retain_keys t (λ key. not (bytes_eq key.0 f)) (a, n) (λ x e. ap (λ (k : Key). not (bytes_eq k.0 f)) (sym (keys_tie (a, n) x e)))

  get_with_row : (f : Text) (row : Names X) (t : Table X) (a n : Text) → get (with_row f row t) (a, n) ≡ cond (bytes_eq a f) (get row n) (get t (a, n))
  get_with_row f row t a n =
      get-from_entries key_order (each (λ e. ((f, e.0), e.1)) (entries row) ++ entries (retain_keys t (λ key. not (bytes_eq key.0 f)))) (a, n)
      ∙ find_append (each (λ e. ((f, e.0), e.1)) (entries row)) (entries (retain_keys t (λ key. not (bytes_eq key.0 f)))) (a, n)
      ∙ (λ i. option_or ((find_row f (entries row) a n ∙ ap (λ o. cond (bytes_eq a f) o None) (sym (get-entries row n))) i) (retained f t a n i))
      ∙ joined (bytes_eq a f) (get row n) (get t (a, n))

  -- what a row has, if there is one
  abbrev pub row_at : Option (Names X) → Text → Option X
  row_at None n = None
  row_at (Some row) n = get row n

  module _ {K : Type 0} (text : K → Text) where
    -- what the table that rows stand for has at a pair
    pub get_table : (es : List (K × Names X)) (a n : Text) → get (table_of text es) (a, n) ≡ row_at (at_name text es a) n
    get_table [] a n = get-empty key_cmp (a, n)
    get_table (e ∷ es) a n = get_with_row (text e.0) e.1 (table_of text es) a n ∙ by (bytes_eq a (text e.0)) (get_table es a n)
      where
        by : (t : Bool) → get (table_of text es) (a, n) ≡ row_at (at_name text es a) n → cond t (get e.1 n) (get (table_of text es) (a, n)) ≡ row_at (cond t (Some e.1) (at_name text es a)) n
        by true again = refl
        by false again = again

    put_rows_by : (es : List (K × Names X)) (f s : Text) (row : Names X) (x : Option X) → ((n : Text) → get row n ≡ row_at (at_name text es f) n) → (a n : Text) (t : Bool) → bytes_eq f a ≡ t → row_at (cond t (Some (put_name row s x)) (at_name text es a)) n ≡ cond (bytes_eq a f && bytes_eq n s) x (get (table_of text es) (a, n))
    put_rows_by es f s row x is a n true e =
        get_put_name row s x n
        ∙ ap (cond (bytes_eq n s) x) (is n ∙ ap (λ b. row_at (at_name text es b) n) ((bytes_eq-Decides f a).0 e) ∙ sym (get_table es a n))
        ∙ ap (λ b. cond (b && bytes_eq n s) x (get (table_of text es) (a, n))) (sym (flipped f a true e))
    put_rows_by es f s row x is a n false e =
        sym (get_table es a n) ∙ ap (λ b. cond (b && bytes_eq n s) x (get (table_of text es) (a, n))) (sym (flipped f a false e))

    -- rows that differ at one text, in one name, stand for tables that differ at this pair
    pub put_rows : (es fs : List (K × Names X)) (f s : Text) (row : Names X) (x : Option X) → ((n : Text) → get row n ≡ row_at (at_name text es f) n) → ((a : Text) → at_name text fs a ≡ cond (bytes_eq f a) (Some (put_name row s x)) (at_name text es a)) → table_of text fs ≡ put (table_of text es) (f, s) x
    put_rows es fs f s row x is h = same _ _ (λ q.
        get_table fs q.0 q.1 ∙ ap (λ o. row_at o q.1) (h q.0)
        ∙ put_rows_by es f s row x is q.0 q.1 (bytes_eq f q.0) refl
        ∙ ap (λ b. cond b x (get (table_of text es) q)) (sym (by_both q.0 q.1 f s))
        ∙ sym (get_put (table_of text es) (f, s) x q))

    same_rows_by : (es : List (K × Names X)) (f : Text) (row : Names X) → at_name text es f ≡ Some row → (a : Text) (t : Bool) → bytes_eq f a ≡ t → cond t (Some row) (at_name text es a) ≡ at_name text es a
    same_rows_by es f row is a true e = sym is ∙ ap (at_name text es) ((bytes_eq-Decides f a).0 e)
    same_rows_by es f row is a false e = refl

    -- a row that is put in its own place changes nothing
    pub same_rows : (es fs : List (K × Names X)) (f : Text) (row : Names X) → at_name text es f ≡ Some row → ((a : Text) → at_name text fs a ≡ cond (bytes_eq f a) (Some row) (at_name text es a)) → table_of text fs ≡ table_of text es
    same_rows es fs f row is h = same _ _ (λ q.
        get_table fs q.0 q.1 ∙ ap (λ o. row_at o q.1) (h q.0 ∙ same_rows_by es f row is q.0 (bytes_eq f q.0) refl) ∙ sym (get_table es q.0 q.1))

    back_rows_by : (es fs : List (K × Names X)) (f s : Text) (row : Names X) (x : Option X) → at_name text es f ≡ Some row → (t : Bool) → is_some (get row s) ≡ t → ((a : Text) → at_name text fs a ≡ cond (bytes_eq f a) (Some (cond t (put_name row s x) row)) (at_name text es a)) → table_of text fs ≡ cond t (put (table_of text es) (f, s) x) (table_of text es)
    back_rows_by es fs f s row x is true e h = put_rows es fs f s row x (λ n. ap (λ o. row_at o n) (sym is)) h
    back_rows_by es fs f s row x is false e h = same_rows es fs f row is h

    -- a value that is put back in a row
    pub back_rows : (es fs : List (K × Names X)) (f s : Text) (row : Names X) (x : Option X) → at_name text es f ≡ Some row → ((a : Text) → at_name text fs a ≡ cond (bytes_eq f a) (Some (back_name row s x)) (at_name text es a)) → table_of text fs ≡ put_back (table_of text es) (f, s) x
    back_rows es fs f s row x is h =
        back_rows_by es fs f s row x is (is_some (get row s)) refl h
        ∙ ap (λ b. cond b (put (table_of text es) (f, s) x) (table_of text es)) (ap is_some (sym (get_table es f s ∙ ap (λ o. row_at o s) is)))

    row_gone_by : (es : List (K × Names X)) (f : Text) → at_name text es f ≡ Some empty → (a n : Text) (t : Bool) → bytes_eq f a ≡ t → row_at (cond t None (at_name text es a)) n ≡ row_at (at_name text es a) n
    row_gone_by es f is a n true e =
        sym (ap (λ o. row_at o n) (ap (at_name text es) (sym ((bytes_eq-Decides f a).0 e)) ∙ is) ∙ get-empty (slice_cmp nat_cmp) n)
    row_gone_by es f is a n false e = refl

    -- a row without a value may go
    pub row_gone : (es fs : List (K × Names X)) (f : Text) → at_name text es f ≡ Some empty → ((a : Text) → at_name text fs a ≡ cond (bytes_eq f a) None (at_name text es a)) → table_of text fs ≡ table_of text es
    row_gone es fs f is h = same _ _ (λ q.
        get_table fs q.0 q.1 ∙ ap (λ o. row_at o q.1) (h q.0)
        ∙ row_gone_by es f is q.0 q.1 (bytes_eq f q.0) refl
        ∙ sym (get_table es q.0 q.1))

    -- nothing is put back where there is no row
    pub back_no_row : (es fs : List (K × Names X)) (f s : Text) (x : Option X) → at_name text es f ≡ None → fs ≡ es → table_of text fs ≡ put_back (table_of text es) (f, s) x
    back_no_row es fs f s x none e =
        ap (table_of text) e
        ∙ ap (λ b. cond b (put (table_of text es) (f, s) x) (table_of text es)) (ap is_some (sym (get_table es f s ∙ ap (λ o. row_at o s) none)))

module _ {X : Type 0} where
  twice : (t : Bool) (x y z : Option X) → cond t y (cond t x z) ≡ cond t y z
  twice true x y z = refl
  twice false x y z = refl

  -- the later of two values at one key stays
  pub put_put : (m : Table X) (k : Key) (x y : Option X) → put (put m k x) k y ≡ put m k y
  put_put m k x y = same _ _ (λ q.
      get_put (put m k x) k y q ∙ ap (cond (eq_by_cmp key_cmp q k) y) (get_put m k x q) ∙ twice (eq_by_cmp key_cmp q k) x y (get m q) ∙ sym (get_put m k y q))

  stays : (m : Table X) (k q : Key) (t : Bool) → eq_by_cmp key_cmp q k ≡ t → cond t (get m k) (get m q) ≡ get m q
  stays m k q true e = ap (get m) (sym (same_key q k e))
  stays m k q false e = refl

  -- the value that is there changes nothing
  pub put_own : (m : Table X) (k : Key) → put m k (get m k) ≡ m
  put_own m k = same _ _ (λ q. get_put m k (get m k) q ∙ stays m k q (eq_by_cmp key_cmp q k) refl)

  -- what is at a key that got a value
  pub there : (m : Table X) (k : Key) (x : Option X) → get (put m k x) k ≡ x
  there m k x = get_put m k x k ∙ ap (λ b. cond b x (get m k)) (key_itself k)

  -- what is at another key
  pub elsewhere : (m : Table X) (k q : Key) (x : Option X) → eq_by_cmp key_cmp q k ≡ false → get (put m k x) q ≡ get m q
  elsewhere m k q x e = get_put m k x q ∙ ap (λ b. cond b x (get m q)) e

  apart : (k l q : Key) → eq_by_cmp key_cmp k l ≡ false → (s t : Bool) → eq_by_cmp key_cmp q k ≡ s → eq_by_cmp key_cmp q l ≡ t → (x y z : Option X) → cond t y (cond s x z) ≡ cond s x (cond t y z)
  apart k l q h true true e f x y z =
      let not_both : true ≡ false = sym f ∙ ap (λ p. eq_by_cmp key_cmp p l) (same_key q k e) ∙ h in cc
  apart k l q h true false e f x y z = refl
  apart k l q h false t e f x y z = refl

  -- values at two keys may be put in either order
  pub put_swap : (m : Table X) (k l : Key) (x y : Option X) → eq_by_cmp key_cmp k l ≡ false → put (put m k x) l y ≡ put (put m l y) k x
  put_swap m k l x y h = same _ _ (λ q.
      get_put (put m k x) l y q ∙ ap (cond (eq_by_cmp key_cmp q l) y) (get_put m k x q)
      ∙ apart k l q h (eq_by_cmp key_cmp q k) (eq_by_cmp key_cmp q l) refl refl x y (get m q)
      ∙ sym (get_put (put m l y) k x q ∙ ap (cond (eq_by_cmp key_cmp q k) x) (get_put m l y q)))

  -- at a key that has a value, putting back is putting
  pub back_there : (m : Table X) (k : Key) (x : Option X) → is_some (get m k) ≡ true → put_back m k x ≡ put m k x
  back_there m k x h = ap (λ b. cond b (put m k x) m) h

  -- what stood at a key is put back over what came after it
  pub undo_put : (m : Table X) (k : Key) (v : X) → put_back (put m k (Some v)) k (get m k) ≡ m
  undo_put m k v =
      back_there (put m k (Some v)) k (get m k) (ap is_some (there m k (Some v)))
      ∙ put_put m k (Some v) (get m k) ∙ put_own m k

  -- what stood at a key is put back over whatever came after it
  pub back_over : (m : Table X) (k : Key) (v : X) (x : Option X) → is_some (get m k) ≡ true → put_back (put m k (Some v)) k x ≡ put_back m k x
  back_over m k v x h =
      back_there (put m k (Some v)) k x (ap is_some (there m k (Some v))) ∙ put_put m k (Some v) x ∙ sym (back_there m k x h)

  -- a value at a key is no matter for what is put back at another one
  pub back_apart : (m : Table X) (k l : Key) (v : X) (x : Option X) → eq_by_cmp key_cmp k l ≡ false → put_back (put m k (Some v)) l x ≡ put (put_back m l x) k (Some v)
  back_apart m k l v x e =
      ap (λ b. cond b (put (put m k (Some v)) l x) (put m k (Some v))) (ap is_some (elsewhere m k l (Some v) (keys_apart k l e)))
      ∙ by (is_some (get m l))
    where
      by : (t : Bool) → cond t (put (put m k (Some v)) l x) (put m k (Some v)) ≡ put (cond t (put m l x) m) k (Some v)
      by true = put_swap m k l (Some v) x e
      by false = refl

  -- what is at a key, where something was put back at another one
  pub get_back_apart : (m : Table X) (k l : Key) (x : Option X) → eq_by_cmp key_cmp k l ≡ false → get (put_back m l x) k ≡ get m k
  get_back_apart m k l x e = by (is_some (get m l))
    where
      by : (t : Bool) → get (cond t (put m l x) m) k ≡ get m k
      by true = elsewhere m l k x e
      by false = refl

  -- a key that has a value still has one when a key got a value
  pub there_still : (m : Table X) (k l : Key) (v : X) → is_some (get m l) ≡ true → is_some (get (put m k (Some v)) l) ≡ true
  there_still m k l v h = ap is_some (get_put m k (Some v) l) ∙ by (eq_by_cmp key_cmp l k)
    where
      by : (t : Bool) → is_some (cond t (Some v) (get m l)) ≡ true
      by true = refl
      by false = h

-- ---- rows

module _ {X : Type 0} (f : Text) where
  abbrev seconds : List (Key × X) → List (Text × X)
  seconds es = each (λ e. (e.0.1, e.1)) (filter (λ e. bytes_eq e.0.0 f) es)

  found_second : (es : List (Key × X)) (n : Text) → find (slice_cmp nat_cmp) n (seconds es) ≡ find key_cmp (f, n) es
  found_second [] n = refl
  found_second (e ∷ es) n =
      by (bytes_eq e.0.0 f) refl (found_second es n) ∙ ap (λ b. cond b (Some e.1) (find key_cmp (f, n) es)) (sym (by_first f n e.0.0 e.0.1))
    where
      by : (b : Bool) → bytes_eq e.0.0 f ≡ b → find (slice_cmp nat_cmp) n (seconds es) ≡ find key_cmp (f, n) es
          → find (slice_cmp nat_cmp) n (each (λ p. (p.0.1, p.1)) (cond b (e ∷ filter (λ p. bytes_eq p.0.0 f) es) (filter (λ p. bytes_eq p.0.0 f) es)))
          ≡ cond (bytes_eq f e.0.0 && eq_by_cmp (slice_cmp nat_cmp) n e.0.1) (Some e.1) (find key_cmp (f, n) es)
      by true is again =
          ap (cond (eq_by_cmp (slice_cmp nat_cmp) n e.0.1) (Some e.1)) again
          ∙ ap (λ b. cond (b && eq_by_cmp (slice_cmp nat_cmp) n e.0.1) (Some e.1) (find key_cmp (f, n) es)) (sym (flipped e.0.0 f true is))
      by false is again = again ∙ ap (λ b. cond (b && eq_by_cmp (slice_cmp nat_cmp) n e.0.1) (Some e.1) (find key_cmp (f, n) es)) (sym (flipped e.0.0 f false is))

  -- what a row has
  pub get_row : (t : Table X) (n : Text) → get (row_of t f) n ≡ get t (f, n)
  get_row t n = get-from_entries nat_list_cmp_total (seconds (entries t)) n ∙ found_second (entries t) n ∙ sym (get-entries t (f, n))

  module _ {K : Type 0} (text : K → Text) where
    -- a row that is kept
    pub row_kept : (es : List (K × Names X)) (row : Names X) → at_name text es f ≡ Some row → row_of (table_of text es) f ≡ row
    row_kept es row is = same_names _ _ (λ n. get_row (table_of text es) n ∙ get_table text es f n ∙ ap (λ o. row_at o n) is)

    -- no row
    pub no_row_kept : (es : List (K × Names X)) → at_name text es f ≡ None → entries (row_of (table_of text es) f) ≡ []
    no_row_kept es is =
        ap entries (same_names (row_of (table_of text es) f) (from_sorted []) (λ n.
        get_row (table_of text es) n ∙ get_table text es f n ∙ ap (λ o. row_at o n) is ∙ sym (get-from_sorted (slice_cmp nat_cmp) [] n tt)))
        ∙ entries-from_sorted (slice_cmp nat_cmp) [] tt
