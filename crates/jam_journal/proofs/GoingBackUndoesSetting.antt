-- Another value of a cell, and entries that are taken back.
use Rattle.std.proofs.Common.{T, ◌⊎◌, inl, inr, ◌≡◌, ℕ, ◌<◌, ◌≤◌, true, false, Bool, cond, ◌||◌, List, [], ◌∷◌, ◌++◌, Option, Some, None, is_some, refl, sym, ap, subst, ◌∙◌, arith}
use Rattle.std.specs.Ordering.{eq_by_cmp}
use Rattle.std.specs.FinMap.{get, insert}
use Rattle.jam_journal.specs.declared.past.Replacement.{Replacement}
use Rattle.jam_journal.specs.declared.registers.Cell.{Cell}
use Rattle.jam_journal.specs.declared.registers.Registers.{Registers}
use Rattle.jam_journal.specs.declared.registers.Scope.{Scope}
use Rattle.jam_journal.specs.declared.registers.Scope.TheVariants.{Opened, Called, Bound}
use Rattle.jam_journal.specs.Tables.{Text, Key, Table, key_cmp, put, put_back}
use Rattle.jam_journal.specs.Pasts.{undone, replaced}
use Rattle.jam_journal.specs.Stacks.{stamp_of, stamp_at, without, put_cell, step_back, back, Agree, AreLow, StayLow, is_noted, AreFresh}
use Rattle.jam_journal.proofs.ReplacingTouchesOnePair.{get_put, there, there_still, back_there, same_key, undo_put, back_over, back_apart, get_back_apart}

module _ (r : Registers) (k : Key) (x : Cell) (name : Text) (before : Option Cell) (outer : Option Text) where
  -- a value at the key of a binding is gone when the binding is taken back, and at another key it stays
  pub stepped : is_some (get r.cells (r.owner, name)) ≡ true → (t : Bool) → eq_by_cmp key_cmp k (r.owner, name) ≡ t → step_back (Bound name before outer) (put_cell r k x) ≡ cond t (step_back (Bound name before outer) r) (put_cell (step_back (Bound name before outer) r) k x)
  stepped h true e =
      let one : k ≡ (r.owner, name) = same_key k (r.owner, name) e in
      ap (λ c. record r { cells = c; innermost = without r.innermost name outer })
      (ap (λ q. put_back (put r.cells q (Some x)) (r.owner, name) before) one ∙ back_over r.cells (r.owner, name) x before h)
  stepped h false e =
      ap (λ c. record r { cells = c; innermost = without r.innermost name outer }) (back_apart r.cells k (r.owner, name) x before e)

  pub stamp_stepped : eq_by_cmp key_cmp k (r.owner, name) ≡ false → stamp_at (step_back (Bound name before outer) r).cells k ≡ stamp_at r.cells k
  stamp_stepped e = ap stamp_of (get_back_apart r.cells k (r.owner, name) before e)

-- registers and entries still agree
pub agree_put : (all : List Scope) (r : Registers) (k : Key) (x : Cell) → Agree r all → Agree (put_cell r k x) all
agree_put [] r k x h = h
agree_put (Opened o ∷ es) r k x h = agree_put es (step_back (Opened o) r) k x h
agree_put (Called o c ∷ es) r k x h = agree_put es (step_back (Called o c) r) k x h
agree_put (Bound n b u ∷ es) r k x h = (
  record { there = there_still r.cells k (r.owner, n) x h.0.there; within = h.0.within; innermost = h.0.innermost },
  by (eq_by_cmp key_cmp k (r.owner, n)) refl (agree_put es (step_back (Bound n b u) r) k x h.1),
)
  where
    by : (t : Bool) → eq_by_cmp key_cmp k (r.owner, n) ≡ t → Agree (put_cell (step_back (Bound n b u) r) k x) es → Agree (step_back (Bound n b u) (put_cell r k x)) es
    by true e again = subst (λ q. Agree q es) (sym (stepped r k x n b u h.0.there true e)) h.1
    by false e again = subst (λ q. Agree q es) (sym (stepped r k x n b u h.0.there false e)) again

pub low_at : (count : ℕ) (es : List Scope) (r : Registers) → StayLow count r es → AreLow count r
low_at count [] r h = h
low_at count (e ∷ es) r h = h.0

pub low_put : (count : ℕ) (r : Registers) (k : Key) (x : Cell) → x.stamp ≤ count → AreLow count r → AreLow count (put_cell r k x)
low_put count r k x s h q = subst (λ o. stamp_of o ≤ count) (sym (get_put r.cells k (Some x) q)) (by (eq_by_cmp key_cmp q k))
  where
    by : (t : Bool) → stamp_of (cond t (Some x) (get r.cells q)) ≤ count
    by true = s
    by false = h q

-- stamps stay low
pub low_set : (count : ℕ) (es rest : List Scope) (r : Registers) (k : Key) (x : Cell) → x.stamp ≤ count → Agree r (es ++ rest) → StayLow count r es → StayLow count (put_cell r k x) es
low_set count [] rest r k x s a h = low_put count r k x s h
low_set count (Opened o ∷ es) rest r k x s a h = (low_put count r k x s h.0, low_set count es rest (step_back (Opened o) r) k x s a h.1)
low_set count (Called o c ∷ es) rest r k x s a h = (low_put count r k x s h.0, low_set count es rest (step_back (Called o c) r) k x s a h.1)
low_set count (Bound n b u ∷ es) rest r k x s a h =
    (low_put count r k x s h.0, by (eq_by_cmp key_cmp k (r.owner, n)) refl (low_set count es rest (step_back (Bound n b u) r) k x s a.1 h.1))
  where
    by : (t : Bool) → eq_by_cmp key_cmp k (r.owner, n) ≡ t → StayLow count (put_cell (step_back (Bound n b u) r) k x) es → StayLow count (step_back (Bound n b u) (put_cell r k x)) es
    by true e again = subst (λ q. StayLow count q es) (sym (stepped r k x n b u a.0.there true e)) h.1
    by false e again = subst (λ q. StayLow count q es) (sym (stepped r k x n b u a.0.there false e)) again

-- what is noted, and more
abbrev pub NotesAlso : List (Replacement Cell) → List (Replacement Cell) → Type 0
NotesAlso cs ds = (q : Key) → is_noted cs q ≡ true → is_noted ds q ≡ true

or_more : (t u : Bool) → u ≡ true → (t || u) ≡ true
or_more true u e = refl
or_more false u e = e

pub notes_more : (c : Replacement Cell) (cs : List (Replacement Cell)) → NotesAlso cs (c ∷ cs)
notes_more c cs q h = or_more (eq_by_cmp key_cmp q (c.first, c.second)) (is_noted cs q) h

fresh_more : (count : ℕ) (es : List Scope) (r : Registers) (cs ds : List (Replacement Cell)) → NotesAlso cs ds → AreFresh count r es cs → AreFresh count r es ds
fresh_more count [] r cs ds more h = λ q e. more q (h q e)
fresh_more count (Opened o ∷ es) r cs ds more h = fresh_more count es (step_back (Opened o) r) cs ds more h
fresh_more count (Called o c ∷ es) r cs ds more h = fresh_more count es (step_back (Called o c) r) cs ds more h
fresh_more count (Bound n b u ∷ es) r cs ds more h = (h.0, fresh_more count es (step_back (Bound n b u) r) cs ds more h.1)

-- a cell with the stamp of now is noted where it is not bound, also after it got a value
pub fresh_set : (count : ℕ) (es rest : List Scope) (r : Registers) (k : Key) (x : Cell) (cs ds : List (Replacement Cell)) → x.stamp ≡ count → NotesAlso cs ds → ((stamp_at r.cells k ≡ count) ⊎ (is_noted ds k ≡ true)) → Agree r (es ++ rest) → AreFresh count r es cs → AreFresh count (put_cell r k x) es ds
fresh_set count [] rest r k x cs ds s more new a h = λ q e. by q new (eq_by_cmp key_cmp q k) refl (sym (ap stamp_of (get_put r.cells k (Some x) q)) ∙ e)
  where
    first : (stamp_at r.cells k ≡ count) ⊎ (is_noted ds k ≡ true) → is_noted ds k ≡ true
    first (inl g) = more k (h k g)
    first (inr g) = g

    by : (q : Key) → (stamp_at r.cells k ≡ count) ⊎ (is_noted ds k ≡ true) → (t : Bool) → eq_by_cmp key_cmp q k ≡ t → stamp_of (cond t (Some x) (get r.cells q)) ≡ count → is_noted ds q ≡ true
    by q g true f e = ap (is_noted ds) (same_key q k f) ∙ first g
    by q g false f e = more q (h q e)
fresh_set count (Opened o ∷ es) rest r k x cs ds s more new a h = fresh_set count es rest (step_back (Opened o) r) k x cs ds s more new a h
fresh_set count (Called o c ∷ es) rest r k x cs ds s more new a h = fresh_set count es rest (step_back (Called o c) r) k x cs ds s more new a h
fresh_set count (Bound n b u ∷ es) rest r k x cs ds s more new a h = (
  ap stamp_of (get_put r.cells k (Some x) (r.owner, n)) ∙ stamp (eq_by_cmp key_cmp (r.owner, n) k),
  by (eq_by_cmp key_cmp k (r.owner, n)) refl (fresh_set count es rest (step_back (Bound n b u) r) k x cs ds s more),
)
  where
    stamp : (t : Bool) → stamp_of (cond t (Some x) (get r.cells (r.owner, n))) ≡ count
    stamp true = s
    stamp false = h.0

    moved : eq_by_cmp key_cmp k (r.owner, n) ≡ false → (stamp_at r.cells k ≡ count) ⊎ (is_noted ds k ≡ true) → (stamp_at (step_back (Bound n b u) r).cells k ≡ count) ⊎ (is_noted ds k ≡ true)
    moved e (inl g) = inl (stamp_stepped r k x n b u e ∙ g)
    moved e (inr g) = inr g

    by : (t : Bool) → eq_by_cmp key_cmp k (r.owner, n) ≡ t → ((stamp_at (step_back (Bound n b u) r).cells k ≡ count) ⊎ (is_noted ds k ≡ true) → Agree (step_back (Bound n b u) r) (es ++ rest) → AreFresh count (step_back (Bound n b u) r) es cs → AreFresh count (put_cell (step_back (Bound n b u) r) k x) es ds) → AreFresh count (step_back (Bound n b u) (put_cell r k x)) es ds
    by true e again = subst (λ q. AreFresh count q es ds) (sym (stepped r k x n b u a.0.there true e)) (fresh_more count es (step_back (Bound n b u) r) cs ds more h.1)
    by false e again = subst (λ q. AreFresh count q es ds) (sym (stepped r k x n b u a.0.there false e)) (again (moved e new) a.1 h.1)

-- what is noted of a key is put back over any value
undone_over : (cs : List (Replacement Cell)) (t : Table Cell) (k : Key) (x : Cell) → is_noted cs k ≡ true → is_some (get t k) ≡ true → undone cs (put t k (Some x)) ≡ undone cs t
undone_over [] t k x h there = absurd (subst T (sym h) tt)
undone_over (c ∷ cs) t k x h there = by (eq_by_cmp key_cmp k (c.first, c.second)) refl h (undone_over cs (put_back t (c.first, c.second) c.before) k x)
  where
    by : (b : Bool) → eq_by_cmp key_cmp k (c.first, c.second) ≡ b → (b || is_noted cs k) ≡ true → (is_noted cs k ≡ true → is_some (get (put_back t (c.first, c.second) c.before) k) ≡ true → undone cs (put (put_back t (c.first, c.second) c.before) k (Some x)) ≡ undone cs (put_back t (c.first, c.second) c.before)) → undone (c ∷ cs) (put t k (Some x)) ≡ undone (c ∷ cs) t
    by true e g again =
        let one : k ≡ (c.first, c.second) = same_key k (c.first, c.second) e in
        ap (undone cs) (ap (λ q. put_back (put t q (Some x)) (c.first, c.second) c.before) one ∙ back_over t (c.first, c.second) x c.before (ap (λ q. is_some (get t q)) (sym one) ∙ there))
    by false e g again =
        ap (undone cs) (back_apart t k (c.first, c.second) x c.before e)
        ∙ again g (ap is_some (get_back_apart t k (c.first, c.second) c.before e) ∙ there)

has_stamp : (o : Option Cell) (count : ℕ) → stamp_of o ≡ count → 0 < count → is_some o ≡ true
has_stamp None count e h = absurd (omega arith)
has_stamp (Some c) count e h = refl

-- back at the newest mark nothing is seen of a value with the stamp of now
pub back_fresh : (count : ℕ) (es rest : List Scope) (r : Registers) (k : Key) (x : Cell) (cs : List (Replacement Cell)) → 0 < count → stamp_at r.cells k ≡ count → Agree r (es ++ rest) → AreFresh count r es cs → back (put_cell r k x) es cs ≡ back r es cs
back_fresh count [] rest r k x cs some s a h = ap (λ c. record r { cells = c }) (undone_over cs r.cells k x (h k s) (has_stamp (get r.cells k) count s some))
back_fresh count (Opened o ∷ es) rest r k x cs some s a h = back_fresh count es rest (step_back (Opened o) r) k x cs some s a h
back_fresh count (Called o c ∷ es) rest r k x cs some s a h = back_fresh count es rest (step_back (Called o c) r) k x cs some s a h
back_fresh count (Bound n b u ∷ es) rest r k x cs some s a h =
    by (eq_by_cmp key_cmp k (r.owner, n)) refl (λ g. back_fresh count es rest (step_back (Bound n b u) r) k x cs some g a.1 h.1)
  where
    by : (t : Bool) → eq_by_cmp key_cmp k (r.owner, n) ≡ t → (stamp_at (step_back (Bound n b u) r).cells k ≡ count → back (put_cell (step_back (Bound n b u) r) k x) es cs ≡ back (step_back (Bound n b u) r) es cs) → back (step_back (Bound n b u) (put_cell r k x)) es cs ≡ back (step_back (Bound n b u) r) es cs
    by true e again = ap (λ q. back q es cs) (stepped r k x n b u a.0.there true e)
    by false e again = ap (λ q. back q es cs) (stepped r k x n b u a.0.there false e) ∙ again (stamp_stepped r k x n b u e ∙ s)

-- nor of one with another stamp that is noted
pub back_noted : (count : ℕ) (es rest : List Scope) (r : Registers) (k : Key) (x : Cell) (o : Option Cell) (cs : List (Replacement Cell)) → o ≡ get r.cells k → (stamp_at r.cells k ≡ count → ⊥) → Agree r (es ++ rest) → AreFresh count r es cs → back (put_cell r k x) es (replaced k o ∷ cs) ≡ back r es cs
back_noted count [] rest r k x o cs is other a h =
    ap (λ c. record r { cells = undone cs c }) (ap (put_back (put r.cells k (Some x)) k) is ∙ undo_put r.cells k x)
back_noted count (Opened w ∷ es) rest r k x o cs is other a h = back_noted count es rest (step_back (Opened w) r) k x o cs is other a h
back_noted count (Called w c ∷ es) rest r k x o cs is other a h = back_noted count es rest (step_back (Called w c) r) k x o cs is other a h
back_noted count (Bound n b u ∷ es) rest r k x o cs is other a h =
    by (eq_by_cmp key_cmp k (r.owner, n)) refl (λ f g. back_noted count es rest (step_back (Bound n b u) r) k x o cs f g a.1 h.1)
  where
    by : (t : Bool) → eq_by_cmp key_cmp k (r.owner, n) ≡ t → (o ≡ get (step_back (Bound n b u) r).cells k → (stamp_at (step_back (Bound n b u) r).cells k ≡ count → ⊥) → back (put_cell (step_back (Bound n b u) r) k x) es (replaced k o ∷ cs) ≡ back (step_back (Bound n b u) r) es cs) → back (step_back (Bound n b u) (put_cell r k x)) es (replaced k o ∷ cs) ≡ back (step_back (Bound n b u) r) es cs
    by true e again = absurd (other (ap (λ q. stamp_at r.cells q) (same_key k (r.owner, n) e) ∙ h.0))
    by false e again =
        ap (λ q. back q es (replaced k o ∷ cs)) (stepped r k x n b u a.0.there false e)
        ∙ again (is ∙ sym (get_back_apart r.cells k (r.owner, n) b e)) (λ g. other (sym (stamp_stepped r k x n b u e) ∙ g))

-- a cell that is inserted and put back leaves the registers as they were
pub taken_back : (r q : Registers) (cells last : Table Cell) (o p name : Text) (x : Cell) (b : Option Cell) → q ≡ record r { cells = cells } → cells ≡ insert r.cells (o, name) x → o ≡ r.owner → b ≡ get r.cells (o, name) → p ≡ q.owner → last ≡ put_back q.cells (p, name) b → record q { cells = last } ≡ r
taken_back r q cells last o p name x b e f is was at g =
    let owners : p ≡ o = at ∙ ap (λ (s : Registers). s.owner) e ∙ sym is in
    let inner : q.cells ≡ insert r.cells (o, name) x = ap (λ (s : Registers). s.cells) e ∙ f in
    let whole : last ≡ r.cells = g ∙ (λ i. put_back (inner i) (owners i, name) (was i)) ∙ undo_put r.cells (o, name) x in
    (λ i. record (e i) { cells = last }) ∙ ap (λ c. record r { cells = c }) whole

-- a cell that is taken out for another one, which is put in its place
pub replaced_twice : {X : Type 0} (m n l : Table X) (o p q name : Text) (old empty new : X) → get m (o, name) ≡ Some old → p ≡ o → n ≡ put_back m (p, name) (Some empty) → q ≡ o → l ≡ put_back n (q, name) (Some new) → l ≡ insert m (o, name) new
replaced_twice m n l o p q name old empty new got e f g h =
    let there : is_some (get m (o, name)) ≡ true = ap is_some got in
    let first : n ≡ put m (o, name) (Some empty) = f ∙ ap (λ a. put_back m (a, name) (Some empty)) e ∙ back_there m (o, name) (Some empty) there in
    h ∙ (λ i. put_back (first i) (g i, name) (Some new))
    ∙ back_over m (o, name) empty (Some new) there
    ∙ back_there m (o, name) (Some new) there
