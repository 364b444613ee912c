-- What each change of registers and entries is, and that it leaves what was at the marks.
use Rattle.std.proofs.Common.{inl, inr, ◌≡◌, ℕ, suc, ◌<◌, ◌≤◌, true, false, Bool, cond, ◌||◌, List, [], ◌∷◌, ◌++◌, length, drop, Option, Some, None, is_some, refl, sym, ap, subst, ◌∙◌, arith}
use Rattle.std.specs.FinMap.{get, insert}
use Rattle.jam_journal.specs.declared.past.Replacement.{Replacement}
use Rattle.jam_journal.specs.declared.registers.Cell.{Cell}
use Rattle.jam_journal.specs.declared.registers.Registers.{Registers}
use Rattle.jam_journal.specs.declared.registers.Scope.{Scope}
use Rattle.jam_journal.specs.declared.registers.Scope.TheVariants.{Opened, Called, Bound}
use Rattle.jam_journal.specs.Tables.{Text, Names, back_name}
use Rattle.jam_journal.specs.Marks.{changed, marked, rolled}
use Rattle.jam_journal.specs.Pasts.{replaced}
use Rattle.jam_journal.specs.Scopes.{Value, Binding, Frame, is_special, assign, append, enter, enter_call, leave, bind, with_binding}
use Rattle.jam_journal.specs.Stacks.{value_of, value_at, stamp_of, stamp_at, values_of, put_cell, in_frame, in_call, with_bound, bound_entry, step_back, closed, left_by, opened, frames_by, seen, Layers, entries_of, back, marked_by, scopes_by, Agree, AreLow, StayLow, is_noted, AreFresh, FreshSince, IsKept, AllKept}
use Rattle.jam_journal.proofs.ReplacingTouchesOneName.{undo_put_name, name_there}
use Rattle.jam_journal.proofs.ReplacingTouchesOnePair.{there, key_itself, undo_put}
use Rattle.jam_journal.proofs.GoingBackUndoesSetting.{agree_put, low_at, low_put, low_set, notes_more, fresh_set, back_fresh, back_noted}
use Rattle.jam_journal.proofs.LookupsFindWhatCellsHold.{module_is}
use Rattle.jam_journal.proofs.SettingIsAssigning.{assign_is, append_is}

pub here : (older : Layers) (r : Registers) (es : List Scope) (cs : List (Replacement Cell)) → AllKept r es cs older → IsKept r es cs older
here [] r es cs h = h
here (l ∷ ls) r es cs h = h.0

-- the newest mark leads to the same registers, if there is one
abbrev SameBack : Layers → Registers → Registers → Type 0
SameBack [] a b = Unit {0}
SameBack (l ∷ ls) a b = a ≡ b

kept_by : (older : Layers) (r q : Registers) (es fs : List Scope) (cs ds : List (Replacement Cell)) → IsKept q fs ds older → SameBack older (back q fs ds) (back r es cs) → AllKept r es cs older → AllKept q fs ds older
kept_by [] r q es fs cs ds k e h = k
kept_by (l ∷ ls) r q es fs cs ds k e h = (k, subst (λ b. AllKept b l.0 l.1 ls) (sym e) h.1)

same_marks : (older : Layers) (r q : Registers) (es fs : List Scope) (cs ds : List (Replacement Cell)) → SameBack older (back q fs ds) (back r es cs) → marked_by q fs ds older ≡ marked_by r es cs older
same_marks [] r q es fs cs ds e = refl
same_marks (l ∷ ls) r q es fs cs ds e = ap (λ b. seen b (l.0 ++ entries_of ls) ∷ marked_by b l.0 l.1 ls) e

same_back : (older : Layers) (a b : Registers) → a ≡ b → SameBack older a b
same_back [] a b e = tt
same_back (l ∷ ls) a b e = e

fresh_same : (older : Layers) (r q : Registers) (es fs : List Scope) (cs : List (Replacement Cell)) → ((count : ℕ) → AreFresh count r es cs → AreFresh count q fs cs) → FreshSince older r es cs → FreshSince older q fs cs
fresh_same [] r q es fs cs f h = tt
fresh_same (l ∷ ls) r q es fs cs f h = f (suc (length ls)) h

module _ (older : Layers) (r : Registers) (es : List Scope) (cs : List (Replacement Cell)) (h : AllKept r es cs older) where
  -- ---- opening a frame

  pub enter_kept : (m : Text) → AllKept (in_frame m r) (Opened r.owner ∷ es) cs older
  enter_kept m =
      let k : IsKept r es cs older = here older r es cs h in
      kept_by older r (in_frame m r) es (Opened r.owner ∷ es) cs cs
      (record { agree = k.agree; low = (low_at (length older) es r k.low, k.low); fresh = fresh_same older r (in_frame m r) es (Opened r.owner ∷ es) cs (λ count f. f) k.fresh })
      (same_back older (back (in_frame m r) (Opened r.owner ∷ es) cs) (back r es cs) refl) h

  pub enter_seen : (m : Text) → scopes_by (in_frame m r) (Opened r.owner ∷ es) cs older ≡ changed (enter m) (scopes_by r es cs older)
  enter_seen m =
      ap (λ ms. (enter m (seen r (es ++ entries_of older)), ms))
      (same_marks older r (in_frame m r) es (Opened r.owner ∷ es) cs cs (same_back older (back (in_frame m r) (Opened r.owner ∷ es) cs) (back r es cs) refl))

  pub call_kept : (m : Text) → AllKept (in_call m r) (Called r.owner r.caller ∷ es) cs older
  call_kept m =
      let k : IsKept r es cs older = here older r es cs h in
      kept_by older r (in_call m r) es (Called r.owner r.caller ∷ es) cs cs
      (record { agree = k.agree; low = (low_at (length older) es r k.low, k.low); fresh = fresh_same older r (in_call m r) es (Called r.owner r.caller ∷ es) cs (λ count f. f) k.fresh })
      (same_back older (back (in_call m r) (Called r.owner r.caller ∷ es) cs) (back r es cs) refl) h

  pub call_seen : (m : Text) → scopes_by (in_call m r) (Called r.owner r.caller ∷ es) cs older ≡ changed (enter_call m) (scopes_by r es cs older)
  call_seen m =
      let k : IsKept r es cs older = here older r es cs h in
      (λ i. (
        record { frames = record { owner = m; caller = Some (sym (module_is (es ++ entries_of older) r k.agree) i); bindings = [] } ∷ frames_by r (es ++ entries_of older); variables = values_of (closed (es ++ entries_of older) r).cells },
        same_marks older r (in_call m r) es (Called r.owner r.caller ∷ es) cs cs (same_back older (back (in_call m r) (Called r.owner r.caller ∷ es) cs) (back r es cs) refl) i,
      ))

  -- ---- binding

  without_noted : (names : Names Text) (name owner : Text) (t : Bool) → cond t (back_name (cond t (insert names name owner) names) name (cond t (get names name) None)) (cond t (insert names name owner) names) ≡ names
  without_noted names name owner true = undo_put_name names name owner
  without_noted names name owner false = refl

  pub bound_back : (name : Text) (x : Cell) → step_back (bound_entry name r) (with_bound name x r) ≡ r
  bound_back name x = λ i. record r {
    cells = undo_put r.cells (r.owner, name) x i;
    innermost = without_noted r.innermost name r.owner (is_special name) i;
  }

  innermost_is : (name : Text) → (t : Bool) → t ≡ true → get (cond t (insert r.innermost name r.owner) r.innermost) name ≡ Some r.owner
  innermost_is name true e = name_there r.innermost name (Some r.owner)
  innermost_is name false e = cc

  pub bind_kept : (name : Text) (x : Cell) → x.stamp ≡ length older → 0 < opened (es ++ entries_of older) → AllKept (with_bound name x r) (bound_entry name r ∷ es) cs older
  bind_kept name x s w =
      let k : IsKept r es cs older = here older r es cs h in
      let e : r ≡ step_back (bound_entry name r) (with_bound name x r) = sym (bound_back name x) in
      kept_by older r (with_bound name x r) es (bound_entry name r ∷ es) cs cs
      (record {
        agree = (
          record { there = ap is_some (there r.cells (r.owner, name) (Some x)); within = w; innermost = innermost_is name (is_special name) },
          subst (λ q. Agree q (es ++ entries_of older)) e k.agree,
        );
        low = (
          low_put (length older) r (r.owner, name) x (subst (λ n. n ≤ length older) (sym s) (omega arith)) (low_at (length older) es r k.low),
          subst (λ q. StayLow (length older) q es) e k.low,
        );
        fresh = fresh_bound older name x s e k.fresh;
      })
      (same_back older (back (with_bound name x r) (bound_entry name r ∷ es) cs) (back r es cs) (ap (λ q. back q es cs) (bound_back name x))) h
    where
      fresh_bound : (ls : Layers) (n : Text) (c : Cell) → c.stamp ≡ length ls → r ≡ step_back (bound_entry n r) (with_bound n c r) → FreshSince ls r es cs → FreshSince ls (with_bound n c r) (bound_entry n r ∷ es) cs
      fresh_bound [] n c g e f = tt
      fresh_bound (l ∷ ls) n c g e f =
          (ap (λ o. stamp_of o) (there r.cells (r.owner, n) (Some c)) ∙ g, subst (λ q. AreFresh (suc (length ls)) q es cs) e f)

  pub bind_seen : (name : Text) (x : Cell) → scopes_by (with_bound name x r) (bound_entry name r ∷ es) cs older ≡ changed (bind name x.value) (scopes_by r es cs older)
  bind_seen name x = λ i. (
    record {
      frames = with_binding (name, value_of (there r.cells (r.owner, name) (Some x) i)) (frames_by (bound_back name x i) (es ++ entries_of older));
      variables = values_of (closed (es ++ entries_of older) (bound_back name x i)).cells;
    },
    same_marks older r (with_bound name x r) es (bound_entry name r ∷ es) cs cs
        (same_back older (back (with_bound name x r) (bound_entry name r ∷ es) cs) (back r es cs) (ap (λ q. back q es cs) (bound_back name x))) i,
  )

  -- ---- setting

  low_stamp : (x : Cell) → x.stamp ≡ length older → x.stamp ≤ length older
  low_stamp x s = subst (λ n. n ≤ length older) (sym s) (omega arith)

  pub set_back : (name : Text) (x : Cell) → stamp_at r.cells (r.owner, name) ≡ length older → SameBack older (back (put_cell r (r.owner, name) x) es cs) (back r es cs)
  set_back name x s = by older s (here older r es cs h).agree (here older r es cs h).fresh
    where
      by : (ls : Layers) → stamp_at r.cells (r.owner, name) ≡ length ls → Agree r (es ++ entries_of ls) → FreshSince ls r es cs → SameBack ls (back (put_cell r (r.owner, name) x) es cs) (back r es cs)
      by [] e a f = tt
      by (l ∷ ls) e a f = back_fresh (suc (length ls)) es (entries_of (l ∷ ls)) r (r.owner, name) x cs (omega arith) e a f

  -- a cell with the stamp of now takes a value
  pub set_kept : (name : Text) (x : Cell) → x.stamp ≡ length older → stamp_at r.cells (r.owner, name) ≡ length older → AllKept (put_cell r (r.owner, name) x) es cs older
  set_kept name x s e =
      let k : IsKept r es cs older = here older r es cs h in
      kept_by older r (put_cell r (r.owner, name) x) es es cs cs
      (record {
        agree = agree_put (es ++ entries_of older) r (r.owner, name) x k.agree;
        low = low_set (length older) es (entries_of older) r (r.owner, name) x (low_stamp x s) k.agree k.low;
        fresh = fresh_by older s e k.agree k.fresh;
      })
      (set_back name x e) h
    where
      fresh_by : (ls : Layers) → x.stamp ≡ length ls → stamp_at r.cells (r.owner, name) ≡ length ls → Agree r (es ++ entries_of ls) → FreshSince ls r es cs → FreshSince ls (put_cell r (r.owner, name) x) es cs
      fresh_by [] g f a k = tt
      fresh_by (l ∷ ls) g f a k = fresh_set (suc (length ls)) es (entries_of (l ∷ ls)) r (r.owner, name) x cs cs g (λ q d. d) (inl f) a k

  pub set_seen : (name : Text) (x : Cell) → stamp_at r.cells (r.owner, name) ≡ length older → scopes_by (put_cell r (r.owner, name) x) es cs older ≡ changed (assign name x.value) (scopes_by r es cs older)
  set_seen name x e = λ i. (
    assign_is (es ++ entries_of older) r name x (here older r es cs h).agree i,
    same_marks older r (put_cell r (r.owner, name) x) es es cs cs (set_back name x e) i,
  )

  pub append_seen : (name : Text) (texts : Value) (x : Cell) → x.value ≡ value_at r.cells (r.owner, name) ++ texts → stamp_at r.cells (r.owner, name) ≡ length older → scopes_by (put_cell r (r.owner, name) x) es cs older ≡ changed (append name texts) (scopes_by r es cs older)
  append_seen name texts x v e = λ i. (
    append_is (es ++ entries_of older) r name texts x v (here older r es cs h).agree i,
    same_marks older r (put_cell r (r.owner, name) x) es es cs cs (set_back name x e) i,
  )

  note_back : (name : Text) (x : Cell) → (stamp_at r.cells (r.owner, name) ≡ length older → ⊥) → SameBack older (back (put_cell r (r.owner, name) x) es (replaced (r.owner, name) (get r.cells (r.owner, name)) ∷ cs)) (back r es cs)
  note_back name x other = by older other (here older r es cs h).agree (here older r es cs h).fresh
    where
      by : (ls : Layers) → (stamp_at r.cells (r.owner, name) ≡ length ls → ⊥) → Agree r (es ++ entries_of ls) → FreshSince ls r es cs → SameBack ls (back (put_cell r (r.owner, name) x) es (replaced (r.owner, name) (get r.cells (r.owner, name)) ∷ cs)) (back r es cs)
      by [] e a f = tt
      by (l ∷ ls) e a f = back_noted (suc (length ls)) es (entries_of (l ∷ ls)) r (r.owner, name) x (get r.cells (r.owner, name)) cs refl e a f

  first_noted : (name : Text) (o : Option Cell) → is_noted (replaced (r.owner, name) o ∷ cs) (r.owner, name) ≡ true
  first_noted name o = ap (λ b. b || is_noted cs (r.owner, name)) (key_itself (r.owner, name))

  -- another cell takes a value, and what it replaces is noted
  pub note_kept : (name : Text) (x : Cell) → x.stamp ≡ length older → (stamp_at r.cells (r.owner, name) ≡ length older → ⊥) → AllKept (put_cell r (r.owner, name) x) es (replaced (r.owner, name) (get r.cells (r.owner, name)) ∷ cs) older
  note_kept name x s other =
      let k : IsKept r es cs older = here older r es cs h in
      kept_by older r (put_cell r (r.owner, name) x) es es cs (replaced (r.owner, name) (get r.cells (r.owner, name)) ∷ cs)
      (record {
        agree = agree_put (es ++ entries_of older) r (r.owner, name) x k.agree;
        low = low_set (length older) es (entries_of older) r (r.owner, name) x (low_stamp x s) k.agree k.low;
        fresh = fresh_by older s k.agree k.fresh;
      })
      (note_back name x other) h
    where
      fresh_by : (ls : Layers) → x.stamp ≡ length ls → Agree r (es ++ entries_of ls) → FreshSince ls r es cs → FreshSince ls (put_cell r (r.owner, name) x) es (replaced (r.owner, name) (get r.cells (r.owner, name)) ∷ cs)
      fresh_by [] g a k = tt
      fresh_by (l ∷ ls) g a k =
          fresh_set (suc (length ls)) es (entries_of (l ∷ ls)) r (r.owner, name) x cs (replaced (r.owner, name) (get r.cells (r.owner, name)) ∷ cs) g
          (notes_more (replaced (r.owner, name) (get r.cells (r.owner, name))) cs) (inr (first_noted name (get r.cells (r.owner, name)))) a k

  pub note_seen : (name : Text) (x : Cell) → (stamp_at r.cells (r.owner, name) ≡ length older → ⊥) → scopes_by (put_cell r (r.owner, name) x) es (replaced (r.owner, name) (get r.cells (r.owner, name)) ∷ cs) older ≡ changed (assign name x.value) (scopes_by r es cs older)
  note_seen name x other = λ i. (
    assign_is (es ++ entries_of older) r name x (here older r es cs h).agree i,
    same_marks older r (put_cell r (r.owner, name) x) es es cs (replaced (r.owner, name) (get r.cells (r.owner, name)) ∷ cs) (note_back name x other) i,
  )

  pub note_append_seen : (name : Text) (texts : Value) (x : Cell) → x.value ≡ value_at r.cells (r.owner, name) ++ texts → (stamp_at r.cells (r.owner, name) ≡ length older → ⊥) → scopes_by (put_cell r (r.owner, name) x) es (replaced (r.owner, name) (get r.cells (r.owner, name)) ∷ cs) older ≡ changed (append name texts) (scopes_by r es cs older)
  note_append_seen name texts x v other = λ i. (
    append_is (es ++ entries_of older) r name texts x v (here older r es cs h).agree i,
    same_marks older r (put_cell r (r.owner, name) x) es es cs (replaced (r.owner, name) (get r.cells (r.owner, name)) ∷ cs) (note_back name x other) i,
  )

  -- ---- marking

  never : (n m : ℕ) → n ≤ m → n ≡ suc m → ⊥
  never n m a b = omega arith

  pub mark_kept : AllKept r [] [] ((es, cs) ∷ older)
  mark_kept =
      let k : IsKept r es cs older = here older r es cs h in
      let low : AreLow (length older) r = low_at (length older) es r k.low in (
        record {
          agree = k.agree;
          low = λ q. less (stamp_at r.cells q) (length older) (low q);
          fresh = λ q e. absurd (never (stamp_at r.cells q) (length older) (low q) e);
        },
        h,
      )
    where
      less : (n m : ℕ) → n ≤ m → n ≤ suc m
      less n m a = omega arith

  pub mark_seen : scopes_by r [] [] ((es, cs) ∷ older) ≡ marked (scopes_by r es cs older)
  mark_seen = refl

-- ---- leaving

pub drop_with : (b : Binding) (fs : List Frame) → drop 1 (with_binding b fs) ≡ drop 1 fs
drop_with b [] = refl
drop_with b (f ∷ fs) = refl

left_agree : (es rest : List Scope) (r : Registers) → Agree r (es ++ rest) → Agree (left_by es r).0 ((left_by es r).1 ++ rest)
left_agree [] rest r h = h
left_agree (Opened o ∷ es) rest r h = h
left_agree (Called o c ∷ es) rest r h = h
left_agree (Bound n b u ∷ es) rest r h = left_agree es rest (step_back (Bound n b u) r) h.1

left_low : (count : ℕ) (es : List Scope) (r : Registers) → StayLow count r es → StayLow count (left_by es r).0 (left_by es r).1
left_low count [] r h = h
left_low count (Opened o ∷ es) r h = h.1
left_low count (Called o c ∷ es) r h = h.1
left_low count (Bound n b u ∷ es) r h = left_low count es (step_back (Bound n b u) r) h.1

left_fresh : (count : ℕ) (es : List Scope) (r : Registers) (cs : List (Replacement Cell)) → AreFresh count r es cs → AreFresh count (left_by es r).0 (left_by es r).1 cs
left_fresh count [] r cs h = h
left_fresh count (Opened o ∷ es) r cs h = h
left_fresh count (Called o c ∷ es) r cs h = h
left_fresh count (Bound n b u ∷ es) r cs h = left_fresh count es (step_back (Bound n b u) r) cs h.1

left_closed : (es rest : List Scope) (r : Registers) → closed ((left_by es r).1 ++ rest) (left_by es r).0 ≡ closed (es ++ rest) r
left_closed [] rest r = refl
left_closed (Opened o ∷ es) rest r = refl
left_closed (Called o c ∷ es) rest r = refl
left_closed (Bound n b u ∷ es) rest r = left_closed es rest (step_back (Bound n b u) r)

left_back : (es : List Scope) (r : Registers) (cs : List (Replacement Cell)) → back (left_by es r).0 (left_by es r).1 cs ≡ back r es cs
left_back [] r cs = refl
left_back (Opened o ∷ es) r cs = refl
left_back (Called o c ∷ es) r cs = refl
left_back (Bound n b u ∷ es) r cs = left_back es (step_back (Bound n b u) r) cs

left_frames : (es rest : List Scope) (r : Registers) → 0 < opened es → frames_by (left_by es r).0 ((left_by es r).1 ++ rest) ≡ drop 1 (frames_by r (es ++ rest))
left_frames [] rest r h = absurd (omega arith)
left_frames (Opened o ∷ es) rest r h = refl
left_frames (Called o c ∷ es) rest r h = refl
left_frames (Bound n b u ∷ es) rest r h =
    left_frames es rest (step_back (Bound n b u) r) h
    ∙ sym (drop_with (n, value_at r.cells (r.owner, n)) (frames_by (step_back (Bound n b u) r) (es ++ rest)))

pub leave_kept : (older : Layers) (r : Registers) (es : List Scope) (cs : List (Replacement Cell)) → AllKept r es cs older → AllKept (left_by es r).0 (left_by es r).1 cs older
leave_kept older r es cs h =
    let k : IsKept r es cs older = here older r es cs h in
    kept_by older r (left_by es r).0 es (left_by es r).1 cs cs
    (record {
      agree = left_agree es (entries_of older) r k.agree;
      low = left_low (length older) es r k.low;
      fresh = fresh_same older r (left_by es r).0 es (left_by es r).1 cs (λ count. left_fresh count es r cs) k.fresh;
    })
    (same_back older (back (left_by es r).0 (left_by es r).1 cs) (back r es cs) (left_back es r cs)) h

pub leave_seen : (older : Layers) (r : Registers) (es : List Scope) (cs : List (Replacement Cell)) → 0 < opened es → scopes_by (left_by es r).0 (left_by es r).1 cs older ≡ changed leave (scopes_by r es cs older)
leave_seen older r es cs w = λ i. (
  record { frames = left_frames es (entries_of older) r w i; variables = values_of (left_closed es (entries_of older) r i).cells },
  same_marks older r (left_by es r).0 es (left_by es r).1 cs cs (same_back older (back (left_by es r).0 (left_by es r).1 cs) (back r es cs) (left_back es r cs)) i,
)

-- ---- rolling back

pub roll_kept : (ls : Layers) (fs : List Scope) (ds : List (Replacement Cell)) (r : Registers) (es : List Scope) (cs : List (Replacement Cell)) → AllKept r es cs ((fs, ds) ∷ ls) → AllKept (back r es cs) fs ds ls
roll_kept ls fs ds r es cs h = h.1

pub roll_seen : (ls : Layers) (fs : List Scope) (ds : List (Replacement Cell)) (r : Registers) (es : List Scope) (cs : List (Replacement Cell)) → scopes_by (back r es cs) fs ds ls ≡ rolled (scopes_by r es cs ((fs, ds) ∷ ls))
roll_seen ls fs ds r es cs = refl
