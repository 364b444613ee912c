-- Another value of a cell is an assignment.
use Rattle.std.proofs.Common.{◌≡◌, true, false, Bool, cond, ◌&&◌, List, [], ◌∷◌, ◌++◌, Option, Some, None, is_some, refl, sym, ap, ◌∙◌}
use Rattle.std.specs.Option.{option_or, unwrap_or}
use Rattle.std.specs.Ordering.{eq_by_cmp}
use Rattle.std.specs.Str.{bytes_eq}
use Rattle.std.specs.FinMap.{insert}
use Rattle.jam_journal.specs.declared.registers.Cell.{Cell}
use Rattle.jam_journal.specs.declared.registers.Registers.{Registers}
use Rattle.jam_journal.specs.declared.registers.Scope.{Scope}
use Rattle.jam_journal.specs.declared.registers.Scope.TheVariants.{Opened, Called, Bound}
use Rattle.jam_journal.specs.Tables.{Text, Key, key_cmp}
use Rattle.jam_journal.specs.Scopes.{Value, Frame, bound_by, bound_in, is_in, rebound, rebound_in, assign_in, assign, append, with_binding}
use Rattle.jam_journal.specs.Stacks.{value_of, value_at, values_of, put_cell, step_back, closed, frames_by, seen, Agree}
use Rattle.jam_journal.proofs.ReplacingTouchesOnePair.{there, elsewhere, same_key, by_both, keys_apart}
use Rattle.jam_journal.proofs.GoingBackUndoesSetting.{stepped}
use Rattle.jam_journal.proofs.LookupsFindWhatCellsHold.{HasHead, head, module_is, bound_head, values_put, assigned_is, value_is}

-- whether a binding has the key that is set
abbrev is_set : Text → Text → Text → Text → Bool
is_set owner n o name = bytes_eq owner o && bytes_eq n name

set_key : (owner n o name : Text) (t : Bool) → is_set owner n o name ≡ t → eq_by_cmp key_cmp (owner, n) (o, name) ≡ t
set_key owner n o name t e = by_both owner n o name ∙ e

turned : (owner n o name : Text) (t : Bool) → is_set owner n o name ≡ t → eq_by_cmp key_cmp (o, name) (owner, n) ≡ t
turned owner n o name true e =
    let one : (owner, n) ≡ (o, name) = same_key (owner, n) (o, name) (set_key owner n o name true e) in
    ap (λ (q : Key). eq_by_cmp key_cmp q (owner, n)) (sym one) ∙ ap (λ (q : Key). eq_by_cmp key_cmp (owner, n) q) one ∙ set_key owner n o name true e
turned owner n o name false e = keys_apart (owner, n) (o, name) (set_key owner n o name false e)

nothing_bound : (t : Bool) (y : Option Value) → is_some y ≡ is_some (option_or (cond t None None) y)
nothing_bound true y = refl
nothing_bound false y = refl

-- without bindings, a variable takes the value
pub closed_set : (es : List Scope) (r : Registers) (o name : Text) (x : Cell) → Agree r es → (closed es (put_cell r (o, name) x)).cells ≡ cond (is_some (bound_in (is_in o) (frames_by r es) name)) (closed es r).cells (insert (closed es r).cells (o, name) x)
closed_set [] r o name x h = refl
closed_set (Opened w ∷ es) r o name x h =
    closed_set es (step_back (Opened w) r) o name x h
    ∙ ap (λ b. cond b (closed es (step_back (Opened w) r)).cells (insert (closed es (step_back (Opened w) r)).cells (o, name) x))
    (nothing_bound (is_in o r.owner) (bound_in (is_in o) (frames_by (step_back (Opened w) r) es) name))
closed_set (Called w c ∷ es) r o name x h =
    closed_set es (step_back (Called w c) r) o name x h
    ∙ ap (λ b. cond b (closed es (step_back (Called w c) r)).cells (insert (closed es (step_back (Called w c) r)).cells (o, name) x))
    (nothing_bound (is_in o r.owner) (bound_in (is_in o) (frames_by (step_back (Called w c) r) es) name))
closed_set (Bound n b u ∷ es) r o name x h =
    by (is_set r.owner n o name) refl (closed_set es (step_back (Bound n b u) r) o name x h.1)
    ∙ sym (ap (λ y. cond (is_some y) (closed es (step_back (Bound n b u) r)).cells (insert (closed es (step_back (Bound n b u) r)).cells (o, name) x))
    (bound_head (is_in o) r.owner (frames_by (step_back (Bound n b u) r) es) n (value_at r.cells (r.owner, n)) name (head es (step_back (Bound n b u) r) h.0.within)))
  where
    by : (t : Bool) → is_set r.owner n o name ≡ t → (closed es (put_cell (step_back (Bound n b u) r) (o, name)
        x)).cells ≡ cond (is_some (bound_in (is_in o) (frames_by (step_back (Bound n b u) r) es) name)) (closed es
        (step_back (Bound n b u) r)).cells (insert (closed es (step_back (Bound n b u) r)).cells (o, name) x) →
        (closed es (step_back (Bound n b u) (put_cell r (o, name) x))).cells ≡ cond (is_some (cond t (Some (value_at
        r.cells (r.owner, n))) (bound_in (is_in o) (frames_by (step_back (Bound n b u) r) es) name))) (closed es
        (step_back (Bound n b u) r)).cells (insert (closed es (step_back (Bound n b u) r)).cells (o, name) x)
    by true e again = ap (λ q. (closed es q).cells) (stepped r (o, name) x n b u h.0.there true (turned r.owner n o name true e))
    by false e again = ap (λ q. (closed es q).cells) (stepped r (o, name) x n b u h.0.there false (turned r.owner n o name false e)) ∙ again

-- the newest frame's newest binding takes a value
rebound_hit : (f : Frame) (rest : List Frame) (o n : Text) (v : Value) (name : Text) (w : Value) (t u : Bool) → t ≡ true → u ≡ true → cond (t && is_some (cond u (Some v) (bound_by f.bindings name))) (record f { bindings = cond u ((n, w) ∷ f.bindings) ((n, v) ∷ rebound f.bindings name w) } ∷ rest) (record f { bindings = (n, v) ∷ f.bindings } ∷ rebound_in o rest name w) ≡ record f { bindings = (n, w) ∷ f.bindings } ∷ rest
rebound_hit f rest o n v name w true true e g = refl
rebound_hit f rest o n v name w true false e g = cc
rebound_hit f rest o n v name w false u e g = cc

-- a further binding of another name or module does not take it
rebound_miss : (f : Frame) (rest : List Frame) (o n : Text) (v : Value) (name : Text) (w : Value) (t u s : Bool) → (t
    && u) ≡ false → is_some (bound_by f.bindings name) ≡ s → cond (t && is_some (cond u (Some v) (bound_by f.bindings
    name))) (record f { bindings = cond u ((n, w) ∷ f.bindings) ((n, v) ∷ rebound f.bindings name w) } ∷ rest) (record
    f { bindings = (n, v) ∷ f.bindings } ∷ rebound_in o rest name w) ≡ with_binding (n, v) (cond (t && is_some
    (bound_by f.bindings name)) (record f { bindings = rebound f.bindings name w } ∷ rest) (f ∷ rebound_in o rest name
    w))
rebound_miss f rest o n v name w true true s e g = cc
rebound_miss f rest o n v name w true false s e g = by (is_some (bound_by f.bindings name))
  where
    by : (b : Bool) → cond b (record f { bindings = (n, v) ∷ rebound f.bindings name w } ∷ rest) (record f { bindings = (n, v) ∷ f.bindings } ∷ rebound_in o rest name w) ≡ with_binding (n, v) (cond b (record f { bindings = rebound f.bindings name w } ∷ rest) (f ∷ rebound_in o rest name w))
    by true = refl
    by false = refl
rebound_miss f rest o n v name w false u s e g = refl

split : (t u : Bool) → (t && u) ≡ true → (t ≡ true) × (u ≡ true)
split true u e = (refl, e)
split false u e = cc

rebound_head : (owner : Text) (fs : List Frame) (o n : Text) (v : Value) (name : Text) (w : Value) → HasHead owner fs → (t : Bool) → is_set owner n o name ≡ t → rebound_in o (with_binding (n, v) fs) name w ≡ cond t (with_binding (n, w) fs) (with_binding (n, v) (rebound_in o fs name w))
rebound_head owner fs o n v name w hd true e =
    let two = split (bytes_eq owner o) (bytes_eq n name) e in
    ap (λ gs. rebound_in o (with_binding (n, v) gs) name w) hd.is
    ∙ rebound_hit hd.first hd.rest o n v name w (is_in o hd.first.owner) (bytes_eq n name) (ap (is_in o) hd.owned ∙ two.0) two.1
    ∙ ap (with_binding (n, w)) (sym hd.is)
rebound_head owner fs o n v name w hd false e =
    ap (λ gs. rebound_in o (with_binding (n, v) gs) name w) hd.is
    ∙ rebound_miss hd.first hd.rest o n v name w (is_in o hd.first.owner) (bytes_eq n name) (is_some (bound_by hd.first.bindings name)) (ap (λ q. is_in o q && bytes_eq n name) hd.owned ∙ e) refl
    ∙ ap (λ gs. with_binding (n, v) (rebound_in o gs name w)) (sym hd.is)

nothing_rebound : (t : Bool) (A B : List Frame) → B ≡ cond (t && false) A B
nothing_rebound true A B = refl
nothing_rebound false A B = refl

-- the frames with a value that is set
pub frames_set : (es : List Scope) (r : Registers) (o name : Text) (x : Cell) → Agree r es → frames_by (put_cell r (o, name) x) es ≡ rebound_in o (frames_by r es) name x.value
frames_set [] r o name x h = refl
frames_set (Opened w ∷ es) r o name x h =
    ap (λ fs. record { owner = r.owner; caller = None; bindings = [] } ∷ fs) (frames_set es (step_back (Opened w) r) o name x h)
    ∙ nothing_rebound (is_in o r.owner) (record { owner = r.owner; caller = None; bindings = [] } ∷ frames_by (step_back (Opened w) r) es) (record { owner = r.owner; caller = None; bindings = [] } ∷ rebound_in o (frames_by (step_back (Opened w) r) es) name x.value)
frames_set (Called w c ∷ es) r o name x h =
    ap (λ fs. record { owner = r.owner; caller = Some r.caller; bindings = [] } ∷ fs) (frames_set es (step_back (Called w c) r) o name x h)
    ∙ nothing_rebound (is_in o r.owner) (record { owner = r.owner; caller = Some r.caller; bindings = [] } ∷ frames_by (step_back (Called w c) r) es) (record { owner = r.owner; caller = Some r.caller; bindings = [] } ∷ rebound_in o (frames_by (step_back (Called w c) r) es) name x.value)
frames_set (Bound n b u ∷ es) r o name x h =
    by (is_set r.owner n o name) refl (frames_set es (step_back (Bound n b u) r) o name x h.1)
  where
    old : List Frame
    old = frames_by (step_back (Bound n b u) r) es

    hd : HasHead r.owner (frames_by (step_back (Bound n b u) r) es)
    hd = head es (step_back (Bound n b u) r) h.0.within

    by : (t : Bool) → is_set r.owner n o name ≡ t → frames_by (put_cell (step_back (Bound n b u) r) (o, name) x) es ≡ rebound_in o (frames_by (step_back (Bound n b u) r) es) name x.value → frames_by (put_cell r (o, name) x) (Bound n b u ∷ es) ≡ rebound_in o (with_binding (n, value_at r.cells (r.owner, n)) (frames_by (step_back (Bound n b u) r) es)) name x.value
    by true e again =
        let one : (r.owner, n) ≡ (o, name) = same_key (r.owner, n) (o, name) (set_key r.owner n o name true e) in
        let value : value_at (insert r.cells (o, name) x) (r.owner, n) ≡ x.value = ap (value_at (insert r.cells (o, name) x)) one ∙ ap value_of (there r.cells (o, name) (Some x)) in
        (λ i. with_binding (n, value i) (frames_by (stepped r (o, name) x n b u h.0.there true (turned r.owner n o name true e) i) es))
        ∙ sym (rebound_head r.owner (frames_by (step_back (Bound n b u) r) es) o n (value_at r.cells (r.owner, n)) name x.value hd true e)
    by false e again =
        let value : value_at (insert r.cells (o, name) x) (r.owner, n) ≡ value_at r.cells (r.owner, n) = ap value_of (elsewhere r.cells (o, name) (r.owner, n) (Some x) (set_key r.owner n o name false e)) in
        (λ i. with_binding (n, value i) ((ap (λ q. frames_by q es) (stepped r (o, name) x n b u h.0.there false (turned r.owner n o name false e)) ∙ again) i))
        ∙ sym (rebound_head r.owner (frames_by (step_back (Bound n b u) r) es) o n (value_at r.cells (r.owner, n)) name x.value hd false e)

rebound_none_by : (t : Bool) (x y : Option Value) (A B C : List Frame) → option_or (cond t x None) y ≡ None → (y ≡ None → B ≡ C) → cond (t && is_some x) A B ≡ C
rebound_none_by true None y A B C e h = h e
rebound_none_by true (Some v) y A B C e h = cc
rebound_none_by false x y A B C e h = h e

rebound_none : (o : Text) (fs : List Frame) (name : Text) (w : Value) → bound_in (is_in o) fs name ≡ None → rebound_in o fs name w ≡ fs
rebound_none o [] name w e = refl
rebound_none o (f ∷ fs) name w e =
    rebound_none_by (is_in o f.owner) (bound_by f.bindings name) (bound_in (is_in o) fs name) (record f { bindings = rebound f.bindings name w } ∷ fs) (f ∷ rebound_in o fs name w) (f ∷ fs) e
    (λ g. ap (λ gs. f ∷ gs) (rebound_none o fs name w g))

none_is : {A : Type 0} (x : Option A) → is_some x ≡ false → x ≡ None
none_is None e = refl
none_is (Some v) e = cc

assign_by : (es : List Scope) (r : Registers) (name : Text) (x : Cell) → Agree r es → (t : Bool) → is_some (bound_in (is_in r.owner) (frames_by r es) name) ≡ t → seen (put_cell r (r.owner, name) x) es ≡ cond t (record (seen r es) { frames = rebound_in r.owner (frames_by r es) name x.value }) (record (seen r es) { variables = insert (seen r es).variables (r.owner, name) x.value })
assign_by es r name x h true e = λ i. record {
  frames = frames_set es r r.owner name x h i;
  variables = values_of ((closed_set es r r.owner name x h ∙ ap (λ b. cond b (closed es r).cells (insert (closed es r).cells (r.owner, name) x)) e) i);
}
assign_by es r name x h false e =
    let frames : frames_by (put_cell r (r.owner, name) x) es ≡ frames_by r es = frames_set es r r.owner name x h ∙ rebound_none r.owner (frames_by r es) name x.value (none_is (bound_in (is_in r.owner) (frames_by r es) name) e) in
    let variables : values_of (closed es (put_cell r (r.owner, name) x)).cells ≡ insert (values_of (closed es r).cells) (r.owner, name) x.value =
    ap values_of (closed_set es r r.owner name x h ∙ ap (λ b. cond b (closed es r).cells (insert (closed es r).cells (r.owner, name) x)) e) ∙ values_put (closed es r).cells (r.owner, name) x in
    λ i. record { frames = frames i; variables = variables i }

-- setting is assigning
pub assign_is : (es : List Scope) (r : Registers) (name : Text) (x : Cell) → Agree r es → seen (put_cell r (r.owner, name) x) es ≡ assign name x.value (seen r es)
assign_is es r name x h =
    assign_by es r name x h (is_some (bound_in (is_in r.owner) (frames_by r es) name)) refl
    ∙ ap (λ o. assign_in o name x.value (seen r es)) (sym (module_is es r h))

-- setting what stands there with more texts is appending
pub append_is : (es : List Scope) (r : Registers) (name : Text) (texts : Value) (x : Cell) → x.value ≡ value_at r.cells (r.owner, name) ++ texts → Agree r es → seen (put_cell r (r.owner, name) x) es ≡ append name texts (seen r es)
append_is es r name texts x e h =
    assign_is es r name x h
    ∙ ap (λ v. assign name v (seen r es)) (e ∙ ap (λ v. v ++ texts) (sym (ap (λ y. unwrap_or y []) (assigned_is es r name h) ∙ value_is r.cells (r.owner, name))))
