-- A name that is looked up in the frames that registers and entries stand for has the value of its cell: for reading.
use Rattle.std.proofs.Common.{◌≡◌, suc, ◌<◌, true, false, Bool, cond, ◌&&◌, ◌||◌, List, [], ◌∷◌, map as each, length, Option, Some, None, is_some, refl, sym, ap, ◌∙◌, arith}
use Rattle.std.specs.Option.{option_map, option_or, unwrap_or}
use Rattle.std.specs.Ordering.{eq_by_cmp}
use Rattle.std.specs.Str.{bytes_eq}
use Rattle.std.specs.FinMap.{get, insert, entries, get-from_entries, get-entries}
use Rattle.std.specs.FinMap.Entries.{find}
use Rattle.std.proofs.lemmas.Slice.Eq.{bytes_eq-Decides}
use Rattle.jam_journal.specs.declared.registers.Cell.{Cell}
use Rattle.jam_journal.specs.declared.registers.Registers.{Registers}
use Rattle.jam_journal.specs.declared.registers.Scope.{Scope}
use Rattle.jam_journal.specs.declared.registers.Scope.TheVariants.{Opened, Called, Bound}
use Rattle.jam_journal.specs.Tables.{Text, Key, Names, Table, key_cmp, back_name}
use Rattle.jam_journal.specs.Scopes.{Value, Binding, Frame, is_special, module_of, bound_by, bound_in, is_in, look_in, look, assigned_in, assigned, with_binding, caller_of}
use Rattle.jam_journal.specs.Stacks.{value_of, value_at, values_of, found_by, found, step_back, closed, opened, frames_by, seen, Agree}
use Rattle.jam_journal.proofs.ReplacingTouchesOneName.{get_back_name_apart}
use Rattle.jam_journal.proofs.ReplacingTouchesOnePair.{same, get_put, same_key, key_order, by_both, keys_apart, get_back_apart}

-- the value of the cell at a key, if there is one
abbrev pub seen_at : Table Cell → Key → Option Value
seen_at cells key = option_map (λ (c : Cell). c.value) (get cells key)

find_values : (es : List (Key × Cell)) (q : Key) → find key_cmp q (each (λ e. (e.0, e.1.value)) es) ≡ option_map (λ (c : Cell). c.value) (find key_cmp q es)
find_values [] q = refl
find_values (e ∷ es) q = by (eq_by_cmp key_cmp q e.0) (find_values es q)
  where
    by : (t : Bool) → find key_cmp q (each (λ (d : Key × Cell). (d.0, d.1.value)) es) ≡ option_map (λ (c : Cell). c.value) (find key_cmp q es) → cond t (Some e.1.value) (find key_cmp q (each (λ (d : Key × Cell). (d.0, d.1.value)) es)) ≡ option_map (λ (c : Cell). c.value) (cond t (Some e.1) (find key_cmp q es))
    by true again = refl
    by false again = again

-- the variables are the values of the cells
pub get_values_of : (cells : Table Cell) (q : Key) → get (values_of cells) q ≡ seen_at cells q
get_values_of cells q =
    get-from_entries key_order (each (λ (e : Key × Cell). (e.0, e.1.value)) (entries cells)) q
    ∙ find_values (entries cells) q
    ∙ ap (option_map (λ (c : Cell). c.value)) (sym (get-entries cells q))

mapped : (t : Bool) (x : Cell) (o : Option Cell) → option_map (λ (c : Cell). c.value) (cond t (Some x) o) ≡ cond t (Some x.value) (option_map (λ (c : Cell). c.value) o)
mapped true x o = refl
mapped false x o = refl

pub values_put : (cells : Table Cell) (k : Key) (x : Cell) → values_of (insert cells k x) ≡ insert (values_of cells) k x.value
values_put cells k x = same _ _ (λ q.
    get_values_of (insert cells k x) q
    ∙ ap (option_map (λ (c : Cell). c.value)) (get_put cells k (Some x) q)
    ∙ mapped (eq_by_cmp key_cmp q k) x (get cells q)
    ∙ ap (cond (eq_by_cmp key_cmp q k) (Some x.value)) (sym (get_values_of cells q))
    ∙ sym (get_put (values_of cells) k (Some x.value) q))

some_value : (o : Option Cell) → is_some o ≡ true → Some (value_of o) ≡ option_map (λ (c : Cell). c.value) o
some_value None e = cc
some_value (Some c) e = refl

pub value_there : (cells : Table Cell) (k : Key) → is_some (get cells k) ≡ true → Some (value_at cells k) ≡ seen_at cells k
value_there cells k h = some_value (get cells k) h

or_empty : (o : Option Cell) → unwrap_or (option_map (λ (c : Cell). c.value) o) [] ≡ value_of o
or_empty None = refl
or_empty (Some c) = refl

pub value_is : (cells : Table Cell) (k : Key) → unwrap_or (seen_at cells k) [] ≡ value_at cells k
value_is cells k = or_empty (get cells k)

-- ---- frames

-- the newest frame and its module
pub record HasHead (owner : Text) (fs : List Frame) : Type 0 where
  pub first : Frame
  pub rest : List Frame
  pub is : fs ≡ first ∷ rest
  pub owned : first.owner ≡ owner

pub head : (es : List Scope) (r : Registers) → 0 < opened es → HasHead r.owner (frames_by r es)
head [] r h = absurd (omega arith)
head (Opened o ∷ es) r h = record { first = record { owner = r.owner; caller = None; bindings = [] }; rest = frames_by (step_back (Opened o) r) es; is = refl; owned = refl }
head (Called o c ∷ es) r h = record { first = record { owner = r.owner; caller = Some r.caller; bindings = [] }; rest = frames_by (step_back (Called o c) r) es; is = refl; owned = refl }
head (Bound n b u ∷ es) r h =
    let again : HasHead r.owner (frames_by (step_back (Bound n b u) r) es) = head es (step_back (Bound n b u) r) h in
    record {
      first = record again.first { bindings = (n, value_at r.cells (r.owner, n)) ∷ again.first.bindings };
      rest = again.rest;
      is = ap (with_binding (n, value_at r.cells (r.owner, n))) again.is;
      owned = again.owned;
    }

pub length_with : (b : Binding) (fs : List Frame) → length (with_binding b fs) ≡ length fs
length_with b [] = refl
length_with b (f ∷ fs) = refl

-- there are as many frames as entries open
pub count_is : (es : List Scope) (r : Registers) → length (frames_by r es) ≡ opened es
count_is [] r = refl
count_is (Opened o ∷ es) r = ap suc (count_is es (step_back (Opened o) r))
count_is (Called o c ∷ es) r = ap suc (count_is es (step_back (Called o c) r))
count_is (Bound n b u ∷ es) r = length_with (n, value_at r.cells (r.owner, n)) (frames_by (step_back (Bound n b u) r) es) ∙ count_is es (step_back (Bound n b u) r)

module_with : (b : Binding) (fs : List Frame) → module_of (with_binding b fs) ≡ module_of fs
module_with b [] = refl
module_with b (f ∷ fs) = refl

-- the present module
pub module_is : (es : List Scope) (r : Registers) → Agree r es → module_of (frames_by r es) ≡ r.owner
module_is [] r h = sym h.0
module_is (Opened o ∷ es) r h = refl
module_is (Called o c ∷ es) r h = refl
module_is (Bound n b u ∷ es) r h = module_with (n, value_at r.cells (r.owner, n)) (frames_by (step_back (Bound n b u) r) es) ∙ module_is es (step_back (Bound n b u) r) h.1

caller_with : (b : Binding) (fs : List Frame) → caller_of (with_binding b fs) ≡ caller_of fs
caller_with b [] = refl
caller_with b (f ∷ fs) = refl

-- the module that the innermost call keeps
pub caller_is : (es : List Scope) (r : Registers) → Agree r es → caller_of (frames_by r es) ≡ r.caller
caller_is [] r h = sym h.1
caller_is (Opened o ∷ es) r h = caller_is es (step_back (Opened o) r) h
caller_is (Called o c ∷ es) r h = refl
caller_is (Bound n b u ∷ es) r h = caller_with (n, value_at r.cells (r.owner, n)) (frames_by (step_back (Bound n b u) r) es) ∙ caller_is es (step_back (Bound n b u) r) h.1

-- ---- looking up

opened_none : (t : Bool) (y : Option Value) → option_or (cond t None None) y ≡ y
opened_none true y = refl
opened_none false y = refl

bound_first : (t u : Bool) (v : Value) (x y : Option Value) → option_or (cond t (cond u (Some v) x) None) y ≡ cond (t && u) (Some v) (option_or (cond t x None) y)
bound_first true true v x y = refl
bound_first true false v x y = refl
bound_first false u v x y = refl

-- a further binding of the newest frame is found by its name, if the frame's module counts
pub bound_head : (counts : Text → Bool) (owner : Text) (fs : List Frame) (n : Text) (v : Value) (name : Text) → HasHead owner fs → bound_in counts (with_binding (n, v) fs) name ≡ cond (counts owner && bytes_eq n name) (Some v) (bound_in counts fs name)
bound_head counts owner fs n v name hd =
    ap (λ gs. bound_in counts (with_binding (n, v) gs) name) hd.is
    ∙ bound_first (counts hd.first.owner) (bytes_eq n name) v (bound_by hd.first.bindings name) (bound_in counts hd.rest name)
    ∙ (λ i. cond (counts (hd.owned i) && bytes_eq n name) (Some v) (bound_in counts (sym hd.is i) name))

-- the key of a binding and a key that is sought
sought : (owner n o name : Text) (t : Bool) → (bytes_eq owner o && bytes_eq n name) ≡ t → eq_by_cmp key_cmp (owner, n) (o, name) ≡ t
sought owner n o name t e = by_both owner n o name ∙ e

-- the innermost frame of a module that binds a name has the value of the cell, and without one the module's variable has it
pub seen_is : (es : List Scope) (r : Registers) (o name : Text) → Agree r es → option_or (bound_in (is_in o) (frames_by r es) name) (seen_at (closed es r).cells (o, name)) ≡ seen_at r.cells (o, name)
seen_is [] r o name h = refl
seen_is (Opened w ∷ es) r o name h =
    ap (λ y. option_or y (seen_at (closed es (step_back (Opened w) r)).cells (o, name))) (opened_none (is_in o r.owner) (bound_in (is_in o) (frames_by (step_back (Opened w) r) es) name))
    ∙ seen_is es (step_back (Opened w) r) o name h
seen_is (Called w c ∷ es) r o name h =
    ap (λ y. option_or y (seen_at (closed es (step_back (Called w c) r)).cells (o, name))) (opened_none (is_in o r.owner) (bound_in (is_in o) (frames_by (step_back (Called w c) r) es) name))
    ∙ seen_is es (step_back (Called w c) r) o name h
seen_is (Bound n b u ∷ es) r o name h =
    ap (λ y. option_or y rest) (bound_head (is_in o) r.owner (frames_by (step_back (Bound n b u) r) es) n (value_at r.cells (r.owner, n)) name (head es (step_back (Bound n b u) r) h.0.within))
    ∙ by (bytes_eq r.owner o && bytes_eq n name) refl (seen_is es (step_back (Bound n b u) r) o name h.1)
  where
    rest : Option Value
    rest = seen_at (closed es (step_back (Bound n b u) r)).cells (o, name)

    by : (t : Bool) → (bytes_eq r.owner o && bytes_eq n name) ≡ t → option_or (bound_in (is_in o) (frames_by (step_back (Bound n b u) r) es) name) (seen_at (closed es (step_back (Bound n b u) r)).cells (o, name)) ≡ seen_at (step_back (Bound n b u) r).cells (o, name) → option_or (cond t (Some (value_at r.cells (r.owner, n))) (bound_in (is_in o) (frames_by (step_back (Bound n b u) r) es) name)) rest ≡ seen_at r.cells (o, name)
    by true e again = value_there r.cells (r.owner, n) h.0.there ∙ ap (seen_at r.cells) (same_key (r.owner, n) (o, name) (sought r.owner n o name true e))
    by false e again =
        again ∙ ap (option_map (λ (c : Cell). c.value)) (get_back_apart r.cells (o, name) (r.owner, n) b (keys_apart (r.owner, n) (o, name) (sought r.owner n o name false e)))

-- the value that an assignment would replace is that of the cell
pub assigned_is : (es : List Scope) (r : Registers) (name : Text) → Agree r es → assigned (seen r es) name ≡ seen_at r.cells (r.owner, name)
assigned_is es r name h =
    ap (λ o. assigned_in o (seen r es) name) (module_is es r h)
    ∙ ap (option_or (bound_in (is_in r.owner) (frames_by r es) name)) (get_values_of (closed es r).cells (r.owner, name))
    ∙ seen_is es r r.owner name h

-- ---- argument lists

-- what the innermost frame that binds an argument list gives it
abbrev pub kept_at : Registers → Text → Option Text → Option Value
kept_at r name None = None
kept_at r name (Some owner) = Some (value_at r.cells (owner, name))

kept_moved : (r : Registers) (n : Text) (b : Option Cell) (u : Option Text) (name : Text) (o : Option Text) → bytes_eq n name ≡ false → kept_at (step_back (Bound n b u) r) name o ≡ kept_at r name o
kept_moved r n b u name None e = refl
kept_moved r n b u name (Some owner) e =
    ap (λ (c : Option Cell). Some (value_of c)) (get_back_apart r.cells (owner, name) (r.owner, n) b (keys_apart (r.owner, n) (owner, name) (sought r.owner n owner name false (both_false (bytes_eq r.owner owner) (bytes_eq n name) e))))
  where
    both_false : (t u : Bool) → u ≡ false → (t && u) ≡ false
    both_false true u e = e
    both_false false u e = refl

outer_moved : (t : Bool) (names : Names Text) (n : Text) (u : Option Text) (name : Text) → bytes_eq name n ≡ false → get (cond t (back_name names n u) names) name ≡ get names name
outer_moved true names n u name e = get_back_name_apart names name n u e
outer_moved false names n u name e = refl

flip : (a b : Text) → bytes_eq a b ≡ false → (t : Bool) → bytes_eq b a ≡ t → t ≡ false
flip a b e true f = sym ((bytes_eq-Decides a b).1 (sym ((bytes_eq-Decides b a).0 f))) ∙ e
flip a b e false f = refl

-- the table of argument lists has the innermost frame that binds a name
pub special_is : (es : List Scope) (r : Registers) (name : Text) → is_special name ≡ true → Agree r es → bound_in (λ other. true) (frames_by r es) name ≡ kept_at r name (get r.innermost name)
special_is [] r name s h = ap (kept_at r name) (sym (h.2 name))
special_is (Opened w ∷ es) r name s h = special_is es (step_back (Opened w) r) name s h
special_is (Called w c ∷ es) r name s h = special_is es (step_back (Called w c) r) name s h
special_is (Bound n b u ∷ es) r name s h =
    bound_head (λ other. true) r.owner (frames_by (step_back (Bound n b u) r) es) n (value_at r.cells (r.owner, n)) name (head es (step_back (Bound n b u) r) h.0.within)
    ∙ by (bytes_eq n name) refl (special_is es (step_back (Bound n b u) r) name s h.1)
  where
    by : (t : Bool) → bytes_eq n name ≡ t → bound_in (λ other. true) (frames_by (step_back (Bound n b u) r) es) name ≡ kept_at (step_back (Bound n b u) r) name (get (step_back (Bound n b u) r).innermost name) → cond t (Some (value_at r.cells (r.owner, n))) (bound_in (λ other. true) (frames_by (step_back (Bound n b u) r) es) name) ≡ kept_at r name (get r.innermost name)
    by true e again =
        let one : n ≡ name = (bytes_eq-Decides n name).0 e in
        ap (λ m. Some (value_at r.cells (r.owner, m))) one
        ∙ ap (kept_at r name) (sym (ap (get r.innermost) (sym one) ∙ h.0.innermost (ap is_special one ∙ s)))
    by false e again =
        again
        ∙ ap (kept_at (step_back (Bound n b u) r) name) (outer_moved (is_special n) r.innermost n u name (flip n name e (bytes_eq name n) refl))
        ∙ kept_moved r n b u name (get r.innermost name) e

or_nothing : (x y : Option Value) → option_or x y ≡ None → (x ≡ None) × (y ≡ None)
or_nothing None y e = (refl, e)
or_nothing (Some v) y e = cc

fewer : (counts : Text → Bool) (fs : List Frame) (name : Text) → bound_in (λ other. true) fs name ≡ None → bound_in counts fs name ≡ None
fewer counts [] name e = refl
fewer counts (f ∷ fs) name e =
    let two = or_nothing (bound_by f.bindings name) (bound_in (λ other. true) fs name) e in
    by (counts f.owner) two.0 (fewer counts fs name two.1)
  where
    by : (t : Bool) → bound_by f.bindings name ≡ None → bound_in counts fs name ≡ None → option_or (cond t (bound_by f.bindings name) None) (bound_in counts fs name) ≡ None
    by true p q = (λ i. option_or (p i) (q i))
    by false p q = q

look_plain : (es : List Scope) (r : Registers) (name : Text) → Agree r es → unwrap_or (option_or (bound_in (is_in r.owner) (frames_by r es) name) (get (values_of (closed es r).cells) (r.owner, name))) [] ≡ value_at r.cells (r.owner, name)
look_plain es r name h =
    ap (λ y. unwrap_or (option_or (bound_in (is_in r.owner) (frames_by r es) name) y) []) (get_values_of (closed es r).cells (r.owner, name))
    ∙ ap (λ y. unwrap_or y []) (seen_is es r r.owner name h)
    ∙ value_is r.cells (r.owner, name)

look_by : (es : List Scope) (r : Registers) (name : Text) → Agree r es → (t : Bool) → is_special name ≡ t → unwrap_or (option_or (bound_in (λ other. t || is_in r.owner other) (frames_by r es) name) (get (values_of (closed es r).cells) (r.owner, name))) [] ≡ found_by r name (cond t (get r.innermost name) None)
look_by es r name h false e = look_plain es r name h
look_by es r name h true e = by (get r.innermost name) (special_is es r name e h)
  where
    by : (o : Option Text) → bound_in (λ other. true) (frames_by r es) name ≡ kept_at r name o → unwrap_or (option_or (bound_in (λ other. true) (frames_by r es) name) (get (values_of (closed es r).cells) (r.owner, name))) [] ≡ found_by r name o
    by (Some owner) f = ap (λ y. unwrap_or (option_or y (get (values_of (closed es r).cells) (r.owner, name))) []) f
    by None f =
        ap (λ y. unwrap_or (option_or y (get (values_of (closed es r).cells) (r.owner, name))) []) (f ∙ sym (fewer (is_in r.owner) (frames_by r es) name f))
        ∙ look_plain es r name h

-- looking up finds what the registers have
pub look_is : (es : List Scope) (r : Registers) (name : Text) → Agree r es → look (seen r es) name ≡ found r name
look_is es r name h =
    ap (λ o. look_in o (seen r es) name) (module_is es r h) ∙ look_by es r name h (is_special name) refl
