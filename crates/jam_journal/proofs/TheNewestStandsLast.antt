-- What changes keep and show where the code holds entries and changes with the newest last: for variables.
use Rattle.std.proofs.Common.{IsTrue, ◌↔◌, ◌≡◌, ◌≢◌, ℕ, suc, ◌+◌, ◌<◌, ◌≤◌, ◌==◌, true, false, Bool, cond, List, [], ◌∷◌, ◌++◌, map as each, reverse, length, refl, sym, ap, subst, ◌∙◌, arith}
use Rattle.std.specs.FinMap as map
use Rattle.std.specs.Option.{option_map}
use Rattle.std.specs.Ordering.{nat_cmp}
use Rattle.std.specs.Cmp.Lexicographic.{slice_cmp}
use Rattle.std.proofs.lemmas.Bool.Decides.{Decides-eqb}
use Rattle.std.specs.List.{list_any}
use Rattle.std.proofs.lemmas.List.{length-map, length-reverse, reverse-append}
use Rattle.jam_journal.specs.declared.past.Replacement.{Replacement}
use Rattle.jam_journal.specs.declared.registers.Cell.{Cell}
use Rattle.jam_journal.specs.declared.registers.Registers.{Registers}
use Rattle.jam_journal.specs.declared.registers.Scope.{Scope}
use Rattle.jam_journal.specs.declared.registers.Scope.TheVariants.{Opened, Called, Bound}
use Rattle.jam_journal.specs.declared.variables.Layer.{Layer}
use Rattle.jam_journal.specs.Tables.{Text, Key, Table, key_cmp}
use Rattle.jam_journal.specs.Marks.{changed}
use Rattle.jam_journal.specs.Pasts.{replaced}
use Rattle.jam_journal.specs.Scopes.{Value, Frame, assign, append, first_scopes, frames_at_mark}
use Rattle.jam_journal.specs.Stacks.{value_at, values_of, stamp_of, stamp_at, put_cell, opens, opened, frames_by, Layers, entries_of, back, scopes_by, AllKept}
use Rattle.jam_journal.specs.Layers.{layers_of}
use Rattle.jam_journal.proofs.NotedChangesKeepThePast.{reverse_push}
use Rattle.jam_journal.proofs.LookupsFindWhatCellsHold.{count_is, get_values_of}
use Rattle.jam_journal.proofs.ReplacingTouchesOnePair.{same}
use Rattle.jam_journal.proofs.ChangesKeepWhatWasMarked.{set_kept, set_seen, note_kept, note_seen, append_seen, note_append_seen, mark_kept}

pub layers_length : (ls : List Layer) → length (layers_of ls) ≡ length ls
layers_length ls = length-map (reverse ls) (λ layer. (reverse layer.entries.items, reverse layer.changes.items)) ∙ length-reverse ls

pub layers_push : (ls : List Layer) (l : Layer) → layers_of (ls ++ l ∷ []) ≡ (reverse l.entries.items, reverse l.changes.items) ∷ layers_of ls
layers_push ls l = ap (each (λ (layer : Layer). (reverse layer.entries.items, reverse layer.changes.items))) (reverse_push ls l)

module _ (older : Layers) (es : List Scope) (cs : List (Replacement Cell)) (q r : Registers) (fs : List Scope) (s : Scope) (e : q ≡ r) (f : fs ≡ es ++ s ∷ []) where
  both : ◌≡◌ {A = Registers × List Scope} (q, reverse fs) (r, s ∷ reverse es)
  both = λ i. (e i, (ap reverse f ∙ reverse_push es s) i)

  -- an entry that was pushed is the newest
  pub pushed_kept : AllKept r (s ∷ reverse es) cs older → AllKept q (reverse fs) cs older
  pushed_kept h = subst (λ (p : Registers × List Scope). AllKept p.0 p.1 cs older) (sym both) h

  pub pushed_seen : scopes_by q (reverse fs) cs older ≡ scopes_by r (s ∷ reverse es) cs older
  pushed_seen = ap (λ (p : Registers × List Scope). scopes_by p.0 p.1 cs older) both

-- ---- setting

module _ (older : Layers) (r : Registers) (es : List Scope) (cs ds : List (Replacement Cell)) (h : AllKept r es (reverse cs) older) (name : Text) (x : Cell) (q : Registers) (e : q ≡ put_cell r (r.owner, name) x) (s : x.stamp ≡ length older) where
  moved : (t : Bool) → ds ≡ cond t cs (cs ++ replaced (r.owner, name) (map.get r.cells (r.owner, name)) ∷ []) → ◌≡◌ {A = Registers × List (Replacement Cell)} (q, reverse ds) (put_cell r (r.owner, name) x, cond t (reverse cs) (replaced (r.owner, name) (map.get r.cells (r.owner, name)) ∷ reverse cs))
  moved true f = λ i. (e i, ap reverse f i)
  moved false f = λ i. (e i, (ap reverse f ∙ reverse_push cs (replaced (r.owner, name) (map.get r.cells (r.owner, name)))) i)

  is_stamp : (t : Bool) → t ≡ (stamp_at r.cells (r.owner, name) == x.stamp) → t ≡ true → stamp_at r.cells (r.owner, name) ≡ length older
  is_stamp t b g = (Decides-eqb (stamp_at r.cells (r.owner, name)) x.stamp).0 (sym b ∙ g) ∙ s

  no_stamp : (t : Bool) → t ≡ (stamp_at r.cells (r.owner, name) == x.stamp) → t ≡ false → stamp_at r.cells (r.owner, name) ≡ length older → ⊥
  no_stamp t b g f =
      let one : t ≡ true = b ∙ (Decides-eqb (stamp_at r.cells (r.owner, name)) x.stamp).1 (f ∙ sym s) in
      let not_both : true ≡ false = sym one ∙ g in cc

  pub set_is_kept : (t : Bool) → t ≡ (stamp_at r.cells (r.owner, name) == x.stamp) → ds ≡ cond t cs (cs ++ replaced (r.owner, name) (map.get r.cells (r.owner, name)) ∷ []) → AllKept q es (reverse ds) older
  set_is_kept true b f = subst (λ (p : Registers × List (Replacement Cell)). AllKept p.0 es p.1 older) (sym (moved true f)) (set_kept older r es (reverse cs) h name x s (is_stamp true b refl))
  set_is_kept false b f = subst (λ (p : Registers × List (Replacement Cell)). AllKept p.0 es p.1 older) (sym (moved false f)) (note_kept older r es (reverse cs) h name x s (no_stamp false b refl))

  pub set_is_seen : (t : Bool) → t ≡ (stamp_at r.cells (r.owner, name) == x.stamp) → ds ≡ cond t cs (cs ++ replaced (r.owner, name) (map.get r.cells (r.owner, name)) ∷ []) → scopes_by q es (reverse ds) older ≡ changed (assign name x.value) (scopes_by r es (reverse cs) older)
  set_is_seen true b f = ap (λ (p : Registers × List (Replacement Cell)). scopes_by p.0 es p.1 older) (moved true f) ∙ set_seen older r es (reverse cs) h name x (is_stamp true b refl)
  set_is_seen false b f = ap (λ (p : Registers × List (Replacement Cell)). scopes_by p.0 es p.1 older) (moved false f) ∙ note_seen older r es (reverse cs) h name x (no_stamp false b refl)

  pub append_is_seen : (texts : Value) → x.value ≡ value_at r.cells (r.owner, name) ++ texts → (t : Bool) → t ≡ (stamp_at r.cells (r.owner, name) == x.stamp) → ds ≡ cond t cs (cs ++ replaced (r.owner, name) (map.get r.cells (r.owner, name)) ∷ []) → scopes_by q es (reverse ds) older ≡ changed (append name texts) (scopes_by r es (reverse cs) older)
  append_is_seen texts v true b f = ap (λ (p : Registers × List (Replacement Cell)). scopes_by p.0 es p.1 older) (moved true f) ∙ append_seen older r es (reverse cs) h name texts x v (is_stamp true b refl)
  append_is_seen texts v false b f = ap (λ (p : Registers × List (Replacement Cell)). scopes_by p.0 es p.1 older) (moved false f) ∙ note_append_seen older r es (reverse cs) h name texts x v (no_stamp false b refl)

-- ---- marking

pub mark_is_kept : (older : Layers) (r : Registers) (es : List Scope) (cs : List (Replacement Cell)) → AllKept r es cs older → (fs : List Scope) (ds : List (Replacement Cell)) (ls : Layers) → fs ≡ [] → ds ≡ [] → ls ≡ (es, cs) ∷ older → AllKept r fs ds ls
mark_is_kept older r es cs h fs ds ls e f g =
    let all : ◌≡◌ {A = List Scope × (List (Replacement Cell) × Layers)} (fs, (ds, ls)) ([], ([], (es, cs) ∷ older)) = λ i. (e i, (f i, g i)) in
    subst (λ (p : List Scope × (List (Replacement Cell) × Layers)). AllKept r p.0 p.1.0 p.1.1) (sym all) (mark_kept older r es cs h)

-- ---- frames

opened_append : (es fs : List Scope) → opened (es ++ fs) ≡ opened es + opened fs
opened_append [] fs = omega arith
opened_append (Opened o ∷ es) fs = let again : opened (es ++ fs) ≡ opened es + opened fs = opened_append es fs in omega arith
opened_append (Called o c ∷ es) fs = let again : opened (es ++ fs) ≡ opened es + opened fs = opened_append es fs in omega arith
opened_append (Bound n b u ∷ es) fs = opened_append es fs

more : (a b c m n : ℕ) → n ≡ a + b → m ≡ b → m < n → 0 < a
more a b c m n e f g = omega arith

-- the newest frame is newer than the newest mark
pub may_leave : (older : Layers) (r : Registers) (es : List Scope) (cs : List (Replacement Cell)) → frames_at_mark (scopes_by r es cs older).1 < length (scopes_by r es cs older).0.frames → 0 < opened es
may_leave [] r es cs h =
    more (opened es) 0 0 0 (length (frames_by r (es ++ []))) (count_is (es ++ []) r ∙ opened_append es []) refl h
may_leave (l ∷ ls) r es cs h =
    more (opened es) (opened (entries_of (l ∷ ls))) 0 (length (frames_by (back r es cs) (entries_of (l ∷ ls)))) (length (frames_by r (es ++ entries_of (l ∷ ls))))
    (count_is (es ++ entries_of (l ∷ ls)) r ∙ opened_append es (entries_of (l ∷ ls))) (count_is (entries_of (l ∷ ls)) (back r es cs)) h

some_frame : (fs : List Frame) → fs ≢ [] → 0 < length fs
some_frame [] h = absurd (h refl)
some_frame (f ∷ fs) h = omega arith

-- there is a frame
pub is_within : (es : List Scope) (r : Registers) → frames_by r es ≢ [] → 0 < opened es
is_within es r h = subst (λ n. 0 < n) (count_is es r) (some_frame (frames_by r es) h)

-- ---- at first

first_value : (cells : Table Cell) → cells ≡ map.empty → values_of cells ≡ map.empty
first_value cells e = same _ _ (λ q.
    get_values_of cells q ∙ ap (λ m. option_map (λ (c : Cell). c.value) (map.get m q)) e
    ∙ ap (option_map (λ (c : Cell). c.value)) (map.get-empty key_cmp q) ∙ sym (map.get-empty key_cmp q))

module _ (r : Registers) (cells : r.cells ≡ map.empty) (innermost : r.innermost ≡ map.empty) (owner : r.owner ≡ []) (caller : r.caller ≡ []) (es : List Scope) (cs : List (Replacement Cell)) (ls : Layers) (e : es ≡ []) (f : cs ≡ []) (g : ls ≡ []) where
  no_entry : ◌≡◌ {A = List Scope × (List (Replacement Cell) × Layers)} (es, (cs, ls)) ([], ([], []))
  no_entry = λ i. (e i, (f i, g i))

  first_stamp : (key : Key) → stamp_at r.cells key ≡ 0
  first_stamp key = ap (λ m. stamp_of (map.get m key)) cells ∙ ap stamp_of (map.get-empty key_cmp key)

  pub first_is_kept : AllKept r es cs ls
  first_is_kept = subst (λ (p : List Scope × (List (Replacement Cell) × Layers)). AllKept r p.0 p.1.0 p.1.1) (sym no_entry)
      (record {
        agree = (owner, caller, λ name. ap (λ m. map.get m name) innermost ∙ map.get-empty (slice_cmp nat_cmp) name);
        low = λ key. subst (λ n. n ≤ 0) (sym (first_stamp key)) (omega arith);
        fresh = tt;
      })

  pub first_is_seen : scopes_by r es cs ls ≡ (first_scopes, [])
  first_is_seen =
      ap (λ (p : List Scope × (List (Replacement Cell) × Layers)). scopes_by r p.0 p.1.0 p.1.1) no_entry
      ∙ ap (λ v. (record { frames = []; variables = v }, [])) (first_value r.cells cells)

-- there are as many marks as layers
pub marked_length : (older : Layers) (r : Registers) (es : List Scope) (cs : List (Replacement Cell)) → length (scopes_by r es cs older).1 ≡ length older
marked_length [] r es cs = refl
marked_length (l ∷ ls) r es cs = ap suc (marked_length ls (back r es cs) l.0 l.1)

-- ---- whether there is a newer frame

any_opened : (es : List Scope) → list_any opens es ≡ true → 0 < opened es
any_opened [] h = cc
any_opened (Opened o ∷ es) h = omega arith
any_opened (Called o c ∷ es) h = omega arith
any_opened (Bound n b u ∷ es) h = any_opened es h

opened_any : (es : List Scope) → 0 < opened es → list_any opens es ≡ true
opened_any [] h = absurd (omega arith)
opened_any (Opened o ∷ es) h = refl
opened_any (Called o c ∷ es) h = refl
opened_any (Bound n b u ∷ es) h = opened_any es h

opened_reverse : (es : List Scope) → opened (reverse es) ≡ opened es
opened_reverse [] = refl
opened_reverse (e ∷ es) =
    let turned : opened (reverse (e ∷ es)) ≡ opened (reverse es ++ e ∷ []) = ap opened (reverse-append (e ∷ []) es) in
    let one : opened (reverse es ++ e ∷ []) ≡ opened (reverse es) + opened (e ∷ []) = opened_append (reverse es) (e ∷ []) in
    let two : opened (e ∷ es) ≡ opened (e ∷ []) + opened es = opened_append (e ∷ []) es in
    let again : opened (reverse es) ≡ opened es = opened_reverse es in
    omega arith

less : (a b m n : ℕ) → n ≡ a + b → m ≡ b → 0 < a → m < n
less a b m n e f g = omega arith

newer : (older : Layers) (r : Registers) (es : List Scope) (cs : List (Replacement Cell)) → 0 < opened es → frames_at_mark (scopes_by r es cs older).1 < length (scopes_by r es cs older).0.frames
newer [] r es cs h = less (opened es) 0 0 (length (frames_by r (es ++ []))) (count_is (es ++ []) r ∙ opened_append es []) refl h
newer (l ∷ ls) r es cs h =
    less (opened es) (opened (entries_of (l ∷ ls))) (length (frames_by (back r es cs) (entries_of (l ∷ ls)))) (length (frames_by r (es ++ entries_of (l ∷ ls))))
    (count_is (es ++ entries_of (l ∷ ls)) r ∙ opened_append es (entries_of (l ∷ ls))) (count_is (entries_of (l ∷ ls)) (back r es cs)) h

-- the test for it
pub may_leave_is : (older : Layers) (r : Registers) (es : List Scope) (cs : List (Replacement Cell)) (b : Bool) → b ≡ list_any opens es → IsTrue b ↔ (frames_at_mark (scopes_by r (reverse es) cs older).1 < length (scopes_by r (reverse es) cs older).0.frames)
may_leave_is older r es cs b e = (
  (λ h. newer older r (reverse es) cs (subst (λ n. 0 < n) (sym (opened_reverse es)) (any_opened es (sym e ∙ h)))),
  (λ h. e ∙ opened_any es (subst (λ n. 0 < n) (opened_reverse es) (may_leave older r (reverse es) cs h))),
)

-- a frame that was opened last is newer than the newest mark
pub opened_newer : (older : Layers) (r : Registers) (es fs : List Scope) (cs : List (Replacement Cell)) (s : Scope) → fs ≡ es ++ s ∷ [] → 0 < opened (s ∷ reverse es) → frames_at_mark (scopes_by r (reverse fs) cs older).1 < length (scopes_by r (reverse fs) cs older).0.frames
opened_newer older r es fs cs s f h = subst (λ (gs : List Scope). frames_at_mark (scopes_by r gs cs older).1 < length (scopes_by r gs cs older).0.frames) (sym (ap reverse f ∙ reverse_push es s)) (newer older r (s ∷ reverse es) cs h)
