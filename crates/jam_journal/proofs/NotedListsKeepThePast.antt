-- What stood at marks stays as it is where each change of a list is noted.
use Rattle.std.proofs.Common.{◌≡◌, List, [], ◌∷◌, ◌++◌, reverse, Option, Some, None, Result, Ok, Err, OnOk, refl, ap, ◌∙◌}
use Rattle.std.specs.FinMap.{get, insert}
use Rattle.std.proofs.Math.Seq.{take-append_seam}
use Rattle.jam_journal.specs.declared.past_lists.Before.TheVariants.{Other}
use Rattle.jam_journal.specs.declared.past_lists.ListChange.{ListChange}
use Rattle.jam_journal.specs.Marks.{Marked}
use Rattle.jam_journal.specs.Tables.{Key, Table, put_back}
use Rattle.jam_journal.specs.Scopes.{Value}
use Rattle.jam_journal.specs.Lists.{list_of, before_of, before_more, changed_at, back_by, undone, tables_by}
use Rattle.jam_journal.proofs.ReplacingTouchesOnePair.{there, undo_put}
use Rattle.jam_journal.proofs.NotedChangesKeepThePast.{reverse_push}
use Rattle.jam_journal.proofs.GoingBackUndoesSetting.{replaced_twice}

tables_note : (now before : Table Value) (c : ListChange) (cs : List ListChange) (older : List (List ListChange)) → back_by c now ≡ before → tables_by now (c ∷ cs) older ≡ tables_by before cs older
tables_note now before c cs [] e = refl
tables_note now before c cs (l ∷ ls) e = ap (λ t. undone cs t ∷ tables_by (undone cs t) l ls) e

-- a change that is noted leaves the tables at the marks as they were
pub lists_noted : (before now : Table Value) (old new : List ListChange) (older : List (List ListChange)) (k : Key) (v : Value) (c : ListChange) → back_by c (insert before k v) ≡ before → now ≡ insert before k v → new ≡ old ++ c ∷ [] → ◌≡◌ {A = Table Value × List (Table Value)} (now, tables_by now (reverse new) older) (insert before k v, tables_by before (reverse old) older)
lists_noted before now old new older k v c back e f =
    let order : reverse new ≡ c ∷ reverse old = ap reverse f ∙ reverse_push old c in
    (λ i. (e i, tables_by (e i) (order i) older))
    ∙ ap (λ ts. (insert before k v, ts)) (tables_note (insert before k v) before c (reverse old) older back)

abbrev with_value : Key → (Table Value → Value) → Marked (Table Value) → Marked (Table Value)
with_value k v p = (insert p.0 k (v p.0), p.1)

pub noted_ok : {T E : Type 0} (r : Result T E) (before now : Table Value) (old new : List ListChange) (older : List
    (List ListChange)) (k : Key) (v : Table Value → Value) (c : ListChange) (p : Marked (Table Value)) → ◌≡◌ {A =
    Marked (Table Value)} (before, tables_by before (reverse old) older) p → back_by c (insert before k (v before)) ≡
    before → OnOk r (now ≡ insert before k (v before)) → OnOk r (new ≡ old ++ c ∷ []) → OnOk r (◌≡◌ {A = Marked (Table
    Value)} (now, tables_by now (reverse new) older) (insert p.0 k (v p.0), p.1))
noted_ok (Ok x) before now old new older k v c p view back e f =
    lists_noted before now old new older k (v before) c back e f ∙ ap (with_value k v) view
noted_ok (Err x) before now old new older k v c p view back e f = tt

-- another list is taken back
pub other_back : (before : Table Value) (k : Key) (v : Value) → back_by (changed_at k (Other (get before k))) (insert before k v) ≡ before
other_back before k v = undo_put before k v

-- and so are further texts
more_by : (o : Option Value) (more : Value) (now : Option Value) → now ≡ Some (list_of o ++ more) → before_of (before_more o) now ≡ o
more_by None more now e = refl
more_by (Some value) more now e = ap (before_of (before_more (Some value))) e ∙ ap Some (take-append_seam value more)

pub more_back : (before : Table Value) (k : Key) (more : Value) → back_by (changed_at k (before_more (get before k))) (insert before k (list_of (get before k) ++ more)) ≡ before
more_back before k more =
    ap (put_back (insert before k (list_of (get before k) ++ more)) k)
    (more_by (get before k) more (get (insert before k (list_of (get before k) ++ more)) k) (there before k (Some (list_of (get before k) ++ more))))
    ∙ undo_put before k (list_of (get before k) ++ more)

-- what is taken out for the empty list and put in its place
pub twice : {X : Type 0} (m n l : Table X) (k : Key) (old empty new : X) → get m k ≡ Some old → n ≡ put_back m k (Some empty) → l ≡ put_back n k (Some new) → l ≡ insert m k new
twice m n l k old empty new got e f = replaced_twice m n l k.0 k.0 k.0 k.1 old empty new got refl e refl f
