-- What stood at marks stays as it is where each change is noted.
use Rattle.std.proofs.Common.{◌≡◌, List, [], ◌∷◌, ◌++◌, reverse, Result, Ok, Err, OnOk, refl, ap, ◌∙◌}
use Rattle.std.specs.FinMap.{get, insert}
use Rattle.std.proofs.lemmas.List.{reverse-append}
use Rattle.jam_journal.specs.declared.past.Replacement.{Replacement}
use Rattle.jam_journal.specs.Tables.{Key, Table, put_back}
use Rattle.jam_journal.specs.Pasts.{replaced, undone, tables_by}
use Rattle.jam_journal.proofs.ReplacingTouchesOnePair.{undo_put}

pub reverse_push : {A : Type 0} (xs : List A) (x : A) → reverse (xs ++ x ∷ []) ≡ x ∷ reverse xs
reverse_push xs x = reverse-append xs (x ∷ [])

pub on_both : {T E P Q R : Type 0} (r : Result T E) → OnOk r P → OnOk r Q → (P → Q → R) → OnOk r R
on_both (Ok x) p q f = f p q
on_both (Err e) p q f = tt

module _ {X : Type 0} where
  tables_note : (now before : Table X) (c : Replacement X) (cs : List (Replacement X)) (older : List (List (Replacement X))) → put_back now (c.first, c.second) c.before ≡ before → tables_by now (c ∷ cs) older ≡ tables_by before cs older
  tables_note now before c cs [] e = refl
  tables_note now before c cs (l ∷ ls) e = ap (λ t. undone cs t ∷ tables_by (undone cs t) l ls) e

  -- a change that is noted leaves the tables at the marks as they were
  pub past_noted : (before now : Table X) (old new : List (Replacement X)) (older : List (List (Replacement X))) (k : Key) (v : X) → now ≡ insert before k v → new ≡ old ++ replaced k (get before k) ∷ [] → ◌≡◌ {A = Table X × List (Table X)} (now, tables_by now (reverse new) older) (insert before k v, tables_by before (reverse old) older)
  past_noted before now old new older k v e f =
      let order : reverse new ≡ replaced k (get before k) ∷ reverse old = ap reverse f ∙ reverse_push old (replaced k (get before k)) in
      (λ i. (e i, tables_by (e i) (order i) older))
      ∙ ap (λ ts. (insert before k v, ts)) (tables_note (insert before k v) before (replaced k (get before k)) (reverse old) older (undo_put before k v))
