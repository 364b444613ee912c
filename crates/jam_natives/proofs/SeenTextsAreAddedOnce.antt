-- A text that was seen adds nothing, and a new one is added and seen from then on: for lists without repeats.
use Rattle.std.proofs.Common.{◌≡◌, ℕ, ◌+◌, ◌<◌, Bool, true, false, cond, ◌||◌, List, [], ◌∷◌, ◌++◌, length, get_or, take, fold, Option, Some, is_some, refl, sym, ap, ◌∙◌}
use Rattle.std.specs.List.{list_any}
use Rattle.std.specs.Cmp.Lexicographic.{nat_list_cmp_total}
use Rattle.std.specs.FinMap.{get, insert, from_entries, get-insert, get-from_entries}
use Rattle.std.specs.Str.{bytes_eq}
use Rattle.std.proofs.lemmas.Bool.{cond-true, cond-false}
use Rattle.std.proofs.lemmas.List.Folds.{list_any-append}
use Rattle.std.proofs.lemmas.List.Sums.{fold_more}
use Rattle.std.proofs.lemmas.Map.Text.{is_eq-slice_cmp}
use Rattle.jam_journal.specs.Tables.{Names}
use Rattle.jam_natives.specs.Texts.{add_new}
use Rattle.jam_natives.specs.SeenTexts.{HasSeen}

pub seen_none : HasSeen (from_entries []) []
seen_none text = ap is_some (get-from_entries nat_list_cmp_total [] text)

pub old_text : (found : List (List ℕ)) (text : List ℕ) → list_any (bytes_eq text) found ≡ true → found ≡ add_new found text
old_text found text h = sym (cond-true _ _ _ h)

pub new_text : (found next : List (List ℕ)) (text : List ℕ) → list_any (bytes_eq text) found ≡ false → next ≡ found ++ text ∷ [] → next ≡ add_new found text
new_text found next text h e = e ∙ sym (cond-false _ _ _ h)

seen_both : (b c : Bool) (o : Option Bool) → is_some o ≡ c → is_some (cond b (Some true) o) ≡ (c || (b || false))
seen_both true true o e = refl
seen_both true false o e = refl
seen_both false true o e = e
seen_both false false o e = e

pub seen_more : (seen : Names Bool) (found : List (List ℕ)) (text : List ℕ) → HasSeen seen found → HasSeen (insert seen text true) (found ++ text ∷ [])
seen_more seen found text has other =
    ap is_some (get-insert nat_list_cmp_total seen text true other ∙ ap (λ b. cond b (Some true) (get seen other)) (is_eq-slice_cmp other text))
    ∙ seen_both (bytes_eq other text) (list_any (bytes_eq other) found) (get seen other) (has other)
    ∙ sym (list_any-append (bytes_eq other) found (text ∷ []))

pub seen_after : (seen next : Names Bool) (made after : List (List ℕ)) (text key value : List ℕ) → HasSeen seen made → key ≡ text → value ≡ text → next ≡ insert seen key true → after ≡ made ++ value ∷ [] → HasSeen next after
seen_after seen next made after text key value has key_is value_is inserts pushes other =
    ap (λ (m : Names Bool). is_some (get m other)) (inserts ∙ ap (λ (k : List ℕ). insert seen k true) key_is)
    ∙ seen_more seen made text has other
    ∙ ap (list_any (bytes_eq other)) (sym (pushes ∙ ap (λ (v : List ℕ). made ++ v ∷ []) value_is))

pub fold_step : (texts : List (List ℕ)) (i : ℕ) (text : List ℕ) (now next : List (List ℕ)) → i < length texts → text ≡ get_or texts i text → now ≡ fold add_new [] (take i texts) → next ≡ add_new now text
    → next ≡ fold add_new [] (take (i + 1) texts)
fold_step texts i text now next low is was adds =
    adds ∙ ap (λ l. add_new l text) was ∙ ap (add_new (fold add_new [] (take i texts))) is ∙ sym (fold_more add_new [] texts i text low)
