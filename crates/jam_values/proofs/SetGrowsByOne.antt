-- The set of the texts of a list.
use Rattle.std.proofs.Common.{◌≡◌, ℕ, ◌+◌, ◌<◌, Bool, true, false, ◌||◌, length, take, get_or, is_some, refl, sym, ap, ◌∙◌}
use Rattle.std.specs.FinMap.{get, insert}
use Rattle.std.specs.List.{list_any}
use Rattle.std.specs.Str.{bytes_eq}
use Rattle.std.proofs.lemmas.List.Folds.{list_any_more}
use Rattle.jam_journal.specs.Tables.{Text, Names}
use Rattle.jam_journal.specs.Scopes.{Value}
use Rattle.jam_journal.proofs.UnsetNamesHaveNoVariable.{noted_one}

or_none : (b : Bool) → (b || false) ≡ b
or_none true = refl
or_none false = refl

-- the texts so far and one more
pub set_more : (texts : Value) (at : ℕ) (set : Names (Unit {0})) (text : Text) (u : Unit {0}) → at < length texts → text ≡ get_or texts at text
    → ((name : Text) → is_some (get set name) ≡ list_any (bytes_eq name) (take at texts)) → (name : Text) → is_some (get (insert set text u) name) ≡ list_any (bytes_eq name) (take (at + 1) texts)
set_more texts at set text u inside is so_far name =
    noted_one set text u name
    ∙ ap (λ b. b || (bytes_eq name text || false)) (so_far name)
    ∙ ap (λ b. list_any (bytes_eq name) (take at texts) || b) (or_none (bytes_eq name text))
    ∙ ap (λ t. list_any (bytes_eq name) (take at texts) || bytes_eq name t) is
    ∙ sym (list_any_more (bytes_eq name) texts at text inside)
