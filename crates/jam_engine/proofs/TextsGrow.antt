-- The text of a step grows by the text of one act more.
use Rattle.std.proofs.Common.{◌≡◌, ℕ, ◌+◌, ◌<◌, List, [], ◌∷◌, ◌++◌, length, get_or, take, sym, ap, ◌∙◌, append_assoc, append-nil}
use Rattle.std.specs.Prelude.{codes}
use Rattle.jam_journal.specs.Tables.{Text}
use Rattle.jam_graph.proofs.ListsGrow.{taken}
use Rattle.jam_engine.specs.Steps.{in_parens, and_so_on}

-- a text in parentheses, by its pieces
pub parens_pushed : (old a b c text : Text) → a ≡ old ++ codes "(\n" → b ≡ a ++ text → c ≡ b ++ codes "\n)" → c ≡ old ++ in_parens text
parens_pushed old a b c text opens adds closes =
    closes ∙ ap (λ (l : Text). l ++ codes "\n)") (adds ∙ ap (λ (l : Text). l ++ text) opens) ∙ append_assoc (old ++ codes "(\n") text (codes "\n)") ∙ append_assoc old (codes "(\n") (text ++ codes "\n)")

last_of : (texts : List Text) (text : Text) → and_so_on (texts ++ text ∷ []) ≡ and_so_on texts ++ (codes " && " ++ in_parens text)
last_of [] text = ap (λ (l : Text). codes " && " ++ l) (append-nil (in_parens text))
last_of (first ∷ texts) text =
    ap (λ (l : Text). codes " && " ++ (in_parens first ++ l)) (last_of texts text)
    ∙ sym (append_assoc (codes " && ") (in_parens first ++ and_so_on texts) (codes " && " ++ in_parens text) ∙ ap (λ (l : Text). codes " && " ++ l) (append_assoc (in_parens first) (and_so_on texts) (codes " && " ++ in_parens text)))

-- one text more in a loop
pub several_step : (first : Text) (others : List Text) (i : ℕ) (other now mid next : Text) → i < length others → other ≡ get_or others i other → now ≡ in_parens first ++ and_so_on (take i others) → mid ≡ now ++ codes " && " → next ≡ mid ++ in_parens other
    → next ≡ in_parens first ++ and_so_on (take (i + 1) others)
several_step first others i other now mid next low is was joins adds =
    adds ∙ ap (λ (l : Text). l ++ in_parens other) (joins ∙ ap (λ (l : Text). l ++ codes " && ") was)
    ∙ append_assoc (in_parens first ++ and_so_on (take i others)) (codes " && ") (in_parens other)
    ∙ append_assoc (in_parens first) (and_so_on (take i others)) (codes " && " ++ in_parens other)
    ∙ ap (λ (l : Text). in_parens first ++ l) (sym (last_of (take i others) other) ∙ ap and_so_on (taken others i other low is))
