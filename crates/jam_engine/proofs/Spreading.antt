-- What a list meets is what its parts meet, one after the other.
use Rattle.std.proofs.Common.{◌≡◌, ◌||◌, [], ◌∷◌, ◌++◌, sym, ap, ◌∙◌}
use Rattle.std.specs.Str.{bytes_eq}
use Rattle.std.proofs.lemmas.List.Folds.{list_any-append}
use Rattle.jam_journal.specs.Tables.{Text}
use Rattle.jam_journal.specs.Scopes.{Value}
use Rattle.jam_graph.specs.declared.graph.Graph.{Graph}
use Rattle.jam_engine.specs.Targets.{has}
use Rattle.jam_engine.specs.Spreads.{next, Meets, none, again, first}

-- two lists have the same texts
abbrev pub SameTexts : Value → Value → Type 0
SameTexts one other = (text : Text) → has one text ≡ has other text

same_more : (one other : Value) (texts : Value) → SameTexts one other → SameTexts (texts ++ one) (texts ++ other)
same_more one other texts same text =
    list_any-append (bytes_eq text) texts one ∙ ap (λ b. has texts text || b) (same text) ∙ sym (list_any-append (bytes_eq text) texts other)

same_first : (one other : Value) (target : Text) → SameTexts one other → SameTexts (target ∷ one) (target ∷ other)
same_first one other target same = same_more one other (target ∷ []) same

-- what was seen counts by its texts alone
pub meets_by : (g : Graph) (seen other list met : Value) → SameTexts seen other → Meets g seen list met → Meets g other list met
meets_by g seen other list met same none = none
meets_by g seen other list met same (again {more = more} {met = rest} {target = t} h m) = again (sym (same t) ∙ h) (meets_by g _ other more rest same m)
meets_by g seen other list met same (first {more = more} {below = p} {others = q} {target = t} h x y) =
    first (sym (same t) ∙ h)
    (meets_by g _ (t ∷ other) (next g t) p (same_first _ other t same) x)
    (meets_by g _ (p ++ t ∷ other) more q (same_more _ (t ∷ other) p (same_first _ other t same)) y)
