use Rattle.std.proofs.Common.{◌++◌, List, ℕ, length, drop, ap, sym, ◌∙◌}
use Rattle.std.proofs.lemmas.Bool.Decides.{Decides-eqb}
use Rattle.std.proofs.lemmas.Slice.Eq.{starts_is}
use Rattle.std.proofs.lemmas.Str.Pattern.{starts_text}
use Rattle.b2_virtual.proofs.spot_map.begins.Goals as goal

pub returns : goal.returns
returns c =
    let text : List ℕ = c.as_str-text.result.now in
    let other : List ℕ = c.as_str-other.result.now in
    let starts = starts_is Decides-eqb other text c.starts_with.result (starts_text c.starts_with.result text other c.starts_with.ensures.cases) in (
      λ t. (drop (length text) other, sym c.as_str-other.ensures.value ∙ starts.0 t ∙ ap (λ (x : List ℕ). x ++ drop (length text) other) c.as_str-text.ensures.value),
      λ more. starts.1 more.0 (c.as_str-other.ensures.value ∙ more.1 ∙ ap (λ (x : List ℕ). x ++ more.0) (sym c.as_str-text.ensures.value)),
    )
