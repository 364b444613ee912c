use Rattle.std.proofs.Common.{◌≡◌, ◌≢◌, ◌∷◌, [], ℕ, List, None, Some, codes, lit<, ap, length, ◌==◌, sym, subst, ◌∙◌}
use Rattle.std.proofs.lemmas.Bool.{true≢false}
use Rattle.std.proofs.lemmas.Slice.Eq.{bytes_eq-Decides}
use Rattle.std.proofs.lemmas.Str.Pattern.{strip_prefix_char}
use Rattle.b2_base.specs.Normal.{IsNormal}
use Rattle.b2_base.proofs.SegmentsTellWhatIsNormal.{rooted_from_test, rooted_passes, relative_from_test, relative_passes}
use Rattle.b2_base.proofs.segments.is_normal.Goals as goal

pub returns-else-is_empty : goal.returns-else-is_empty
returns-else-is_empty c =
    let names : List ℕ = c.in-Some.names.now in
    let text_is : c.args.text.now ≡ 47 ∷ names = strip_prefix_char 47 c.args.text.now (Some c.in-Some.names) c.in-Some.ensures.cases (lit< tt) in
    let some : names ≢ [] = λ e. true≢false (sym (c.is_empty.ensures ∙ ap (λ t. length t == 0) e) ∙ c.if-is_empty.false) in (
      (λ t. subst IsNormal (sym text_is) (rooted_from_test names (sym c.are_names.ensures ∙ t))),
      (λ n. c.are_names.ensures ∙ rooted_passes names some (subst IsNormal text_is n)),
    )

pub returns-else-eq : goal.returns-else-eq
returns-else-eq c =
    let relative : (rest : List ℕ) → c.args.text.now ≢ 47 ∷ rest = strip_prefix_char 47 c.args.text.now None c.in-None.ensures.cases (lit< tt) in
    let other : c.args.text.now ≢ codes "." = λ e. true≢false (sym (c.eq.ensures ∙ (bytes_eq-Decides c.args.text.now (codes ".")).1 e) ∙ c.if-eq.false) in (
      (λ t. relative_from_test c.args.text.now (sym c.are_ups_and_names.ensures ∙ t)),
      (λ n. c.are_ups_and_names.ensures ∙ relative_passes c.args.text.now relative other n),
    )
