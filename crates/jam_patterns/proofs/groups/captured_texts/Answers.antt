use Rattle.std.proofs.Common.{◌≡◌, ℕ, List, ◌+◌, ◌-◌, ◌≤◌, [], ◌∷◌, ◌++◌, slice_range, sym, ap, ap₂, ◌∙◌, arith}
use Rattle.std.proofs.lemmas.List.FromFn.{map-range_with_len_more}
use Rattle.regex.specs.Strings.{captures_span, captures_haystack}
use Rattle.jam_patterns.specs.Groups.{part}
use Rattle.jam_patterns.specs.Captured.{captured_first}
use Rattle.jam_patterns.proofs.groups.captured_texts.Goals as goal
use Rattle.jam_patterns.proofs.groups.captured_texts.Goals.{in-Some, in-None}

pub groups-preserved : goal.groups-preserved
groups-preserved c =
    let captures = c.args.captures.now in
    let n = c.groups.n in
    let low : 1 ≤ n = c.groups.auto.n in
    let text : c.match-get.text.now ≡ part (captures_haystack captures) (captures_span captures n) = elim c.match-get.branch [
      | in-Some w ↦ ap (λ t. t.now) w.text-is ∙ w.as_str-text.ensures
          ∙ ap (λ (h : List ℕ). slice_range h w.in-Some.group.start w.in-Some.group.end) w.in-Some.ensures.within
          ∙ ap (part (captures_haystack captures)) w.in-Some.ensures.found
      | in-None w ↦ ap (λ t. t.now) w.text-is ∙ ap (part (captures_haystack captures)) w.in-None.ensures.found
    ] in
    let next : n + 1 - 1 ≡ n - 1 + 1 = omega arith in
    let at : 1 + (n - 1) ≡ n = omega arith in
    c.in_ok-push.ensures.ok
    ∙ ap₂ ◌++◌ c.groups.invariant (ap (λ (t : List ℕ). t ∷ []) (c.in_ok-new.ensures ∙ text))
    ∙ sym (map-range_with_len_more (λ k. part (captures_haystack captures) (captures_span captures k)) 1 (n - 1) n at)
    ∙ sym (ap (captured_first captures) next)
