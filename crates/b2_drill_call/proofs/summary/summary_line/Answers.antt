use Rattle.std.proofs.Common.{◌≡◌, ℕ, List, [], ◌++◌, codes, ap, sym, ◌∙◌, append_assoc}
use Rattle.std.specs.Fmt.{decimal}
use Rattle.b2_drill.specs.Drills.{line}
use Rattle.b2_drill_call.proofs.summary.summary_line.Goals as goal

regrouped : (a b c d e f : List ℕ) → ((((a ++ b) ++ c) ++ d) ++ e) ++ f ≡ a ++ (b ++ (c ++ (d ++ (e ++ f))))
regrouped a b c d e f = simp append_assoc

pub returns : goal.returns
returns c =
    c.in_ok-format.ensures.ok ∙ ap (λ k. codes "drill " ++ (decimal c.args.n ++ (codes ": updates 7, starts " ++ (decimal k ++ line (codes ", status 0"))))) c.count_starts-starts.ensures
    ∙ sym (regrouped (codes "drill ") (decimal c.args.n) (codes ": updates 7, starts ") (decimal _) (codes ", status 0") (line []))
