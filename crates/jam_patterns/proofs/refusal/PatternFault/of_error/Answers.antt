use Rattle.std.proofs.Common.{◌≡◌, not, sym, ap, ◌∙◌}
use Rattle.jam_patterns.specs.Pattern.{is_pattern}
use Rattle.jam_patterns.proofs.PatternsAreRead.{is_pattern-read, is_pattern-refused}
use Rattle.jam_patterns.proofs.refusal.PatternFault.of_error.Goals as goal
use Rattle.jam_patterns.proofs.refusal.PatternFault.of_error.Goals.{in-Syntax, in-CompiledTooBig, in-Internal}

pub invariant_of-result : goal.invariant_of-result
invariant_of-result c =
    let source = c.args.pattern.now in
    let failed = c.requires.failed in
    let syntax : c.match-error.syntax ≡ not (is_pattern source) = elim c.match-error.branch [
      | in-Syntax w ↦ w.syntax-is ∙ sym (ap not (is_pattern-refused source _ (failed.0 _ w.in-Syntax.is) (rw w.in-Syntax.is at failed.1)))
      | in-CompiledTooBig w ↦ w.syntax-is ∙ sym (ap not (is_pattern-read source (rw w.in-CompiledTooBig.is at failed.1)))
      | in-Internal w ↦ w.syntax-is ∙ sym (ap not (is_pattern-read source (rw w.in-Internal.is at failed.1)))
    ] in
    rw c.in-Ok.ensures syntax
