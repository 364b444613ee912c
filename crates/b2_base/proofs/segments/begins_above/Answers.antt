use Rattle.std.proofs.Common.{◌≢◌, codes, drop, sym, ◌∙◌}
use Rattle.std.proofs.lemmas.Bool.{true≢false}
use Rattle.std.proofs.lemmas.Bool.Decides.{Decides-eqb}
use Rattle.std.proofs.lemmas.Slice.Eq.{bytes_eq-Decides, starts_is}
use Rattle.std.proofs.lemmas.Str.Pattern.{starts_text}
use Rattle.b2_base.proofs.BeginningTellsWhatIsUnder.{begins}
use Rattle.b2_base.proofs.segments.begins_above.Goals as goal

pub returns-else-eq : goal.returns-else-eq
returns-else-eq c =
    let other : c.args.path.now ≢ codes ".." = λ e. true≢false (sym (c.eq.ensures ∙ (bytes_eq-Decides c.args.path.now (codes "..")).1 e) ∙ c.if-eq.false) in
    let starts = starts_is Decides-eqb c.args.path.now (codes "../") c.starts_with.result (starts_text c.starts_with.result (codes "../") c.args.path.now c.starts_with.ensures.cases) in
    begins c.args.path.now c.requires other c.starts_with.result ((λ e. (drop 3 c.args.path.now, starts.0 e)), (λ more. starts.1 more.0 more.1))
