use Rattle.std.proofs.Common.{◌≡◌, ◌≢◌, inl, inr, codes, drop, List, ◌∷◌, ◌++◌, ℕ, sym, ◌∙◌}
use Rattle.std.proofs.lemmas.Bool.{true≢false}
use Rattle.std.proofs.lemmas.Bool.Decides.{Decides-eqb}
use Rattle.std.proofs.lemmas.Slice.Eq.{bytes_eq-Decides, starts_is}
use Rattle.std.proofs.lemmas.Str.Pattern.{starts_text}
use Rattle.b2_base.specs.Normal.{IsNormal}
use Rattle.b2_host.specs.FileCalls.{log_path}
use Rattle.b2_base.proofs.BeginningTellsWhatIsUnder.{under_on, on_under}
use Rattle.b2_virtual.proofs.LogPathIsNormal.{normal_log, log_not_here, log_not_root}
use Rattle.b2_virtual.proofs.builder.is_log.Goals as goal

pub returns-else-eq-clause-log : goal.returns-else-eq-clause-log
returns-else-eq-clause-log c =
    let path : List ℕ = c.args.path.now in
    let text : List ℕ = c.as_str-text.result.now in
    let same : text ≡ path = c.as_str-text.ensures.value in
    let normal : IsNormal path = c.as_str-text.ensures.normal in
    let other : text ≢ codes "bin/b2.log" = λ e. true≢false (sym (c.eq.ensures ∙ (bytes_eq-Decides text (codes "bin/b2.log")).1 e) ∙ c.if-eq.false) in
    let starts = starts_is Decides-eqb text (codes "bin/b2.log/") c.starts_with.result (starts_text c.starts_with.result (codes "bin/b2.log/") text c.starts_with.ensures.cases) in (
      λ t. inr (under_on path log_path normal normal_log log_not_here log_not_root (drop 11 text) (sym same ∙ starts.0 t)),
      λ l. elim l [
        | inl e ↦ absurd (other (same ∙ e))
        | inr u ↦ let rest : (more : List ℕ) × (path ≡ log_path ++ 47 ∷ more) = on_under path log_path normal normal_log log_not_here log_not_root u in starts.1 rest.0 (same ∙ rest.1)
      ],
    )
