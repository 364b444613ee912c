use Rattle.std.proofs.Common.{◌≡◌, ℕ, ◌+◌, ◌≤◌, List, [], ◌∷◌, ◌++◌, length, inl, inr, refl, sym, ap, subst, ◌∙◌, append-nil, length-append, arith}
use Rattle.b2_log.specs.declared.line.LogLine.{LogLine}
use Rattle.b2_log.specs.Lines.{spelling}
use Rattle.b2_log.specs.Good.{IsGood}
use Rattle.b2_log.specs.Readings.{IsReading}
use Rattle.b2_log.specs.Finding.{told, find_record}
use Rattle.b2_log.proofs.BytesHaveOneReading.{read_back, torn_line}
use Rattle.b2_runs.specs.LogFiles.{log_limit, IsLogOf, IsLogOf.is_read}
use Rattle.b2_runs.specs.LogFileLaws.{AppendAdds, TornAppendLeaves, TornTellsOthers}
use Rattle.b2_runs.proofs.LastLineIsFound as logs
use Rattle.b2_runs.proofs.FileIsOneLog.{file_is_one_log}

-- one line more
pub append_adds : AppendAdds
append_adds bytes log line r good within = is_read (length bytes + length (spelling line)) within (read_back bytes log line r good)

-- or none more, where a part is missing
pub torn_append_leaves : TornAppendLeaves
torn_append_leaves bytes log after line part [] r good split within is =
    let all : spelling line ≡ part = split ∙ append-nil part in
    let added : IsLogOf (bytes ++ part) (log ++ line ∷ []) = subst (λ (w : List ℕ). IsLogOf (bytes ++ w) (log ++ line ∷ [])) all (append_adds bytes log line r good (subst (λ (w : List ℕ). length (bytes ++ w) ≤ log_limit) (sym all) within)) in
    inl (refl, file_is_one_log (bytes ++ part) after (log ++ line ∷ []) is added)
torn_append_leaves bytes log after line part (m ∷ missing) r good split within is =
    inr ((λ e. let f : m ∷ missing ≡ [] = e in cc), file_is_one_log (bytes ++ part) after log is (is_read (length bytes) within (torn_line bytes log line part (m ∷ missing) r good split (omega arith))))

-- what a torn append leaves, as lines
torn_log : (bytes : List ℕ) (log : List LogLine) (line : LogLine) (part missing : List ℕ) → IsReading bytes log (length bytes) → IsGood line → spelling line ≡ part ++ missing → length (bytes ++ part) ≤ log_limit → (after : List LogLine) × IsLogOf (bytes ++ part) after
torn_log bytes log line part [] r good split within =
    let all : spelling line ≡ part = split ∙ append-nil part in
    (log ++ line ∷ [], subst (λ (w : List ℕ). IsLogOf (bytes ++ w) (log ++ line ∷ [])) all (append_adds bytes log line r good (subst (λ (w : List ℕ). length (bytes ++ w) ≤ log_limit) (sym all) within)))
torn_log bytes log line part (m ∷ missing) r good split within = (log, is_read (length bytes) within (torn_line bytes log line part (m ∷ missing) r good split (omega arith)))

pub torn_tells_others : TornTellsOthers
torn_tells_others bytes log line part missing outs told r good split within differ = (
  λ t. (log, before, sym (same t.0 t.1) ∙ t.2),
  λ t. (after.0, after.1, same after.0 after.1 ∙ ap (find_record outs) (file_is_one_log bytes log t.0 before t.1) ∙ t.2),
)
  where
    before : IsLogOf bytes log
    before = is_read (length bytes) (omega (arith, within, length-append bytes part)) r

    after : (lines_after : List LogLine) × IsLogOf (bytes ++ part) lines_after
    after = torn_log bytes log line part missing r good split within

    same : (lines_after : List LogLine) → IsLogOf (bytes ++ part) lines_after → find_record outs lines_after ≡ find_record outs log
    same lines_after is = logs.others_unsaid_though_torn outs log lines_after line (elim (torn_append_leaves bytes log lines_after line part missing r good split within is) [ inl whole ↦ inr whole.1 | inr torn ↦ inl torn.1 ]) differ
