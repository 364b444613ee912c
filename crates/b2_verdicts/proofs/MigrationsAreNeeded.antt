-- Whether the log's last record for the outputs has digests, and the files of a record that is made.
use Rattle.std.proofs.Common.{◌≡◌, true, List, ℕ, Option, Some, None, is_some, refl, sym, ap, ◌∙◌}
use Rattle.std.proofs.lemmas.Bool.{true≢false}
use Rattle.b2_log.specs.declared.line.Record.{Record}
use Rattle.b2_log.specs.declared.line.Digests.{Digests}
use Rattle.b2_log.specs.declared.line.LogLine.{LogLine}
use Rattle.b2_log.specs.Finding.{find_record}
use Rattle.b2_runs.specs.LogCourses.{HasDigestsAlready}
use Rattle.b2_facts.proofs.ListsAtPlaces.{some_is}

-- the record that is spoken of is the last one
same_last : (outs : List (List ℕ)) (log : List LogLine) (made last : Record) → find_record outs log ≡ Some last → (already : HasDigestsAlready outs log made) → already.last ≡ last
same_last outs log made last found already = some_is already.last last (sym already.found ∙ found)

pub last_has_digests : (outs : List (List ℕ)) (log : List LogLine) (made last : Record) → find_record outs log ≡ Some last → HasDigestsAlready outs log made → is_some last.digests ≡ true
last_has_digests outs log made last found already =
    sym (ap (λ (r : Record). is_some r.digests) (same_last outs log made last found already)) ∙ ap (λ (d : Option Digests). is_some d) already.has

pub last_has_files : (outs : List (List ℕ)) (log : List LogLine) (made last : Record) → find_record outs log ≡ Some last → HasDigestsAlready outs log made → (last.outs ≡ made.outs) × (last.ins ≡ made.ins)
last_has_files outs log made last found already =
    let same = same_last outs log made last found already in
    (sym (ap (λ (r : Record). r.outs) same) ∙ already.outs_same, sym (ap (λ (r : Record). r.ins) same) ∙ already.ins_same)

pub already_by : (outs : List (List ℕ)) (log : List LogLine) (made last : Record) → find_record outs log ≡ Some last → is_some last.digests ≡ true → last.outs ≡ made.outs → last.ins ≡ made.ins → HasDigestsAlready outs log made
already_by outs log made last found some outs_same ins_same = go last.digests refl some
  where
    go : (digests : Option Digests) → last.digests ≡ digests → is_some digests ≡ true → HasDigestsAlready outs log made
    go None e s = absurd (true≢false (sym s))
    go (Some digests) e s = record { last = last; found = found; digests = digests; has = e; outs_same = outs_same; ins_same = ins_same }
