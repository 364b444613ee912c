use Rattle.std.proofs.Common.{◌&&◌}
use Rattle.std.specs.List.{list_all}
use Rattle.std.proofs.lemmas.Bool.{and_parts}
use Rattle.b2_gcc.specs.Rows.{pairs, is_clean, is_clean_pair}
use Rattle.b2_gcc.proofs.CleanTextsHaveNoZero.{firsts_no_zero, seconds_no_zero}
use Rattle.b2_gcc.proofs.types.generator.Goals as goal

pub owned_pairs-requires-clause-features : goal.owned_pairs-requires-clause-features
owned_pairs-requires-clause-features c =
    let row = c.args.row.now in
    let required = list_all is_clean_pair (pairs row.required.now) in
    let sources = and_parts (is_clean row.id.now) (is_clean row.source.now && (is_clean row.target.now && required)) c.requires in
    let targets = and_parts (is_clean row.source.now) (is_clean row.target.now && required) sources.1 in
    firsts_no_zero row.required.now (and_parts (is_clean row.target.now) required targets.1).1

pub owned_pairs-requires-clause-values : goal.owned_pairs-requires-clause-values
owned_pairs-requires-clause-values c =
    let row = c.args.row.now in
    let required = list_all is_clean_pair (pairs row.required.now) in
    let sources = and_parts (is_clean row.id.now) (is_clean row.source.now && (is_clean row.target.now && required)) c.requires in
    let targets = and_parts (is_clean row.source.now) (is_clean row.target.now && required) sources.1 in
    seconds_no_zero row.required.now (and_parts (is_clean row.target.now) required targets.1).1
