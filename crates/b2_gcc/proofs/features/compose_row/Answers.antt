use Rattle.std.proofs.Common.{◌&&◌}
use Rattle.std.specs.List.{list_all}
use Rattle.std.proofs.lemmas.Bool.{and_parts}
use Rattle.b2_gcc.specs.Rows.{pairs, is_clean, is_clean_pair}
use Rattle.b2_gcc.proofs.CleanTextsHaveNoZero.{firsts_no_zero, seconds_no_zero}
use Rattle.b2_gcc.proofs.features.compose_row.Goals as goal

pub owned_pairs-requires-clause-features : goal.owned_pairs-requires-clause-features
owned_pairs-requires-clause-features c =
    let row = c.args.row.now in
    let rest = and_parts (is_clean row.feature.now) (is_clean row.value.now && list_all is_clean_pair (pairs row.parts.now)) c.requires in
    firsts_no_zero row.parts.now (and_parts (is_clean row.value.now) (list_all is_clean_pair (pairs row.parts.now)) rest.1).1

pub owned_pairs-requires-clause-values : goal.owned_pairs-requires-clause-values
owned_pairs-requires-clause-values c =
    let row = c.args.row.now in
    let rest = and_parts (is_clean row.feature.now) (is_clean row.value.now && list_all is_clean_pair (pairs row.parts.now)) c.requires in
    seconds_no_zero row.parts.now (and_parts (is_clean row.value.now) (list_all is_clean_pair (pairs row.parts.now)) rest.1).1
