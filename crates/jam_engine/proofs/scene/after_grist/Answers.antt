use Rattle.std.proofs.Common.{◌∙◌, ◌+◌, take, drop, lit<, refl, sym, Some, None, eq-eqb}
use Rattle.std.proofs.lemmas.Bool.{and_right}
use Rattle.std.proofs.lemmas.Str.Pattern.{find_char, starts_char}
use Rattle.b2_base.proofs.NamesAreCutAtLastSigns.{has_not, lacks_from_places}
use Rattle.jam_path.specs.Names.{begins_with, has}
use Rattle.jam_path.proofs.CutAtSign.{lacks_before, cut_at, path_at}
use Rattle.jam_engine.proofs.scene.after_grist.Goals as goal

pub returns-in-None-clause-value : goal.returns-in-None-clause-value
returns-in-None-clause-value c =
    let text = c.args.text.now in
    rw (and_right (begins_with 60 text) (has 62 text) (has_not 62 text (lacks_from_places 62 text (find_char 62 text None c.in-None.ensures.cases (lit< tt))))) refl

pub returns-in-Some-clause-value : goal.returns-in-Some-clause-value
returns-in-Some-clause-value c =
    let text = c.args.text.now in
    let end = c.in-Some.end in
    let f = find_char 62 text (Some end) c.in-Some.ensures.cases (lit< tt) in
    c.split_at.ensures.back
    ∙ sym (path_at text (take end text) (drop (end + 1) text) (cut_at 62 text end f.0 f.1) (lacks_before 62 text end f.0 f.2) (eq-eqb _ _ ((starts_char 60 text c.starts_with.result c.starts_with.ensures.cases (lit< tt) (lit< tt)).0 c.if-not-starts_with.false)))
