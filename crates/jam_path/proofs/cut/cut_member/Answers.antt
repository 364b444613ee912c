use Rattle.std.proofs.Common.{◌∙◌, ◌++◌, ◌∷◌, lit<, refl, ap, sym, Some, None}
use Rattle.std.proofs.lemmas.Str.Pattern.{split_parts, strip_suffix_char}
use Rattle.b2_base.proofs.NamesAreCutAtLastSigns.{lacks_from_places}
use Rattle.jam_path.proofs.CutAtSign.{no_member, stem_at, member_at}
use Rattle.jam_path.proofs.cut.cut_member.Goals as goal

pub returns-in-None-clause-stem : goal.returns-in-None-clause-stem
returns-in-None-clause-stem c =
    let file = c.args.file.now in
    let p = split_parts 40 file (Some (c.in-Some.stem, c.in-Some.after)) c.in-Some.ensures.cases (lit< tt) in
    let q = strip_suffix_char 41 c.in-Some.after.now None c.in-None.ensures.cases (lit< tt) in
    rw (no_member file c.in-Some.stem.now c.in-Some.after.now p.0 q) refl

pub returns-in-None-clause-member : goal.returns-in-None-clause-member
returns-in-None-clause-member c =
    let file = c.args.file.now in
    let p = split_parts 40 file (Some (c.in-Some.stem, c.in-Some.after)) c.in-Some.ensures.cases (lit< tt) in
    let q = strip_suffix_char 41 c.in-Some.after.now None c.in-None.ensures.cases (lit< tt) in
    rw (no_member file c.in-Some.stem.now c.in-Some.after.now p.0 q) refl

pub returns-in-Some-strip_suffix-clause-stem : goal.returns-in-Some-strip_suffix-clause-stem
returns-in-Some-strip_suffix-clause-stem c =
    let file = c.args.file.now in
    let p = split_parts 40 file (Some (c.in-Some.stem, c.in-Some.after)) c.in-Some.ensures.cases (lit< tt) in
    let q = strip_suffix_char 41 c.in-Some.after.now (Some c.in-Some-strip_suffix.member) c.in-Some-strip_suffix.ensures.cases (lit< tt) in
    sym (stem_at file c.in-Some.stem.now c.in-Some-strip_suffix.member.now (p.0 ∙ ap (λ r. c.in-Some.stem.now ++ 40 ∷ r) q) (lacks_from_places 40 c.in-Some.stem.now p.1))

pub returns-in-Some-strip_suffix-clause-member : goal.returns-in-Some-strip_suffix-clause-member
returns-in-Some-strip_suffix-clause-member c =
    let file = c.args.file.now in
    let p = split_parts 40 file (Some (c.in-Some.stem, c.in-Some.after)) c.in-Some.ensures.cases (lit< tt) in
    let q = strip_suffix_char 41 c.in-Some.after.now (Some c.in-Some-strip_suffix.member) c.in-Some-strip_suffix.ensures.cases (lit< tt) in
    sym (member_at file c.in-Some.stem.now c.in-Some-strip_suffix.member.now (p.0 ∙ ap (λ r. c.in-Some.stem.now ++ 40 ∷ r) q) (lacks_from_places 40 c.in-Some.stem.now p.1))
