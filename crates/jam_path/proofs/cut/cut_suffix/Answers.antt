use Rattle.std.proofs.Common.{◌∙◌, ◌+◌, ◌∷◌, drop, take, lit<, refl, ap, sym, Some, None}
use Rattle.std.proofs.lemmas.List.{drop_more}
use Rattle.std.proofs.lemmas.Str.Pattern.{rfind_char}
use Rattle.b2_base.proofs.NamesAreCutAtLastSigns.{has_not, lacks_from_places, without_suffix_at}
use Rattle.jam_path.proofs.CutAtSign.{lacks_after, cut_at, suffix_at}
use Rattle.jam_path.proofs.cut.cut_suffix.Goals as goal

pub returns-in-None-clause-base : goal.returns-in-None-clause-base
returns-in-None-clause-base c =
    let stem = c.args.stem.now in
    rw (has_not 46 stem (lacks_from_places 46 stem (rfind_char 46 stem None c.in-None.ensures.cases (lit< tt)))) refl

pub returns-in-None-clause-suffix : goal.returns-in-None-clause-suffix
returns-in-None-clause-suffix c =
    let stem = c.args.stem.now in
    rw (has_not 46 stem (lacks_from_places 46 stem (rfind_char 46 stem None c.in-None.ensures.cases (lit< tt)))) refl

pub returns-in-Some-clause-base : goal.returns-in-Some-clause-base
returns-in-Some-clause-base c =
    let stem = c.args.stem.now in
    let dot = c.in-Some.dot in
    let f = rfind_char 46 stem (Some dot) c.in-Some.ensures.cases (lit< tt) in
    c.split_at.ensures.front ∙ sym (without_suffix_at stem (take dot stem) (drop (dot + 1) stem) (cut_at 46 stem dot f.0 f.1) (lacks_after 46 stem dot f.2))

pub returns-in-Some-clause-suffix : goal.returns-in-Some-clause-suffix
returns-in-Some-clause-suffix c =
    let stem = c.args.stem.now in
    let dot = c.in-Some.dot in
    let f = rfind_char 46 stem (Some dot) c.in-Some.ensures.cases (lit< tt) in
    c.split_at.ensures.back ∙ drop_more stem dot 0 f.0 ∙ ap (λ d. d ∷ drop (dot + 1) stem) f.1
    ∙ sym (suffix_at stem (take dot stem) (drop (dot + 1) stem) (cut_at 46 stem dot f.0 f.1) (lacks_after 46 stem dot f.2))
