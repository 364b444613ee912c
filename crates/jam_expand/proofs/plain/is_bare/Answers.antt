use Rattle.std.proofs.Common.{◌≡◌, [], ◌∷◌, length, ◌∙◌, sym}
use Rattle.std.proofs.lemmas.Bool.{eqb-true}
use Rattle.jam_expand.specs.Cuts.{up_to}
use Rattle.jam_expand.proofs.PlainWordsExpandToThemselves.{name_is_bare}
use Rattle.jam_expand.proofs.plain.is_bare.Goals as goal

pub returns-then-len-lt-LONGEST-clause-plain : goal.returns-then-len-lt-LONGEST-clause-plain
returns-then-len-lt-LONGEST-clause-plain c = λ same.
    let found : c.len_up_to.result ≡ length (up_to (36 ∷ 40 ∷ 41 ∷ 58 ∷ 91 ∷ []) c.args.name.now) = cc in
    name_is_bare c.args.name.now (sym found ∙ eqb-true c.len_up_to.result (length c.args.name.now) same)
