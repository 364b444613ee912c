use Rattle.std.proofs.Common.{◌∷◌, [], ◌++◌, ◌<◌, length, take, sym, ap, ◌∙◌, arith}
use Rattle.std.proofs.lemmas.List.{take_more}
use Rattle.jam_grammar.specs.Readings.{last_line}
use Rattle.jam_parser.proofs.FirstFaultIsTold.{last_is}
use Rattle.jam_parser.proofs.parse.last_line.Goals as goal

pub loop-token-preserved : goal.loop-token-preserved
loop-token-preserved c =
    let i = c.loop-token.token-index in
    let xs = c.args.tokens.now in
    let x = c.token-item.result in
    let within : i < length xs = omega arith in
    sym (ap last_line (take_more xs i x within ∙ ap (λ y. take i xs ++ y ∷ []) (sym c.token-item.is)) ∙ last_is (take i xs) x)
