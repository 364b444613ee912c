use Rattle.std.proofs.Common.{lit<, Some, None}
use Rattle.std.proofs.lemmas.Str.Pattern.{rfind_char}
use Rattle.jam_path.proofs.ClassUpToBracket.{unclosed_last}
use Rattle.jam_path.proofs.glob.unclosed_len.Goals as goal

pub returns-in-None : goal.returns-in-None
returns-in-None c = λ i _ m. rfind_char 93 c.args.pattern.now None c.in-None.ensures.cases (lit< tt) i m

pub returns-in-Some : goal.returns-in-Some
returns-in-Some c =
    let f = rfind_char 93 c.args.pattern.now (Some c.in-Some.last) c.in-Some.ensures.cases (lit< tt) in
    unclosed_last c.args.pattern.now c.in-Some.last f.2 f.0
