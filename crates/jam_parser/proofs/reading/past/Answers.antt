use Rattle.jam_parser.proofs.reading.past.Goals as goal

pub returns-in-Some : goal.returns-in-Some
returns-in-Some c =
    let at = c.in-Some in
    record { first = at.field-0-0.now; split = at.ensures.0; is_it = at.ensures.1 }
