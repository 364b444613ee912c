use Rattle.jam_parser.proofs.simple.sign_here.Goals as goal

pub returns-in-Some-Equals-default-default : goal.returns-in-Some-Equals-default-default
returns-in-Some-Equals-default-default c =
    let at = c.in-Some-Equals-default-default in
    record { first = at.field-0-1.now; split = at.ensures.0; is_it = cc (at.ensures.1, at.field-0-0-is) }

pub returns-in-Some-PlusEquals-default-default : goal.returns-in-Some-PlusEquals-default-default
returns-in-Some-PlusEquals-default-default c =
    let at = c.in-Some-PlusEquals-default-default in
    record { first = at.field-0-1.now; split = at.ensures.0; is_it = cc (at.ensures.1, at.field-0-0-is) }

pub returns-in-Some-QueryEquals-default-default : goal.returns-in-Some-QueryEquals-default-default
returns-in-Some-QueryEquals-default-default c =
    let at = c.in-Some-QueryEquals-default-default in
    record { first = at.field-0-1.now; split = at.ensures.0; is_it = cc (at.ensures.1, at.field-0-0-is) }
