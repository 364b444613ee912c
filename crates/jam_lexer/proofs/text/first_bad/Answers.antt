use Rattle.jam_lexer.proofs.FirstBadByteEndsText.{zero_is_bad, invalid_is_bad}
use Rattle.jam_lexer.proofs.text.first_bad.Goals as goal

pub returns-in-Some-clause-found : goal.returns-in-Some-clause-found
returns-in-Some-clause-found c = zero_is_bad _ c.valid_len-valid.result _ c.valid_len-valid.ensures.valid c.valid_len-valid.ensures.within c.in-Some.ensures.within c.in-Some.ensures.zero c.in-Some.ensures.first

pub returns-in-None-clause-found : goal.returns-in-None-clause-found
returns-in-None-clause-found c = invalid_is_bad _ _ (c.valid_len-valid.ensures.longest c.if-valid-bytes.true) c.in-None.ensures.none
