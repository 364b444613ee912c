use Rattle.jam_values.proofs.files.bytes_read.Goals as goal

pub returns-in-Err-NotUtf8 : goal.returns-in-Err-NotUtf8
returns-in-Err-NotUtf8 c =
    let is = c.in-Err-NotUtf8.field-0-is in
    (c.in-Err-NotUtf8.ensures.not_utf8 _).0 cc
