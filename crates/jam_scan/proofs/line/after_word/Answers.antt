use Rattle.jam_scan.proofs.PartsOfLinesAreRead.{word_read}
use Rattle.jam_scan.proofs.line.after_word.Goals as goal

pub returns : goal.returns
returns c = word_read c.args.word.now c.args.text.now c.strip_prefix.result c.strip_prefix.ensures.cases
