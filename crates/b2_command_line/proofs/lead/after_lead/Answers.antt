use Rattle.b2_command_line.proofs.StripPrefixGivesWhatFollows.{stripped}
use Rattle.b2_command_line.proofs.lead.after_lead.Goals as goal

pub returns-clause-rest : goal.returns-clause-rest
returns-clause-rest c = stripped c.args.lead.now c.args.text.now c.strip_prefix.result c.strip_prefix.ensures.cases
