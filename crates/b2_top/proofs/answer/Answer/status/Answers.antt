use Rattle.std.proofs.Common.{sym, ap}
use Rattle.b2_top.specs.Statuses.{status_of}
use Rattle.b2_top.proofs.answer.Answer.status.Goals as goal

pub returns-in-Ok : goal.returns-in-Ok
returns-in-Ok c = sym (ap status_of c.in-Ok.is)

pub returns-in-Failed : goal.returns-in-Failed
returns-in-Failed c = sym (ap status_of c.in-Failed.is)

pub returns-in-Refused : goal.returns-in-Refused
returns-in-Refused c = sym (ap status_of c.in-Refused.is)

pub returns-in-Usage : goal.returns-in-Usage
returns-in-Usage c = sym (ap status_of c.in-Usage.is)

pub returns-in-HostFault : goal.returns-in-HostFault
returns-in-HostFault c = sym (ap status_of c.in-HostFault.is)

pub returns-in-OutOfMemory : goal.returns-in-OutOfMemory
returns-in-OutOfMemory c = sym (ap status_of c.in-OutOfMemory.is)

pub returns-in-SinkFault : goal.returns-in-SinkFault
returns-in-SinkFault c = sym (ap status_of c.in-SinkFault.is)
