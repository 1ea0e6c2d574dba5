use Rattle.std.proofs.Common.{rules, sym}
use Rattle.lamp_report.proofs.sheet.FaultDisplay.fmt.Goals as goal

pub returns-in-Line-clause-writes : goal.returns-in-Line-clause-writes
returns-in-Line-clause-writes g c = rw (c.in-Line.is, sym c.expected-expected.ensures) (search rules)
