use Rattle.protocol.proofs.theorems.examples_hold.Goals as goal
use Rattle.protocol.proofs.WorkedSeries.{worked}

pub returns : goal.returns
returns c = worked
