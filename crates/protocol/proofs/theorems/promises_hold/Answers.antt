use Rattle.protocol.proofs.theorems.promises_hold.Goals as goal
use Rattle.protocol.proofs.Promised.{promised}

pub returns : goal.returns
returns c = promised
