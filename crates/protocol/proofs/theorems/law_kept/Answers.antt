use Rattle.protocol.proofs.theorems.law_kept.Goals as goal
use Rattle.protocol.proofs.LawKept.{law_kept}

pub returns : goal.returns
returns c = law_kept
