use Rattle.protocol.proofs.theorems.due_told_by_rows.Goals as goal
use Rattle.protocol.proofs.DueByRows.{due_by_rows_lem}

pub returns : goal.returns
returns c = due_by_rows_lem
