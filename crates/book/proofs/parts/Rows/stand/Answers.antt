use Rattle.std.proofs.Common.{arith}
use Rattle.entries.proofs.Width.{as_many_marks}
use Rattle.book.specs.Fields.{rows_of}
use Rattle.book.proofs.Kept.{row_set}
use Rattle.book.proofs.parts.Rows.stand.Goals as goal

pub returns : goal.returns
unfolding rows_of
returns c = rw c.from.ensures (row_set c.args.self.now.of c.args.leader _ (omega (arith, as_many_marks)))
