use Rattle.std.proofs.Common.{arith}
use Rattle.book.proofs.Carrying.{entries_low}
use Rattle.book.proofs.record.Record.can_accept.Goals as goal

pub has_all-requires : goal.has_all-requires
has_all-requires c = let low = entries_low c.args.letter.now in grind arith
