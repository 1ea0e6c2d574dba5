use Rattle.std.proofs.Common.{refl, arith}
use Rattle.book.specs.View.{site, view}
use Rattle.book.proofs.Kept.{changed_low}
use Rattle.book.proofs.record.Record.join.Goals as goal

pub put-requires : goal.put-requires
put-requires c = changed_low (site c.args.self.now) (view c.args.self.now).rows c.args.leader _ _ refl (omega arith) c.requires
