use Rattle.std.proofs.Common.{refl, arith}
use Rattle.book.specs.View.{site, view}
use Rattle.book.proofs.Kept.{changed_low}
use Rattle.book.proofs.record.Record.settle.Goals as goal

pub finish-requires-clause-low : goal.finish-requires-clause-low
finish-requires-clause-low c =
    let r = c.args.self.now in
    changed_low (site r) (view r).rows c.args.leader _ _ refl (omega arith) c.requires
