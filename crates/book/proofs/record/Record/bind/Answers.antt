use Rattle.std.proofs.Common.{refl, arith}
use Rattle.book.specs.View.{site, view}
use Rattle.book.proofs.Kept.{changed_low}
use Rattle.book.proofs.record.Record.bind.Goals as goal

pub stand-requires : goal.stand-requires
stand-requires c =
    let r = c.args.self.now in
    changed_low (site r) (view r).rows c.args.leader _ _ refl (omega arith) c.requires.lawful

pub with-self-requires : goal.with-self-requires
with-self-requires c =
    let r = c.args.self.now in
    changed_low (site r) (view r).rows c.args.leader _ _ refl (omega arith) c.requires.lawful
