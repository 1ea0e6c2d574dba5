use mathlib.Core.Logic.{∥∥₁_map}
use Rattle.protocol.proofs.Changed.{ended_law}
use Rattle.protocol.specs.Code.{standing_number}
use Rattle.book.specs.View.{site, view}
use Rattle.book.proofs.Kept.{most_five}
use Rattle.book.proofs.record.Record.end.Goals as goal

pub finish-requires-clause-lawful : goal.finish-requires-clause-lawful
finish-requires-clause-lawful c =
    let r = c.args.self.now in
    let p = c.requires in
    ∥∥₁_map r.kept
    (λ law. ended_law (site r) (view r) law c.args.leader p.alive (standing_number c.args.at) p.ends
    (most_five c.args.at) p.fits)
