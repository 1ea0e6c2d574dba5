use Rattle.std.proofs.Common.{refl, ap}
use Rattle.protocol.specs.State.{gathers}
use Rattle.book.specs.View.{site, view}
use Rattle.book.proofs.Gathering.{gathered_now}
use Rattle.book.proofs.record.Record.gather.Goals as goal

pub returns : goal.returns
returns c =
    let r = c.args.self.now in
    let p = c.requires in
    let q = gathered_now (site r) (view r) c.args.entry c.insert.ensures p.fits p.lawful in
    record { state = ap (λ es. gathers es (view r)) q; same = refl }
