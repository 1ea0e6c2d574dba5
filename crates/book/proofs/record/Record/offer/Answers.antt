use Rattle.std.proofs.Common.{[], ◌∷◌}
use Rattle.entries.specs.Sets.{mark}
use Rattle.letters.specs.declared.letter.Kind.TheVariants as kinds
use Rattle.book.specs.View.{site, view, own_entry}
use Rattle.book.proofs.Mailing.{mark_some, note_lawful}
use Rattle.book.proofs.record.Record.offer.Goals as goal

pub mark-requires : goal.mark-requires
mark-requires c =
    let r = c.args.self.now in
    let L = c.args.leader in
    (note_lawful (site r) (view r) kinds.Offer (record { 0 = mark L }) L (own_entry r ∷ []) (mark_some L) c.requires).leader_below
