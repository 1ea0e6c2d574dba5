use Rattle.std.proofs.Common.{sym, ◌∙◌, subst, ap₂}
use Rattle.std.specs.List.{find}
use Rattle.protocol.specs.Own.{Partner}
use Rattle.book.specs.Calls.{chosen}
use Rattle.book.specs.View.{site, view}
use Rattle.book.proofs.Partnering.{covers, no_partner, partner}
use Rattle.book.proofs.record.Record.partner.Goals as goal

pub returns : goal.returns
returns c =
    let r = c.args.self.now in
    let found = c.covering.ensures ∙ ap₂ (λ me es. find (covers me) es) c.own_entry.ensures c.as_slice.ensures.list in
    partner (site r) (view r) c.in_ok-entry.entry (sym found ∙ c.in_ok-entry.was) r.kept

pub returns-in_err-entry : goal.returns-in_err-entry
returns-in_err-entry c =
    let r = c.args.self.now in
    let found = c.covering.ensures ∙ ap₂ (λ me es. find (covers me) es) c.own_entry.ensures c.as_slice.ensures.list in
    subst (λ o. Partner (site r) (view r) (chosen o)) (sym c.from_residual.ensures)
    (no_partner (site r) (view r) (sym found ∙ c.in_err-entry.was))
