use Rattle.std.proofs.Common.{◌≡◌, Bool, true, false, ◌&&◌, eqb, refl, if◌then◌else◌, Some, None, ap, ◌∙◌}
use Rattle.std.specs.Option.{option_eq}
use Rattle.std.proofs.lemmas.Bool.{eq-eqb}
use Rattle.entries.specs.declared.lists.Entry.{Entry}
use Rattle.entries.specs.Lists.{on, entry_of}
use Rattle.entries.specs.contracts.lists.EntryPartialEq.TheImpl.{eq-value as entry_eq}
use Rattle.entries.proofs.Lookup.{entry_depot}
use Rattle.protocol.specs.State.{fits}
use Rattle.book.proofs.record.deciding.fits.Goals as goal

-- an entry is the one on the list just where shelf and wish are, since its depot is
looked_up : (b : Bool) (own e : Entry) → e.depot ≡ own.depot
    → option_eq entry_eq.it (if b then Some e else None) (Some own)
    ≡ (b && (eqb e.shelf own.shelf && eqb e.wish own.wish))
looked_up true own e h = rw (eq-eqb e.depot own.depot h) refl
looked_up false own e h = refl

pub returns : goal.returns
unfolding fits
returns c =
    let own = c.args.own in
    let es = c.args.list.now in
    c.eq.ensures ∙ ap (λ e. option_eq entry_eq.it e (Some own)) c.entry_of.ensures
    ∙ looked_up (on es own.depot) own (entry_of es own.depot) (entry_depot es own.depot)
