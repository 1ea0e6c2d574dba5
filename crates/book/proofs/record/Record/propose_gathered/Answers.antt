use Rattle.std.proofs.Common.{◌≡◌, sym, refl, ap, ◌∙◌, subst, arith}
use mathlib.Core.Logic.{∥∥₁_map}
use Rattle.entries.specs.Sets.{less, mark}
use Rattle.entries.specs.Lists.{names}
use Rattle.letters.specs.declared.letter.Kind.TheVariants as kinds
use Rattle.protocol.specs.Keeping.{Readable}
use Rattle.protocol.specs.State.{others}
use Rattle.book.specs.View.{site, view}
use Rattle.book.proofs.Kept.{written_kept}
use Rattle.book.proofs.Listing.{gathered_depots}
use Rattle.book.proofs.Mailing.{mail_with}
use Rattle.book.proofs.Stepping.{law_after, readable_after}
use Rattle.book.proofs.Written.{state_is}
use Rattle.book.proofs.Outcomes.{under, under_kept, proposes}
use Rattle.book.proofs.record.Record.propose_gathered.Goals as goal

pub names_of-requires : goal.names_of-requires
names_of-requires c = grind (arith, gathered_depots)

pub invariant_of-self-clause-kept : goal.invariant_of-self-clause-kept
invariant_of-self-clause-kept c =
    let r = c.args.self.now in
    let q = proposes (under (site r)) (site r) (view r) refl c.requires.gathers c.requires.covers in
    let to : c.without-to.result.0 ≡ others (site r) (view r).gathered =
    c.without-to.ensures
    ∙ ap (λ x. less x (mark r.identity.depot)) (c.names_of.ensures ∙ ap names c.as_slice.ensures.list) in
    let e = state_is r.shelf r.tray r.wish c.stand.ensures c.replace-self.ensures.value c.mark-self.ensures
    (c.replace-self.ensures.after ∙ c.empty.ensures) to in
    written_kept (site r) _ _ e (law_after (∥∥₁_map r.kept (under_kept (site r) (view r))) q)

pub say-requires : goal.say-requires
say-requires c =
    let r = c.args.self.now in
    let q = proposes (under (site r)) (site r) (view r) refl c.requires.gathers c.requires.covers in
    let to : c.without-to.result.0 ≡ others (site r) (view r).gathered =
    c.without-to.ensures
    ∙ ap (λ x. less x (mark r.identity.depot)) (c.names_of.ensures ∙ ap names c.as_slice.ensures.list) in
    let e = state_is r.shelf r.tray r.wish c.stand.ensures c.replace-self.ensures.value c.mark-self.ensures
    (c.replace-self.ensures.after ∙ c.empty.ensures) to in
    let list = c.as_slice-2.ensures.list ∙ c.replace-self.ensures.value in
    subst Readable (sym (mail_with kinds.List r.identity.depot (refl {a = site r}) e to list))
    (readable_after (∥∥₁_map r.kept (under_kept (site r) (view r))) q)
