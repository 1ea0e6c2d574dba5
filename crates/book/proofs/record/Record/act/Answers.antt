use Rattle.std.proofs.Common.{◌≡◌, true, [], ◌∷◌, sym, refl, ap, ◌∙◌, subst, ap₂}
use mathlib.Core.Option.{none}
use Rattle.entries.specs.Lists.{Listed}
use Rattle.entries.specs.Sets.{mark}
use Rattle.entries.proofs.Known.{listed_known}
use Rattle.letters.specs.declared.letter.Kind.TheVariants as kinds
use Rattle.letters.specs.Writing.{message_says}
use Rattle.protocol.specs.State.{pick, own, gathers}
use Rattle.protocol.specs.Outcome.{serves, mail}
use Rattle.protocol.specs.Steps.{fits_gathered, gathered_with}
use Rattle.protocol.specs.Keeping.{Readable}
use Rattle.book.specs.Sharing.{policy_of}
use Rattle.book.specs.View.{site, view, own_entry}
use Rattle.book.specs.Calls.{StepGrounds}
use Rattle.book.proofs.Answering.{call_refused, call_served}
use Rattle.book.proofs.Gathering.{offered_gathered}
use Rattle.book.proofs.Listing.{listed_now}
use Rattle.book.proofs.Stepping.{law_after, said_fine, step_is, may_settle, is_settled}
use Rattle.book.proofs.record.Record.act.Goals as goal

pub returns-in-Unlined : goal.returns-in-Unlined
unfolding pick
returns-in-Unlined g c =
    let r = c.args.self.now in
    call_served {s = view r} {m = none}
    (step_is _ _ c.args.letter.now _ _ c.in-Unlined.is ∙ rw c.if-strikes.true refl) refl refl refl

pub returns-in-Unlined-2 : goal.returns-in-Unlined-2
unfolding pick
returns-in-Unlined-2 g c =
    call_refused (step_is _ _ c.args.letter.now _ _ c.in-Unlined-2.is ∙ rw c.if-strikes.false refl)

pub join-requires : goal.join-requires
join-requires g c = law_after c.requires.sound (step_is _ _ c.args.letter.now _ _ c.in-Join.is)

pub offer-requires : goal.offer-requires
offer-requires g c =
    let r = c.args.self.now in
    let m = message_says c.args.letter.now in
    let t = c.join.new.self in
    let same : own_entry t ≡ own_entry r = ap₂ own c.join.ensures.same c.join.ensures.state in
    subst (λ e. Readable (mail (site t) (view t) kinds.Offer (mark m.leader) m.leader (e ∷ []))) (sym same)
    (said_fine c.requires.sound kinds.Offer m.leader (own_entry r ∷ [])
    (step_is _ _ c.args.letter.now _ _ c.in-Join.is) c.join.ensures.same c.join.ensures.state refl)

pub offer-requires-in-OfferAgain : goal.offer-requires-in-OfferAgain
offer-requires-in-OfferAgain g c =
    let r = c.args.self.now in
    let m = message_says c.args.letter.now in
    said_fine c.requires.sound kinds.Offer m.leader (own_entry r ∷ [])
    (step_is _ _ c.args.letter.now _ _ c.in-OfferAgain.is) refl refl refl

pub gather-requires-clause-lawful : goal.gather-requires-clause-lawful
gather-requires-clause-lawful g c =
    let r = c.args.self.now in
    let m = message_says c.args.letter.now in
    let list = c.as_slice.ensures.list in
    let grounds = subst (StepGrounds m (view r)) c.in-Gather.is c.requires.grounds in
    let fits = subst (λ es. fits_gathered (view r).gathered es ≡ true) (sym list) grounds in
    law_after c.requires.sound
    (step_is _ _ c.args.letter.now _ _ c.in-Gather.is
    ∙ ap (λ es. serves (gathers es (view r)) none)
    (ap (gathered_with (view r).gathered) (sym list) ∙ offered_gathered (view r).gathered _ _ fits))

pub accept-requires-clause-listed : goal.accept-requires-clause-listed
accept-requires-clause-listed g c =
    let r = c.args.self.now in
    let m = message_says c.args.letter.now in
    listed_known _ (subst (StepGrounds m (view r)) c.in-Accept.is c.requires.grounds)

pub say-requires : goal.say-requires
say-requires g c =
    let m = message_says c.args.letter.now in
    said_fine c.requires.sound c.in-Say.kind m.leader [] (step_is _ _ c.args.letter.now _ _ c.in-Say.is) refl refl
    c.to_whom-to.ensures

pub say-requires-in-Refuse : goal.say-requires-in-Refuse
say-requires-in-Refuse g c =
    let m = message_says c.args.letter.now in
    said_fine c.requires.sound kinds.No m.leader [] (step_is _ _ c.args.letter.now _ _ c.in-Refuse.is)
    c.end.ensures.same c.end.ensures.state c.to_whom-to-in-Refuse.ensures

pub share_of-share-requires : goal.share_of-share-requires
share_of-share-requires g c =
    let r = c.args.self.now in
    let m = message_says c.args.letter.now in
    subst Listed (sym c.as_slice-in-Settle.ensures.list)
    (listed_now (site r) (view r) m.leader (subst (StepGrounds m (view r)) c.in-Settle.is c.requires.grounds) r.kept)

pub settle-requires : goal.settle-requires
settle-requires g c =
    let r = c.args.self.now in
    let P = policy_of g.P.Policy in
    let m = message_says c.args.letter.now in
    may_settle P m.leader (view r).list r (cc)
    (law_after c.requires.sound (step_is _ _ c.args.letter.now _ _ c.in-Settle.is))

pub say-requires-in-Settle : goal.say-requires-in-Settle
say-requires-in-Settle g c =
    let r = c.args.self.now in
    let P = policy_of g.P.Policy in
    let m = message_says c.args.letter.now in
    said_fine c.requires.sound c.in-Settle.kind m.leader [] (step_is _ _ c.args.letter.now _ _ c.in-Settle.is)
    c.settle.ensures.same (is_settled P m.leader (view r).list r (cc) c.settle.ensures.state)
    c.to_whom-to-in-Settle.ensures

pub say-requires-in-Drop : goal.say-requires-in-Drop
say-requires-in-Drop g c =
    let m = message_says c.args.letter.now in
    said_fine c.requires.sound c.in-Drop.kind m.leader [] (step_is _ _ c.args.letter.now _ _ c.in-Drop.is)
    c.end-in-Drop.ensures.same c.end-in-Drop.ensures.state c.to_whom-to-in-Drop.ensures
