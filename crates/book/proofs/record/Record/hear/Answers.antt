use Rattle.std.proofs.Common.{◌≡◌, false, [], sym, refl, subst, arith}
use mathlib.Core.Option.{none}
use Rattle.entries.specs.Lists.{Listed}
use Rattle.letters.specs.declared.letter.Kind.TheVariants as kinds
use Rattle.letters.specs.Writing.{message_says}
use Rattle.protocol.specs.declared.step.Step.TheVariants as steps
use Rattle.protocol.specs.State.{hears}
use Rattle.protocol.specs.Outcome.{serves}
use Rattle.book.specs.Calls.{at, stepped}
use Rattle.book.specs.Sharing.{policy_of}
use Rattle.book.specs.View.{site, view}
use Rattle.book.proofs.Answering.{call_served}
use Rattle.book.proofs.Listing.{listed_now, list_depots}
use Rattle.book.proofs.Stepping.{Says, law_after, says, says_fine, says_done, may_settle, is_settled, hear_settles, hear_waits}
use Rattle.book.proofs.record.Record.hear.Given.{Over}
use Rattle.book.proofs.record.Record.hear.Goals.{After-settle, Else-has_all}
use Rattle.book.proofs.record.Record.hear.Goals as goal

pub has_all-requires : goal.has_all-requires
has_all-requires g c = grind (arith, list_depots)

pub share_of-share-requires : goal.share_of-share-requires
share_of-share-requires g c =
    let r = c.args.self.now in
    subst Listed (sym c.as_slice-list.ensures.list)
    (listed_now (site r) (view r) c.args.letter.now.head.leader c.requires.bound r.kept)

pub settle-requires : goal.settle-requires
settle-requires g c =
    let m = message_says c.args.letter.now in
    let r = c.args.self.now in
    may_settle (policy_of g.P.Policy) m.leader (view r).list r (cc)
    (law_after c.requires.sound (hear_settles (policy_of g.P.Policy) m (site r) (view r) (cc)))

-- where all on the list are heard, it settles, and says so to the others
settles : (g : Over) (c : After-settle g)
    → Says (stepped (policy_of g.P.Policy) false (message_says c.args.letter.now) steps.Hear) c.args.self.now
    c.settle.new.self kinds.Settle c.others-to.result.0 c.args.letter.now.head.leader []
settles g c =
    let m = message_says c.args.letter.now in
    let r = c.args.self.now in
    says (hear_settles (policy_of g.P.Policy) m _ _ (cc)) c.settle.ensures.same
    (is_settled (policy_of g.P.Policy) m.leader (view r).list r (cc) c.settle.ensures.state) c.others-to.ensures

pub say-requires : goal.say-requires
say-requires g c = says_fine c.requires.sound (settles g (goal.at.say-requires g c).After-settle)

pub returns-then-has_all : goal.returns-then-has_all
returns-then-has_all g c = says_done (settles g (goal.at.returns-then-has_all g c).After-settle) c.say.ensures

-- otherwise it goes on hearing
waits : (g : Over) (c : Else-has_all g)
    → at (stepped (policy_of g.P.Policy) false (message_says c.args.letter.now) steps.Hear) c.args.self.now
    ≡ serves (hears c.with-heard.result.0 (view c.args.self.now)) none
waits g c =
    let m = message_says c.args.letter.now in
    let r = c.args.self.now in
    let e = hear_waits (policy_of g.P.Policy) m (site r) (view r) (cc) in
    cc

pub note_heard-requires : goal.note_heard-requires
note_heard-requires g c = law_after c.requires.sound (waits g (goal.at.note_heard-requires g c).Else-has_all)

pub returns : goal.returns
returns g c =
    call_served (waits g (goal.at.returns g c).Else-has_all) c.note_heard.ensures.state c.note_heard.ensures.same refl
