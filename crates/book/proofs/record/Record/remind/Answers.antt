use Rattle.std.proofs.Common.{◌≡◌, [], arith}
use Rattle.std.proofs.lemmas.Bool.Decides.{nat_tests}
use Rattle.letters.specs.declared.letter.Kind.TheVariants as kinds
use Rattle.protocol.specs.State.{pick}
use Rattle.protocol.specs.Own.{again, remind}
use Rattle.book.specs.Calls.{at}
use Rattle.book.specs.View.{site, view}
use Rattle.book.proofs.Answering.{call_refused}
use Rattle.book.proofs.Listing.{gathered_depots, list_depots}
use Rattle.book.proofs.Reminding.{again_fine, reminded, remind_gathering, remind_bound, remind_settled, remind_dropped}
use Rattle.book.proofs.record.Record.remind.Goals.{After-minus, After-minus-in-Accepted}
use Rattle.book.proofs.record.Record.remind.Goals as goal

pub names_of-requires : goal.names_of-requires
names_of-requires c = grind (arith, gathered_depots)

-- whoever gathers asks those not gathered
gathering : (c : After-minus) → at remind c.args.self.now
    ≡ again (site c.args.self.now) (view c.args.self.now) kinds.Ask c.minus.result.0 []
gathering c = let q = remind_gathering (site c.args.self.now) (view c.args.self.now) (omega arith) in cc

pub again-requires : goal.again-requires
again-requires c =
    again_fine _ _ kinds.Ask _ [] (gathering (goal.at.again-requires c).After-minus) c.args.self.now.kept

pub returns-in-Offered : goal.returns-in-Offered
returns-in-Offered c = reminded kinds.Ask _ [] (gathering (goal.at.returns-in-Offered c).After-minus) c.again.ensures

pub names_of-requires-in-Accepted : goal.names_of-requires-in-Accepted
names_of-requires-in-Accepted c = grind (arith, list_depots)

-- whoever is bound sends the list to those not heard
listing : (c : After-minus-in-Accepted) → at remind c.args.self.now
    ≡ again (site c.args.self.now) (view c.args.self.now) kinds.List c.minus-in-Accepted.result.0
    c.as_slice-list.result.now
listing c = let q = remind_bound (site c.args.self.now) (view c.args.self.now) (omega arith) in cc

pub again-requires-in-Accepted : goal.again-requires-in-Accepted
again-requires-in-Accepted c =
    again_fine _ _ kinds.List _ _ (listing (goal.at.again-requires-in-Accepted c).After-minus-in-Accepted)
    c.args.self.now.kept

pub returns-in-Accepted : goal.returns-in-Accepted
returns-in-Accepted c =
    reminded kinds.List _ _ (listing (goal.at.returns-in-Accepted c).After-minus-in-Accepted) c.again-in-Accepted.ensures

pub again-requires-in-Settled : goal.again-requires-in-Settled
again-requires-in-Settled c =
    let r = c.args.self.now in
    again_fine (site r) (view r) kinds.Settle _ [] (remind_settled (site r) (view r) (omega arith)) r.kept

pub returns-in-Settled : goal.returns-in-Settled
returns-in-Settled c =
    let r = c.args.self.now in
    reminded kinds.Settle _ [] (remind_settled (site r) (view r) (omega arith)) c.again-in-Settled.ensures

pub again-requires-in-Dropped : goal.again-requires-in-Dropped
again-requires-in-Dropped c =
    let r = c.args.self.now in
    again_fine (site r) (view r) kinds.Drop _ [] (remind_dropped (site r) (view r) (omega arith)) r.kept

pub returns-in-Dropped : goal.returns-in-Dropped
returns-in-Dropped c =
    let r = c.args.self.now in
    reminded kinds.Drop _ [] (remind_dropped (site r) (view r) (omega arith)) c.again-in-Dropped.ensures

pub returns-in_default : goal.returns-in_default
unfolding remind pick
returns-in_default c = call_refused (grind (arith, nat_tests))
