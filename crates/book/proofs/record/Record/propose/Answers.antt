use Rattle.std.proofs.Common.{◌≡◌, ◌<◌, sym, ap, ◌∙◌, arith}
use Rattle.std.proofs.lemmas.Bool.Decides.{nat_tests}
use Rattle.protocol.specs.Listing.{elsewhere}
use Rattle.protocol.specs.State.{pick}
use Rattle.protocol.specs.Own.{propose}
use Rattle.book.specs.Sharing.{policy_of}
use Rattle.book.specs.View.{site, view}
use Rattle.protocol.specs.declared.standing.Standing.TheVariants.{Offered}
use Rattle.book.proofs.Standings.{stands_still, stands_elsewhere}
use Rattle.book.proofs.Answering.{call_refused, call_served}
use Rattle.book.proofs.Outcomes.{proposes}
use Rattle.book.proofs.record.Record.propose.Goals as goal

pub returns-then-not-governs : goal.returns-then-not-governs
unfolding propose pick
returns-then-not-governs g c = call_refused (grind (arith, nat_tests))

pub returns-then-ne : goal.returns-then-ne
unfolding propose pick
returns-then-ne g c =
    let n = stands_elsewhere _ Offered c.standing.ensures (sym c.ne.ensures ∙ c.if-ne.true) in
    call_refused (grind (arith, nat_tests))

pub returns-then-covered-from : goal.returns-then-covered-from
unfolding propose pick
returns-then-covered-from g c =
    let r = c.args.self.now in
    let w = c.elsewhere-covered.ensures ∙ ap (elsewhere r.identity.depot) c.as_slice.ensures.list in
    let too_few : elsewhere r.identity.depot r.gathered < r.wish = omega arith in
    call_refused (grind (arith, nat_tests))

pub returns : goal.returns
returns g c =
    let r = c.args.self.now in
    let P = policy_of g.P.Policy in
    let w = c.elsewhere-covered.ensures ∙ ap (elsewhere r.identity.depot) c.as_slice.ensures.list in
    let code : g.P.Policy.CODE ≡ r.identity.code = grind (arith, nat_tests) in
    let q = proposes P (site r) (view r) code
    (stands_still _ Offered c.standing.ensures (sym c.ne.ensures ∙ c.if-ne.false)) (omega arith) in
    call_served q c.propose_gathered.ensures.becomes.state c.propose_gathered.ensures.becomes.same
    c.propose_gathered.ensures.posts
