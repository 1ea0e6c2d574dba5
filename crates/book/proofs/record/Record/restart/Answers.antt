use Rattle.std.proofs.Common.{◌≡◌, sym, refl, ap, ◌∙◌}
use mathlib.Core.Option.{none}
use Rattle.protocol.specs.declared.standing.Standing.TheVariants.{Offered, Accepted}
use Rattle.protocol.specs.State.{hears, pair}
use Rattle.protocol.specs.Outcome.{serves}
use Rattle.protocol.specs.Own.{restart}
use Rattle.book.specs.Calls.{at}
use Rattle.book.specs.View.{site, view}
use Rattle.book.proofs.Standings.{stands, stands_not}
use Rattle.book.proofs.Answering.{left_served}
use Rattle.book.proofs.Stepping.{sound_by, law_after}
use Rattle.book.proofs.Outcomes.{restart_bound, restart_free, restart_gathering}
use Rattle.book.proofs.record.Record.restart.Goals.{After-with-self}
use Rattle.book.proofs.record.Record.restart.Goals as goal

pub returns-then-eq : goal.returns-then-eq
returns-then-eq c =
    let r = c.args.self.now in
    left_served r _
    (restart_gathering (site r) (view r) (stands _ Offered c.standing.ensures (sym c.eq.ensures ∙ c.if-eq.true)))
    c.end.ensures.state c.end.ensures.same

-- a bound depot has heard itself and the leader
bound_still : (c : After-with-self)
    → at restart c.args.self.now ≡ serves (hears c.with-self.result.0 (view c.args.self.now)) none
bound_still c =
    let r = c.args.self.now in
    let l = c.leader-leader.result in
    let h : pair (site r) l ≡ c.with-self.result.0 = cc in
    restart_bound (site r) (view r) l c.leader-leader.ensures.value
    (stands_not _ Offered c.standing.ensures (sym c.eq.ensures ∙ c.if-eq.false))
    (stands _ Accepted c.standing-2.ensures (sym c.eq-2.ensures ∙ c.if-eq-2.true))
    ∙ ap (λ x. serves (hears x (view r)) none) h

pub invariant_of-self-clause-kept : goal.invariant_of-self-clause-kept
invariant_of-self-clause-kept c =
    law_after (sound_by restart c.args.self.now (λ k. k.restart))
    (bound_still (goal.at.invariant_of-self-clause-kept c).After-with-self)

pub returns-then-eq-2 : goal.returns-then-eq-2
returns-then-eq-2 c =
    left_served c.args.self.now _ (bound_still (goal.at.returns-then-eq-2 c).After-with-self) refl refl

pub returns-else-eq-2 : goal.returns-else-eq-2
returns-else-eq-2 c =
    let r = c.args.self.now in
    left_served r r
    (restart_free (site r) (view r) c.leader-leader.result c.leader-leader.ensures.value
    (stands_not _ Offered c.standing.ensures (sym c.eq.ensures ∙ c.if-eq.false))
    (stands_not _ Accepted c.standing-2.ensures (sym c.eq-2.ensures ∙ c.if-eq-2.false))) refl refl
