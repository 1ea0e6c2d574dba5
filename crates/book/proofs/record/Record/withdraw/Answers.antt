use Rattle.std.proofs.Common.{◌≡◌, [], sym, ap, ◌∙◌, arith}
use Rattle.letters.specs.declared.letter.Kind.TheVariants as kinds
use Rattle.protocol.specs.State.{rest}
use Rattle.protocol.specs.Own.{withdraw}
use Rattle.book.specs.View.{site, view}
use Rattle.protocol.specs.declared.standing.Standing.TheVariants.{Offered}
use Rattle.book.proofs.Standings.{stands_still, stands_elsewhere}
use Rattle.book.proofs.Answering.{call_refused}
use Rattle.book.proofs.Stepping.{Says, sound_by, says, says_fine, says_done}
use Rattle.book.proofs.Outcomes.{withdraw_refuses, withdraw_leading, withdraw_following}
use Rattle.book.proofs.record.Record.withdraw.Goals.{After-rest-to, After-mark}
use Rattle.book.proofs.record.Record.withdraw.Goals as goal

pub returns-then-ne : goal.returns-then-ne
returns-then-ne c =
    let r = c.args.self.now in
    call_refused (withdraw_refuses (site r) (view r) c.leader-leader.result c.leader-leader.ensures.value
    (stands_elsewhere _ Offered c.standing.ensures (sym c.ne.ensures ∙ c.if-ne.true)))

-- a leader drops its handover
leading : (c : After-rest-to)
    → Says withdraw c.args.self.now c.end.new.self kinds.Drop c.rest-to.result.0 c.leader-leader.result []
leading c =
    let r = c.args.self.now in
    says (withdraw_leading (site r) (view r) c.leader-leader.result c.leader-leader.ensures.value
    (stands_still _ Offered c.standing.ensures (sym c.ne.ensures ∙ c.if-ne.false))
    (c.if-leader-self.true ∙ ap (λ a. a.depot) c.end.ensures.same)) c.end.ensures.same c.end.ensures.state
    (c.rest-to.ensures ∙ ap rest c.end.ensures.same)

pub say-requires : goal.say-requires
say-requires c =
    says_fine (sound_by withdraw c.args.self.now (λ k. k.withdraw))
    (leading (goal.at.say-requires c).After-rest-to)

pub returns-then-leader-self : goal.returns-then-leader-self
returns-then-leader-self c = says_done (leading (goal.at.returns-then-leader-self c).After-rest-to) c.say.ensures

-- another depot says No to the leader
following : (c : After-mark)
    → Says withdraw c.args.self.now c.end.new.self kinds.No c.mark.result.0 c.leader-leader.result []
following c =
    let r = c.args.self.now in
    let l = c.leader-leader.result in
    let d : l ≡ (site r).depot → ⊥ = λ x. (let y = ap (λ a. a.depot) c.end.ensures.same in omega arith) in
    says (withdraw_following (site r) (view r) l c.leader-leader.ensures.value
    (stands_still _ Offered c.standing.ensures (sym c.ne.ensures ∙ c.if-ne.false)) d) c.end.ensures.same
    c.end.ensures.state c.mark.ensures

pub say-requires-2 : goal.say-requires-2
say-requires-2 c =
    says_fine (sound_by withdraw c.args.self.now (λ k. k.withdraw))
    (following (goal.at.say-requires-2 c).After-mark)

pub returns : goal.returns
returns c = says_done (following (goal.at.returns c).After-mark) c.say-2.ensures
