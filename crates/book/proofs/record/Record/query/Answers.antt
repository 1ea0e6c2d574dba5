use Rattle.std.proofs.Common.{[], sym, refl, ◌∙◌}
use Rattle.letters.specs.declared.letter.Kind.TheVariants as kinds
use Rattle.protocol.specs.declared.standing.Standing.TheVariants.{Accepted}
use Rattle.protocol.specs.Own.{query}
use Rattle.book.specs.View.{site, view}
use Rattle.book.proofs.Standings.{stands_still, stands_elsewhere}
use Rattle.book.proofs.Answering.{call_refused}
use Rattle.book.proofs.Stepping.{Says, sound_by, says, says_fine, says_done}
use Rattle.book.proofs.Outcomes.{query_refuses, query_bound}
use Rattle.book.proofs.record.Record.query.Goals.{After-others-to}
use Rattle.book.proofs.record.Record.query.Goals as goal

pub returns-then-ne : goal.returns-then-ne
returns-then-ne c =
    let r = c.args.self.now in
    call_refused (query_refuses (site r) (view r) c.leader-leader.result c.leader-leader.ensures.value
    (stands_elsewhere _ Accepted c.standing.ensures (sym c.ne.ensures ∙ c.if-ne.true)))

-- a bound depot asks the others on the list
asks : (c : After-others-to)
    → Says query c.args.self.now c.args.self.now kinds.Query c.others-to.result.0 c.leader-leader.result []
asks c =
    let r = c.args.self.now in
    says (query_bound (site r) (view r) c.leader-leader.result c.leader-leader.ensures.value
    (stands_still _ Accepted c.standing.ensures (sym c.ne.ensures ∙ c.if-ne.false))) refl refl c.others-to.ensures

pub say-requires : goal.say-requires
say-requires c =
    says_fine (sound_by query c.args.self.now (λ k. k.query)) (asks (goal.at.say-requires c).After-others-to)

pub returns : goal.returns
returns c = says_done (asks (goal.at.returns c).After-others-to) c.say.ensures
