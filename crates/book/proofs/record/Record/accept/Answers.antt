use Rattle.std.proofs.Common.{false, []}
use Rattle.letters.specs.declared.letter.Kind.TheVariants as kinds
use Rattle.letters.specs.Writing.{message_says}
use Rattle.protocol.specs.declared.step.Step.TheVariants as steps
use Rattle.book.specs.Calls.{stepped}
use Rattle.book.specs.Sharing.{policy_of}
use Rattle.book.proofs.Carrying.{leader_low}
use Rattle.book.proofs.Stepping.{Says, law_after, says, says_fine, says_done, may_settle, is_settled, may_bind, is_bound, accept_settles, accept_binds}
use Rattle.book.proofs.record.Record.accept.Given.{Over}
use Rattle.book.proofs.record.Record.accept.Goals.{After-without-to, After-mark-2}
use Rattle.book.proofs.record.Record.accept.Goals as goal

pub settle-requires : goal.settle-requires
settle-requires g c =
    let m = message_says c.args.letter.now in
    may_settle (policy_of g.P.Policy) m.leader m.entries c.args.self.now (cc)
    (law_after c.requires.sound (accept_settles (policy_of g.P.Policy) m _ _ (cc)))

-- where all on the list are heard, it settles, and says so to the others
settles : (g : Over) (c : After-without-to g)
    → Says (stepped (policy_of g.P.Policy) false (message_says c.args.letter.now) steps.Accept) c.args.self.now
    c.settle.new.self kinds.Settle c.without-to.result.0 c.args.letter.now.head.leader []
settles g c =
    let m = message_says c.args.letter.now in
    says (accept_settles (policy_of g.P.Policy) m _ _ (cc)) c.settle.ensures.same
    (is_settled (policy_of g.P.Policy) m.leader m.entries c.args.self.now (cc) c.settle.ensures.state) (cc)

pub say-requires : goal.say-requires
say-requires g c = says_fine c.requires.sound (settles g (goal.at.say-requires g c).After-without-to)

pub returns-then-has_all : goal.returns-then-has_all
returns-then-has_all g c = says_done (settles g (goal.at.returns-then-has_all g c).After-without-to) c.say.ensures

pub bind-requires-clause-lawful : goal.bind-requires-clause-lawful
bind-requires-clause-lawful g c =
    let m = message_says c.args.letter.now in
    may_bind m.leader c.args.self.now (cc) (law_after c.requires.sound (accept_binds _ m _ _ (cc)))

pub mark-requires-2 : goal.mark-requires-2
mark-requires-2 g c = leader_low c.args.letter.now

-- otherwise it is bound, and says Yes to the leader
binds : (g : Over) (c : After-mark-2 g)
    → Says (stepped (policy_of g.P.Policy) false (message_says c.args.letter.now) steps.Accept) c.args.self.now
    c.bind.new.self kinds.Yes c.mark-2.result.0 c.args.letter.now.head.leader []
binds g c =
    let m = message_says c.args.letter.now in
    says (accept_binds _ m _ _ (cc)) c.bind.ensures.same (is_bound m.leader c.args.self.now (cc) c.bind.ensures.state)
    c.mark-2.ensures

pub say-requires-2 : goal.say-requires-2
say-requires-2 g c = says_fine c.requires.sound (binds g (goal.at.say-requires-2 g c).After-mark-2)

pub returns : goal.returns
returns g c = says_done (binds g (goal.at.returns g c).After-mark-2) c.say-2.ensures
