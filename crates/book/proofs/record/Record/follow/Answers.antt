use Rattle.book.specs.Sharing.{policy_of}
use Rattle.book.specs.View.{site, view}
use Rattle.book.proofs.Following.{Struck, step_now, grounds_now, sound_now, called_now}
use Rattle.book.proofs.record.Record.follow.Given.{Over}
use Rattle.book.proofs.record.Record.follow.Goals.{After-decide-step}
use Rattle.book.proofs.record.Record.follow.Goals as goal

pub act-requires-clause-grounds : goal.act-requires-clause-grounds
act-requires-clause-grounds g c =
    let t = c.strike.new.self in
    let letter = c.args.letter.now in
    grounds_now letter (site t) (view t) c.decide-step.result letter.lawful c.decide-step.ensures.step
    c.decide-step.ensures.grounds c.standing_in.ensures c.situation.ensures

-- the record once the sender is struck, and the step
struck : (g : Over) (c : After-decide-step g)
    → Struck c.args.letter.now c.args.self.now c.strike.new.self c.strikes-strikes.result c.decide-step.result
struck g c =
    record {
      same = c.strike.ensures.same;
      strikes_it = c.strikes-strikes.ensures;
      now = c.strike.ensures.state;
      step = step_now c.args.letter.now _ _ c.decide-step.ensures.step c.standing_in.ensures c.situation.ensures;
    }

pub act-requires-clause-sound : goal.act-requires-clause-sound
act-requires-clause-sound g c =
    sound_now c.args.letter.now (policy_of g.P.Policy)
    (struck g (goal.at.act-requires-clause-sound g c).After-decide-step) c.requires

pub returns : goal.returns
returns g c =
    called_now c.args.letter.now (policy_of g.P.Policy) (struck g (goal.at.returns g c).After-decide-step) c.act.ensures
