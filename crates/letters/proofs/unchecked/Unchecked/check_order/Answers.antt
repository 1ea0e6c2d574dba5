use Rattle.std.proofs.Common.{ap, ◌∙◌, arith}
use Rattle.letters.specs.Code.{refusal_of}
use Rattle.letters.proofs.Steps.{order_refused, order_past}
use Rattle.letters.proofs.unchecked.Unchecked.check_order.Goals as goal

pub returns-then-from-least : goal.returns-then-from-least
returns-then-from-least c =
    let loop = c.loop-place in
    ap refusal_of c.refuse.ensures
    ∙ order_refused loop.place-iterator c.next.new.self c.in-Some.place c.in-Some.entry c.in-Some.ensures.steps.0
    loop.least (omega arith)
    ∙ loop.invariant

pub loop-place-preserved : goal.loop-place-preserved
loop-place-preserved c =
    let loop = c.loop-place in
    order_past loop.place-iterator c.next.new.self c.in-Some.place c.in-Some.entry c.in-Some.ensures.steps.0 loop.least
    c.from-least.result c.from-least.ensures (omega arith)
    ∙ loop.invariant
