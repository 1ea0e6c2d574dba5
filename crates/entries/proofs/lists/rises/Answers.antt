use Rattle.std.proofs.Common.{refl, arith}
use Rattle.std.proofs.lemmas.Bool.{false≢true}
use Rattle.entries.proofs.Width.{fits_byte}
use Rattle.entries.proofs.Rising.{orderly_next, orderly_rest, orderly_with, orderly_end}
use Rattle.entries.proofs.lists.rises.Goals as goal

pub returns-then-not-may_follow : goal.returns-then-not-may_follow
returns-then-not-may_follow c = (
  λ e. absurd (false≢true e),
  λ ok. c.if-not-may_follow.ensures.1
      (orderly_next _ _ _ c.loop-next-test.true (c.loop-next.invariant.1 ok)),
)

pub overflow_add-least : goal.overflow_add-least
overflow_add-least c = omega (arith, fits_byte, (c.if-not-may_follow.ensures.0 refl).1)

pub loop-next-preserved : goal.loop-next-preserved
loop-next-preserved c = (
  λ rest. c.loop-next.invariant.0
      (orderly_with _ _ _ c.loop-next-test.true (c.if-not-may_follow.ensures.0 refl) rest),
  λ ok. orderly_rest _ _ _ c.loop-next-test.true (c.loop-next.invariant.1 ok),
)

pub returns : goal.returns
returns c = (λ e. c.loop-next.invariant.0 (orderly_end _ _ _ c.loop-next-test.false), λ ok. refl)
