use Rattle.std.proofs.Common.{length, ap, ◌∙◌, arith}
use Rattle.std.proofs.lemmas.List.Sums.{sum_by-cons}
use Rattle.entries.specs.Lists.{pool}
use Rattle.letters.specs.Code.{kind_number}
use Rattle.letters.proofs.Few.{length_few}
use Rattle.letters.proofs.Steps.{rest, rest_gave}
use Rattle.letters.proofs.unchecked.Unchecked.pool.Goals as goal

pub overflow_add-sum : goal.overflow_add-sum
overflow_add-sum c =
    let self = c.args.self.now in
    let few = length_few (kind_number self.kind) (length self.entries.now) self.fits in
    let same = ap length c.loop-entry.invariant.0 in
    let low = c.loop-entry.invariant.1 in
    let gave = c.in-Some.ensures.steps.0 in
    omega (arith, gave.whole, gave.shelf_fits, c.from-sum.ensures)

pub loop-entry-preserved : goal.loop-entry-preserved
loop-entry-preserved c =
    let was = c.loop-entry.entry-iterator in
    let is = c.next.new.self in
    let gave = c.in-Some.ensures.steps.0 in
    let low = c.loop-entry.invariant.1 in
    let sum = c.loop-entry.invariant.2 in
    let more = ap pool (rest_gave was is c.in-Some.field-0-0 c.in-Some.entry gave) in
    let parts = sum_by-cons (λ e. e.shelf) c.in-Some.entry (rest is) in (
      gave.same_bytes ∙ c.loop-entry.invariant.0,
      omega (arith, gave.onward, gave.shelf_fits, c.from-sum.ensures),
      omega (arith, c.from-sum.ensures),
    )
