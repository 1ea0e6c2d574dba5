use Rattle.std.proofs.Common.{◌≡◌, ◌+◌, ap, ◌∙◌, arith}
use Rattle.std.proofs.lemmas.List.{take_all}
use Rattle.std.proofs.lemmas.List.Sums.{sum_by_more, sum_by-take-le}
use Rattle.std.proofs.lemmas.Bool.{le-leb, lt-leb}
use Rattle.entries.specs.Limits.{max_pool}
use Rattle.entries.specs.Lists.{pool, blank}
use Rattle.entries.proofs.lists.pool_of.Goals as goal

pub returns-then-next-sum : goal.returns-then-next-sum
returns-then-next-sum c =
    let es = c.args.list.now in
    let i = c.loop-next.next-index in
    let more = sum_by_more (λ e. e.shelf) es i blank c.loop-next-test.true in
    let most = sum_by-take-le (λ e. e.shelf) es (i + 1) in
    let over = lt-leb (pool es) max_pool (omega arith) in
    rw over

pub loop-next-preserved : goal.loop-next-preserved
loop-next-preserved c =
    let i = c.loop-next.next-index in
    let more = sum_by_more (λ e. e.shelf) c.args.list.now i blank c.loop-next-test.true in
    omega arith

pub returns : goal.returns
returns c =
    let es = c.args.list.now in
    let all = ap pool (take_all c.loop-next.next-index es c.loop-next-test.false) in
    let is : c.loop-next.sum ≡ pool es = c.loop-next.invariant.0 ∙ all in
    let within = le-leb (pool es) max_pool (omega arith) in
    rw (within, is)
