use Rattle.std.proofs.Common.{◌≡◌, ◌≤◌, take}
use Rattle.entries.specs.Limits.{max_pool}
use Rattle.entries.specs.Lists.{pool}
use Rattle.entries.proofs.lists.pool_of.Given as goal

abbrev pub invariant-loop-next : goal.invariant-loop-next
invariant-loop-next l = (l.sum ≡ pool (take l.next-index l.list)) × (l.sum ≤ max_pool)
