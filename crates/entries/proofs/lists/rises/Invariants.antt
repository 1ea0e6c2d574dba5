use Rattle.std.proofs.Common.{drop}
use Rattle.entries.specs.Lists.{Orderly}
use Rattle.entries.proofs.lists.rises.Given as goal

-- the list is orderly exactly where what is left of it is
abbrev pub invariant-loop-next : goal.invariant-loop-next
invariant-loop-next l =
    (Orderly l.least (drop l.next-index l.list) → Orderly 0 l.list)
    × (Orderly 0 l.list → Orderly l.least (drop l.next-index l.list))
