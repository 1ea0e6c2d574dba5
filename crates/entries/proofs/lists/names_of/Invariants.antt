use Rattle.std.proofs.Common.{◌≡◌, ◌++◌, List}
use Rattle.entries.specs.declared.lists.Entry.{Entry}
use Rattle.entries.specs.Lists.{names}
use Rattle.entries.proofs.lists.names_of.Given as goal

-- the set has the depots of the entries behind those that are left
abbrev pub invariant-loop-next : goal.invariant-loop-next
invariant-loop-next l =
    (behind : List Entry) × (l.list ≡ l.next-iterator.iter.rest.now ++ behind) × (l.set.0 ≡ names behind)
