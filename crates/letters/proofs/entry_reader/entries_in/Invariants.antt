use Rattle.std.proofs.Common.{◌≡◌, ◌+◌, ◌++◌, length}
use Rattle.std.specs.Iterator.Adapters.{take_source, take_count}
use Rattle.entries.specs.Limits.{max_depots}
use Rattle.letters.specs.Reading.{entries_in}
use Rattle.letters.proofs.Steps.{rest}
use Rattle.letters.proofs.entry_reader.entries_in.Given as goal

-- the entries so far, with those that are left, are all, and as many more come as there is room for
abbrev pub invariant-loop-entry : goal.invariant-loop-entry
invariant-loop-entry l =
    (goal.iterator-loop-entry).can_next l.entry-iterator
    × (goal.iterator-loop-entry).is_finite l.entry-iterator
    × (length l.entries + take_count l.entry-iterator ≡ max_depots)
    × (l.entries ++ rest (take_source l.entry-iterator) ≡ entries_in l.bytes)
