use Rattle.std.proofs.Common.{◌≡◌, ◌+◌, ◌*◌, ◌^◌, ◌≤◌}
use Rattle.entries.specs.Lists.{pool}
use Rattle.letters.specs.Reading.{entries_in}
use Rattle.letters.proofs.Steps.{rest}
use Rattle.letters.proofs.unchecked.Unchecked.pool.Given as goal

-- the sum so far, with what is left, is the whole, and each byte read adds less than a shelf that fits its bytes
abbrev pub invariant-loop-entry : goal.invariant-loop-entry
invariant-loop-entry l =
    (l.entry-iterator.bytes.now ≡ l.self.entries.now)
    × (l.sum ≤ 2 ^ 32 * l.entry-iterator.offset)
    × (l.sum + pool (rest l.entry-iterator) ≡ pool (entries_in l.self.entries.now))
