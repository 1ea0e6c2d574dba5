use Rattle.std.proofs.Common.{◌≡◌, ◌+◌}
use Rattle.letters.specs.Format.{head_len}
use Rattle.letters.specs.Reading.{first_failed, rises_tests, entries_in}
use Rattle.letters.proofs.Steps.{rest}
use Rattle.letters.proofs.unchecked.Unchecked.check_order.Given as goal

-- what is left to check decides
abbrev pub invariant-loop-place : goal.invariant-loop-place
invariant-loop-place l =
    first_failed (rises_tests l.least (l.place-iterator.first + l.place-iterator.offset) (rest l.place-iterator))
    ≡ first_failed (rises_tests 0 head_len (entries_in l.self.entries.now))
