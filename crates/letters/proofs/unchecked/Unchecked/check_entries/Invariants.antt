use Rattle.std.proofs.Common.{◌≡◌, ◌+◌, ◌*◌, ◌/◌, ◌%◌, length}
use Rattle.std.specs.Iterator.Adapters.{enumerate_source, enumerate_count}
use Rattle.std.specs.Slice.Iter.{chunks_rest, chunks_size}
use Rattle.letters.specs.Format.{head_len, entry_len}
use Rattle.letters.specs.Code.{kind_number}
use Rattle.letters.specs.Reading.{first_failed, entries_tests, owner_of}
use Rattle.letters.proofs.unchecked.Unchecked.check_entries.Given as goal

-- what is left to check decides
abbrev pub invariant-loop-index : goal.invariant-loop-index
invariant-loop-index l =
    let rest = chunks_rest (enumerate_source l.index-iterator) in
    let at = entry_len * enumerate_count l.index-iterator in
    (goal.iterator-loop-index).can_next l.index-iterator
    × (goal.iterator-loop-index).is_finite l.index-iterator
    × (chunks_size (enumerate_source l.index-iterator) ≡ entry_len) × (length rest % entry_len ≡ 0)
    × (at + length rest ≡ length l.self.entries.now)
    × (first_failed (entries_tests (length rest / entry_len) l.owner (head_len + at) rest)
    ≡ first_failed (entries_tests (length l.self.entries.now / entry_len)
    (owner_of (kind_number l.self.kind) l.self.head.sender) head_len l.self.entries.now))
