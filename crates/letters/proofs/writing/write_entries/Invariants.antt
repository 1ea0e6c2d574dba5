use Rattle.std.proofs.Common.{◌≡◌, ◌*◌, ◌++◌, take, drop}
use Rattle.letters.specs.Format.{entry_len}
use Rattle.letters.specs.Bytes.{entries_bytes}
use Rattle.letters.proofs.writing.write_entries.Given as goal

-- the first entries stand in the front, and the rest is as it was
abbrev pub invariant-loop-index : goal.invariant-loop-index
invariant-loop-index l =
    l.buffer ≡ entries_bytes (take l.index l.entries) ++ drop (entry_len * l.index) l.initial.buffer
