-- Letters and entries as bytes. In every number the high byte stands first.
use Rattle.std.specs.Prelude.{ℕ, zero, suc, ◌+◌, ◌*◌, ◌/◌, ◌%◌, ◌<◌, List, [], ◌∷◌, slice_index}
use Rattle.std.specs.List.{AllByRecursion}
use Rattle.entries.specs.declared.lists.Entry.{Entry}
use Rattle.letters.specs.Format.{letter_mark, entry_mark, mark_len, to_len, number_len, wish_len, shelf_len}
use Rattle.letters.specs.Contents.{Contents}

-- numbers that are bytes
abbrev pub Bytes : List ℕ → Type 0
Bytes bs = AllByRecursion (λ b. b < 256) bs

-- the low bytes of n, as many as the width says, and then the rest
abbrev pub number_bytes : ℕ → ℕ → List ℕ → List ℕ
number_bytes zero n rest = rest
number_bytes (suc width) n rest = number_bytes width (n / 256) (n % 256 ∷ rest)

-- the byte at a place
abbrev pub at : List ℕ → ℕ → ℕ
at bs i = slice_index bs i

-- the number in the bytes from a place on, as many as the width says
abbrev pub number_in : ℕ → List ℕ → ℕ → ℕ
number_in zero bs i = 0
number_in (suc width) bs i = number_in width bs i * 256 + at bs (i + width)

-- an entry's bytes, and then the rest
abbrev pub entry_bytes : Entry → List ℕ → List ℕ
entry_bytes e rest =
    number_bytes mark_len entry_mark
    (e.depot ∷ number_bytes wish_len e.wish (number_bytes shelf_len e.shelf rest))

-- entries' bytes one after another
abbrev pub entries_bytes : List Entry → List ℕ
entries_bytes [] = []
entries_bytes (e ∷ es) = entry_bytes e (entries_bytes es)

-- a letter's one form in bytes
abbrev pub encode : Contents → List ℕ
encode m =
    number_bytes mark_len letter_mark
    (m.kind ∷ m.sender ∷ number_bytes to_len m.to
    (m.leader ∷ m.code ∷ number_bytes number_len m.number (entries_bytes m.entries)))
