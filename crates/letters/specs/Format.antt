-- The format of letters: every mark, length and place in the bytes, each named once. A place counts from the first
-- byte of the letter or of the entry, and is a sum of the lengths before it.
use Rattle.std.specs.Prelude.{ℕ, ◌+◌}

-- a letter begins with the bytes 48 4F
abbrev pub letter_mark : ℕ
letter_mark = 0x484F

-- an entry begins with the bytes 45 4E
abbrev pub entry_mark : ℕ
entry_mark = 0x454E

-- how many bytes a mark, a letter's to-set and number, and an entry's wish and shelf take; all else takes one
abbrev pub mark_len : ℕ
mark_len = 2

abbrev pub to_len : ℕ
to_len = 2

abbrev pub number_len : ℕ
number_len = 4

abbrev pub wish_len : ℕ
wish_len = 3

abbrev pub shelf_len : ℕ
shelf_len = 4

-- the head: mark, kind, sender, to-set, leader, policy code, number
abbrev pub kind_at : ℕ
kind_at = mark_len

abbrev pub sender_at : ℕ
sender_at = kind_at + 1

abbrev pub to_at : ℕ
to_at = sender_at + 1

abbrev pub leader_at : ℕ
leader_at = to_at + to_len

abbrev pub code_at : ℕ
code_at = leader_at + 1

abbrev pub number_at : ℕ
number_at = code_at + 1

abbrev pub head_len : ℕ
head_len = number_at + number_len

-- an entry: mark, depot, wish, shelf
abbrev pub depot_at : ℕ
depot_at = mark_len

abbrev pub wish_at : ℕ
wish_at = depot_at + 1

abbrev pub shelf_at : ℕ
shelf_at = wish_at + wish_len

abbrev pub entry_len : ℕ
entry_len = shelf_at + shelf_len
