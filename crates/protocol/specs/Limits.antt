-- The limits of a set, of a record and of its calls, beside those that entries and lists keep.
use Rattle.std.specs.Prelude.{ℕ}

-- the most pieces with which a set opens
abbrev pub max_total : ℕ
max_total = 1000000

-- the most pieces that one Issue takes, or one Return brings
abbrev pub max_pieces : ℕ
max_pieces = 1000000

-- the most that a tray holds, and that a Return may leave on shelf and tray together
abbrev pub max_tray : ℕ
max_tray = 1000000000

-- the last number that a handover can have: the greatest that fits a letter
abbrev pub last_number : ℕ
last_number = 4294967295
