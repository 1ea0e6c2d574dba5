-- The limits that entries and lists keep.
use Rattle.std.specs.Prelude.{ℕ}

-- the greatest number of depots: every depot's number lies below it
unfoldable pub max_depots : ℕ
max_depots = 16

-- the most that a depot may wish for
abbrev pub max_wish : ℕ
max_wish = 1000000

-- the most that a shelf can hold: a share and a tray, each of at most half of it
abbrev pub max_shelf : ℕ
max_shelf = 2000000000

-- the most that the shelves of a list may hold together
abbrev pub max_pool : ℕ
max_pool = 1000000000
