-- From the fields of a record to its site and state.
use Rattle.std.specs.Prelude.{◌≡◌, ℕ, ◌+◌, ◌<◌, ◌≤◌, true, false, List, length, Some, None, Option, slice_index, slice_index_or}
use Rattle.entries.specs.declared.lists.Entry.{Entry}
use Rattle.entries.specs.declared.sets.Depots.{Depots}
use Rattle.entries.specs.Limits.{max_depots, max_wish, max_shelf, max_pool}
use Rattle.protocol.specs.State.{Site, Row, State, engages}
use Rattle.protocol.specs.declared.standing.Standing.TheVariants.{Blank}
use Rattle.book.specs.declared.parts.Row as parts
use Rattle.book.specs.declared.parts.Rows.{Rows}
use Rattle.book.specs.declared.parts.Identity.{Identity}
use Rattle.protocol.specs.Code.{standing_number}

abbrev pub site_of : Identity → Site
site_of i = record { depot = i.depot; n = i.depots; code = i.code }

abbrev pub row_of : parts.Row → Row
row_of r = record { number = r.number; standing = standing_number r.standing }

abbrev pub blank_row : parts.Row
blank_row = record { number = 0; standing = Blank }

-- the row of each leader; past the array every row is blank
unfoldable pub rows_of : List parts.Row → ℕ → Row
rows_of rs L = row_of (slice_index_or rs L blank_row)

-- the pieces of each depot; past the array there are none
abbrev pub shares_of : List ℕ → ℕ → ℕ
shares_of of depot = slice_index of depot

abbrev pub state_of : ℕ → ℕ → ℕ → Rows → List Entry → Depots → List Entry → Depots → State
state_of shelf tray wish rows list heard gathered owing =
    record {
      shelf = shelf;
      tray = tray;
      wish = wish;
      rows = rows_of rows.of;
      list = list;
      heard = heard.0;
      gathered = gathered;
      owing = owing.0;
    }

-- one of these rows that engages the depot, and none only where none does
abbrev pub EngagedIn : List parts.Row → Option ℕ → Type 0
EngagedIn rs None = (L : ℕ) → L < length rs → engages (rows_of rs L).standing ≡ false
EngagedIn rs (Some L) = (L < length rs) × (engages (rows_of rs L).standing ≡ true)

-- the part of the law that the code's sums and tests rely on
abbrev pub Bounds : Site → State → Type 0
Bounds a s =
    ((a.depot < a.n) × (a.n ≤ max_depots) × (1 ≤ a.code) × (a.code ≤ 255))
    × ((s.shelf + s.tray ≤ max_shelf) × (s.tray ≤ max_pool) × (s.wish ≤ max_wish))
