-- What every record keeps, as named facts, each of which can be tested on a record with rows for finitely many leaders.
use Rattle.std.specs.Prelude.{◌≡◌, ℕ, ◌+◌, ◌<◌, ◌≤◌, true, false, ◌⊎◌, List, [], ◌≢◌}
use Rattle.entries.specs.declared.lists.Entry.{Entry}
use Rattle.entries.specs.Limits.{max_depots, max_wish, max_shelf}
use Rattle.entries.specs.Sets.{has}
use Rattle.entries.specs.Lists.{Begun, on, entry_of}
use Rattle.protocol.specs.Limits.{max_tray, last_number}
use Rattle.protocol.specs.Listing.{every}
use Rattle.protocol.specs.State.{Site, Row, State, engaged}

-- a standing at which a depot is engaged
abbrev pub Engages : ℕ → Type 0
Engages k = (1 ≤ k) × (k ≤ 2)

-- a standing that a depot has once it has accepted a list: 2, 4 or 5
abbrev pub HasAccepted : ℕ → Type 0
HasAccepted k = (2 ≤ k) × (k ≢ 3)

-- a row: its number is 0 exactly at standing 0, and the row of a number that is no depot of the set stands at 0
pub record LawfulRow (n L : ℕ) (r : Row) : Type 0 where
  pub low : 1 ≤ r.standing → L < n
  pub most : r.standing ≤ 5
  pub number_high : r.number ≤ last_number
  pub number_none : r.standing ≡ 0 → r.number ≡ 0
  pub number_some : 1 ≤ r.standing → 1 ≤ r.number

-- entries of depots below N in rising order, within a list's limits, with the leader's and with the own entry as shelf
-- and wish are
pub record LawfulList (a : Site) (L shelf wish : ℕ) (es : List Entry) : Type 0 where
  pub begun : Begun a.n es
  pub lead : on es L ≡ true
  pub me : on es a.depot ≡ true
  pub own_shelf : (entry_of es a.depot).shelf ≡ shelf
  pub own_wish : (entry_of es a.depot).wish ≡ wish

-- bound in the row of L: heard has itself and the leader, lies within the list and does not have all of it
pub record LawfulBound (a : Site) (L shelf wish : ℕ) (es : List Entry) (heard : ℕ) : Type 0 where
  pub list : LawfulList a L shelf wish es
  pub self : has heard a.depot ≡ true
  pub head : has heard L ≡ true
  pub waits : every es (has heard) ≡ false
  pub within : (y : ℕ) → has heard y ≡ true → on es y ≡ true

-- the depot is one of the set, the set is no greater than sets may be, and the code fits a letter
pub record LawfulSite (a : Site) : Type 0 where
  pub depot : a.depot < a.n
  pub size : a.n ≤ max_depots
  pub code_low : 1 ≤ a.code
  pub code_high : a.code ≤ 255

-- shelf, tray and wish: the tray is empty unless the depot is engaged
pub record LawfulStock (a : Site) (s : State) : Type 0 where
  pub stock : s.shelf + s.tray ≤ max_shelf
  pub tray : s.tray ≤ max_tray
  pub wish : s.wish ≤ max_wish
  pub tray_empty : engaged a s ≡ false → s.tray ≡ 0

-- the rows, of which at most one is engaged
pub record LawfulRows (a : Site) (s : State) : Type 0 where
  pub row : (L : ℕ) → LawfulRow a.n L (s.rows L)
  pub single : (L M : ℕ) → Engages (s.rows L).standing → Engages (s.rows M).standing → L ≡ M

-- list and heard, empty unless bound; gathered, empty unless gathering, which a depot does only with a wish
pub record LawfulLists (a : Site) (s : State) : Type 0 where
  pub bound : (L : ℕ) → (s.rows L).standing ≡ 2 → LawfulBound a L s.shelf s.wish s.list s.heard
  pub unbound : ((L : ℕ) → (s.rows L).standing ≢ 2) → (s.list ≡ []) × (s.heard ≡ 0)
  pub gathering :
      (s.rows a.depot).standing ≡ 1 →
      LawfulList a a.depot s.shelf s.wish s.gathered × (1 ≤ s.wish)
  pub ungathered : ((s.rows a.depot).standing ≢ 1) → s.gathered ≡ []

-- owing has other depots of the set only, and none unless the own row stands at 2, 4 or 5
pub record LawfulOwing (a : Site) (s : State) : Type 0 where
  pub owing : (y : ℕ) → has s.owing y ≡ true → (y < a.n) × (y ≢ a.depot)
  pub owes : (s.owing ≡ 0) ⊎ HasAccepted (s.rows a.depot).standing

-- What every record keeps
pub record Law (a : Site) (s : State) : Type 0 where
  pub site : LawfulSite a
  pub rows : LawfulRows a s
  pub stock : LawfulStock a s
  pub lists : LawfulLists a s
  pub owing : LawfulOwing a s
