-- What a letter says, and which letters are lawful.
use Rattle.std.specs.Prelude.{◌≡◌, ℕ, ◌^◌, ◌<◌, ◌≤◌, cond, List, [], length, ◌==◌}
use Rattle.std.specs.List.{AllByRecursion}
use Rattle.entries.specs.declared.lists.Entry.{Entry}
use Rattle.entries.specs.Limits.{max_depots, max_wish, max_shelf}
use Rattle.entries.specs.Lists.{Listed}
use Rattle.letters.specs.Format.{to_len, number_len}

-- a letter's contents; kinds 1 to 9 are Ask, Offer, List, Yes, No, Settle, Drop, Query, Done
pub record Contents : Type 0 where
  pub kind : ℕ
  pub sender : ℕ
  pub to : ℕ
  pub leader : ℕ
  pub code : ℕ
  pub number : ℕ
  pub entries : List Entry

-- the kind of an Offer
abbrev pub offer_kind : ℕ
offer_kind = 2

-- the kind of a List
abbrev pub list_kind : ℕ
list_kind = 3

-- the greatest kind
abbrev pub last_kind : ℕ
last_kind = 9

-- an entry that a letter may carry
pub record LawfulEntry (e : Entry) : Type 0 where
  pub depot_below : e.depot < max_depots
  pub wish_within : e.wish ≤ max_wish
  pub shelf_within : e.shelf ≤ max_shelf

-- an Offer carries its sender's entry
pub record Offered (sender : ℕ) (es : List Entry) : Type 0 where
  pub one : length es ≡ 1
  pub own : AllByRecursion (λ e. e.depot ≡ sender) es
  pub lawful : AllByRecursion LawfulEntry es

-- what a letter of a kind carries: an Offer one entry, a List a list, every other kind nothing
abbrev pub Carries : ℕ → ℕ → List Entry → Type 0
Carries kind sender es = cond (kind == offer_kind) (Offered sender es) (cond (kind == list_kind) (Listed es) (es ≡ []))

-- a letter that may be written, and that reading accepts; its to-set may name any depots
pub record Lawful (m : Contents) : Type 0 where
  pub kind_low : 1 ≤ m.kind
  pub kind_high : m.kind ≤ last_kind
  pub sender_below : m.sender < max_depots
  pub to_fits : m.to < 256 ^ to_len
  pub leader_below : m.leader < max_depots
  pub code_low : 1 ≤ m.code
  pub code_high : m.code < 256
  pub number_low : 1 ≤ m.number
  pub number_fits : m.number < 256 ^ number_len
  pub carries : Carries m.kind m.sender m.entries
