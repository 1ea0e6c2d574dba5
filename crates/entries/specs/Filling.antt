-- Filling a place with entries.
use Rattle.std.specs.Prelude.{◌≡◌, ℕ, ◌+◌, ◌<◌, ◌≤◌, cond, List, length, is_ok, Ok, Err, Result, nat_le, nat_lt}
use Rattle.entries.specs.declared.lists.Entry.{Entry}
use Rattle.entries.specs.declared.filling.InsertRefusal.{InsertRefusal}
use Rattle.entries.specs.declared.filling.InsertRefusal.TheVariants.{Present, Full, PastLimit}
use Rattle.entries.specs.Limits.{max_depots, max_wish, max_pool}
use Rattle.entries.specs.Lists.{pool, Begun, on, insert}

-- what putting an entry to others answers: refused where its depot is there already, where there is no room, and
-- where the shelves would hold more than those of a list may
unfoldable pub insertion : Entry → List Entry → Result (Unit {0}) InsertRefusal
insertion e es =
    cond (on es e.depot) (Err Present)
    (cond (nat_lt (length es) max_depots)
    (cond (nat_le (pool es + e.shelf) max_pool) (Ok tt) (Err PastLimit))
    (Err Full))

-- What putting an entry into a place answers and leaves. A refusal leaves the place as it was. A list begun below n
-- stays one, for an entry of a depot below n with a lawful wish
pub record Inserted (e : Entry) (before : List Entry) (r : Result (Unit {0}) InsertRefusal)
    (after : List Entry) : Type 0 where
  pub answer : r ≡ insertion e before
  pub list : after ≡ cond (is_ok r) (insert e before) before
  pub begun : (n : ℕ) → Begun n before → e.depot < n → e.wish ≤ max_wish → Begun n after
