-- The pieces due, told by the depots' records alone: while a depot is bound, the rows of the others on its list show
-- who has accepted it, and no history of the series is needed.
use Rattle.std.specs.Prelude.{◌≡◌, ℕ, ◌+◌, Bool, ◌&&◌, ◌||◌, List, ◌==◌}
use Rattle.entries.specs.declared.lists.Entry.{Entry}
use Rattle.policies.specs.Shares.{share_of}
use Rattle.protocol.specs.Policy.{Policy, LawfulPolicy}
use Rattle.protocol.specs.Listing.{every}
use Rattle.protocol.specs.State.{pick, any, State}
use Rattle.protocol.specs.Opening.{Opening, LawfulOpening}
use Rattle.protocol.specs.Series.{Stage, just_opened, Series}
use Rattle.protocol.specs.Words.{due}

-- the record of depot y shows that it has accepted in the handover n of L: its row of L has that number and stands at
-- 2, 4 or 5
unfoldable pub accepted_by_row : (ℕ → State) → ℕ → ℕ → ℕ → Bool
accepted_by_row records L n y =
    (((records y).rows L).number == n)
    && (((records y).rows L).standing == 2
    || (((records y).rows L).standing == 4 || ((records y).rows L).standing == 5))

-- the records show that a list of the handover n of L stands: those of all depots on it show that they have accepted
unfoldable pub stands_by_rows : (ℕ → State) → ℕ → ℕ → List Entry → Bool
stands_by_rows records L n es = every es (accepted_by_row records L n)

-- the records show that depot x is bound to a list that stands
unfoldable pub bound_by_rows : Opening → (ℕ → State) → ℕ → Bool
bound_by_rows o records x =
    any o.n
    (λ L. (((records x).rows L).standing == 2)
    && stands_by_rows records L ((records x).rows L).number (records x).list)

-- The pieces due to depot x, from which depots were handed their records and from what all records hold: its tray plus
-- its shelf, or its tray plus its share where the records show that it is bound to a list that stands; before Hand its
-- opened share
unfoldable pub due_by_rows : Policy → Opening → (ℕ → Bool) → (ℕ → State) → ℕ → ℕ
due_by_rows P o handed records x =
    pick (handed x)
    ((records x).tray + pick (bound_by_rows o records x) (share_of P.share (records x).list x) (records x).shelf)
    (o.shares x)

-- After every series of calls from a set just opened, under every lawful policy, the records tell what is due to each
-- depot
abbrev pub DueByRows : Type 0
DueByRows =
    (P : Policy) → LawfulPolicy P → (o : Opening) → LawfulOpening o →
    (w : Stage) → Series P o (just_opened o) w →
    (x : ℕ) → due P o w x ≡ due_by_rows P o w.handed w.at x
