-- A depot's own calls: what each answers, with its refusals in their order, and the record after it.
use Rattle.std.specs.Prelude.{◌≡◌, ℕ, ◌+◌, ◌-◌, ◌≤◌, Bool, true, not, ◌||◌, List, [], ◌∷◌, ◌==◌, nat_lt}
use Rattle.std.proofs.Math.Option.{Option, none, some}
use Rattle.entries.specs.declared.lists.Entry.{Entry}
use Rattle.entries.specs.Limits.{max_wish, max_pool}
use Rattle.entries.specs.Sets.{mark, less}
use Rattle.entries.specs.Lists.{on, entry_of, names}
use Rattle.letters.specs.declared.letter.Kind.{Kind}
use Rattle.letters.specs.declared.letter.Kind.TheVariants as kinds
use Rattle.letters.specs.Reading.{handover}
use Rattle.protocol.specs.Limits.{max_pieces, max_tray, last_number}
use Rattle.protocol.specs.Policy.{Policy}
use Rattle.protocol.specs.Listing.{elsewhere}
use Rattle.protocol.specs.State.{pick, Site, State, engaged, leader, own, rest, others, pair}
use Rattle.protocol.specs.State.{stocked, hears, gathers, turned, bound, ended}
use Rattle.protocol.specs.Outcome.{Outcome, refuses, serves, refuse_if, mail}

-- a number of pieces outside 1 to 1,000,000
unfoldable pub outside : ℕ → Bool
outside n = nat_lt n 1 || nat_lt max_pieces n

-- Issue takes n off the shelf. It refuses n outside 1 to 1,000,000 (7), an engaged depot (8), a shelf below n (9)
unfoldable pub issue : Site → State → ℕ → Outcome
issue a s n =
    refuse_if (outside n) 7
    (refuse_if (engaged a s) 8
    (refuse_if (nat_lt s.shelf n) 9 (serves (stocked (s.shelf - n) s.tray s.wish s) none)))

-- Return adds n to the shelf, or to the tray while engaged. It refuses n as Issue does (7), then shelf, tray and n
-- together above 1,000,000,000 (10)
unfoldable pub give_back : Site → State → ℕ → Outcome
give_back a s n =
    refuse_if (outside n) 7
    (refuse_if (nat_lt max_tray (s.shelf + s.tray + n)) 10
    (pick (engaged a s) (serves (stocked s.shelf (s.tray + n) s.wish s) none)
    (serves (stocked (s.shelf + n) s.tray s.wish s) none)))

-- Wish sets the wish. It refuses n above 1,000,000 (11), an engaged depot (8)
unfoldable pub set_wish : Site → State → ℕ → Outcome
set_wish a s n =
    refuse_if (nat_lt max_wish n) 11 (refuse_if (engaged a s) 8 (serves (stocked s.shelf s.tray n s) none))

-- the own row one number higher at 1, with the own entry gathered
abbrev pub led : Site → State → State
led a s = gathers (own a s ∷ []) (turned a.depot ((s.rows a.depot).number + 1) 1 s)

-- Lead gathers the own entry under a new number and sends Ask to all others. It refuses an engaged depot (8), a depot
-- still owing (12), wish 0 (13), a shelf above 1,000,000,000 (14), the last number there is (15)
unfoldable pub lead : Site → State → Outcome
lead a s =
    refuse_if (engaged a s) 8
    (refuse_if (not (s.owing == 0)) 12
    (refuse_if (s.wish == 0) 13
    (refuse_if (nat_lt max_pool s.shelf) 14
    (refuse_if ((s.rows a.depot).number == last_number) 15
    (serves (led a s) (mail a (led a s) kinds.Ask (rest a) a.depot []))))))

-- what is gathered becomes the list, the own row stands at 2 with itself heard, and the others on the list are owing
abbrev pub proposed : Site → State → State
proposed a s = bound a.depot s.gathered (mark a.depot) (others a s.gathered) s

-- Propose sends List to the others on it. It refuses another policy (18), a depot not gathering (16), others' shelves
-- summing below the wish (17)
unfoldable pub propose : Policy → Site → State → Outcome
propose P a s =
    refuse_if (not (P.code == a.code)) 18
    (refuse_if (not ((s.rows a.depot).standing == 1)) 16
    (refuse_if (nat_lt (elsewhere a.depot s.gathered) s.wish) 17
    (serves (proposed a s) (mail a (proposed a s) kinds.List (others a s.gathered) a.depot s.gathered))))

-- Withdraw, in the row of L, ends at 3: a leader sends Drop to all others, another depot sends No to the leader. It
-- refuses a row not at 1 (19)
unfoldable pub withdraw_in : Site → State → ℕ → Outcome
withdraw_in a s L =
    refuse_if (not ((s.rows L).standing == 1)) 19
    (pick (L == a.depot) (serves (ended L 3 s) (mail a (ended L 3 s) kinds.Drop (rest a) L []))
    (serves (ended L 3 s) (mail a (ended L 3 s) kinds.No (mark L) L [])))

-- Query, in the row of L, goes to the others on the list. It refuses a row not at 2 (20)
unfoldable pub query_in : Site → State → ℕ → Outcome
query_in a s L =
    refuse_if (not ((s.rows L).standing == 2)) 20 (serves s (mail a s kinds.Query (others a s.list) L []))

-- Restart, in the row of L, is never refused and sends nothing: a gathering depot ends at 3, a bound one hears only
-- itself and the leader, any other stays as it is
unfoldable pub restart_in : Site → State → ℕ → Outcome
restart_in a s L =
    pick ((s.rows a.depot).standing == 1) (serves (ended a.depot 3 s) none)
    (pick ((s.rows L).standing == 2) (serves (hears (pair a L) s) none) (serves s none))

-- Withdraw, in the row in which the depot is engaged
abbrev pub withdraw : Site → State → Outcome
withdraw a s = withdraw_in a s (leader a s)

-- Query, in the row in which the depot is engaged
abbrev pub query : Site → State → Outcome
query a s = query_in a s (leader a s)

-- Restart, in the row in which the depot is engaged
abbrev pub restart : Site → State → Outcome
restart a s = restart_in a s (leader a s)

-- a letter of the own row sent again; to nobody it is refused
abbrev pub again : Site → State → Kind → ℕ → List Entry → Outcome
again a s k to es = refuse_if (to == 0) 21 (serves s (mail a s k to a.depot es))

-- Remind works by the own row: Ask to those not gathered (at 1), List to those on it not heard (at 2), Settle (at 4) or
-- Drop (at 5) to those owing. It refuses an empty set or another standing (21)
unfoldable pub remind : Site → State → Outcome
remind a s =
    pick ((s.rows a.depot).standing == 1) (again a s kinds.Ask (less (rest a) (names s.gathered)) [])
    (pick ((s.rows a.depot).standing == 2) (again a s kinds.List (less (names s.list) s.heard) s.list)
    (pick ((s.rows a.depot).standing == 4) (again a s kinds.Settle s.owing [])
    (pick ((s.rows a.depot).standing == 5) (again a s kinds.Drop s.owing []) (refuses (handover 21)))))

-- depot y is gathered, is not the leader, and its shelf alone covers the wish
pub record Covers (a : Site) (s : State) (y : ℕ) : Type 0 where
  pub gathered : on s.gathered y ≡ true
  pub another : y ≡ a.depot → ⊥
  pub enough : s.wish ≤ (entry_of s.gathered y).shelf

-- What Partner may answer: some covering depot, paired with its shelf; none only if there is no such depot
abbrev pub Partner : Site → State → Option (ℕ × ℕ) → Type 0
Partner a s none = (y : ℕ) → Covers a s y → ⊥
Partner a s (some x) = Covers a s x.0 × (x.1 ≡ (entry_of s.gathered x.0).shelf)
