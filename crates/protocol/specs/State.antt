-- A depot's record, and the ways in which calls change it.
use Rattle.std.specs.Prelude.{ℕ, zero, suc, ◌+◌, Bool, false, cond, ◌&&◌, ◌||◌, List, [], ◌==◌}
use Rattle.entries.specs.declared.lists.Entry.{Entry}
use Rattle.entries.specs.Sets.{mark, add, less, everyone}
use Rattle.entries.specs.Lists.{on, entry_of, names}
use Rattle.policies.specs.Shares.{share_of}
use Rattle.protocol.specs.Policy.{Policy}

-- a function changed at one place
unfoldable pub upd : {A : Type 0} → (ℕ → A) → ℕ → A → ℕ → A
upd f k v x = cond (x == k) v (f x)

-- the first if the test holds, otherwise the second
unfoldable pub pick : {A : Type 0} → Bool → A → A → A
pick b x y = cond b x y

-- some number below n passes
unfoldable pub any : ℕ → (ℕ → Bool) → Bool
any zero passes = false
any (suc n) passes = passes n || any n passes

-- a number below n that passes; 0 if none does
unfoldable pub found : ℕ → (ℕ → Bool) → ℕ
found zero passes = 0
found (suc n) passes = pick (passes n) n (found n passes)

-- What never changes in a record: which depot it is, of how many, and under which policy's code
pub record Site : Type 0 where
  pub depot : ℕ
  pub n : ℕ
  pub code : ℕ

-- A leader's row. Standings: 0 none, 1 offered, 2 accepted, 3 refused, 4 settled, 5 dropped
pub record Row : Type 0 where
  pub number : ℕ
  pub standing : ℕ

-- What calls change. Heard and owing are sets of depots; list and gathered are empty where there is none
pub record State : Type 0 where
  -- the pieces that can be issued
  pub shelf : ℕ
  -- the pieces that were returned while the depot was engaged
  pub tray : ℕ
  -- the pieces that the depot wants from a handover
  pub wish : ℕ
  -- a row for each leader
  pub rows : ℕ → Row
  -- the list that a bound depot has accepted
  pub list : List Entry
  -- the depots on the list that are known to have accepted it
  pub heard : ℕ
  -- the entries that a leader has gathered so far, its own among them
  pub gathered : List Entry
  -- the depots on the list last proposed that have not yet told that they ended that handover
  pub owing : ℕ

-- a row in which nothing has stood
abbrev pub blank_row : Row
blank_row = record { number = 0; standing = 0 }

-- the record as Hand fills it: the opened share on the shelf, and nothing else
abbrev pub fresh : ℕ → State
fresh share =
    record {
      shelf = share;
      tray = 0;
      wish = 0;
      rows = λ _. blank_row;
      list = [];
      heard = 0;
      gathered = [];
      owing = 0;
    }

-- a row engages its depot while it stands at 1 or 2
unfoldable pub engages : ℕ → Bool
engages k = k == 1 || k == 2

-- the depot is engaged in some row
unfoldable pub engaged : Site → State → Bool
engaged a s = any a.n (λ L. engages (s.rows L).standing)

-- the leader in whose row it is engaged; at most one is, and a test of that row follows wherever this is used
unfoldable pub leader : Site → State → ℕ
leader a s = found a.n (λ L. engages (s.rows L).standing)

-- the own entry
abbrev pub own : Site → State → Entry
own a s = record { depot = a.depot; shelf = s.shelf; wish = s.wish }

-- depot d is on the list with this shelf and wish
unfoldable pub fits : ℕ → ℕ → ℕ → List Entry → Bool
fits d shelf wish es = on es d && ((entry_of es d).shelf == shelf && (entry_of es d).wish == wish)

-- all other depots
abbrev pub rest : Site → ℕ
rest a = less (everyone a.n) (mark a.depot)

-- the others on a list
abbrev pub others : Site → List Entry → ℕ
others a es = less (names es) (mark a.depot)

-- itself and the leader
abbrev pub pair : Site → ℕ → ℕ
pair a L = add (mark a.depot) L

-- the record with another shelf, tray and wish
abbrev pub stocked : ℕ → ℕ → ℕ → State → State
stocked shelf tray wish s =
    record {
      shelf = shelf;
      tray = tray;
      wish = wish;
      rows = s.rows;
      list = s.list;
      heard = s.heard;
      gathered = s.gathered;
      owing = s.owing;
    }

-- the record with others owing
abbrev pub owed : ℕ → State → State
owed owing s =
    record {
      shelf = s.shelf;
      tray = s.tray;
      wish = s.wish;
      rows = s.rows;
      list = s.list;
      heard = s.heard;
      gathered = s.gathered;
      owing = owing;
    }

-- the record with others heard
abbrev pub hears : ℕ → State → State
hears heard s =
    record {
      shelf = s.shelf;
      tray = s.tray;
      wish = s.wish;
      rows = s.rows;
      list = s.list;
      heard = heard;
      gathered = s.gathered;
      owing = s.owing;
    }

-- the record with other entries gathered
abbrev pub gathers : List Entry → State → State
gathers es s =
    record {
      shelf = s.shelf;
      tray = s.tray;
      wish = s.wish;
      rows = s.rows;
      list = s.list;
      heard = s.heard;
      gathered = es;
      owing = s.owing;
    }

-- the record with the number n and the standing k in the row of L
abbrev pub turned : ℕ → ℕ → ℕ → State → State
turned L n k s =
    record {
      shelf = s.shelf;
      tray = s.tray;
      wish = s.wish;
      rows = upd s.rows L (record { number = n; standing = k });
      list = s.list;
      heard = s.heard;
      gathered = s.gathered;
      owing = s.owing;
    }

-- the record bound to a list in the row of L, with what is heard and who owes; nothing is gathered any more
abbrev pub bound : ℕ → List Entry → ℕ → ℕ → State → State
bound L es heard owing s =
    record {
      shelf = s.shelf;
      tray = s.tray;
      wish = s.wish;
      rows = upd s.rows L (record { number = (s.rows L).number; standing = 2 });
      list = es;
      heard = heard;
      gathered = [];
      owing = owing;
    }

-- the record after its handover in the row of L ended at k: the tray is moved onto the shelf, and list, heard and
-- gathered are emptied
abbrev pub ended : ℕ → ℕ → State → State
ended L k s =
    record {
      shelf = s.shelf + s.tray;
      tray = 0;
      wish = s.wish;
      rows = upd s.rows L (record { number = (s.rows L).number; standing = k });
      list = [];
      heard = 0;
      gathered = [];
      owing = s.owing;
    }

-- the record after it settled on a list in the row of L: the shelf is first made the policy's share and the wish 0,
-- then the handover is ended at 4
abbrev pub settled : Policy → Site → ℕ → List Entry → State → State
settled P a L es s = ended L 4 (stocked (share_of P.share es a.depot) s.tray 0 s)
