-- The calls of a series, and what one call does, told by its outcome and by the rows before and after it.
use Rattle.std.specs.Prelude.{ℕ, Bool, true, false, cond, ◌&&◌, ◌||◌, List, [], ◌==◌}
use Rattle.entries.specs.declared.lists.Entry.{Entry}
use Rattle.letters.specs.Reading.{Answer, refused, letter, reads}
use Rattle.protocol.specs.State.{Row, State, engages}

-- The calls of a series, each made at a depot; Receive is given bytes
pub data Call : Type 0 where
  Hand : Call
  Issue Return Wish : ℕ → Call
  Lead Propose Withdraw Query Remind Restart : Call
  Receive : List ℕ → Call

-- the entries of a letter that was read
abbrev pub entries_read : Answer → List Entry
entries_read (refused r) = []
entries_read (letter m) = m.entries

-- the list that a call carries: what is gathered for Propose, a letter's entries for Receive
abbrev pub list_carried : State → Call → List Entry
list_carried s Hand = []
list_carried s (Issue n) = []
list_carried s (Return n) = []
list_carried s (Wish n) = []
list_carried s Lead = []
list_carried s Propose = s.gathered
list_carried s Withdraw = []
list_carried s Query = []
list_carried s Remind = []
list_carried s Restart = []
list_carried s (Receive bytes) = entries_read (reads bytes)

-- a call took a row from 1 to 2, or at once to 4: the list that it lays out was accepted
unfoldable pub accepts : Row → Row → Bool
accepts r r' = r.standing == 1 && (r'.standing == 2 || r'.standing == 4)

-- a call ended the row's handover at k
unfoldable pub ends_at : ℕ → Row → Row → Bool
ends_at k r r' = engages r.standing && r'.standing == k

-- once if the test holds, otherwise never
abbrev pub once : Bool → ℕ
once b = cond b 1 0

-- the pieces that a call moves if it is served
abbrev pub pieces : Bool → ℕ → ℕ
pieces served n = cond served n 0

-- the pieces that a call is to issue
abbrev pub issues : Call → ℕ
issues Hand = 0
issues (Issue n) = n
issues (Return n) = 0
issues (Wish n) = 0
issues Lead = 0
issues Propose = 0
issues Withdraw = 0
issues Query = 0
issues Remind = 0
issues Restart = 0
issues (Receive bytes) = 0

-- the pieces that a call is to take back
abbrev pub returns : Call → ℕ
returns Hand = 0
returns (Issue n) = 0
returns (Return n) = n
returns (Wish n) = 0
returns Lead = 0
returns Propose = 0
returns Withdraw = 0
returns Query = 0
returns Remind = 0
returns Restart = 0
returns (Receive bytes) = 0

-- the call is Hand
abbrev pub hands : Call → Bool
hands Hand = true
hands (Issue n) = false
hands (Return n) = false
hands (Wish n) = false
hands Lead = false
hands Propose = false
hands Withdraw = false
hands Query = false
hands Remind = false
hands Restart = false
hands (Receive bytes) = false
