-- Receive: reading the bytes, and taking a letter that was read, with the refusals in their order.
use Rattle.std.specs.Prelude.{ℕ, Bool, not, ◌&&◌, ◌||◌, List, ◌==◌, nat_le, nat_lt}
use Rattle.entries.specs.Sets.{has, mark, less}
use Rattle.letters.specs.declared.letter.Kind.{Kind}
use Rattle.letters.specs.declared.letter.Kind.TheVariants as kinds
use Rattle.letters.specs.Contents.{Contents}
use Rattle.letters.specs.Reading.{Answer, refused, letter, reads}
use Rattle.protocol.specs.declared.step.Step.{Step}
use Rattle.protocol.specs.Policy.{Policy}
use Rattle.protocol.specs.State.{pick, Site, State, engaged, owed}
use Rattle.protocol.specs.Outcome.{Outcome, refuses, refuse_if}
use Rattle.protocol.specs.Lines.{same_kind, decided}
use Rattle.protocol.specs.Steps.{situation, carried}

-- the kind of a number from 1 to 9
unfoldable pub kind_of : ℕ → Kind
kind_of n =
    pick (n == 1) kinds.Ask
    (pick (n == 2) kinds.Offer
    (pick (n == 3) kinds.List
    (pick (n == 4) kinds.Yes
    (pick (n == 5) kinds.No
    (pick (n == 6) kinds.Settle
    (pick (n == 7) kinds.Drop
    (pick (n == 8) kinds.Query kinds.Done)))))))

-- by a letter of these kinds a depot tells that its handover has ended
unfoldable pub tells_end : Kind → Bool
tells_end kind =
    same_kind kind kinds.No
    || (same_kind kind kinds.Settle || (same_kind kind kinds.Drop || same_kind kind kinds.Done))

-- the letter is an Ask
unfoldable pub asks : Kind → Bool
asks kind = same_kind kind kinds.Ask

-- No, Settle, Drop or Done to the leader strikes the sender from owing, whatever else the letter does
unfoldable pub strikes : Site → Contents → Bool
strikes a m = tells_end (kind_of m.kind) && m.leader == a.depot

-- the record with the sender struck, where the letter strikes it
abbrev pub struck : Site → State → Contents → State
struck a s m = owed (pick (strikes a m) (less s.owing (mark m.sender)) s.owing) s

-- the number is above that in the leader's row
unfoldable pub newer : State → Contents → Bool
newer s m = nat_lt (s.rows m.leader).number m.number

-- where the depot stands in the letter's handover: nowhere in a new one, otherwise as the leader's row says
abbrev pub standing_in : State → Contents → ℕ
standing_in s m = pick (newer s m) 0 (s.rows m.leader).standing

-- the step that a letter calls for
unfoldable pub step_for : Site → State → Contents → Step
step_for a s m =
    decided (kind_of m.kind) (standing_in s m) (situation a s m.leader m.sender m.number m.entries)

-- Taking a letter that was read. It refuses another policy (18), a letter not sent to this depot (29), a sender or
-- leader not below N or the depot itself as sender (30), a number below the leader's row (31), one above it unless Ask
-- (32), a new Ask while engaged (8), anything without a line (33)
unfoldable pub take : Policy → Site → State → Contents → Outcome
take P a s m =
    refuse_if (not (m.code == a.code) || not (P.code == a.code)) 18
    (refuse_if (not (has m.to a.depot)) 29
    (refuse_if (nat_le a.n m.sender || (nat_le a.n m.leader || m.sender == a.depot)) 30
    (refuse_if (nat_lt m.number (s.rows m.leader).number) 31
    (refuse_if (newer s m && not (asks (kind_of m.kind))) 32
    (refuse_if (newer s m && engaged a s) 8
    (carried a (struck a s m) m.leader m.sender m.number m.entries P (strikes a m)
    (step_for a (struck a s m) m)))))))

-- what was read is taken; unreadable bytes are refused as reading says
abbrev pub taken : Policy → Site → State → Answer → Outcome
taken P a s (refused r) = refuses r
taken P a s (letter m) = take P a s m

-- Receive is given bytes
abbrev pub receive : Policy → Site → State → List ℕ → Outcome
receive P a s bytes = taken P a s (reads bytes)
