-- What a call answers, and what it sends.
use Rattle.std.specs.Prelude.{ℕ, Bool, true, false, List, ◌==◌}
use Rattle.std.proofs.Math.Option.{Option, none, some}
use Rattle.entries.specs.declared.lists.Entry.{Entry}
use Rattle.letters.specs.declared.letter.Kind.{Kind}
use Rattle.letters.specs.Contents.{Contents}
use Rattle.letters.specs.Reading.{Refusal, handover}
use Rattle.letters.specs.Code.{kind_number}
use Rattle.protocol.specs.State.{pick, Site, State}

-- A refusal, which changes nothing, tells its number, and where reading refuses also the place. A served call leaves a
-- record and may have a letter to send
pub data Outcome : Type 0 where
  refuses : Refusal → Outcome
  serves : State → Option Contents → Outcome

-- a refusal by its number that comes before what follows
abbrev pub refuse_if : Bool → ℕ → Outcome → Outcome
refuse_if bad number rest = pick bad (refuses (handover number)) rest

-- a letter to a set of depots about the handover in the row of L
abbrev pub note : Site → State → Kind → ℕ → ℕ → List Entry → Contents
note a s k to L es =
    record {
      kind = kind_number k;
      sender = a.depot;
      to = to;
      leader = L;
      code = a.code;
      number = (s.rows L).number;
      entries = es;
    }

-- the same letter, where it goes to anybody: one to nobody is nothing to send
unfoldable pub mail : Site → State → Kind → ℕ → ℕ → List Entry → Option Contents
mail a s k to L es = pick (to == 0) none (some (note a s k to L es))

-- the record after a call
abbrev pub after : State → Outcome → State
after s (refuses r) = s
after s (serves t m) = t

-- the letter that a call sends
abbrev pub sends : Outcome → Option Contents
sends (refuses r) = none
sends (serves t m) = m

-- whether the call was served
abbrev pub served : Outcome → Bool
served (refuses r) = false
served (serves t m) = true
