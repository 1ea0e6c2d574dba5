-- A series of calls from a set just opened: any calls in any order at any depots, refused ones included.
use Rattle.std.specs.Prelude.{◌≡◌, ℕ, ◌+◌, Bool, true, false, ◌&&◌, ◌||◌, ◌⊎◌, List, [], ◌∷◌, ◌==◌}
use Rattle.std.proofs.Math.Option.{Option, none, some}
use Rattle.entries.specs.declared.lists.Entry.{Entry}
use Rattle.letters.specs.Contents.{Contents}
use Rattle.letters.specs.Bytes.{encode}
use Rattle.letters.specs.Reading.{Refusal, refused, reads}
use Rattle.protocol.specs.Policy.{Policy}
use Rattle.protocol.specs.State.{upd, pick, Site, Row, State, fresh}
use Rattle.protocol.specs.Outcome.{Outcome, after, sends, served}
use Rattle.protocol.specs.Own.{issue, give_back, set_wish, lead, propose, withdraw, query, remind, restart}
use Rattle.protocol.specs.Taking.{receive}
use Rattle.protocol.specs.Opening.{Opening, hand}
use Rattle.protocol.specs.Calls.{Call, Hand, Issue, Return, Wish, Lead, Propose, Withdraw, Query, Remind, Restart}
use Rattle.protocol.specs.Calls.{Receive, list_carried, accepts, ends_at, once, pieces, issues, returns, hands}

-- Where a series stands: the depots' records, and what its calls so far have done
pub record Stage : Type 0 where
  -- the record of each depot; before its Hand, the one that Hand will fill
  pub at : ℕ → State
  -- the depots whose Hand was served
  pub handed : ℕ → Bool
  -- the letters sent, the last first
  pub sent : List Contents
  -- the lists that calls at depot x have accepted in the handover n of L
  pub accepted : ℕ → ℕ → ℕ → List (List Entry)
  -- how many calls at depot x have ended the handover n of L at 4
  pub settled : ℕ → ℕ → ℕ → ℕ
  -- how many calls at depot x have ended the handover n of L at 5
  pub dropped : ℕ → ℕ → ℕ → ℕ
  -- the sums of n in served Issues and in served Returns
  pub issued : ℕ
  pub returned : ℕ

-- nothing has been called yet
abbrev pub just_opened : Opening → Stage
just_opened o =
    record {
      at = λ x. fresh (o.shares x);
      handed = λ _. false;
      sent = [];
      accepted = λ _ _ _. [];
      settled = λ _ _ _. 0;
      dropped = λ _ _ _. 0;
      issued = 0;
      returned = 0;
    }

-- what never changes in the record of depot d
abbrev pub site : Policy → Opening → ℕ → Site
site P o d = record { depot = d; n = o.n; code = P.code }

-- what the call c at depot d answers
abbrev pub outcome : Policy → Opening → Stage → ℕ → Call → Outcome
outcome P o w d Hand = hand o w.handed d
outcome P o w d (Issue n) = issue (site P o d) (w.at d) n
outcome P o w d (Return n) = give_back (site P o d) (w.at d) n
outcome P o w d (Wish n) = set_wish (site P o d) (w.at d) n
outcome P o w d Lead = lead (site P o d) (w.at d)
outcome P o w d Propose = propose P (site P o d) (w.at d)
outcome P o w d Withdraw = withdraw (site P o d) (w.at d)
outcome P o w d Query = query (site P o d) (w.at d)
outcome P o w d Remind = remind (site P o d) (w.at d)
outcome P o w d Restart = restart (site P o d) (w.at d)
outcome P o w d (Receive bytes) = receive P (site P o d) (w.at d) bytes

-- the letters sent, with what a call sends
abbrev pub posted : Option Contents → List Contents → List Contents
posted none ms = ms
posted (some m) ms = m ∷ ms

-- the call at depot d, whose outcome is r, changed the row of L in the given way, in the handover n; x is that depot
abbrev pub turns : Stage → ℕ → Outcome → (Row → Row → Bool) → ℕ → ℕ → ℕ → Bool
turns w d r way x L n =
    (x == d)
    && (n == ((after (w.at d) r).rows L).number && way ((w.at d).rows L) ((after (w.at d) r).rows L))

-- where the series stands after the call c at depot d, whose outcome is r
abbrev pub next : Stage → ℕ → Call → Outcome → Stage
next w d c r =
    record {
      at = upd w.at d (after (w.at d) r);
      handed = λ x. w.handed x || (hands c && (served r && x == d));
      sent = posted (sends r) w.sent;
      accepted = λ x L n.
          pick (turns w d r accepts x L n) (list_carried (w.at d) c ∷ w.accepted x L n) (w.accepted x L n);
      settled = λ x L n. w.settled x L n + once (turns w d r (ends_at 4) x L n);
      dropped = λ x L n. w.dropped x L n + once (turns w d r (ends_at 5) x L n);
      issued = w.issued + pieces (served r) (issues c);
      returned = w.returned + pieces (served r) (returns c);
    }

-- the same, by the outcome that the call has
abbrev pub called : Policy → Opening → Stage → ℕ → Call → Stage
called P o w d c = next w d c (outcome P o w d c)

-- a letter is among others
abbrev pub Among : Contents → List Contents → Type 0
Among m [] = ⊥
Among m (x ∷ ms) = (m ≡ x) ⊎ Among m ms

-- the bytes of a letter that an earlier call sent, or bytes that reading refuses
abbrev pub Given : Stage → List ℕ → Type 0
Given w bytes =
    ((m : Contents) × Among m w.sent × (bytes ≡ encode m)) ⊎ ((r : Refusal) × (reads bytes ≡ refused r))

-- a depot's other calls follow its served Hand, and Receive gets what it can get
abbrev pub Allowed : Stage → ℕ → Call → Type 0
Allowed w d Hand = Unit {0}
Allowed w d (Issue n) = w.handed d ≡ true
Allowed w d (Return n) = w.handed d ≡ true
Allowed w d (Wish n) = w.handed d ≡ true
Allowed w d Lead = w.handed d ≡ true
Allowed w d Propose = w.handed d ≡ true
Allowed w d Withdraw = w.handed d ≡ true
Allowed w d Query = w.handed d ≡ true
Allowed w d Remind = w.handed d ≡ true
Allowed w d Restart = w.handed d ≡ true
Allowed w d (Receive bytes) = (w.handed d ≡ true) × Given w bytes

-- a series of calls that leads from one stage to another
pub data Series (P : Policy) (o : Opening) (v : Stage) : Stage → Type 0 where
  start : Series P o v v
  then : {w : Stage} → Series P o v w → (d : ℕ) (c : Call) → Allowed w d c → Series P o v (called P o w d c)

-- a list of calls carried out one after another
abbrev pub carried_out : Policy → Opening → Stage → List (ℕ × Call) → Stage
carried_out P o w [] = w
carried_out P o w (e ∷ es) = carried_out P o (called P o w e.0 e.1) es

-- each call of the list is allowed where it stands
abbrev pub EachAllowed : Policy → Opening → Stage → List (ℕ × Call) → Type 0
EachAllowed P o w [] = Unit {0}
EachAllowed P o w (e ∷ es) = Allowed w e.0 e.1 × EachAllowed P o (called P o w e.0 e.1) es
