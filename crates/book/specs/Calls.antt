-- What a call answers, and what it leaves in the record and in the lent message, against the outcome that the
-- definitions name. A refusal tells its number and leaves both as they were.
use Rattle.std.specs.Prelude.{◌≡◌, ℕ, Bool, true, List, Ok, Err, Result}
use Rattle.std.proofs.Math.Option.{Option, none, some}
use Rattle.std.specs.declared.option.Option as option
use Rattle.std.specs.declared.option.Option.TheVariants as options
use Rattle.entries.specs.declared.sets.Depots.{Depots}
use Rattle.entries.specs.Lists.{Listed}
use Rattle.letters.specs.declared.message.Message.{Message}
use Rattle.letters.specs.Contents.{Contents}
use Rattle.letters.specs.Reading as reading
use Rattle.letters.specs.Reading.{handover}
use Rattle.letters.specs.declared.fault.Fault.{Fault}
use Rattle.letters.specs.Code.{fault_of}
use Rattle.letters.specs.Writing.{message_says}
use Rattle.protocol.specs.Outcome as outcome
use Rattle.protocol.specs.State.{Site, State}
use Rattle.protocol.specs.Policy.{Policy}
use Rattle.protocol.specs.Law.{Law}
use Rattle.protocol.specs.Outcome.{Outcome, refuses, serves}
use Rattle.protocol.specs.Steps.{fits_gathered, carried}
use Rattle.protocol.specs.Taking.{strikes, struck, step_for, take, receive}
use Rattle.protocol.specs.Keeping.{Keeps}
use Rattle.protocol.specs.declared.step.Step.{Step}
use Rattle.protocol.specs.declared.step.Step.TheVariants as steps
use Rattle.protocol.specs.declared.refusal.Refusal.{Refusal}
use Rattle.protocol.specs.Code.{refusal_number}
use Rattle.book.specs.declared.record.Record.{Record}
use Rattle.book.specs.View.{site, view}

-- what a refusal tells, in the words of the definitions
abbrev pub told : Refusal → reading.Refusal
told e = handover (refusal_number e)

-- the outcome of a call at a record
abbrev pub at : (Site → State → Outcome) → Record → Outcome
at call r = call (site r) (view r)

-- what a step makes of a record: its state is what `to` makes of it, and its site stays
pub record Becomes (to : State → State) (before after : Record) : Type 0 where
  pub state : view after ≡ to (view before)
  pub same : site after ≡ site before

-- a record that may become so: the law holds of it then too
abbrev pub MayBecome : (State → State) → Record → Type 0
MayBecome to r = ∥ Law (site r) (to (view r)) ∥₁

-- the record after a call with this outcome: its state is what the outcome says, and its site stays
abbrev pub Left : Outcome → Record → Record → Type 0
Left o before after = Becomes (λ s. outcome.after s o) before after

-- what a served call sends: the lent message to these depots, or nothing
abbrev pub Sent : Type 0
Sent = option.Option Depots

-- the lent message is the letter that is sent, or is left as it was
abbrev pub Posted : Option Contents → Sent → Message → Message → Type 0
Posted none options.None lent left = left ≡ lent
Posted none (options.Some set) lent left = ⊥
Posted (some m) options.None lent left = ⊥
Posted (some m) (options.Some set) lent left = (set.0 ≡ m.to) × (message_says left ≡ m)

-- the answer of a call that sends nothing, and of one that may send; `tell` says what a fault tells
abbrev pub Replied : {X : Type 0} → Outcome → Result X Refusal → Type 0
Replied (refuses k) (Ok x) = ⊥
Replied (refuses k) (Err e) = k ≡ told e
Replied (serves t o) (Ok x) = o ≡ none
Replied (serves t o) (Err e) = ⊥

abbrev pub Answered : {E : Type 0} → (E → reading.Refusal) → Outcome → Result Sent E → Message → Message → Type 0
Answered tell (refuses k) (Ok x) lent left = ⊥
Answered tell (refuses k) (Err e) lent left = (k ≡ tell e) × (left ≡ lent)
Answered tell (serves t o) (Ok x) lent left = Posted o x lent left
Answered tell (serves t o) (Err e) lent left = ⊥

-- a call that sends nothing
pub record Moved (call : Site → State → Outcome) (r : Result (Unit {0}) Refusal) (before after : Record) : Type 0 where
  pub answer : Replied (at call before) r
  pub leaves : Left (at call before) before after

-- a call that may send a letter; `tell` says what an error of it tells
pub record Mailed {E : Type 0} (tell : E → reading.Refusal) (call : Site → State → Outcome) (r : Result Sent E)
    (before after : Record) (lent left : Message) : Type 0 where
  pub answer : Answered tell (at call before) r lent left
  pub leaves : Left (at call before) before after

-- a call that may send a letter, and that the handover alone refuses
abbrev pub Called : (Site → State → Outcome) → Result Sent Refusal → Record → Record → Message → Message → Type 0
Called call r before after lent left = Mailed told call r before after lent left

-- Receive, which reading may refuse too: its fault carries the layer
abbrev pub Received : Policy → List ℕ → Result Sent (Fault Refusal) → Record → Record → Message → Message → Type 0
Received P bytes r before after lent left =
    Mailed (fault_of refusal_number) (λ a s. receive P a s bytes) r before after lent left

-- what Partner chose, in the words of the definitions
abbrev pub chosen : option.Option (ℕ × ℕ) → Option (ℕ × ℕ)
chosen options.None = none
chosen (options.Some x) = some x

-- The parts of which Receive is made.
--
-- a letter's step carried out
abbrev pub stepped : Policy → Bool → Contents → Step → Site → State → Outcome
stepped P strikes m step a s = carried a s m.leader m.sender m.number m.entries P strikes step

-- a letter's own line carried out, once no refusal before the lines applies
abbrev pub lined : Policy → Contents → Site → State → Outcome
lined P m a s = stepped P (strikes a m) m (step_for a (struck a s m) m) a (struck a s m)

-- a call at a record keeps the law and sends what can be read
abbrev pub Sound : (Site → State → Outcome) → Record → Type 0
Sound call r = ∥ Keeps (site r) (view r) (at call r) ∥₁

-- what the refusals before the lines come to
abbrev pub Admitted : Policy → Contents → Record → Result (Unit {0}) Refusal → Type 0
Admitted P m r (Ok x) = at (λ a s. take P a s m) r ≡ at (lined P m) r
Admitted P m r (Err e) = at (λ a s. take P a s m) r ≡ refuses (told e)

-- what carrying a letter's step out relies on, beside the law: where the depot stands in the leader's row, and what the
-- letter's entries are
abbrev pub StepGrounds : Contents → State → Step → Type 0
StepGrounds m s steps.Unlined = Unit {0}
StepGrounds m s steps.Stay = Unit {0}
StepGrounds m s steps.Join = Unit {0}
StepGrounds m s steps.OfferAgain = Unit {0}
StepGrounds m s steps.Gather = fits_gathered s.gathered m.entries ≡ true
StepGrounds m s steps.Accept = ∥ Listed m.entries ∥₁
StepGrounds m s steps.Hear = (s.rows m.leader).standing ≡ 2
StepGrounds m s (steps.Say kind whom) = Unit {0}
StepGrounds m s (steps.Refuse whom) = (s.rows m.leader).standing ≡ 1
StepGrounds m s (steps.Settle kind whom) = (s.rows m.leader).standing ≡ 2
StepGrounds m s (steps.Drop kind whom) = (s.rows m.leader).standing ≡ 2
