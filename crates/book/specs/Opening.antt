-- Opening a set: what a plan, a draft and an opened set are in the words of the definitions, and what each call on them
-- answers and leaves. A refusal tells its number and leaves everything as it was.
use Rattle.std.specs.Prelude.{◌≡◌, ℕ, Ok, Err, Result}
use Rattle.std.proofs.Math.Option.{none}
use Rattle.entries.specs.Sets.{has, add}
use Rattle.protocol.specs.declared.refusal.Refusal.{Refusal}
use Rattle.protocol.specs.Code.{refusal_number}
use Rattle.protocol.specs.Outcome.{refuses, serves}
use Rattle.protocol.specs.Opening as definitions
use Rattle.protocol.specs.Opening.{draft, allot, opened, hand}
use Rattle.book.specs.declared.opening.Plan.{Plan}
use Rattle.book.specs.declared.opening.Draft.{Draft}
use Rattle.book.specs.declared.opening.Opened.{Opened}
use Rattle.book.specs.declared.record.Record.{Record}
use Rattle.book.specs.Fields.{shares_of}
use Rattle.book.specs.View.{site, view}
use Rattle.book.specs.Calls.{told}

-- the draft that a plan is for: nothing is allotted
abbrev pub planned : Plan → definitions.Draft
planned p = record { total = p.total; n = p.depots; shares = λ _. 0; allotted = 0 }

-- a draft, in the words of the definitions
abbrev pub drafting : Draft → definitions.Draft
drafting d =
    record { total = d.plan.total; n = d.plan.depots; shares = shares_of d.shares.of; allotted = d.allotted.0 }

-- an opened set, in the words of the definitions
abbrev pub opening : Opened → definitions.Opening
opening o = record { n = o.plan.depots; shares = shares_of o.shares.of }

-- a plan is the answer where the definitions draft the set
abbrev pub Planned : ℕ → ℕ → Result Plan Refusal → Type 0
Planned total n (Ok p) = draft total n ≡ Ok (planned p)
Planned total n (Err e) = draft total n ≡ Err (refusal_number e)

-- the draft just made of a plan, under a policy's code
pub record Drafted (c : ℕ) (p : Plan) (d : Draft) : Type 0 where
  pub draft : drafting d ≡ planned p
  pub code : d.code ≡ c

-- what Allot answers, and the draft after it
abbrev pub Allotted : ℕ → ℕ → Draft → Result (Unit {0}) Refusal → Draft → Type 0
Allotted depot pieces before (Ok x) after =
    (allot (drafting before) depot pieces ≡ Ok (drafting after)) × (after.code ≡ before.code)
Allotted depot pieces before (Err e) after =
    (allot (drafting before) depot pieces ≡ Err (refusal_number e)) × (after ≡ before)

-- the set that Open makes of a draft, under the same policy's code; no record is handed out yet
pub record OpenedUp (d : Draft) (o : Opened) : Type 0 where
  pub shares : opening o ≡ opened (drafting d)
  pub code : o.code ≡ d.code
  pub handed : o.handed.0 ≡ 0

-- a record was handed out: its site, and the set after it, in which only the depot is marked as handed
pub record HandedOut (depot : ℕ) (before : Opened) (r : Record) (after : Opened) : Type 0 where
  pub state : hand (opening before) (has before.handed.0) depot ≡ serves (view r) none
  pub site : site r ≡ record { depot = depot; n = before.plan.depots; code = before.code }
  pub shares : opening after ≡ opening before
  pub code : after.code ≡ before.code
  pub handed : after.handed.0 ≡ add before.handed.0 depot

-- what Hand answers, and the set after it
abbrev pub Handed : ℕ → Opened → Result Record Refusal → Opened → Type 0
Handed depot before (Ok r) after = HandedOut depot before r after
Handed depot before (Err e) after =
    (hand (opening before) (has before.handed.0) depot ≡ refuses (told e)) × (after ≡ before)
