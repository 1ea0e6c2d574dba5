-- Opening a set: Draft, Allot, Open and Hand, over shares.
use Rattle.std.specs.Prelude.{◌≡◌, ℕ, zero, suc, ◌+◌, ◌-◌, ◌≤◌, Bool, not, ◌||◌, Ok, Err, Result, nat_lt}
use Rattle.std.proofs.Math.Option.{none}
use Rattle.entries.specs.Limits.{max_depots}
use Rattle.entries.specs.Sets.{has, add}
use Rattle.protocol.specs.Limits.{max_total}
use Rattle.protocol.specs.State.{upd, pick, fresh}
use Rattle.protocol.specs.Outcome.{Outcome, serves, refuse_if}

-- the sum of a number for each depot below n
unfoldable pub sum_to : ℕ → (ℕ → ℕ) → ℕ
sum_to zero f = 0
sum_to (suc n) f = f n + sum_to n f

-- A draft: the pieces of the set, its number of depots, what each was allotted, and the set of those that were
pub record Draft : Type 0 where
  pub total : ℕ
  pub n : ℕ
  pub shares : ℕ → ℕ
  pub allotted : ℕ

-- An opened set: how many depots, and the share with which each opens
pub record Opening : Type 0 where
  pub n : ℕ
  pub shares : ℕ → ℕ

-- a refusal by its number that comes before what follows
abbrev pub refuse_draft_if : Bool → ℕ → Result Draft ℕ → Result Draft ℕ
refuse_draft_if bad number rest = pick bad (Err number) rest

-- Draft refuses a number of depots outside 1 to 16 (1), then a total above 1,000,000 (2)
abbrev pub draft : ℕ → ℕ → Result Draft ℕ
draft total n =
    refuse_draft_if (nat_lt n 1 || nat_lt max_depots n) 1
    (refuse_draft_if (nat_lt max_total total) 2 (Ok (record { total = total; n = n; shares = λ _. 0; allotted = 0 })))

-- the pieces that are not allotted yet
abbrev pub remains : Draft → ℕ
remains d = d.total - sum_to d.n d.shares

-- Allot gives a depot its first pieces. It refuses a depot not below N (3), a depot allotted before (4), more than
-- remains (5)
abbrev pub allot : Draft → ℕ → ℕ → Result Draft ℕ
allot d depot pieces =
    refuse_draft_if (not (nat_lt depot d.n)) 3
    (refuse_draft_if (has d.allotted depot) 4
    (refuse_draft_if (nat_lt (remains d) pieces) 5
    (Ok (record {
      total = d.total;
      n = d.n;
      shares = upd d.shares depot pieces;
      allotted = add d.allotted depot;
    }))))

-- Open ends the draft and is never refused: what remains is added to depot 0
abbrev pub opened : Draft → Opening
opened d = record { n = d.n; shares = upd d.shares 0 (d.shares 0 + remains d) }

-- Hand fills the record of a depot. It refuses a depot not below N (3), a depot handed before (6)
abbrev pub hand : Opening → (ℕ → Bool) → ℕ → Outcome
hand o handed d = refuse_if (not (nat_lt d o.n)) 3 (refuse_if (handed d) 6 (serves (fresh (o.shares d)) none))

-- a draft that Draft, and then Allot any number of times, have served
pub data Drafted : Draft → Type 0 where
  drafted : (total n : ℕ) (d : Draft) → draft total n ≡ Ok d → Drafted d
  allotted : {d : Draft} → Drafted d → (depot pieces : ℕ) (e : Draft) → allot d depot pieces ≡ Ok e → Drafted e

-- all pieces of an opened set
abbrev pub total : Opening → ℕ
total o = sum_to o.n o.shares

-- what every opened set keeps: 1 to 16 depots, and shares that add up to at most 1,000,000
pub record LawfulOpening (o : Opening) : Type 0 where
  pub some : 1 ≤ o.n
  pub few : o.n ≤ max_depots
  pub limit : total o ≤ max_total

-- the shares of an opened set add up to the total of its draft
pub record OpensWhole (d : Draft) : Type 0 where
  pub lawful : LawfulOpening (opened d)
  pub whole : total (opened d) ≡ d.total
