-- What is promised of every series of calls: agreement, conservation and the way out by Query.
use Rattle.std.specs.Prelude.{◌≡◌, ℕ, ◌+◌, ◌≤◌, true, ◌⊎◌, List, [], ◌∷◌, ◌≢◌}
use Rattle.std.proofs.Math.Option.{some}
use Rattle.entries.specs.declared.lists.Entry.{Entry}
use Rattle.entries.specs.Lists.{on}
use Rattle.letters.specs.Contents.{Contents}
use Rattle.protocol.specs.Policy.{Policy, LawfulPolicy}
use Rattle.protocol.specs.Outcome.{sends}
use Rattle.protocol.specs.Opening.{Draft, Drafted, OpensWhole, Opening, LawfulOpening, sum_to, total}
use Rattle.protocol.specs.Calls.{Query}
use Rattle.protocol.specs.Series.{Stage, just_opened, outcome, called, Allowed, Series}
use Rattle.protocol.specs.Words.{Bound, Free, due, Answered, NoRestart}

-- In the handover n of L the list ℓ, and no other, was accepted: once by every depot on it, and none of them has
-- dropped it
pub record Agreed (w : Stage) (L n : ℕ) (ℓ : List Entry) : Type 0 where
  pub accepted : (y : ℕ) → on ℓ y ≡ true → w.accepted y L n ≡ ℓ ∷ []
  pub no_other : (y : ℕ) → (w.accepted y L n ≡ []) ⊎ (w.accepted y L n ≡ ℓ ∷ [])
  pub not_dropped : (y : ℕ) → on ℓ y ≡ true → w.dropped y L n ≡ 0

-- Agreement: where any depot has settled a list, every depot on it has accepted that same list and none of them drops
-- it, now and after whatever calls follow
abbrev pub Agreement : Policy → Opening → Stage → Type 0
Agreement P o w =
    (x L n : ℕ) → 1 ≤ w.settled x L n →
    (ℓ : List Entry) × (on ℓ x ≡ true) × ((u : Stage) → Series P o w u → Agreed u L n ℓ)

-- Conservation: what is due to all depots together, and all issued, is the set's total and all returned
abbrev pub Conservation : Policy → Opening → Stage → Type 0
Conservation P o w = sum_to o.n (due P o w) + w.issued ≡ total o + w.returned

-- The way out: depot x is bound to a list and sends the Query m. After that the Query arrives at every other depot on
-- the list, and each answer back at x, with no Restart at x meanwhile. Then x is free of that handover, from then on.
-- That the depots do answer is not assumed: a Query that a depot refuses or meets with silence counts as answered
abbrev pub WayOut : Policy → Opening → Stage → Type 0
WayOut P o v =
    (x L n : ℕ) (m : Contents) → Bound v x L n → Allowed v x Query → sends (outcome P o v x Query) ≡ some m →
    (w : Stage) (s : Series P o (called P o v x Query) w) → NoRestart x s →
    ((y : ℕ) → on (v.at x).list y ≡ true → (y ≢ x) → Answered m y x s) →
    (u : Stage) → Series P o w u → Free u x L n

-- all three at a stage
pub record Kept (P : Policy) (o : Opening) (w : Stage) : Type 0 where
  pub agreement : Agreement P o w
  pub conservation : Conservation P o w
  pub way_out : WayOut P o w

-- The promises: for every lawful policy, every opened set and every series of calls, at its start and after each call;
-- and every draft opens as such a set, its shares adding up to its total
pub record Promises : Type 0 where
  pub every :
      (P : Policy) → LawfulPolicy P → (o : Opening) → LawfulOpening o →
      (w : Stage) → Series P o (just_opened o) w → Kept P o w
  pub opening : (d : Draft) → Drafted d → OpensWhole d
