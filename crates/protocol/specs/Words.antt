-- The words that speak of a series: bound, free, a list stands, due, a letter arrives and its answer.
use Rattle.std.specs.Prelude.{◌≡◌, ℕ, ◌+◌, Bool, false, ◌&&◌, ◌||◌, ◌⊎◌, List, [], ◌∷◌, ◌==◌, ◌≢◌}
use Rattle.std.proofs.Math.Option.{Option, none, some}
use Rattle.entries.specs.declared.lists.Entry.{Entry}
use Rattle.letters.specs.Contents.{Contents}
use Rattle.letters.specs.Bytes.{encode}
use Rattle.policies.specs.Shares.{share_of}
use Rattle.protocol.specs.Policy.{Policy}
use Rattle.protocol.specs.Listing.{every, same}
use Rattle.protocol.specs.State.{pick, any}
use Rattle.protocol.specs.Outcome.{sends}
use Rattle.protocol.specs.Opening.{Opening}
use Rattle.protocol.specs.Calls.{Restart, Receive}
use Rattle.protocol.specs.Series.{Stage, outcome, Series, start, then}

-- depot x is bound in the handover n of L
pub record Bound (w : Stage) (x L n : ℕ) : Type 0 where
  pub accepted : ((w.at x).rows L).standing ≡ 2
  pub number : ((w.at x).rows L).number ≡ n

-- depot x is free of the handover n of L unless it is bound in it
abbrev pub Free : Stage → ℕ → ℕ → ℕ → Type 0
Free w x L n = Bound w x L n → ⊥

-- the list is one of those
unfoldable pub among : List Entry → List (List Entry) → Bool
among es [] = false
among es (ℓ ∷ ℓs) = same ℓ es || among es ℓs

-- a list of the handover n of L stands once every depot on it has accepted it
unfoldable pub stands : Stage → ℕ → ℕ → List Entry → Bool
stands w L n es = every es (λ y. among es (w.accepted y L n))

-- depot x is bound to a list that stands
unfoldable pub bound_to_standing : Opening → Stage → ℕ → Bool
bound_to_standing o w x =
    any o.n (λ L. (((w.at x).rows L).standing == 2) && stands w L ((w.at x).rows L).number (w.at x).list)

-- The pieces due to depot x: its tray plus its shelf, or its tray plus its share where it is bound to a list that
-- stands; before Hand its opened share
unfoldable pub due : Policy → Opening → Stage → ℕ → ℕ
due P o w x =
    pick (w.handed x)
    ((w.at x).tray + pick (bound_to_standing o w x) (share_of P.share (w.at x).list x) (w.at x).shelf) (o.shares x)

module _ {P : Policy} {o : Opening} {v : Stage} where
  -- In a series from the stage v on, the letter m has arrived at depot y, in a Receive that sent r. That y is in its
  -- to-set is not asked: the promise that has this as its premise is the stronger for it
  abbrev pub Arrives : (m : Contents) (y : ℕ) (r : Option Contents) {w : Stage} → Series P o v w → Type 0
  Arrives m y r start = ⊥
  Arrives m y r (then {w} s d c a) =
      Arrives m y r s ⊎ ((d ≡ y) × (c ≡ Receive (encode m)) × (r ≡ sends (outcome P o w d c)))

  -- y's answer to the letter m has arrived at x
  abbrev pub CameBack : (m : Contents) (y x : ℕ) {w : Stage} → Series P o v w → Type 0
  CameBack m y x start = ⊥
  CameBack m y x (then s d c a) =
      CameBack m y x s ⊎ ((r : Contents) × Arrives m y (some r) s × (d ≡ x) × (c ≡ Receive (encode r)))

  -- the letter m has arrived at y, and its answer, if there is one, at x: a Receive that was refused, or sent nothing,
  -- has no answer to wait for
  abbrev pub Answered : (m : Contents) (y x : ℕ) {w : Stage} → Series P o v w → Type 0
  Answered m y x s = Arrives m y none s ⊎ CameBack m y x s

  -- no Restart at x
  abbrev pub NoRestart : (x : ℕ) {w : Stage} → Series P o v w → Type 0
  NoRestart x start = Unit {0}
  NoRestart x (then s d c a) = NoRestart x s × (d ≡ x → c ≢ Restart)
