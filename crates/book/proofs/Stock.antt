-- Pieces taken and brought back, and the wish: the state that each call leads to keeps the law, since the call does.
use Rattle.std.proofs.Common.{◌≡◌, ℕ, ◌+◌, ◌-◌, ◌≤◌, true, false, List, Bool, cond, ltb, ◌||◌, refl, arith}
use Rattle.std.proofs.lemmas.Bool.Decides.{nat_tests}
use Rattle.entries.specs.declared.lists.Entry.{Entry}
use Rattle.protocol.specs.State.{pick, Row, Site, State, engaged}
use Rattle.protocol.specs.Law.{Law}
use Rattle.protocol.specs.Own.{outside, issue, give_back, set_wish}
use Rattle.book.proofs.Answering.{moved_refused, moved_served}
use Rattle.book.proofs.Kept.{kept, own_calls}
use Rattle.book.proofs.Written.{make}

module _ (a : Site) (shelf tray wish : ℕ) (rows : ℕ → Row) (list : List Entry) (heard : ℕ) (gathered : List Entry)
    (owing n : ℕ) where
  abbrev before : State
  before = make shelf tray wish rows list heard gathered owing

  pub issue_kept : ∥ Law a before ∥₁ → 1 ≤ n → n ≤ 1000000 → n ≤ shelf → engaged a before ≡ false
      → ∥ Law a (make (shelf - n) tray wish rows list heard gathered owing) ∥₁
  unfolding issue outside pick
  issue_kept ok low high within free =
      kept a before _ (issue a before n) (λ law. (own_calls a before law).issue n) (grind (arith, nat_tests)) ok

  pub given_shelf : ∥ Law a before ∥₁ → 1 ≤ n → n ≤ 1000000 → shelf + tray + n ≤ 1000000000 → engaged a before ≡ false
      → ∥ Law a (make (shelf + n) tray wish rows list heard gathered owing) ∥₁
  unfolding give_back outside pick
  given_shelf ok low high within free =
      kept a before _ (give_back a before n) (λ law. (own_calls a before law).give_back n) (grind (arith, nat_tests)) ok

  pub given_tray : ∥ Law a before ∥₁ → 1 ≤ n → n ≤ 1000000 → shelf + tray + n ≤ 1000000000 → engaged a before ≡ true
      → ∥ Law a (make shelf (tray + n) wish rows list heard gathered owing) ∥₁
  unfolding give_back outside pick
  given_tray ok low high within busy =
      kept a before _ (give_back a before n) (λ law. (own_calls a before law).give_back n) (grind (arith, nat_tests)) ok

  pub wished : ∥ Law a before ∥₁ → n ≤ 1000000 → engaged a before ≡ false
      → ∥ Law a (make shelf tray n rows list heard gathered owing) ∥₁
  unfolding set_wish pick
  wished ok high free =
      kept a before _ (set_wish a before n) (λ law. (own_calls a before law).set_wish n) (grind (arith, nat_tests)) ok

-- the words of the definitions, opened
pub pick_is : {A : Type 0} (b : Bool) (x y : A) → pick b x y ≡ cond b x y
unfolding pick
pick_is b x y = refl

pub outside_is : (n : ℕ) → outside n ≡ (ltb n 1 || ltb 1000000 n)
unfolding outside
outside_is n = refl

-- what these calls rest on
pub ruleset stock_moves = (issue_kept, given_shelf, given_tray, wished)

pub ruleset stock_steps = (nat_tests, pick_is, outside_is, moved_refused, moved_served, stock_moves)
