-- What is due to a depot by the last standings, told as two cases: bound to a list that every depot on it has accepted,
-- and not.
use Rattle.std.proofs.Common.{◌≡◌, ℕ, ◌+◌, ◌<◌, ◌≤◌, Bool, true, false, cond, ◌&&◌, eqb, List, ap, arith}
use Rattle.std.proofs.lemmas.Bool.{false_from_ne_true, cond-true, cond-false, eq-eqb, and_from}
use Rattle.entries.specs.declared.lists.Entry.{Entry}
use Rattle.entries.specs.Lists.{on}
use Rattle.protocol.specs.Law.{HasAccepted}
use Rattle.protocol.specs.Listing.{every}
use Rattle.protocol.specs.Policy.{Policy}
use Rattle.protocol.specs.State.{any, Row, State}
use Rattle.policies.specs.Shares.{share_of}
use Rattle.protocol.proofs.Tests.{every_one, all_every, any_one, one_any}
use Rattle.protocol.proofs.History.{has_accepted, acc_true, true_acc}
use Rattle.protocol.proofs.History.{History}
use Rattle.protocol.proofs.SafeNext.{low}

-- bound to a list that stands
unfoldable pub firmly : ℕ → (ℕ → ℕ → ℕ → ℕ) → (ℕ → Row) → List Entry → Bool
firmly N past rows ℓ = any N (λ L. eqb (rows L).standing 2 && every ℓ (λ y. has_accepted (past y L (rows L).number)))

-- the pieces due to x
unfoldable pub due_of : ℕ → Policy → (ℕ → ℕ → ℕ → ℕ) → State → ℕ → ℕ
due_of N P past s x = s.tray + cond (firmly N past s.rows s.list) (share_of P.share s.list x) s.shelf

abbrev pub due : ℕ → Policy → History → ℕ → ℕ
due N P w x = due_of N P w.past (w.at x) x

-- bound to a list that stands
abbrev pub Firm : (ℕ → ℕ → ℕ → ℕ) → State → Type 0
Firm past s = (L : ℕ) × ((s.rows L).standing ≡ 2)
    × ((y : ℕ) → on s.list y ≡ true → HasAccepted (past y L (s.rows L).number))

abbrev pub Low : ℕ → State → Type 0
Low N s = (L : ℕ) → 1 ≤ (s.rows L).standing → L < N

pub firm_of : (N : ℕ) (p : ℕ → ℕ → ℕ → ℕ) (s : State) → firmly N p s.rows s.list ≡ true → Firm p s
unfolding firmly
firm_of N p s h = grind (arith, acc_true, any_one, every_one)

pub of_firm : (N : ℕ) (p : ℕ → ℕ → ℕ → ℕ) (s : State) → Low N s → Firm p s → firmly N p s.rows s.list ≡ true
unfolding firmly
of_firm N p s low (L, a, b) = one_any N _ L (low L (omega arith))
    (and_from _ _ (eq-eqb _ 2 a) (all_every s.list (λ y. has_accepted (p y L (s.rows L).number))
    (λ y k. true_acc _ (b y k))))

pub not_firm : (N : ℕ) (p : ℕ → ℕ → ℕ → ℕ) (s : State) → (Firm p s → ⊥) → firmly N p s.rows s.list ≡ false
not_firm N p s f = false_from_ne_true _ (λ e. f (firm_of N p s e))

pub firm_same : (N : ℕ) (p p' : ℕ → ℕ → ℕ → ℕ) (s : State) → Low N s → (Firm p s → Firm p' s) → (Firm p' s → Firm p s) →
    firmly N p' s.rows s.list ≡ firmly N p s.rows s.list
firm_same N p p' s low f f' = grind (arith, not_firm, of_firm)

pub due_yes : (N : ℕ) (P : Policy) (p : ℕ → ℕ → ℕ → ℕ) (s : State) (x : ℕ) → Low N s → Firm p s → due_of N P p s x
    ≡ s.tray + share_of P.share s.list x
unfolding due_of
due_yes N P p s x low f = ap (λ n. s.tray + n) (cond-true (firmly N p s.rows s.list) _ _ (of_firm N p s low f))

pub due_no : (N : ℕ) (P : Policy) (p : ℕ → ℕ → ℕ → ℕ) (s : State) (x : ℕ) → (Firm p s → ⊥) →
    due_of N P p s x ≡ s.tray + s.shelf
unfolding due_of
due_no N P p s x f = ap (λ n. s.tray + n) (cond-false (firmly N p s.rows s.list) _ _ (not_firm N p s f))

pub due_same : (N : ℕ) (P : Policy) (p p' : ℕ → ℕ → ℕ → ℕ) (s : State) (x : ℕ) → Low N s → (Firm p s → Firm p' s) →
    (Firm p' s → Firm p s) → due_of N P p' s x ≡ due_of N P p s x
unfolding due_of
due_same N P p p' s x low f f' = ap (λ b. s.tray + cond b (share_of P.share s.list x) s.shelf)
    (firm_same N p p' s low f f')
