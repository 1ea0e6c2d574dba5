-- Functions changed at a place, and tests over numbers below a limit and over the depots of a list, told as cases.
use Rattle.std.proofs.Common.{◌≡◌, ℕ, zero, suc, ◌<◌, Bool, true, false, ◌&&◌, eqb, ◌⊎◌, List, [], ◌∷◌, refl, inl, inr, arith}
use Rattle.std.specs.Bool.{Decides}
use Rattle.std.proofs.lemmas.Bool.Decides.{Decides-below_or}
use Rattle.std.proofs.lemmas.Bool.{false_from_ne_true, eq-eqb, cond_both, and_parts, or_cases, or_left, or_right, cases_eq, and_from, both_ways}
use Rattle.entries.specs.declared.lists.Entry.{Entry}
use Rattle.entries.specs.Lists.{on}
use Rattle.protocol.specs.Listing.{every}
use Rattle.protocol.specs.State.{upd, pick, any, found}

pub upd_tells : {A : Type 0} (f : ℕ → A) (k : ℕ) (v : A) (x : ℕ) → ((x ≡ k) × (upd f k v x ≡ v))
    ⊎ ((x ≡ k → ⊥) × (upd f k v x ≡ f x))
unfolding upd
upd_tells f k v x = grind arith

-- both ways of a test
pub by : {A : Type 0} (Q : A → Type 0) {b : Bool} {x y : A} → (b ≡ true → Q x) → (b ≡ false → Q y) → Q (pick b x y)
unfolding pick
by Q {b} {x} {y} = cond_both b x y Q

pub every_one : (ℓ : List Entry) (p : ℕ → Bool) (y : ℕ) → every ℓ p ≡ true → on ℓ y ≡ true → p y ≡ true
unfolding every on
every_one [] p y h k = cc
every_one (e ∷ ℓ) p y h k = elim (or_cases (eqb e.depot y) (on ℓ y) k) [
  | inl q ↦ grind arith
  | inr q ↦ every_one ℓ p y (and_parts (p e.depot) (every ℓ p) h).1 q
]

pub all_every : (ℓ : List Entry) (p : ℕ → Bool) → ((y : ℕ) → on ℓ y ≡ true → p y ≡ true) → every ℓ p ≡ true
unfolding every on
all_every [] p h = refl
all_every (e ∷ ℓ) p h = and_from _ _ (h e.depot (or_left _ _ (eq-eqb e.depot e.depot refl)))
    (all_every ℓ p (λ y q. h y (or_right _ _ q)))

any_tells : (n : ℕ) (p : ℕ → Bool) → Decides (any n p) ((k : ℕ) × (k < n) × (p k ≡ true))
unfolding any
any_tells n p = Decides-below_or p (λ k. p k ≡ true) (λ n. any n p) (λ k. (λ e. e, λ e. e)) refl (λ _. refl) n

pub any_one : (n : ℕ) (p : ℕ → Bool) → any n p ≡ true → (k : ℕ) × (k < n) × (p k ≡ true)
any_one n p = (any_tells n p).0

pub one_any : (n : ℕ) (p : ℕ → Bool) (k : ℕ) → k < n → p k ≡ true → any n p ≡ true
one_any n p k l h = (any_tells n p).1 (k, l, h)

pub any_none : (n : ℕ) (p : ℕ → Bool) (k : ℕ) → any n p ≡ false → k < n → p k ≡ false
any_none n p k h l = false_from_ne_true (p k) (λ e. both_ways _ h (one_any n p k l e))

-- what is found passes, if anything does
pub found_one : (n : ℕ) (p : ℕ → Bool) (k : ℕ) → k < n → p k ≡ true → p (found n p) ≡ true
unfolding found
found_one zero p k l h = absurd (omega arith)
found_one (suc n) p k l h =
    by (λ m. p m ≡ true) (λ e. e) (λ e. found_one n p k
    (elim (cases_eq k n) [
      | inl q ↦ absurd (both_ways _ (rw q e) h)
      | inr q ↦ omega arith
    ]) h)

pub every_less : (ℓ : List Entry) (p q : ℕ → Bool) → ((y : ℕ) → p y ≡ true → q y ≡ true) →
    every ℓ p ≡ true → every ℓ q ≡ true
unfolding every
every_less [] p q f h = refl
every_less (e ∷ ℓ) p q f h = let (a, b) = and_parts _ _ h in and_from _ _ (f e.depot a) (every_less ℓ p q f b)

pub not_every : (ℓ : List Entry) (p q : ℕ → Bool) → ((y : ℕ) → p y ≡ true → q y ≡ true) →
    every ℓ q ≡ false → every ℓ p ≡ false
not_every ℓ p q f h = false_from_ne_true _ (λ e. both_ways _ h (every_less ℓ p q f e))

-- the other of two tests fails, where they do not both hold
pub other_way : (b c : Bool) → b ≡ true → (b && c) ≡ false → c ≡ false
other_way b c h e = grind arith
