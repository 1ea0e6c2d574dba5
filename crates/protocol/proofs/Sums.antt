-- Sums over the depots, and over a list's entries: a list's depots rise, so a sum over the list is one over the depots.
use Rattle.std.proofs.Common.{◌≡◌, ℕ, zero, suc, ◌+◌, ◌<◌, ◌≤◌, true, cond, ◌||◌, eqb, List, [], ◌∷◌, length, sum, sym, refl, ap, ◌∙◌, ap₂, inl, inr, arith}
use Rattle.std.specs.List.{AllByRecursion}
use Rattle.std.proofs.lemmas.Bool.{cases_eq, or_cases, eq-eqb, ne_eqb, cond-true, cond-false}
use Rattle.std.proofs.lemmas.List.Sums.{sum_by-cons}
use Rattle.entries.specs.declared.lists.Entry.{Entry}
use Rattle.entries.specs.Lists.{pool, RisesFrom, on, entry_of}
use Rattle.policies.specs.Shares.{beside}
use Rattle.protocol.specs.Opening.{sum_to}

-- in rising order, from b on and below N
abbrev pub Rising : ℕ → ℕ → List Entry → Type 0
Rising N b [] = Unit {0}
Rising N b (e ∷ ℓ) = (b ≤ e.depot) × (e.depot < N) × Rising N (e.depot + 1) ℓ

pub rising_of : (N b : ℕ) (ℓ : List Entry) → RisesFrom b ℓ → AllByRecursion (λ e. e.depot < N) ℓ → Rising N b ℓ
rising_of N b [] r h = tt
rising_of N b (e ∷ ℓ) r h = (r.0, h.0, rising_of N (e.depot + 1) ℓ r.1 h.1)

unfoldable pub total : (ℕ → ℕ) → List Entry → ℕ
total f [] = 0
total f (e ∷ ℓ) = f e.depot + total f ℓ

-- two sums that differ point by point as two others do
pub sum_both : (N : ℕ) (f g h k : ℕ → ℕ) → ((x : ℕ) → x < N → f x + h x ≡ g x + k x) →
    sum_to N f + sum_to N h ≡ sum_to N g + sum_to N k
unfolding sum_to
sum_both zero f g h k e = refl
sum_both (suc N) f g h k e = let r = sum_both N f g h k (λ x l. e x (omega arith)) in omega arith

pub sum_none : (N : ℕ) (f : ℕ → ℕ) → ((x : ℕ) → x < N → f x ≡ 0) → sum_to N f ≡ 0
unfolding sum_to
sum_none zero f e = refl
sum_none (suc N) f e = let r = sum_none N f (λ x l. e x (omega arith)) in omega arith

pub sum_same : (N : ℕ) (f g : ℕ → ℕ) → ((x : ℕ) → x < N → f x ≡ g x) → sum_to N f ≡ sum_to N g
unfolding sum_to
sum_same zero f g h = refl
sum_same (suc n) f g h = ap₂ (λ a b. a + b) (h n (omega arith)) (sum_same n f g (λ x k. h x (omega arith)))

-- sums that differ at d alone
pub sum_one : (N d : ℕ) (f g : ℕ → ℕ) → d < N → ((x : ℕ) → (x ≡ d → ⊥) → f x ≡ g x) → sum_to N f + g d ≡ sum_to N g + f d
unfolding sum_to
sum_one zero d f g l e = absurd (omega arith)
sum_one (suc N) d f g l e = elim (cases_eq d N) [
  | inl q ↦ (let r = sum_same N f g (λ x k. e x (omega arith)) in
      let u = ap f q in let v = ap g q in omega arith)
  | inr q ↦ (let r = sum_one N d f g (omega arith) e in
      omega arith)
]

-- a function that is 0 but at d
pub sum_at : (N d : ℕ) (f : ℕ → ℕ) → d < N → ((x : ℕ) → (x ≡ d → ⊥) → f x ≡ 0) → sum_to N f ≡ f d
sum_at N d f l e =
    let q = sum_one N d f (λ _. 0) l e in let r = sum_none N (λ _. 0) (λ _ _. refl) in omega arith

-- what a rising list says
pub rising_on : (N b : ℕ) (ℓ : List Entry) (y : ℕ) → Rising N b ℓ → on ℓ y ≡ true → (b ≤ y) × (y < N)
unfolding on
rising_on N b [] y r h = absurd (grind arith)
rising_on N b (e ∷ ℓ) y r h =
    let (a, c, v) = r in
    elim (or_cases (eqb e.depot y) (on ℓ y) h) [
      | inl q ↦ grind arith
      | inr q ↦ (let z = rising_on N (e.depot + 1) ℓ y v q in omega arith)
    ]

-- a sum over the list, as one over the depots
pub sum_on : (N b : ℕ) (ℓ : List Entry) (f : ℕ → ℕ) → Rising N b ℓ → sum_to N (λ x. cond (on ℓ x) (f x) 0) ≡ total f ℓ
unfolding on total
sum_on N b [] f r = sum_none N _ (λ x _. refl)
sum_on N b (e ∷ ℓ) f r =
    let (a, c, v) = r in
    let q = sum_on N (e.depot + 1) ℓ f v in
    let p = sum_at N e.depot (λ x. cond (eqb x e.depot) (f x) 0) c (λ x n. grind arith) in
    let s = sum_both N (λ x. cond (eqb e.depot x || on ℓ x) (f x) 0) (λ x. cond (on ℓ x) (f x) 0) (λ _. 0)
    (λ x. cond (eqb x e.depot) (f x) 0)
    (λ x _. (let z = rising_on N (e.depot + 1) ℓ x v in grind arith)) in
    let n = sum_none N (λ _. 0) (λ _ _. refl) in
    let k : cond (eqb e.depot e.depot) (f e.depot) 0 ≡ f e.depot = grind arith in
    omega arith

-- the shelves of a rising list, by its depots
pub total_same : (N b : ℕ) (ℓ : List Entry) (f g : ℕ → ℕ) → Rising N b ℓ →
    ((y : ℕ) → b ≤ y → f y ≡ g y) → total f ℓ ≡ total g ℓ
unfolding total
total_same N b [] f g r h = refl
total_same N b (e ∷ ℓ) f g r h =
    let (a, c, v) = r in
    ap₂ (λ x y. x + y) (h e.depot a) (total_same N (e.depot + 1) ℓ f g v (λ y l. h y (omega arith)))

pub total_shelves : (N b : ℕ) (ℓ : List Entry) → Rising N b ℓ → total (λ x. (entry_of ℓ x).shelf) ℓ ≡ pool ℓ
unfolding total entry_of
total_shelves N b [] r = refl
total_shelves N b (e ∷ ℓ) r =
    let (a, c, v) = r in
    let k = total_same N (e.depot + 1) ℓ (λ x. (cond (eqb e.depot x) e (entry_of ℓ x)).shelf)
    (λ x. (entry_of ℓ x).shelf) v (λ y l. ap (λ z. z.shelf)
    (cond-false _ e (entry_of ℓ y) (ne_eqb e.depot y (omega arith)))) in
    ap₂ (λ x y. x + y) (ap (λ z. z.shelf) (cond-true _ e (entry_of ℓ e.depot) (eq-eqb e.depot e.depot refl)))
    (k ∙ total_shelves N (e.depot + 1) ℓ v) ∙ sym (sum_by-cons (λ x. x.shelf) e ℓ)

-- the shares beside a rising list, by its depots
pub total_besides : (N b : ℕ) (ℓ : List Entry) (ns : List ℕ) → Rising N b ℓ → length ns ≡ length ℓ →
    total (beside ℓ ns) ℓ ≡ sum ns
unfolding total beside
total_besides N b [] [] r h = refl
total_besides N b [] (n ∷ ns) r h = absurd (omega arith)
total_besides N b (e ∷ ℓ) [] r h = absurd (omega arith)
total_besides N b (e ∷ ℓ) (n ∷ ns) r h =
    let (a, c, v) = r in
    let k = total_same N (e.depot + 1) ℓ (λ x. cond (eqb e.depot x) n (beside ℓ ns x)) (beside ℓ ns) v
    (λ y l. cond-false _ n (beside ℓ ns y) (ne_eqb e.depot y (omega arith))) in
    ap₂ (λ x y. x + y) (cond-true _ n (beside ℓ ns e.depot) (eq-eqb e.depot e.depot refl))
    (k ∙ total_besides N (e.depot + 1) ℓ ns v (omega arith)) ∙ sym (sum_by-cons (λ x. x) n ns)
