-- What a record's law and a lawful letter say of the lists in them: of an entry gathered, of a list with another depot
-- on it, and of what a letter of each kind carries.
use Rattle.std.proofs.Common.{◌≡◌, ℕ, ◌<◌, ◌≤◌, true, false, cond, eqb, ltb, List, [], ◌∷◌, length, refl, ap, inl, inr, arith}
use Rattle.std.specs.List.{AllByRecursion}
use Rattle.std.proofs.lemmas.Bool.{false_from_ne_true, eqb-true, ltb-true, and_parts, and_from, or_cases, both_ways, eq-eqb, false≢true, cond-true, cond_both, or_left, or_right, cond-false, ne_eqb}
use Rattle.entries.specs.declared.lists.Entry.{Entry}
use Rattle.letters.specs.declared.letter.Kind.{Kind}
use Rattle.letters.specs.declared.letter.Kind.TheVariants as kinds
use Rattle.letters.specs.Code.{kind_number}
use Rattle.letters.specs.Contents.{Contents, Lawful, Offered}
use Rattle.letters.proofs.Carried.{lawful_listed, lawful_offered}
use Rattle.entries.specs.Limits.{max_depots}
use Rattle.entries.specs.Lists.{Begun, Listed, on, entry_of, insert}
use Rattle.entries.proofs.Rising.{begun_enough}
use Rattle.std.proofs.ByRecursion.{All-weaker}
use Rattle.entries.specs.Sets.{has, mark}
use Rattle.protocol.specs.Law.{LawfulList}
use Rattle.protocol.specs.Listing.{every, elsewhere}
use Rattle.protocol.specs.State.{pick, Site, State, fits}
use Rattle.protocol.specs.Steps.{acceptable_list}
use Rattle.protocol.specs.Taking.{kind_of, asks}
use Rattle.protocol.proofs.Tests.{by}
use Rattle.protocol.proofs.InSets.{of_mark, mark_self}
use Rattle.protocol.proofs.History.{BindingList}

pub kind_back : (k : Kind) → kind_of (kind_number k) ≡ k
unfolding kind_of pick
kind_back kinds.Ask = refl
kind_back kinds.Offer = refl
kind_back kinds.List = refl
kind_back kinds.Yes = refl
kind_back kinds.No = refl
kind_back kinds.Settle = refl
kind_back kinds.Drop = refl
kind_back kinds.Query = refl
kind_back kinds.Done = refl

pub asks_is : (c : Kind) → asks c ≡ true → c ≡ kinds.Ask
unfolding asks
asks_is kinds.Ask h = refl
asks_is kinds.Offer h = absurd (false≢true h)
asks_is kinds.List h = absurd (false≢true h)
asks_is kinds.Yes h = absurd (false≢true h)
asks_is kinds.No h = absurd (false≢true h)
asks_is kinds.Settle h = absurd (false≢true h)
asks_is kinds.Drop h = absurd (false≢true h)
asks_is kinds.Query h = absurd (false≢true h)
asks_is kinds.Done h = absurd (false≢true h)

pub fits_on : (d n v : ℕ) (ℓ : List Entry) → fits d n v ℓ ≡ true → (on ℓ d ≡ true) × ((entry_of ℓ d).shelf ≡ n)
    × ((entry_of ℓ d).wish ≡ v)
unfolding fits
fits_on d n v ℓ h = grind arith

pub every_all : (N : ℕ) (ℓ : List Entry) → every ℓ (λ y. ltb y N) ≡ true → AllByRecursion (λ e. e.depot < N) ℓ
unfolding every
every_all N [] h = tt
every_all N (e ∷ ℓ) h = let (a, b) = and_parts (ltb e.depot N) (every ℓ (λ y. ltb y N)) h in
    (ltb-true _ N a, every_all N ℓ b)

-- a list that can be accepted is one to be bound to
pub acceptable_lawful : (a : Site) (s : State) (L y n : ℕ) (es : List Entry) → Listed es →
    acceptable_list a s L y n es ≡ true → LawfulList a L s.shelf s.wish es
acceptable_lawful a s L y n es l h = grind (arith, every_all, fits_on)

-- a list with d and another depot
pub two : (d : ℕ) (ℓ : List Entry) → on ℓ d ≡ true → every ℓ (has (mark d)) ≡ false → 2 ≤ length ℓ
unfolding on every
two d [] h k = absurd (false≢true h)
two d (e ∷ []) h k =
    absurd (elim (or_cases (eqb e.depot d) false h)
    [ inl q ↦ both_ways _ k (and_from _ _ (rw (eqb-true e.depot d q) (mark_self d)) refl) | inr q ↦ false≢true q ])
two d (e ∷ (f ∷ ℓ)) h k = omega arith

-- alone on the list: no others' shelves
alone : (d : ℕ) (ℓ : List Entry) → every ℓ (has (mark d)) ≡ true → elsewhere d ℓ ≡ 0
unfolding every elsewhere
alone d [] h = refl
alone d (e ∷ ℓ) h = let (a, b) = and_parts (has (mark d) e.depot) (every ℓ (has (mark d))) h in
    let q = of_mark d e.depot a in let r = alone d ℓ b in
    let c = cond-true (eqb e.depot d) 0 e.shelf (eq-eqb _ d q) in omega arith

pub not_alone : (d wish : ℕ) (ℓ : List Entry) → 1 ≤ wish → wish ≤ elsewhere d ℓ → every ℓ (has (mark d)) ≡ false
not_alone d wish ℓ h k = false_from_ne_true _ (λ e. let q = alone d ℓ e in omega arith)

-- what is begun of depots below n is begun of depots below any greater number
begun_wider : (n m : ℕ) (ℓ : List Entry) → n ≤ m → Begun n ℓ → Begun m ℓ
begun_wider n m ℓ l h =
    record {
      rises = h.rises;
      depots = All-weaker (λ e. e.depot < n) (λ e. e.depot < m) (λ e k. omega arith) ℓ h.depots;
      wishes = h.wishes;
      sum_within = h.sum_within;
    }

-- a record's list with another depot on it is one that may be shared out
pub listed_of : (a : Site) (L n v : ℕ) (ℓ : List Entry) → a.n ≤ max_depots →
    LawfulList a L n v ℓ → 2 ≤ length ℓ → Listed ℓ
listed_of a L n v ℓ l h k = begun_enough ℓ (begun_wider a.n max_depots ℓ l h.begun) k

pub binding_of : (a : Site) (L n v : ℕ) (ℓ : List Entry) → a.n ≤ max_depots → LawfulList a L n v ℓ → 2 ≤ length ℓ →
    BindingList a.n a.depot n ℓ
binding_of a L n v ℓ l h k = record {
  listed = listed_of a L n v ℓ l h k;
  low = h.begun.depots;
  me = h.me;
  mine = h.own_shelf;
}

-- what a lawful letter of each kind holds
abbrev pub CarriedBy : ℕ → Kind → List Entry → Type 0
CarriedBy y kinds.Ask es = Unit {0}
CarriedBy y kinds.Offer es = Offered y es
CarriedBy y kinds.List es = Listed es
CarriedBy y kinds.Yes es = Unit {0}
CarriedBy y kinds.No es = Unit {0}
CarriedBy y kinds.Settle es = Unit {0}
CarriedBy y kinds.Drop es = Unit {0}
CarriedBy y kinds.Query es = Unit {0}
CarriedBy y kinds.Done es = Unit {0}

pub lawful_right : (m : Contents) → Lawful m → CarriedBy m.sender (kind_of m.kind) m.entries
unfolding kind_of
lawful_right m h =
    by Q (λ _. tt) (λ _. by Q (λ e. lawful_offered m h (eqb-true _ 2 e))
    (λ _. by Q (λ e. lawful_listed m h (eqb-true _ 3 e))
    (λ _. by Q (λ _. tt) (λ _. by Q (λ _. tt)
    (λ _. by Q (λ _. tt) (λ _. by Q (λ _. tt) (λ _. by Q (λ _. tt) (λ _. tt))))))))
  where
    Q : Kind → Type 0
    Q k = CarriedBy m.sender k m.entries

pub insert_on : (e : Entry) (ℓ : List Entry) (y : ℕ) → on ℓ y ≡ true → on (insert e ℓ) y ≡ true
unfolding insert on
insert_on e [] y h = or_right (eqb e.depot y) false h
insert_on e (x ∷ ℓ) y h = cond_both (ltb e.depot x.depot) (e ∷ (x ∷ ℓ)) (x ∷ insert e ℓ) (λ u. on u y ≡ true)
    (λ _. or_right _ _ h) (λ _. elim (or_cases (eqb x.depot y) (on ℓ y) h) [
      | inl q ↦ or_left _ _ q
      | inr q ↦ or_right _ _ (insert_on e ℓ y q)
    ])

pub insert_entry : (e : Entry) (ℓ : List Entry) (y : ℕ) → (e.depot ≡ y → ⊥) → entry_of (insert e ℓ) y ≡ entry_of ℓ y
unfolding insert entry_of
insert_entry e [] y n = cond-false _ _ _ (ne_eqb e.depot y n)
insert_entry e (x ∷ ℓ) y n = cond_both (ltb e.depot x.depot) (e ∷ (x ∷ ℓ)) (x ∷ insert e ℓ)
    (λ u. entry_of u y ≡ cond (eqb x.depot y) x (entry_of ℓ y)) (λ _. cond-false _ _ _ (ne_eqb e.depot y n))
    (λ _. ap (λ u. cond (eqb x.depot y) x u) (insert_entry e ℓ y n))
