-- What taking a letter comes to, from the tests that the code made, in their order.
use Rattle.std.proofs.Common.{◌≡◌, ℕ, ◌<◌, ◌≤◌, true, false, eqb, ◌⊎◌, sym, refl, ap, ◌∙◌, arith}
use Rattle.std.proofs.lemmas.Bool.Decides.{nat_tests}
use denote.Enum.Bare.{sameb}
use Rattle.entries.specs.Sets.{has}
use Rattle.letters.specs.contracts.letter.Kind.{the_type}
use Rattle.letters.specs.declared.letter.Kind.{Kind}
use Rattle.letters.specs.declared.letter.Kind.TheVariants as kinds
use Rattle.letters.specs.Code.{kind_number}
use Rattle.letters.specs.Contents.{Contents}
use Rattle.letters.specs.Reading.{handover}
use Rattle.protocol.specs.Policy.{Policy}
use Rattle.protocol.specs.State.{pick, Site, State, engaged}
use Rattle.protocol.specs.Outcome.{refuses}
use Rattle.protocol.specs.Taking.{kind_of, asks, newer, take}
use Rattle.protocol.proofs.LawfulLists.{kind_back}
use Rattle.book.specs.Calls.{lined}

asks_is : (k : Kind) → sameb the_type k kinds.Ask ≡ asks k
unfolding asks
asks_is kinds.Ask = refl
asks_is kinds.Offer = refl
asks_is kinds.List = refl
asks_is kinds.Yes = refl
asks_is kinds.No = refl
asks_is kinds.Settle = refl
asks_is kinds.Drop = refl
asks_is kinds.Query = refl
asks_is kinds.Done = refl

-- a letter's kind compared with Ask
pub asks_now : (k : Kind) → asks (kind_of (kind_number k)) ≡ sameb the_type k kinds.Ask
asks_now k = ap asks (kind_back k) ∙ sym (asks_is k)

module _ (P : Policy) (a : Site) (s : State) (m : Contents) where
  pub other_code : (m.code ≡ a.code → ⊥) → take P a s m ≡ refuses (handover 18)
  unfolding take pick
  other_code c = grind (arith, nat_tests)

  pub ungoverned : eqb a.code P.code ≡ false → take P a s m ≡ refuses (handover 18)
  unfolding take pick
  ungoverned g = grind (arith, nat_tests)

  -- what the tests before the numbers told, and the number in the leader's row
  pub record Addressed (known : ℕ) : Type 0 where
    pub own : m.code ≡ a.code
    pub governs : eqb a.code P.code ≡ true
    pub to : has m.to a.depot ≡ true
    pub sender : m.sender < a.n
    pub leader : m.leader < a.n
    pub other : m.sender ≡ a.depot → ⊥
    pub row : known ≡ (s.rows m.leader).number

  module _ (own : m.code ≡ a.code) (governs : eqb a.code P.code ≡ true) where
    pub unaddressed : has m.to a.depot ≡ false → take P a s m ≡ refuses (handover 29)
    unfolding take pick
    unaddressed t = grind (arith, nat_tests)

    pub no_sender : has m.to a.depot ≡ true → (a.n ≤ m.sender)
        ⊎ (((m.sender < a.n) × (a.n ≤ m.leader))
        ⊎ ((m.sender < a.n) × (m.leader < a.n) × (m.sender ≡ a.depot)))
        → take P a s m ≡ refuses (handover 30)
    unfolding take pick
    no_sender to e = grind (arith, nat_tests)

  module _ {known : ℕ} (is : Addressed known) where
    pub passed : m.number < known → take P a s m ≡ refuses (handover 31)
    unfolding take pick
    passed n = grind (arith, nat_tests)

    pub unknown : known < m.number → asks (kind_of m.kind) ≡ false → take P a s m ≡ refuses (handover 32)
    unfolding take pick newer
    unknown n k = grind (arith, nat_tests)

    pub engaged_already : known < m.number → asks (kind_of m.kind) ≡ true → engaged a s ≡ true
        → take P a s m ≡ refuses (handover 8)
    unfolding take pick newer
    engaged_already n k e = grind (arith, nat_tests)

    pub admitted_new : known < m.number → asks (kind_of m.kind) ≡ true → engaged a s ≡ false
        → take P a s m ≡ lined P m a s
    unfolding take pick newer
    admitted_new n k e = grind (arith, nat_tests)

    pub admitted : known ≤ m.number → m.number ≤ known → take P a s m ≡ lined P m a s
    unfolding take pick newer
    admitted n k = grind (arith, nat_tests)
