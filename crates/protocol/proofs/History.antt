-- A series as the last standing of each depot in each handover and the list of each handover; what a call may do to it;
-- and what holds of every such history.
use Rattle.std.proofs.Common.{◌≡◌, ℕ, ◌+◌, ◌-◌, ◌<◌, ◌≤◌, Bool, true, false, cond, not, ◌&&◌, eqb, leb, ◌⊎◌, List, [], ◌∷◌, refl, arith}
use mathlib.Core.Option.{Option, none, some}
use Rattle.std.proofs.lemmas.Bool.{false≢true}
use Rattle.entries.specs.declared.lists.Entry.{Entry}
use Rattle.letters.specs.Contents.{Contents}
use Rattle.protocol.specs.Law.{HasAccepted, Engages}
use Rattle.protocol.specs.Listing.{every}
use Rattle.protocol.specs.Opening.{Opening}
use Rattle.protocol.specs.Outcome.{after}
use Rattle.protocol.specs.Policy.{Policy}
use Rattle.protocol.specs.Series.{Stage, posted, just_opened, outcome, Series, start, then, Among}
use Rattle.protocol.specs.State.{upd, Site, State, stocked, owed, hears, gathers, turned, bound, ended, settled, own}
use Rattle.protocol.specs.State.{others, pair}
use Rattle.protocol.specs.Taking.{kind_of, tells_end}
use Rattle.std.specs.List.{AllByRecursion}
use Rattle.letters.specs.declared.letter.Kind.{Kind}
use Rattle.letters.specs.declared.letter.Kind.TheVariants as kinds
use Rattle.entries.specs.Sets.{has, mark, add}
use Rattle.entries.specs.Lists.{on, entry_of, insert, Listed}

pub record History : Type 0 where
  pub at : ℕ → State
  -- what standing the depot x last had in the handover n of the leader L
  pub past : ℕ → ℕ → ℕ → ℕ
  -- the list that goes with the handover n of L
  pub lists : ℕ → ℕ → List Entry
  pub sent : List Contents

abbrev pub next : History → ℕ → State → Option Contents → History
next w d s o =
    record {
      at = upd w.at d s;
      past = λ x L n. cond (eqb x d && eqb n (s.rows L).number) (s.rows L).standing (w.past x L n);
      lists = λ L n. cond (eqb L d && (eqb n (s.rows L).number && eqb (s.rows L).standing 2))
          s.list (w.lists L n);
      sent = posted o w.sent;
    }

abbrev pub past_of : {P : Policy} {o : Opening} {w : Stage} → Series P o (just_opened o) w → ℕ → ℕ → ℕ → ℕ
past_of {P} {o} start = λ _ _ _. 0
past_of {P} {o} (then {w} s d c a) =
    let t = after (w.at d) (outcome P o w d c) in
    λ x L n. cond (eqb x d && eqb n (t.rows L).number) (t.rows L).standing (past_of s x L n)

abbrev pub lists_of : {P : Policy} {o : Opening} {w : Stage} → Series P o (just_opened o) w → ℕ → ℕ → List Entry
lists_of {P} {o} start = λ _ _. []
lists_of {P} {o} (then {w} s d c a) =
    let t = after (w.at d) (outcome P o w d c) in
    λ L n. cond (eqb L d && (eqb n (t.rows L).number && eqb (t.rows L).standing 2)) t.list (lists_of s L n)

abbrev pub history : {P : Policy} {o : Opening} {w : Stage} → Series P o (just_opened o) w → History
history {w = w} s = record { at = w.at; past = past_of s; lists = lists_of s; sent = w.sent }

-- the record of depot d
abbrev pub site_of : ℕ → Policy → ℕ → Site
site_of N P d = record { depot = d; n = N; code = P.code }

abbrev pub standing : History → ℕ → ℕ → ℕ
standing w x L = ((w.at x).rows L).standing

abbrev pub number : History → ℕ → ℕ → ℕ
number w x L = ((w.at x).rows L).number

-- d is engaged in no row
abbrev pub Idle : History → ℕ → Type 0
Idle w d = (L : ℕ) → Engages (standing w d L) → ⊥

-- a list to bind to: d is on it with this shelf
pub record BindingList (N d shelf : ℕ) (ℓ : List Entry) : Type 0 where
  pub listed : Listed ℓ
  pub low : AllByRecursion (λ e. e.depot < N) ℓ
  pub me : on ℓ d ≡ true
  pub mine : (entry_of ℓ d).shelf ≡ shelf

-- b forgets only who has ended
abbrev pub Strikes : History → ℕ → ℕ → Type 0
Strikes w d b = (y : ℕ) → has (w.at d).owing y ≡ true → (has b y ≡ true) ⊎ (3 ≤ w.past y d (number w d d))

-- z: that the call is a Restart; ℓ₀: the list that it lays before the depot
pub data Effect (N : ℕ) (P : Policy) (w : History) (d : ℕ) (z : Type 0) (ℓ₀ : List Entry) : State → ℕ → ℕ → Type 0 where
  keep : (b : ℕ) → Strikes w d b → Effect N P w d z ℓ₀ (owed b (w.at d)) 0 0
  issue : (n : ℕ) → Idle w d → n ≤ (w.at d).shelf →
      Effect N P w d z ℓ₀ (stocked ((w.at d).shelf - n) (w.at d).tray (w.at d).wish (w.at d)) n 0
  return : (n : ℕ) → Idle w d → Effect N P w d z ℓ₀
      (stocked ((w.at d).shelf + n) (w.at d).tray (w.at d).wish (w.at d)) 0 n
  lay : (n : ℕ) → Effect N P w d z ℓ₀ (stocked (w.at d).shelf ((w.at d).tray + n) (w.at d).wish (w.at d)) 0 n
  want : (n : ℕ) → Idle w d → Effect N P w d z ℓ₀ (stocked (w.at d).shelf (w.at d).tray n (w.at d)) 0 0
  hear : (b : ℕ) (L y : ℕ) → Strikes w d b → standing w d L ≡ 2 → HasAccepted (w.past y L (number w d L)) →
      every (w.at d).list (has (add (w.at d).heard y)) ≡ false →
      Effect N P w d z ℓ₀ (hears (add (w.at d).heard y) (owed b (w.at d))) 0 0
  restart : (L : ℕ) → z → standing w d L ≡ 2 → Effect N P w d z ℓ₀ (hears (pair (site_of N P d) L) (w.at d)) 0 0
  lead : Idle w d → (w.at d).owing ≡ 0 →
      Effect N P w d z ℓ₀ (gathers (own (site_of N P d) (w.at d) ∷ []) (turned d (number w d d + 1) 1 (w.at d))) 0 0
  offer : (b L n : ℕ) → Strikes w d b → L < N → Idle w d → number w d L < n → 1 ≤ w.past L L n →
      Effect N P w d z ℓ₀ (turned L n 1 (owed b (w.at d))) 0 0
  gather : (b : ℕ) (e : Entry) → Strikes w d b → standing w d d ≡ 1 → 1 ≤ w.past e.depot d (number w d d) →
      Effect N P w d z ℓ₀ (gathers (insert e (w.at d).gathered) (owed b (w.at d))) 0 0
  propose : ℓ₀ ≡ (w.at d).gathered → standing w d d ≡ 1 → BindingList N d (w.at d).shelf (w.at d).gathered →
      every (w.at d).gathered (has (mark d)) ≡ false →
      Effect N P w d z ℓ₀ (bound d (w.at d).gathered (mark d)
      (others (site_of N P d) (w.at d).gathered) (w.at d)) 0 0
  accept : (b : ℕ) (L : ℕ) (ℓ : List Entry) → ℓ₀ ≡ ℓ → Strikes w d b → standing w d L ≡ 1 →
      HasAccepted (w.past L L (number w d L)) → ℓ ≡ w.lists L (number w d L) → BindingList N d (w.at d).shelf ℓ →
      every ℓ (has (pair (site_of N P d) L)) ≡ false →
      Effect N P w d z ℓ₀ (bound L ℓ (pair (site_of N P d) L) b (w.at d)) 0 0
  join : (b : ℕ) (L : ℕ) (ℓ : List Entry) → ℓ₀ ≡ ℓ → Strikes w d b → standing w d L ≡ 1 →
      HasAccepted (w.past L L (number w d L)) → ℓ ≡ w.lists L (number w d L) → BindingList N d (w.at d).shelf ℓ →
      every ℓ (has (pair (site_of N P d) L)) ≡ true →
      Effect N P w d z ℓ₀ (settled P (site_of N P d) L ℓ (owed b (w.at d))) 0 0
  refuse : (b : ℕ) (L : ℕ) → Strikes w d b → standing w d L ≡ 1 → Effect N P w d z ℓ₀ (ended L 3 (owed b (w.at d))) 0 0
  settle : (b : ℕ) (L : ℕ) → Strikes w d b → standing w d L ≡ 2 →
      ((y : ℕ) → on (w.lists L (number w d L)) y ≡ true → HasAccepted (w.past y L (number w d L))) →
      Effect N P w d z ℓ₀ (settled P (site_of N P d) L (w.at d).list (owed b (w.at d))) 0 0
  drop : (b : ℕ) (L y : ℕ) → Strikes w d b → standing w d L ≡ 2 → on (w.lists L (number w d L)) y ≡ true →
      w.past y L (number w d L) ≡ 3 → Effect N P w d z ℓ₀ (ended L 5 (owed b (w.at d))) 0 0

-- How the standing of the handover n of L moves at d
pub data StandingMove (w : History) (d L n k k' : ℕ) : Type 0 where
  same : k' ≡ k → StandingMove w d L n k k'
  opens : k ≡ 0 → k' ≡ 1 → (L ≡ d) ⊎ (1 ≤ w.past L L n) → StandingMove w d L n k k'
  binds : k ≡ 1 → k' ≡ 2 → (L ≡ d) ⊎ HasAccepted (w.past L L n) → StandingMove w d L n k k'
  refuses : k ≡ 1 → k' ≡ 3 → StandingMove w d L n k k'
  settles : Engages k → k' ≡ 4 → HasAccepted (w.past L L n) →
      ((y : ℕ) → on (w.lists L n) y ≡ true → (y ≡ d) ⊎ HasAccepted (w.past y L n)) → on (w.lists L n) d ≡ true →
      StandingMove w d L n k k'
  drops : k ≡ 2 → k' ≡ 5 → HasAccepted (w.past L L n) → (y : ℕ) → on (w.lists L n) y ≡ true → w.past y L n ≡ 3 →
      StandingMove w d L n k k'

-- A record that is bound in the handover of L
pub record HoldsList (x L : ℕ) (s : State) : Type 0 where
  pub me : on s.list x ≡ true
  pub mine : (entry_of s.list x).shelf ≡ s.shelf
  pub self : has s.heard x ≡ true
  pub head : has s.heard L ≡ true
  pub waits : every s.list (has s.heard) ≡ false

-- What a call does to d's rows, and to what d is bound to
pub data RowMove (N : ℕ) (w : History) (d : ℕ) (s : State) : Type 0 where
  still : s.rows ≡ (w.at d).rows →
      ((L : ℕ) → standing w d L ≡ 2 → (s.list ≡ (w.at d).list)
      × ((y : ℕ) → has s.heard y ≡ true → HasAccepted (w.past y L (number w d L))) × HoldsList d L s) →
      RowMove N w d s
  moves : (M m k : ℕ) → 1 ≤ k → s.rows ≡ upd (w.at d).rows M (record { number = m; standing = k }) → M < N →
      number w d M ≤ m → ((L : ℕ) → Engages (standing w d L) → (L ≡ M) × (number w d L ≡ m)) →
      StandingMove w d M m (w.past d M m) k →
      (k ≡ 2 → (w.past d M m ≡ 1) × ((M ≡ d) ⊎ (HasAccepted (w.past M M m) × (s.list ≡ w.lists M m)))
      × ((y : ℕ) → has s.heard y ≡ true → (y ≡ d) ⊎ (y ≡ M)) × HoldsList d M s) → RowMove N w d s

-- the entry of an Offer is its sender's
abbrev pub FromSender : ℕ → List Entry → Type 0
FromSender y [] = ⊥
FromSender y (e ∷ es) = e.depot ≡ y

-- what a letter of this kind says of its sender y: k is y's standing, Q what holds of the list in it
abbrev pub Vouches : Kind → ℕ → ℕ → ℕ → List Entry → (List Entry → Type 0) → Type 0
Vouches kinds.Ask y L k ℓ Q = (y ≡ L) × (1 ≤ k)
Vouches kinds.Offer y L k ℓ Q = (1 ≤ k) × FromSender y ℓ
Vouches kinds.List y L k ℓ Q = (y ≡ L) × HasAccepted k × Q ℓ
Vouches kinds.Yes y L k ℓ Q = HasAccepted k
Vouches kinds.No y L k ℓ Q = k ≡ 3
Vouches kinds.Settle y L k ℓ Q = k ≡ 4
Vouches kinds.Drop y L k ℓ Q = (k ≡ 3) ⊎ (k ≡ 5)
Vouches kinds.Query y L k ℓ Q = HasAccepted k
Vouches kinds.Done y L k ℓ Q = 4 ≤ k

abbrev pub Backed : History → Contents → Type 0
Backed w m = Vouches (kind_of m.kind) m.sender m.leader (w.past m.sender m.leader m.number)
    m.entries (λ ℓ. ℓ ≡ w.lists m.leader m.number)

-- what stands behind a letter where it is sent
abbrev pub Vouched : ℕ → State → Option Contents → Type 0
Vouched d s none = Unit {0}
Vouched d s (some m) = (m.sender ≡ d) × (m.number ≡ (s.rows m.leader).number) × Vouches (kind_of m.kind) d
    m.leader (s.rows m.leader).standing m.entries (λ ℓ. ((s.rows m.leader).standing ≡ 2) × (ℓ ≡ s.list))

pub record OwnPast (past : ℕ → ℕ → ℕ) (s : State) : Type 0 where
  pub now : (L : ℕ) → past L (s.rows L).number ≡ (s.rows L).standing
  pub later : (L n : ℕ) → (s.rows L).number < n → past L n ≡ 0
  pub live : (L n : ℕ) → Engages (past L n) → (s.rows L).number ≡ n

pub record Safe (N : ℕ) (w : History) : Type 0 where
  pub own : (x : ℕ) → OwnPast (w.past x) (w.at x)
  pub single : (x L M : ℕ) → Engages (standing w x L) → Engages (standing w x M) → L ≡ M
  pub small : (x L : ℕ) → 1 ≤ standing w x L → L < N
  pub most : (x L n : ℕ) → w.past x L n ≤ 5
  pub asked : (x L n : ℕ) → 1 ≤ w.past x L n → 1 ≤ w.past L L n
  pub led : (x L n : ℕ) → HasAccepted (w.past x L n) → HasAccepted (w.past L L n)
  pub list : (x L : ℕ) → standing w x L ≡ 2 → (w.at x).list ≡ w.lists L (number w x L)
  pub heard :
      (x L y : ℕ) → standing w x L ≡ 2 → has (w.at x).heard y ≡ true → HasAccepted (w.past y L (number w x L))
  pub held : (x L : ℕ) → standing w x L ≡ 2 → HoldsList x L (w.at x)
  pub listed : (x L n : ℕ) → HasAccepted (w.past x L n) → on (w.lists L n) x ≡ true
  pub settled : (x L n y : ℕ) → w.past x L n ≡ 4 → on (w.lists L n) y ≡ true → HasAccepted (w.past y L n)
  pub dropped : (x L n : ℕ) → w.past x L n ≡ 5 → (y : ℕ) × (on (w.lists L n) y ≡ true) × (w.past y L n ≡ 3)
  pub letter : (m : Contents) → Among m w.sent → Backed w m

-- What the leaders know of the others
pub record LeadersKnow (N : ℕ) (w : History) : Type 0 where
  pub rowed : (x L : ℕ) → (number w x L ≡ 0) ⊎ (1 ≤ standing w x L)
  pub gathered : (x y : ℕ) → standing w x x ≡ 1 → on (w.at x).gathered y ≡ true → 1 ≤ w.past y x (number w x x)
  pub offered : (L n y : ℕ) → HasAccepted (w.past L L n) → on (w.lists L n) y ≡ true → (1 ≤ w.past y L n) × (y < N)
  pub owing : (L y : ℕ) → HasAccepted (standing w L L) → on (w.lists L (number w L L)) y ≡ true →
      (y ≡ L) ⊎ ((has (w.at L).owing y ≡ true) ⊎ (3 ≤ w.past y L (number w L L)))
  pub over :
      (L n y : ℕ) → HasAccepted (w.past L L n) → n < number w L L → on (w.lists L n) y ≡ true → 3 ≤ w.past y L n

-- What a call does to d's own row
pub data OwnRowMove (N : ℕ) (w : History) (d : ℕ) (s : State) : Type 0 where
  keeps : (s.rows d).number ≡ number w d d → (HasAccepted (s.rows d).standing → HasAccepted (standing w d d)) →
      ((s.rows d).standing ≡ 1 → (y : ℕ) → on s.gathered y ≡ true → 1 ≤ w.past y d (number w d d)) →
      Strikes w d s.owing → OwnRowMove N w d s
  leads : (s.rows d).number ≡ number w d d + 1 → (s.rows d).standing ≡ 1 →
      ((y : ℕ) → on s.gathered y ≡ true → y ≡ d) → (Engages (standing w d d) → ⊥) →
      (w.at d).owing ≡ 0 → OwnRowMove N w d s
  proposes : (s.rows d).number ≡ number w d d → (s.rows d).standing ≡ 2 → standing w d d ≡ 1 →
      ((y : ℕ) → on s.list y ≡ true → (1 ≤ w.past y d (number w d d)) × (y < N)
      × ((y ≡ d) ⊎ (has s.owing y ≡ true))) → OwnRowMove N w d s

-- a letter of a depot that has ended, and an Ask, which tells of no end
pub ended_vouches : (c : Kind) (y L k : ℕ) (es : List Entry) (Q : List Entry → Type 0) → tells_end c ≡ true →
    Vouches c y L k es Q → 3 ≤ k
unfolding tells_end
ended_vouches kinds.Ask y L k es Q h t = absurd (false≢true h)
ended_vouches kinds.Offer y L k es Q h t = absurd (false≢true h)
ended_vouches kinds.List y L k es Q h t = absurd (false≢true h)
ended_vouches kinds.Yes y L k es Q h t = absurd (false≢true h)
ended_vouches kinds.No y L k es Q h t = omega arith
ended_vouches kinds.Settle y L k es Q h t = omega arith
ended_vouches kinds.Drop y L k es Q h t = omega arith
ended_vouches kinds.Query y L k es Q h t = absurd (false≢true h)
ended_vouches kinds.Done y L k es Q h t = omega arith

pub ask_ends_nothing : tells_end kinds.Ask ≡ false
unfolding tells_end
ask_ends_nothing = refl

-- the depot has accepted, by its last standing
unfoldable pub has_accepted : ℕ → Bool
has_accepted k = leb 2 k && not (eqb k 3)

pub acc_true : (k : ℕ) → has_accepted k ≡ true → HasAccepted k
unfolding has_accepted
acc_true k h = grind arith

pub true_acc : (k : ℕ) → HasAccepted k → has_accepted k ≡ true
unfolding has_accepted
true_acc k h = grind arith
