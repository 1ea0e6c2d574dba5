-- Worked examples, from the definitions.
use Rattle.std.specs.Prelude.{◌≡◌, ℕ, false, List, [], ◌∷◌, ◌++◌, Ok}
use Rattle.entries.specs.declared.lists.Entry.{Entry}
use Rattle.letters.specs.Contents.{Contents}
use Rattle.letters.specs.Bytes.{encode}
use Rattle.letters.specs.Reading.{handover}
use Rattle.policies.specs.Shares.{wishes_first}
use Rattle.protocol.specs.Policy.{Policy, LawfulPolicy}
use Rattle.protocol.specs.State.{upd, Site, State, engaged}
use Rattle.protocol.specs.Outcome.{refuses}
use Rattle.protocol.specs.Own.{issue}
use Rattle.protocol.specs.Opening.{Draft, Opening, LawfulOpening, draft, allot, opened}
use Rattle.protocol.specs.Calls.{Call, Hand, Return, Wish, Lead, Propose, Withdraw, Query, Restart, Receive}
use Rattle.protocol.specs.Series.{Stage, just_opened, outcome, carried_out, EachAllowed}
use Rattle.protocol.specs.Words.{due}

-- Wishes First under its code
abbrev pub by_wishes : Policy
by_wishes = record { code = 2; share = wishes_first }

-- an entry by its depot, shelf and wish
abbrev pub entry : ℕ → ℕ → ℕ → Entry
entry depot shelf wish = record { depot = depot; shelf = shelf; wish = wish }

-- a draft of 10 pieces for three depots
abbrev pub ten_for : (ℕ → ℕ) → ℕ → Draft
ten_for shares allotted = record { total = 10; n = 3; shares = shares; allotted = allotted }

-- what is allotted once depot 0 has 1
abbrev pub one : ℕ → ℕ
one = upd (λ _. 0) 0 1

-- then depot 1 has 5
abbrev pub two : ℕ → ℕ
two = upd one 1 5

-- then depot 2 has 4
abbrev pub all_three : ℕ → ℕ
all_three = upd two 2 4

-- the set that opens with 1, 5, 4
abbrev pub three : Opening
three = opened (ten_for all_three 7)

-- the list of all three, where depot 0 wishes 3
abbrev pub all : List Entry
all = entry 0 1 3 ∷ (entry 1 5 0 ∷ (entry 2 4 0 ∷ []))

-- a letter about the first handover of depot 0
abbrev pub letter_of : ℕ → ℕ → ℕ → List Entry → Contents
letter_of kind sender to es =
    record { kind = kind; sender = sender; to = to; leader = 0; code = 2; number = 1; entries = es }

-- the bytes of such a letter
abbrev pub bytes_of : ℕ → ℕ → ℕ → List Entry → List ℕ
bytes_of kind sender to es = encode (letter_of kind sender to es)

-- depot 0 wishes 3 and leads all; the other two offer, and depot 0 proposes the list
abbrev pub proposal : List (ℕ × Call)
proposal =
    (0, Hand) ∷ (1, Hand) ∷ (2, Hand) ∷ (0, Wish 3) ∷ (0, Lead)
    ∷ (1, Receive (bytes_of 1 0 6 [])) ∷ (2, Receive (bytes_of 1 0 6 []))
    ∷ (0, Receive (bytes_of 2 1 1 (entry 1 5 0 ∷ []))) ∷ (0, Receive (bytes_of 2 2 1 (entry 2 4 0 ∷ [])))
    ∷ (0, Propose) ∷ []

-- depots 1 and 2 accept the list; depot 1 asks the others, and hears depot 2's Yes
abbrev pub agreeing : List (ℕ × Call)
agreeing =
    (1, Receive (bytes_of 3 0 6 all)) ∷ (2, Receive (bytes_of 3 0 6 all))
    ∷ (1, Query) ∷ (2, Receive (bytes_of 8 1 5 [])) ∷ (1, Receive (bytes_of 4 2 2 [])) ∷ []

-- depot 1 withdraws before the list reaches it; its No ends the handover at depot 0
abbrev pub withdrawing : List (ℕ × Call)
withdrawing = (1, Withdraw) ∷ (0, Receive (bytes_of 5 1 1 [])) ∷ []

-- a series in which the list settles
abbrev pub settling : List (ℕ × Call)
settling = proposal ++ agreeing

-- a series in which the list drops
abbrev pub dropping : List (ℕ × Call)
dropping = proposal ++ withdrawing

-- only depot 1 is gathered before the list is proposed, though depot 2 has offered too; then depot 2 withdraws
abbrev pub unlisted : List (ℕ × Call)
unlisted =
    (0, Hand) ∷ (1, Hand) ∷ (2, Hand) ∷ (0, Wish 3) ∷ (0, Lead)
    ∷ (1, Receive (bytes_of 1 0 6 [])) ∷ (2, Receive (bytes_of 1 0 6 []))
    ∷ (0, Receive (bytes_of 2 1 1 (entry 1 5 0 ∷ []))) ∷ (0, Propose)
    ∷ (2, Withdraw) ∷ (0, Receive (bytes_of 5 2 1 [])) ∷ []

-- depot 1 accepts the list and asks depot 2, which has not received it yet, how it stands
abbrev pub asking : List (ℕ × Call)
asking = (1, Receive (bytes_of 3 0 6 all)) ∷ (1, Query) ∷ (2, Receive (bytes_of 8 1 5 [])) ∷ []

abbrev pub queried : List (ℕ × Call)
queried = proposal ++ asking

-- where a series stands
abbrev pub stage_after : List (ℕ × Call) → Stage
stage_after calls = carried_out by_wishes three (just_opened three) calls

-- where a depot stands in the first handover of depot 0
abbrev pub standing_at : Stage → ℕ → ℕ
standing_at w x = ((w.at x).rows 0).standing

-- a number for each of the three depots
abbrev pub of_three : (ℕ → ℕ) → List ℕ
of_three f = f 0 ∷ (f 1 ∷ (f 2 ∷ []))

-- What the definitions give in these examples
pub record Worked : Type 0 where
  -- the policy is lawful, and the set is one that can be opened
  pub policy : LawfulPolicy by_wishes
  pub opening : LawfulOpening three
  -- total 10, allotted 1, 5, 4, opens with just that
  pub drafted : draft 10 3 ≡ Ok (ten_for (λ _. 0) 0)
  pub allotted_0 : allot (ten_for (λ _. 0) 0) 0 1 ≡ Ok (ten_for one 1)
  pub allotted_1 : allot (ten_for one 1) 1 5 ≡ Ok (ten_for two 3)
  pub allotted_2 : allot (ten_for two 3) 2 4 ≡ Ok (ten_for all_three 7)
  pub first_shares : of_three three.shares ≡ (1 ∷ (5 ∷ (4 ∷ [])))
  -- total 10 with 3 allotted to depot 0 and 4 to depot 1 opens depot 0 with 6
  pub allotted_3 : allot (ten_for (λ _. 0) 0) 0 3 ≡ Ok (ten_for (upd (λ _. 0) 0 3) 1)
  pub allotted_4 : allot (ten_for (upd (λ _. 0) 0 3) 1) 1 4 ≡ Ok (ten_for (upd (upd (λ _. 0) 0 3) 1 4) 3)
  pub remainder : (opened (ten_for (upd (upd (λ _. 0) 0 3) 1 4) 3)).shares 0 ≡ 6
  -- shelf 5, not engaged: Issue of 1,000,000 is 9, of 1,000,001 is 7
  pub too_many :
      (a : Site) (s : State) → s.shelf ≡ 5 → engaged a s ≡ false → issue a s 1000000 ≡ refuses (handover 9)
  pub outside : (a : Site) (s : State) → issue a s 1000001 ≡ refuses (handover 7)
  -- a series in which depot 1 alone has settled: the shelves show 1, 2, 4 and 6, 2, 2 are due
  pub settling_allowed : EachAllowed by_wishes three (just_opened three) settling
  pub shares : wishes_first all ≡ (6 ∷ (2 ∷ (2 ∷ [])))
  pub settled : of_three (λ x. (stage_after settling).settled x 0 1) ≡ (0 ∷ (1 ∷ (0 ∷ [])))
  pub shelves : of_three (λ x. ((stage_after settling).at x).shelf) ≡ (1 ∷ (2 ∷ (4 ∷ [])))
  pub dues : of_three (due by_wishes three (stage_after settling)) ≡ (6 ∷ (2 ∷ (2 ∷ [])))
  -- a series in which depot 0 alone has dropped the list: what was on the shelves is due
  pub dropping_allowed : EachAllowed by_wishes three (just_opened three) dropping
  pub dropped : of_three (λ x. (stage_after dropping).dropped x 0 1) ≡ (1 ∷ (0 ∷ (0 ∷ [])))
  pub dues_dropped : of_three (due by_wishes three (stage_after dropping)) ≡ (1 ∷ (5 ∷ (4 ∷ [])))
  -- a No of a depot that offered but is not listed leaves the leader bound
  pub unlisted_allowed : EachAllowed by_wishes three (just_opened three) unlisted
  pub still_bound : standing_at (stage_after unlisted) 0 ≡ 2
  -- a depot that offered and is asked by Query how it stands ends at 3
  pub queried_allowed : EachAllowed by_wishes three (just_opened three) queried
  pub asked_by_query : standing_at (stage_after queried) 2 ≡ 3
  -- after Withdraw the same Ask has no line
  pub asked_again : outcome by_wishes three (stage_after dropping) 1 (Receive (bytes_of 1 0 6 [])) ≡ refuses (handover 33)
  -- a leader does not lead again while a depot on its list is owing
  pub owing_still : outcome by_wishes three (stage_after dropping) 0 Lead ≡ refuses (handover 12)
  -- Restart leaves a bound depot bound, and a Return while engaged lies on the tray
  pub restarted : standing_at (stage_after (proposal ++ ((0, Restart) ∷ []))) 0 ≡ 2
  pub returned : ((stage_after (proposal ++ ((0, Return 7) ∷ []))).at 0).tray ≡ 7
