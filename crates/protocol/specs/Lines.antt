-- Which step a letter calls for: an ordered table of lines, of which the first that fits is taken.
use Rattle.std.specs.Prelude.{◌≡◌, ℕ, Bool, true, cond, not, ◌&&◌, List, [], ◌∷◌, ◌==◌}
use Rattle.letters.specs.declared.letter.Kind.{Kind}
use Rattle.letters.specs.declared.letter.Kind.TheVariants as kinds
use Rattle.letters.specs.Code.{kind_number}
use Rattle.protocol.specs.declared.step.Whom.TheVariants.{Leader, Sender, Others}
use Rattle.protocol.specs.declared.step.Step.{Step}
use Rattle.protocol.specs.declared.step.Step.TheVariants as steps
use Rattle.protocol.specs.declared.step.Situation.{Situation}

-- What a line asks of the letter, beside its kind and the standing
pub data Guard : Type 0 where
  -- nothing
  always : Guard
  -- its sender is the leader
  from_leader : Guard
  -- its sender is the leader, and the depot can accept its list
  acceptable : Guard
  -- the depot is the leader
  to_leader : Guard
  -- the depot is the leader, and can gather its entry
  gatherable : Guard
  -- the depot is another than the leader
  to_another : Guard
  -- its sender is on the depot's list
  from_listed : Guard
  -- its sender is on the depot's list, and the depot is the leader
  listed_to_leader : Guard

-- whether the guard is met
abbrev pub met : Guard → Situation → Bool
met always about = true
met from_leader about = about.from_leader
met acceptable about = about.from_leader && about.acceptable
met to_leader about = about.to_leader
met gatherable about = about.to_leader && about.gatherable
met to_another about = not about.to_leader
met from_listed about = about.from_listed
met listed_to_leader about = about.from_listed && about.to_leader

-- A line: a kind of letter, where the depot stands in the letter's handover, a guard, and the step
pub record Line : Type 0 where
  pub kind : Kind
  pub standing : ℕ
  pub guard : Guard
  pub step : Step

-- a line from its four parts
abbrev pub line : Kind → ℕ → Guard → Step → Line
line kind standing guard step = record { kind = kind; standing = standing; guard = guard; step = step }

-- The lines of Receive. A letter whose number is above that in the leader's row finds the depot at 0 in its handover
abbrev pub lines : List Line
lines =
    -- a new Ask from the leader is answered by an Offer, the same Ask by that Offer again
    line kinds.Ask 0 from_leader steps.Join
    ∷ line kinds.Ask 1 from_leader steps.OfferAgain
    -- an Offer is gathered by its leader, unless the depot is gathered or the sum would pass a list's limit
    ∷ line kinds.Offer 1 gatherable steps.Gather
    ∷ line kinds.Offer 1 to_leader steps.Stay
    -- the leader's list is accepted or refused, and a depot past that tells the leader how it stands
    ∷ line kinds.List 1 acceptable steps.Accept
    ∷ line kinds.List 1 from_leader (steps.Refuse Leader)
    ∷ line kinds.List 2 from_leader (steps.Say kinds.Yes Leader)
    ∷ line kinds.List 3 from_leader (steps.Say kinds.No Leader)
    ∷ line kinds.List 4 from_leader (steps.Say kinds.Settle Leader)
    ∷ line kinds.List 5 from_leader (steps.Say kinds.Drop Leader)
    -- a bound depot hears the Yes of a depot on its list
    ∷ line kinds.Yes 2 from_listed steps.Hear
    -- a bound depot drops the list by the No of a depot on it
    ∷ line kinds.No 2 from_listed (steps.Drop kinds.Drop Others)
    -- a bound depot settles with a depot on its list: the leader tells the others, another depot tells the leader that
    -- it is done, and tells it again
    ∷ line kinds.Settle 2 listed_to_leader (steps.Settle kinds.Settle Others)
    ∷ line kinds.Settle 2 from_listed (steps.Settle kinds.Done Leader)
    ∷ line kinds.Settle 4 to_another (steps.Say kinds.Done Leader)
    -- Drop is as No for the leader; another depot ends, or has ended, and tells the leader how
    ∷ line kinds.Drop 2 listed_to_leader (steps.Drop kinds.Drop Others)
    ∷ line kinds.Drop 2 from_listed (steps.Drop kinds.Done Leader)
    ∷ line kinds.Drop 1 to_another (steps.Refuse Leader)
    ∷ line kinds.Drop 3 to_another (steps.Say kinds.No Leader)
    ∷ line kinds.Drop 5 to_another (steps.Say kinds.Done Leader)
    -- Query is told how the depot stands; a depot that only offered first ends at 3, so that it cannot accept later
    ∷ line kinds.Query 1 to_another (steps.Refuse Sender)
    ∷ line kinds.Query 2 always (steps.Say kinds.Yes Sender)
    ∷ line kinds.Query 3 always (steps.Say kinds.No Sender)
    ∷ line kinds.Query 4 always (steps.Say kinds.Settle Sender)
    ∷ line kinds.Query 5 always (steps.Say kinds.Drop Sender)
    ∷ []

-- two kinds are the same
abbrev pub same_kind : Kind → Kind → Bool
same_kind kind other = kind_number kind == kind_number other

-- the line fits a letter of this kind that finds the depot at this standing
abbrev pub fits_line : Line → Kind → ℕ → Situation → Bool
fits_line l kind standing about =
    same_kind kind l.kind && (standing == l.standing && met l.guard about)

-- the step of the first line that fits
abbrev pub first_fit : List Line → Kind → ℕ → Situation → Step
first_fit [] kind standing about = steps.Unlined
first_fit (l ∷ ls) kind standing about =
    cond (fits_line l kind standing about) l.step (first_fit ls kind standing about)

-- the step that a letter of this kind calls for at this standing
abbrev pub decided : Kind → ℕ → Situation → Step
decided kind standing about = first_fit lines kind standing about

-- What a step that was decided may rely on: where the depot stands, and what the guards have found
abbrev pub Grounds : Step → ℕ → Situation → Type 0
Grounds steps.Unlined standing about = Unit {0}
Grounds steps.Stay standing about = Unit {0}
Grounds steps.Join standing about = Unit {0}
Grounds steps.OfferAgain standing about = Unit {0}
Grounds steps.Gather standing about = about.gatherable ≡ true
Grounds steps.Accept standing about = about.acceptable ≡ true
Grounds steps.Hear standing about = standing ≡ 2
Grounds (steps.Say kind whom) standing about = Unit {0}
Grounds (steps.Refuse whom) standing about = standing ≡ 1
Grounds (steps.Settle kind whom) standing about = standing ≡ 2
Grounds (steps.Drop kind whom) standing about = standing ≡ 2
