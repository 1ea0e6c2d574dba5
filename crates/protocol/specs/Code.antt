-- What the values of the code say: the numbers of standings and refusals.
use Rattle.std.specs.Prelude.{ℕ}
use Rattle.protocol.specs.declared.standing.Standing.{Standing}
use Rattle.protocol.specs.declared.standing.Standing.TheVariants as standings
use Rattle.protocol.specs.declared.refusal.Refusal.{Refusal}
use Rattle.protocol.specs.declared.refusal.Refusal.TheVariants as refusals

-- the number of each standing
abbrev pub standing_number : Standing → ℕ
standing_number standings.Blank = 0
standing_number standings.Offered = 1
standing_number standings.Accepted = 2
standing_number standings.Refused = 3
standing_number standings.Settled = 4
standing_number standings.Dropped = 5

-- the book's number of each refusal
abbrev pub refusal_number : Refusal → ℕ
refusal_number refusals.DepotCount = 1
refusal_number refusals.TotalTooGreat = 2
refusal_number refusals.NoSuchDepot = 3
refusal_number refusals.AllottedBefore = 4
refusal_number refusals.MoreThanRemains = 5
refusal_number refusals.HandedBefore = 6
refusal_number refusals.PiecesOutside = 7
refusal_number refusals.Engaged = 8
refusal_number refusals.ShelfBelow = 9
refusal_number refusals.StockTooGreat = 10
refusal_number refusals.WishTooGreat = 11
refusal_number refusals.StillOwing = 12
refusal_number refusals.NoWish = 13
refusal_number refusals.ShelfTooGreat = 14
refusal_number refusals.NumbersUsed = 15
refusal_number refusals.NotGathering = 16
refusal_number refusals.TooFewGathered = 17
refusal_number refusals.OtherPolicy = 18
refusal_number refusals.NotOffered = 19
refusal_number refusals.NotBound = 20
refusal_number refusals.NobodyToRemind = 21
refusal_number refusals.NotAddressed = 29
refusal_number refusals.NoSuchSender = 30
refusal_number refusals.NumberPassed = 31
refusal_number refusals.NumberUnknown = 32
refusal_number refusals.NoLine = 33
