-- What the step of a letter makes of the record.
use Rattle.std.specs.Prelude.{ℕ, ◌+◌, Bool, false, not, ◌&&◌, List, [], ◌∷◌, ◌==◌, nat_le, nat_lt}
use Rattle.std.proofs.Math.Option.{Option, none}
use Rattle.entries.specs.declared.lists.Entry.{Entry}
use Rattle.entries.specs.Limits.{max_pool}
use Rattle.entries.specs.Sets.{has, mark, add}
use Rattle.entries.specs.Lists.{pool, on, insert}
use Rattle.letters.specs.declared.letter.Kind.TheVariants as kinds
use Rattle.letters.specs.Contents.{Contents}
use Rattle.letters.specs.Reading.{handover}
use Rattle.protocol.specs.declared.step.Whom.{Whom}
use Rattle.protocol.specs.declared.step.Whom.TheVariants.{Leader, Sender, Others}
use Rattle.protocol.specs.declared.step.Step.{Step}
use Rattle.protocol.specs.declared.step.Step.TheVariants as steps
use Rattle.protocol.specs.declared.step.Situation.{Situation}
use Rattle.protocol.specs.Policy.{Policy}
use Rattle.protocol.specs.Listing.{every}
use Rattle.protocol.specs.State.{pick, Site, State, own, fits, others, pair}
use Rattle.protocol.specs.State.{hears, gathers, turned, bound, ended, settled}
use Rattle.protocol.specs.Outcome.{Outcome, refuses, serves, mail}

-- an Offer's entry can be gathered: its depot is not gathered yet, and the sum stays within a list's limit
abbrev pub fits_gathered : List Entry → List Entry → Bool
fits_gathered gathered [] = false
fits_gathered gathered (e ∷ es) = not (on gathered e.depot) && nat_le (pool gathered + e.shelf) max_pool

-- what is gathered with an Offer's one entry
abbrev pub gathered_with : List Entry → List Entry → List Entry
gathered_with gathered [] = gathered
gathered_with gathered (e ∷ es) = insert e gathered

-- A letter of depot y about the handover n of L, with these entries, that reaches a record
module _ (a : Site) (s : State) (L y n : ℕ) (es : List Entry) where
  -- a list can be accepted: it names only depots below N, has the leader and has the own entry as shelf and wish are
  abbrev pub acceptable_list : Bool
  acceptable_list = every es (λ x. nat_lt x a.n) && (on es L && fits a.depot s.shelf s.wish es)

  -- what the guards look at
  abbrev pub situation : Situation
  situation =
      record {
        from_leader = (y == L);
        to_leader = (L == a.depot);
        from_listed = on s.list y;
        acceptable = acceptable_list;
        gatherable = fits_gathered s.gathered es;
      }

  -- the depots to which a step's letter goes
  abbrev pub to_whom : Whom → ℕ
  to_whom Leader = mark L
  to_whom Sender = mark y
  to_whom Others = others a s.list

  -- When all on a list are heard, the depot ends at 4 and sends Settle to the others on it, in place of what else it
  -- would become and send
  unfoldable pub concluded : Policy → List Entry → ℕ → State → Option Contents → Outcome
  concluded P list heard t m =
      pick (every list (has heard))
      (serves (settled P a L list s) (mail a (settled P a L list s) kinds.Settle (others a list) L [])) (serves t m)

  -- What a step answers. A letter that strikes its sender from owing counts as a line, even where there is no other
  abbrev pub carried : Policy → Bool → Step → Outcome
  carried P strikes steps.Unlined = pick strikes (serves s none) (refuses (handover 33))
  carried P strikes steps.Stay = serves s none
  carried P strikes steps.Join =
      serves (turned L n 1 s) (mail a (turned L n 1 s) kinds.Offer (mark L) L (own a s ∷ []))
  carried P strikes steps.OfferAgain = serves s (mail a s kinds.Offer (mark L) L (own a s ∷ []))
  carried P strikes steps.Gather = serves (gathers (gathered_with s.gathered es) s) none
  carried P strikes steps.Accept =
      concluded P es (pair a L) (bound L es (pair a L) s.owing s)
      (mail a (bound L es (pair a L) s.owing s) kinds.Yes (mark L) L [])
  carried P strikes steps.Hear =
      concluded P s.list (add s.heard y) (hears (add s.heard y) s) none
  carried P strikes (steps.Say kind whom) = serves s (mail a s kind (to_whom whom) L [])
  carried P strikes (steps.Refuse whom) = serves (ended L 3 s) (mail a (ended L 3 s) kinds.No (to_whom whom) L [])
  carried P strikes (steps.Settle kind whom) =
      serves (settled P a L s.list s) (mail a (settled P a L s.list s) kind (to_whom whom) L [])
  carried P strikes (steps.Drop kind whom) = serves (ended L 5 s) (mail a (ended L 5 s) kind (to_whom whom) L [])
