-- The worked examples, computed from the definitions; each letter of the two series is among those sent before it.
use Rattle.std.proofs.Common.{◌≡◌, ℕ, false, List, [], ◌∷◌, ◌++◌, refl, inl, inr, arith}
use Rattle.letters.specs.Reading.{handover}
use Rattle.entries.specs.Limits as limits
use Rattle.entries.specs.Sets.{has, mark, union, add, less, everyone}
use Rattle.entries.specs.Lists.{on, entry_of, names, insert}
use Rattle.policies.specs.Shares.{beside, wishes_first}
use Rattle.policies.specs.Granting.{wishes_lawful}
use Rattle.protocol.specs.Calls.{accepts, ends_at, Call}
use Rattle.protocol.specs.Examples.{by_wishes, entry, three, all, letter_of, proposal, agreeing, withdrawing}
use Rattle.protocol.specs.Examples.{asking, Worked}
use Rattle.protocol.specs.Listing.{every, elsewhere, same}
use Rattle.protocol.specs.Opening.{sum_to}
use Rattle.protocol.specs.Outcome.{mail, refuses}
use Rattle.protocol.specs.Own.{outside, issue, set_wish, lead, propose, give_back, withdraw_in, query_in, restart_in}
use Rattle.protocol.specs.Series.{Stage, just_opened, called, carried_out, EachAllowed}
use Rattle.protocol.specs.State.{Site, State, upd, pick, any, found, engages, engaged, leader, fits}
use Rattle.protocol.specs.Steps.{concluded}
use Rattle.protocol.specs.Taking.{kind_of, tells_end, asks, strikes, newer, step_for, take}
use Rattle.protocol.specs.Words.{among, stands, bound_to_standing, due}

infixr 4 ◌⨾◌
-- a call is allowed, and so are those that follow
◌⨾◌ : {A B : Type 0} → A → B → A × B
a ⨾ b = (a, b)

-- calls that are allowed after others
more : (xs ys : List (ℕ × Call)) (w : Stage) → EachAllowed by_wishes three w xs →
    EachAllowed by_wishes three (carried_out by_wishes three w xs) ys → EachAllowed by_wishes three w (xs ++ ys)
more [] ys w h k = k
more (x ∷ xs) ys w h k = (h.0, more xs ys (called by_wishes three w x.0 x.1) h.1 k)

-- a shelf of 5 has not 1,000,000 pieces
too_many_issued : (a : Site) (s : State) → s.shelf ≡ 5 → engaged a s ≡ false →
    issue a s 1000000 ≡ refuses (handover 9)
unfolding issue outside pick
too_many_issued a s five free = simp (free, five)

pub worked : Worked
unfolding limits.max_depots has mark union add less everyone on entry_of every names elsewhere insert same beside
    wishes_first upd pick any found engages engaged leader fits mail outside issue give_back set_wish lead propose
    withdraw_in query_in restart_in kind_of concluded tells_end asks strikes newer step_for take accepts ends_at among stands
    bound_to_standing due sum_to
worked =
    record {
      policy = record { coded = (omega arith, omega arith); shares = wishes_lawful };
      opening = record { some = omega arith; few = omega arith; limit = omega arith };
      drafted = refl;
      allotted_0 = refl;
      allotted_1 = refl;
      allotted_2 = refl;
      first_shares = refl;
      allotted_3 = refl;
      allotted_4 = refl;
      remainder = refl;
      too_many = too_many_issued;
      outside = λ a s. refl;
      settling_allowed =
          more proposal agreeing (just_opened three) proposal_allowed
          ((refl, inl (letter_of 3 0 6 all, inl refl, refl)) ⨾ (refl, inl (letter_of 3 0 6 all, inr (inl refl), refl))
          ⨾ refl ⨾ (refl, inl (letter_of 8 1 5 [], inl refl, refl)) ⨾ (refl, inl (letter_of 4 2 2 [], inl refl, refl))
          ⨾ tt);
      shares = refl;
      settled = refl;
      shelves = refl;
      dues = refl;
      dropping_allowed =
          more proposal withdrawing (just_opened three) proposal_allowed
          (refl ⨾ (refl, inl (letter_of 5 1 1 [], inl refl, refl)) ⨾ tt);
      dropped = refl;
      dues_dropped = refl;
      unlisted_allowed =
          tt ⨾ tt ⨾ tt ⨾ refl ⨾ refl ⨾ (refl, inl (letter_of 1 0 6 [], inl refl, refl))
          ⨾ (refl, inl (letter_of 1 0 6 [], inr (inl refl), refl))
          ⨾ (refl, inl (letter_of 2 1 1 (entry 1 5 0 ∷ []), inr (inl refl), refl)) ⨾ refl ⨾ refl
          ⨾ (refl, inl (letter_of 5 2 1 [], inl refl, refl)) ⨾ tt;
      still_bound = refl;
      queried_allowed =
          more proposal asking (just_opened three) proposal_allowed
          ((refl, inl (letter_of 3 0 6 all, inl refl, refl)) ⨾ refl
          ⨾ (refl, inl (letter_of 8 1 5 [], inl refl, refl)) ⨾ tt);
      asked_by_query = refl;
      asked_again = refl;
      owing_still = refl;
      restarted = refl;
      returned = refl;
    }
  where
    -- every letter is given after it was sent
    proposal_allowed : EachAllowed by_wishes three (just_opened three) proposal
    proposal_allowed =
        tt ⨾ tt ⨾ tt ⨾ refl ⨾ refl ⨾ (refl, inl (letter_of 1 0 6 [], inl refl, refl))
        ⨾ (refl, inl (letter_of 1 0 6 [], inr (inl refl), refl))
        ⨾ (refl, inl (letter_of 2 1 1 (entry 1 5 0 ∷ []), inr (inl refl), refl))
        ⨾ (refl, inl (letter_of 2 2 1 (entry 2 4 0 ∷ []), inl refl, refl)) ⨾ refl ⨾ tt
