-- The law of a record over every call, reading included, and of the record that Hand fills.
use Rattle.std.proofs.Common.{◌≡◌, ℕ, ◌≤◌, true, List, refl, inl, arith}
use Rattle.entries.specs.Limits.{max_shelf}
use Rattle.letters.specs.Bytes.{Bytes}
use Rattle.letters.specs.Reading.{Answer, refused, letter, reads}
use Rattle.protocol.specs.Keeping.{Keeps, CallsKeep, LawKept}
use Rattle.protocol.specs.Law.{Engages, LawfulSite, Law}
use Rattle.protocol.specs.Policy.{Policy, LawfulPolicy}
use Rattle.protocol.specs.State.{Site, State, fresh, engages, leader}
use Rattle.protocol.specs.Taking.{taken}
use Rattle.letters.proofs.Forth.{no_other}
use Rattle.protocol.proofs.InSets.{has_none}
use Rattle.protocol.proofs.Tests.{found_one}
use Rattle.protocol.proofs.CallsKeep.{refusal_kept, take_kept, issue_kept, return_kept, wish_kept, lead_kept}
use Rattle.protocol.proofs.CallsKeep.{propose_kept, withdraw_kept, query_kept, restart_kept, remind_kept}

pub fresh_lawful : (a : Site) (share : ℕ) → LawfulSite a → share ≤ max_shelf → Law a (fresh share)
fresh_lawful a share site limit =
    record {
      site = site;
      rows = record {
        row = λ L. record {
          low = λ h. absurd (omega arith);
          most = omega arith;
          number_high = omega arith;
          number_none = λ _. refl;
          number_some = λ h. absurd (omega arith);
        };
        single = λ L M e f. absurd (omega arith);
      };
      stock = record { stock = omega arith; tray = omega arith; wish = omega arith; tray_empty = λ _. refl };
      lists = record {
        bound = λ L e. absurd (omega arith);
        unbound = λ _. (refl, refl);
        gathering = λ e. absurd (omega arith);
        ungathered = λ _. refl;
      };
      owing = record { owing = λ y e. absurd (has_none y e); owes = inl refl };
    }

module _ (P : Policy) (lawful : LawfulPolicy P) (a : Site) (s : State) (law : Law a s) where
  engaged_row : (k : ℕ) → engages k ≡ true → Engages k
  unfolding engages
  engaged_row k h = grind arith

  row_engaged : (k : ℕ) → Engages k → engages k ≡ true
  unfolding engages
  row_engaged k h = grind arith

  leader_is : (L : ℕ) → Engages (s.rows L).standing → leader a s ≡ L
  unfolding leader
  leader_is L e = law.rows.single _ L
      (engaged_row _ (found_one a.n (λ M. engages (s.rows M).standing) L
      ((law.rows.row L).low e.0) (row_engaged _ e))) e

  received : (bytes : List ℕ) → Bytes bytes → (x : Answer) → reads bytes ≡ x → Keeps a s (taken P a s x)
  received bytes b (refused r) e = refusal_kept a s law r
  received bytes b (letter m) e = take_kept P lawful a s law m (no_other bytes m b e).lawful

  pub calls_kept : CallsKeep P a s
  calls_kept =
      record {
        issue = issue_kept P lawful a s law;
        give_back = return_kept P lawful a s law;
        set_wish = wish_kept P lawful a s law;
        lead = lead_kept P lawful a s law;
        propose = propose_kept P lawful a s law;
        withdraw = withdraw_kept P lawful a s law (leader a s);
        query = query_kept P lawful a s law (leader a s);
        remind = remind_kept P lawful a s law;
        restart = restart_kept P lawful a s law (leader a s);
        take = take_kept P lawful a s law;
        receive = λ bytes b. received bytes b (reads bytes) refl;
        found = leader_is;
      }

pub law_kept : LawKept
law_kept = record { calls = calls_kept; handed = fresh_lawful }
