-- Remind sends a letter of the own row again: to nobody it is refused, and the record stays.
use Rattle.std.proofs.Common.{◌≡◌, ℕ, Bool, true, false, eqb, List, [], Result, sym, refl, ap, ◌∙◌, subst, arith}
use mathlib.Core.Logic.{∥∥₁_map}
use mathlib.Core.Option.{Option, none, some}
use Rattle.std.proofs.lemmas.Bool.{eq-eqb, ne_eqb}
use Rattle.std.proofs.lemmas.Bool.Decides.{nat_tests}
use Rattle.entries.specs.declared.lists.Entry.{Entry}
use Rattle.entries.specs.Sets.{less}
use Rattle.entries.specs.Lists.{names}
use Rattle.letters.specs.Contents.{Contents}
use Rattle.letters.specs.Reading.{handover}
use Rattle.letters.specs.declared.letter.Kind.{Kind}
use Rattle.letters.specs.declared.letter.Kind.TheVariants as kinds
use Rattle.letters.specs.declared.message.Message.{Message}
use Rattle.protocol.specs.State.{pick, Site, State, rest}
use Rattle.protocol.specs.Outcome.{Outcome, refuses, serves, after, sends, mail}
use Rattle.protocol.specs.Law.{Law}
use Rattle.protocol.specs.Keeping.{Readable}
use Rattle.protocol.specs.Own.{again, remind}
use Rattle.protocol.specs.declared.refusal.Refusal.{Refusal}
use Rattle.book.specs.declared.record.Record.{Record}
use Rattle.book.specs.View.{site, view}
use Rattle.book.specs.Calls.{told, at, Answered, Called, Sent}
use Rattle.book.proofs.Kept.{own_calls}
use Rattle.book.proofs.Plain.{readable_known}

module _ (a : Site) (s : State) (k : Kind) (to : ℕ) (es : List Entry) where
  pub again_refuses : to ≡ 0 → again a s k to es ≡ refuses (handover 21)
  unfolding pick
  again_refuses e = rw (eq-eqb to 0 e) refl

  pub again_serves : (to ≡ 0 → ⊥) → again a s k to es ≡ serves s (mail a s k to a.depot es)
  unfolding pick
  again_serves e = rw (ne_eqb to 0 e) refl

  still : (b : Bool) (r : Outcome) (m : Option Contents) → after s r ≡ s → after s (pick b r (serves s m)) ≡ s
  unfolding pick
  still true r m e = e
  still false r m e = refl

  readable : (b : Bool) (r : Outcome) (m : Contents) → Readable (sends (pick b r (serves s (pick b none (some m)))))
      → Readable (pick b none (some m))
  unfolding pick
  readable true r m h = tt
  readable false r m h = h

  -- what Remind sends can be read, where it comes to sending this letter again
  pub again_fine : remind a s ≡ again a s k to es → ∥ Law a s ∥₁ → Readable (mail a s k to a.depot es)
  unfolding mail
  again_fine q ok =
      readable_known _ (∥∥₁_map ok (λ law. readable (eqb to 0) _ _ (subst (λ o. Readable (sends o)) q
      (own_calls a s law).remind.mails)))

-- a call that comes to sending a letter again
pub reminded : {r : Record} {x : Result Sent Refusal} {lent left : Message} (k : Kind) (to : ℕ) (es : List Entry)
    → at remind r ≡ again (site r) (view r) k to es → Answered told (again (site r) (view r) k to es) x lent left
    → Called remind x r r lent left
reminded {r} {x} {lent} {left} k to es q h =
    record {
      answer = subst (λ o. Answered told o x lent left) (sym q) h;
      leaves = record {
        state = sym (ap (after (view r)) q ∙ still (site r) (view r) k to es (eqb to 0) _ _ refl);
        same = refl;
      };
    }

module _ (a : Site) (s : State) where
  pub remind_gathering : (s.rows a.depot).standing ≡ 1
      → remind a s ≡ again a s kinds.Ask (less (rest a) (names s.gathered)) []
  unfolding remind pick
  remind_gathering h = grind (arith, nat_tests)

  pub remind_bound : (s.rows a.depot).standing ≡ 2
      → remind a s ≡ again a s kinds.List (less (names s.list) s.heard) s.list
  unfolding remind pick
  remind_bound h = grind (arith, nat_tests)

  pub remind_settled : (s.rows a.depot).standing ≡ 4 → remind a s ≡ again a s kinds.Settle s.owing []
  unfolding remind pick
  remind_settled h = grind (arith, nat_tests)

  pub remind_dropped : (s.rows a.depot).standing ≡ 5 → remind a s ≡ again a s kinds.Drop s.owing []
  unfolding remind pick
  remind_dropped h = grind (arith, nat_tests)
