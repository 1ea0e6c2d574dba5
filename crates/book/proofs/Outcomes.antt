-- What the own calls come to, from the tests that the code made.
use Rattle.std.proofs.Common.{◌≡◌, ℕ, ◌≤◌, true, false, eqb, [], subst, arith}
use mathlib.Core.Option.{none}
use Rattle.std.proofs.lemmas.Bool.Decides.{nat_tests}
use Rattle.entries.specs.Sets.{mark}
use Rattle.letters.specs.Reading.{handover}
use Rattle.letters.specs.declared.letter.Kind.TheVariants as kinds
use Rattle.policies.specs.Shares.{level}
use Rattle.policies.specs.Dealt.{level_lawful}
use Rattle.protocol.specs.Policy.{Policy}
use Rattle.protocol.specs.Listing.{elsewhere}
use Rattle.protocol.specs.Law.{Law}
use Rattle.protocol.specs.Keeping.{Keeps}
use Rattle.protocol.specs.State.{pick, Site, State, engaged, leader, pair, rest, others, ended, hears}
use Rattle.protocol.specs.Outcome.{Outcome, refuses, serves, mail}
use Rattle.protocol.specs.Own.{led, lead, proposed, propose, withdraw_in, withdraw, query_in, query, restart_in, restart}
use Rattle.protocol.proofs.LawKept.{law_kept}

pub leads : (a : Site) (s : State) → engaged a s ≡ false → eqb s.owing 0 ≡ true → (s.wish ≡ 0 → ⊥)
    → s.shelf ≤ 1000000000 → ((s.rows a.depot).number ≡ 4294967295 → ⊥)
    → lead a s ≡ serves (led a s) (mail a (led a s) kinds.Ask (rest a) a.depot [])
unfolding lead pick
leads a s free nobody wish shelf last = grind (arith, nat_tests)

-- Withdraw and Restart in the row that the search found
module _ (a : Site) (s : State) (l : ℕ) (at : l ≡ leader a s) where
  found : (call : ℕ → Outcome) (o : Outcome) → call l ≡ o → call (leader a s) ≡ o
  found call o q = subst (λ x. call x ≡ o) at q

  pub withdraw_refuses : ((s.rows l).standing ≡ 1 → ⊥) → withdraw a s ≡ refuses (handover 19)
  unfolding withdraw_in pick
  withdraw_refuses h = found (withdraw_in a s) _ (grind (arith, nat_tests))

  pub withdraw_leading : (s.rows l).standing ≡ 1 → l ≡ a.depot
      → withdraw a s ≡ serves (ended l 3 s) (mail a (ended l 3 s) kinds.Drop (rest a) l [])
  unfolding withdraw_in pick
  withdraw_leading h d = found (withdraw_in a s) _ (grind (arith, nat_tests))

  pub withdraw_following : (s.rows l).standing ≡ 1 → (l ≡ a.depot → ⊥)
      → withdraw a s ≡ serves (ended l 3 s) (mail a (ended l 3 s) kinds.No (mark l) l [])
  unfolding withdraw_in pick
  withdraw_following h d = found (withdraw_in a s) _ (grind (arith, nat_tests))

  pub query_refuses : ((s.rows l).standing ≡ 2 → ⊥) → query a s ≡ refuses (handover 20)
  unfolding query_in pick
  query_refuses h = found (query_in a s) _ (grind (arith, nat_tests))

  pub query_bound : (s.rows l).standing ≡ 2 → query a s ≡ serves s (mail a s kinds.Query (others a s.list) l [])
  unfolding query_in pick
  query_bound h = found (query_in a s) _ (grind (arith, nat_tests))

  pub restart_bound : ((s.rows a.depot).standing ≡ 1 → ⊥) → (s.rows l).standing ≡ 2
      → restart a s ≡ serves (hears (pair a l) s) none
  unfolding restart_in pick
  restart_bound n k = found (restart_in a s) _ (grind (arith, nat_tests))

  pub restart_free : ((s.rows a.depot).standing ≡ 1 → ⊥) → ((s.rows l).standing ≡ 2 → ⊥)
      → restart a s ≡ serves s none
  unfolding restart_in pick
  restart_free n k = found (restart_in a s) _ (grind (arith, nat_tests))

pub restart_gathering : (a : Site) (s : State) → (s.rows a.depot).standing ≡ 1
    → restart a s ≡ serves (ended a.depot 3 s) none
unfolding restart_in pick
restart_gathering a s h = grind (arith, nat_tests)

-- any policy under the record's own code proposes alike
abbrev pub under : Site → Policy
under a = record { code = a.code; share = level }

pub under_kept : (a : Site) (s : State) (law : Law a s) → Keeps a s (propose (under a) a s)
under_kept a s law =
    (law_kept.calls (under a)
    (record { coded = (law.site.code_low, law.site.code_high); shares = level_lawful }) a s law).propose

pub proposes : (P : Policy) (a : Site) (s : State) → P.code ≡ a.code → (s.rows a.depot).standing ≡ 1
    → s.wish ≤ elsewhere a.depot s.gathered
    → propose P a s
    ≡ serves (proposed a s) (mail a (proposed a s) kinds.List (others a s.gathered) a.depot s.gathered)
unfolding propose pick
proposes P a s c h w = grind (arith, nat_tests)
