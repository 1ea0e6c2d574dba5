-- How often a depot has accepted, settled and dropped, by the calls of a series, is what its last standing says: a row
-- moves to such a standing once, and never from it.
use Rattle.std.proofs.Common.{◌≡◌, ℕ, ◌+◌, ◌<◌, ◌≤◌, Bool, true, false, cond, ◌&&◌, ◌||◌, eqb, ◌⊎◌, List, [], ◌∷◌, sym, refl, ap, ◌∙◌, ap₂, inl, inr, arith}
use mathlib.Core.Option.{none}
use Rattle.std.proofs.lemmas.Bool.Decides.{nat_tests}
use Rattle.std.proofs.lemmas.Bool.{eqb-true, and_parts, or_cases, cases_eq, cases_Bool, cond-true, cond-false}
use Rattle.entries.specs.declared.lists.Entry.{Entry}
use Rattle.protocol.specs.Calls.{once, accepts, ends_at}
use Rattle.protocol.specs.Law.{HasAccepted, Engages}
use Rattle.protocol.specs.Policy.{Policy}
use Rattle.protocol.specs.State.{upd, pick, State, engages}
use Rattle.protocol.proofs.Tests.{upd_tells, by}
use Rattle.protocol.proofs.History.{History, next}
use Rattle.protocol.proofs.History.{standing, number, Effect, StandingMove, RowMove, Safe}
use Rattle.protocol.proofs.History.Effect.{keep, issue, return, lay, want, hear, restart, lead, offer, gather, propose}
use Rattle.protocol.proofs.History.Effect.{accept, join, refuse, settle, drop}
use Rattle.protocol.proofs.History.StandingMove.{same, opens, binds, refuses, settles, drops}
use Rattle.protocol.proofs.RowMoves.{move_of}
use Rattle.protocol.proofs.SafeNext.{turn, now_d, engaged, lists_kept, list_d}
use Rattle.protocol.proofs.History.{has_accepted, acc_true, true_acc}

same_once : (b c : Bool) → once b ≡ once c → b ≡ c
same_once true true e = refl
same_once true false e = absurd (omega arith)
same_once false true e = absurd (omega arith)
same_once false false e = refl

not_yet : (k : ℕ) → k ≡ 1 → has_accepted k ≡ false
unfolding has_accepted
not_yet k e = grind arith

-- the tests of a call for the row of L, and the standings before and after: k and j are the same while the row is
-- engaged
module _ (c : ℕ) (w : History) (d L n k k' j j' : ℕ) (f : k' ≡ j')
    (h : (k ≡ j) ⊎ ((Engages j → ⊥) × (Engages k → ⊥))) where
  accepts_row : c ≡ once (has_accepted k) → StandingMove w d L n k k' →
      c + once (eqb j 1 && (eqb j' 2 || eqb j' 4)) ≡ once (has_accepted k')
  unfolding has_accepted
  accepts_row e (same q) = grind arith
  accepts_row e (opens p q _) = grind arith
  accepts_row e (binds p q _) = grind arith
  accepts_row e (refuses p q) = grind arith
  accepts_row e (settles p q _ _ _) = grind arith
  accepts_row e (drops p q _ _ _ _) = grind (arith, nat_tests)

  ends_row : (m : ℕ) → 4 ≤ m → c ≡ once (eqb k m) → StandingMove w d L n k k' →
      c + once ((eqb j 1 || eqb j 2) && eqb j' m) ≡ once (eqb k' m)
  ends_row m l e (same q) = grind arith
  ends_row m l e (opens p q _) = grind arith
  ends_row m l e (binds p q _) = grind arith
  ends_row m l e (refuses p q) = grind arith
  ends_row m l e (settles p q _ _ _) = grind arith
  ends_row m l e (drops p q _ _ _ _) = grind (arith, nat_tests)

module _ {N : ℕ} {P : Policy} {w : History} {d : ℕ} {z : Type 0} {ℓ₀ : List Entry} (d<N : d < N) (g : Safe N w)
    {s : State} {i j : ℕ} (does : Effect N P w d z ℓ₀ s i j) where
  abbrev w' : History
  w' = next w d s none

  mv : RowMove N w d s
  mv = move_of d<N g does

  -- the list that a call lays out, where it accepts one
  tray_empty : (L : ℕ) → standing w d L ≡ 1 → ((s.rows L).standing ≡ 2) ⊎ ((s.rows L).standing ≡ 4) →
      ℓ₀ ≡ w'.lists L (s.rows L).number
  tray_empty L e f = go s refl does
    where
      kept : (t : State) → s ≡ t → t.rows ≡ (w.at d).rows → ℓ₀ ≡ w'.lists L (s.rows L).number
      kept t q r = grind arith

      -- the row of M was set
      set : (t : State) (M m k : ℕ) → s ≡ t → t.rows ≡ upd (w.at d).rows M (record { number = m; standing = k }) →
          (L ≡ M) × ((s.rows L).standing ≡ k)
      set t M m k q r =
          let u : s.rows L ≡ upd (w.at d).rows M (record { number = m; standing = k }) L =
          ap (λ x. x.rows L) q ∙ ap (λ x. x L) r in
          elim (upd_tells (w.at d).rows M (record { number = m; standing = k }) L) [
            | inl v ↦ (v.0, ap (λ x. x.standing) (u ∙ v.1))
            | inr v ↦ grind arith
          ]

      number_set : (t : State) (M m k : ℕ) → s ≡ t → t.rows ≡ upd (w.at d).rows M
          (record { number = m; standing = k }) → (s.rows M).number ≡ m
      number_set t M m k q r = ap (λ x. (x.rows M).number) q ∙ (ap (λ x. (x M).number) r ∙ (grind (arith, upd_tells)))

      not_3 : (k : ℕ) → (s.rows L).standing ≡ k → (k ≡ 2 → ⊥) → (k ≡ 4 → ⊥) → ⊥
      not_3 k q a b = elim f [ inl v ↦ a (sym q ∙ v) | inr v ↦ b (sym q ∙ v) ]

      go : (t : State) {i j : ℕ} → s ≡ t → Effect N P w d z ℓ₀ t i j → ℓ₀ ≡ w'.lists L (s.rows L).number
      go t q (keep b st) = kept t q refl
      go t q (issue n f l) = kept t q refl
      go t q (return n f) = kept t q refl
      go t q (lay n) = kept t q refl
      go t q (want n f) = kept t q refl
      go t q (hear b M y st e a u) = kept t q refl
      go t q (restart M e b) = kept t q refl
      go t q (gather b x st h a) = kept t q refl
      go t q (lead f u) = absurd (f L (omega arith))
      go t q (offer b M n st l f u a) = absurd (f L (omega arith))
      go t q (propose e₀ h f u) = let (_, k) = set t d _ 2 q refl in
          e₀ ∙ (ap (λ x. x.list) (sym q) ∙ list_d g mv L k)
      go t q (accept b M ℓ e₀ st h a r f u) = let (_, k) = set t M _ 2 q refl in
          e₀ ∙ (ap (λ x. x.list) (sym q) ∙ list_d g mv L k)
      go t q (join b M ℓ e₀ st h a r f u) = let (x, k) = set t M _ 4 q refl in let n = number_set t M _ 4 q refl in
          e₀
          ∙ (r ∙ (sym (lists_kept g mv M (number w d M) a)
          ∙ (ap (w'.lists M) (sym n) ∙ ap (λ y. w'.lists y (s.rows y).number) (sym x))))
      go t q (refuse b M st h) = absurd (not_3 3 (set t M _ 3 q refl).1 (omega arith) (omega arith))
      go t q (settle b M st h a) = absurd (let (x, _) = set t M _ 4 q refl in
          let y = ap (standing w d) x in omega arith)
      go t q (drop b M y st h a r) = absurd (not_3 5 (set t M _ 5 q refl).1 (omega arith) (omega arith))

  was : (L n : ℕ) → n ≡ (s.rows L).number → (w.past d L n ≡ standing w d L)
      ⊎ ((Engages (standing w d L) → ⊥) × (Engages (w.past d L n) → ⊥))
  was L n e = elim (cases_eq (number w d L) n) [
    | inl u ↦ grind arith
    | inr u ↦ inr ((λ b. u (sym (engaged g mv L b) ∙ sym e)), λ b. u ((g.own d).live L n b))
  ]

  now_at : (L n : ℕ) → n ≡ (s.rows L).number → w'.past d L n ≡ (s.rows L).standing
  now_at L n e = ap (w'.past d L) e ∙ now_d g mv L

  -- an event that is tested at d's row, counted, for a test of last standings
  module _ (T : ℕ → Bool) (t : ℕ → ℕ → Bool) (E : ℕ → ℕ → ℕ → ℕ) (ih : (x L n : ℕ) → E x L n ≡ once (T (w.past x L n)))
      (row : (L n : ℕ) → n ≡ (s.rows L).number → E d L n + once (t (standing w d L) (s.rows L).standing)
      ≡ once (T (w'.past d L n))) where
    count_next : (x L n : ℕ) →
        E x L n + once (eqb x d && (eqb n (s.rows L).number && t (standing w d L) (s.rows L).standing))
        ≡ once (T (w'.past x L n))
    count_next x L n = grind (arith, nat_tests)

  -- how often the handover was ended at m
  pub ended_next : (m : ℕ) → 4 ≤ m → (E : ℕ → ℕ → ℕ → ℕ) → ((x L n : ℕ) → E x L n ≡ once (eqb (w.past x L n) m)) →
      (x L n : ℕ) →
      E x L n + once (eqb x d && (eqb n (s.rows L).number && ends_at m ((w.at d).rows L) (s.rows L)))
      ≡ once (eqb (w'.past x L n) m)
  unfolding ends_at engages
  ended_next m l E ih =
      count_next (λ k. eqb k m) (λ j j'. (eqb j 1 || eqb j 2) && eqb j' m) E ih
      (λ L n e. ends_row (E d L n) w d L n (w.past d L n) (w'.past d L n) (standing w d L) (s.rows L).standing
      (now_at L n e) (was L n e) m l (ih d L n) (turn g mv L n))

  -- the list that was accepted goes with its handover
  abbrev list_if : (ℕ → ℕ → List Entry) → ℕ → ℕ → Bool → List (List Entry)
  list_if lists L n b = cond b (lists L n ∷ []) []

  same_list : (x L n : ℕ) → list_if w'.lists L n (has_accepted (w.past x L n)) ≡ list_if w.lists L n
      (has_accepted (w.past x L n))
  same_list x L n =
      elim (cases_Bool (has_accepted (w.past x L n))) [
        | inl q ↦ ap (λ u. cond (has_accepted (w.past x L n)) (u ∷ []) [])
            (lists_kept g mv L n (g.led x L n (acc_true _ q)))
        | inr q ↦ grind arith
      ]

  pub accepted_next : (A : ℕ → ℕ → ℕ → List (List Entry)) →
      ((x L n : ℕ) → A x L n ≡ list_if w.lists L n (has_accepted (w.past x L n))) → (x L n : ℕ) →
      pick (eqb x d && (eqb n (s.rows L).number && accepts ((w.at d).rows L) (s.rows L))) (ℓ₀ ∷ A x L n) (A x L n)
      ≡ list_if w'.lists L n (has_accepted (w'.past x L n))
  unfolding accepts
  accepted_next A ih x L n =
      by (λ u. u ≡ list_if w'.lists L n (has_accepted (w'.past x L n)))
      (λ e. let (a, b) = and_parts (eqb x d)
      (eqb n (s.rows L).number && (eqb (standing w d L) 1 &&
      (eqb (s.rows L).standing 2 || eqb (s.rows L).standing 4))) e in
      let (c, f) = and_parts (eqb n (s.rows L).number)
      (eqb (standing w d L) 1 && (eqb (s.rows L).standing 2 || eqb (s.rows L).standing 4)) b in
      let (h, k) = and_parts (eqb (standing w d L) 1) (eqb (s.rows L).standing 2 || eqb (s.rows L).standing 4) f in
      taken (eqb-true x d a) (eqb-true n _ c) (eqb-true _ 1 h)
      (elim (or_cases _ _ k) [ inl q ↦ inl (eqb-true _ 2 q) | inr q ↦ inr (eqb-true _ 4 q) ]))
      (λ e. ih x L n ∙ (sym (same_list x L n) ∙ ap (list_if w'.lists L n) (unmoved e)))
    where
      -- nothing was accepted before
      first : x ≡ d → n ≡ (s.rows L).number → standing w d L ≡ 1 → A x L n ≡ []
      first q e h =
          let k : w.past x L n ≡ 1 = ap (λ y. w.past y L n) q
          ∙ (elim (was L n e) [ inl u ↦ u ∙ h | inr u ↦ absurd (u.0 (omega arith)) ]) in
          ih x L n ∙ cond-false _ _ _ (not_yet _ k)

      taken : x ≡ d → n ≡ (s.rows L).number → standing w d L ≡ 1 → ((s.rows L).standing ≡ 2)
          ⊎ ((s.rows L).standing ≡ 4) →
          (ℓ₀ ∷ A x L n) ≡ list_if w'.lists L n (has_accepted (w'.past x L n))
      taken q e h f =
          let k : HasAccepted (w'.past x L n) = rw (ap (λ y. w'.past y L n) q ∙ now_at L n e)
          (elim f [ inl v ↦ omega arith | inr v ↦ omega arith ]) in
          ap₂ (λ u v. u ∷ v) (tray_empty L h f ∙ ap (w'.lists L) (sym e)) (first q e h)
          ∙ sym (cond-true _ _ _ (true_acc _ k))

      unmoved : (eqb x d && (eqb n (s.rows L).number &&
          (eqb (standing w d L) 1 && (eqb (s.rows L).standing 2 || eqb (s.rows L).standing 4)))) ≡ false →
          has_accepted (w.past x L n) ≡ has_accepted (w'.past x L n)
      unmoved e =
          let q = count_next has_accepted (λ j j'. eqb j 1 && (eqb j' 2 || eqb j' 4))
          (λ x L n. once (has_accepted (w.past x L n))) (λ _ _ _. refl)
          (λ L n e. accepts_row (once (has_accepted (w.past d L n))) w d L n (w.past d L n) (w'.past d L n)
          (standing w d L) (s.rows L).standing (now_at L n e) (was L n e) refl
          (turn g mv L n)) x L n in
          let r = ap once e in
          same_once _ _ (omega arith)
