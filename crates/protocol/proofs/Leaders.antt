-- What leaders know of the others, over a call: who is gathered has offered, and a leader leads again only when every
-- depot on its last list has ended.
use Rattle.std.proofs.Common.{◌≡◌, ℕ, ◌<◌, ◌≤◌, Bool, true, false, cond, ◌||◌, eqb, ltb, ◌⊎◌, List, [], ◌∷◌, sym, refl, ap, ◌∙◌, subst, inl, inr, arith}
use mathlib.Core.Logic.{⊎_map}
use mathlib.Core.Option.{Option, none}
use Rattle.std.proofs.lemmas.Bool.Decides.{nat_tests}
use Rattle.std.proofs.lemmas.Bool.{cases_eq, false≢true}
use Rattle.entries.specs.declared.lists.Entry.{Entry}
use Rattle.letters.specs.Contents.{Contents}
use Rattle.entries.specs.Sets.{has}
use Rattle.entries.specs.Lists.{on, insert}
use Rattle.protocol.specs.Law.{HasAccepted}
use Rattle.protocol.specs.Policy.{Policy}
use Rattle.protocol.specs.State.{upd, State, others}
use Rattle.entries.proofs.Membership.{has_less, has_names}
use Rattle.protocol.proofs.InSets.{has_none, mark_tells}
use Rattle.protocol.proofs.Tests.{upd_tells}
use Rattle.protocol.proofs.Sums.{rising_on, rising_of}
use Rattle.protocol.proofs.History.{History, next, site_of}
use Rattle.protocol.proofs.History.{standing, number, Strikes, Effect, RowMove, Safe, LeadersKnow, OwnRowMove}
use Rattle.protocol.proofs.History.Effect.{keep, issue, return, lay, want, hear, restart, lead, offer, gather, propose}
use Rattle.protocol.proofs.History.Effect.{accept, join, refuse, settle, drop}
use Rattle.protocol.proofs.History.RowMove.{still, moves}
use Rattle.protocol.proofs.History.OwnRowMove.{keeps, leads, proposes}
use Rattle.protocol.proofs.RowMoves.{move_of}
use Rattle.protocol.proofs.SafeNext.{case, grows, le_on, lists_kept, now_d}

-- the others on a list
pub on_others : (N : ℕ) (P : Policy) (d : ℕ) (ℓ : List Entry) (y : ℕ) → on ℓ y ≡ true → (y ≡ d → ⊥) →
    has (others (site_of N P d) ℓ) y ≡ true
on_others N P d ℓ y h n = grind (arith, has_less, has_names, mark_tells)

on_insert : (e : Entry) (ℓ : List Entry) (y : ℕ) → on (insert e ℓ) y ≡ true → (e.depot ≡ y) ⊎ (on ℓ y ≡ true)
unfolding on insert
on_insert e [] y h = grind (arith, mark_tells)
on_insert e (a ∷ ℓ) y h = go (ltb e.depot a.depot) (on_insert e ℓ y) h
  where
    go : (b : Bool) → (on (insert e ℓ) y ≡ true → (e.depot ≡ y) ⊎ (on ℓ y ≡ true)) →
        on (cond b (e ∷ (a ∷ ℓ)) (a ∷ insert e ℓ)) y ≡ true → (e.depot ≡ y) ⊎ ((eqb a.depot y || on ℓ y) ≡ true)
    go true f k = grind (arith, mark_tells)
    go false f k = grind (arith, upd_tells, mark_tells)

on_one : (e : Entry) (y : ℕ) → on (e ∷ []) y ≡ true → y ≡ e.depot
unfolding on
on_one e y h = grind arith

on_none : (y : ℕ) → on [] y ≡ true → ⊥
unfolding on
on_none y h = false≢true h

module _ {N : ℕ} {w : History} {d : ℕ} (d<N : d < N) (g : Safe N w)
    (l : LeadersKnow N w) where
  kept : {s : State} → s.rows d ≡ (w.at d).rows d → s.gathered ≡ (w.at d).gathered →
      Strikes w d s.owing → OwnRowMove N w d s
  kept e f st = grind arith

  -- a row is set that was offered or bound, and nothing is gathered any more
  sets : {s : State} (M k : ℕ) → s.rows ≡ upd (w.at d).rows M (record { number = number w d M; standing = k }) →
      (M ≡ d → HasAccepted k → HasAccepted (standing w d d)) → s.gathered ≡ [] → Strikes w d s.owing →
      OwnRowMove N w d s
  sets M k e f h st =
      let r = ap (λ u. u d) e in
      elim (upd_tells (w.at d).rows M (record { number = number w d M; standing = k }) d) [
        | inl q ↦ keeps (ap (λ u. u.number) (r ∙ q.1) ∙ ap (number w d) (sym q.0))
            (λ a. f (sym q.0) (rw (ap (λ u. u.standing) (r ∙ q.1)) at a))
            (λ _ y k. absurd (on_none y (sym (ap (λ u. on u y) h) ∙ k))) st
        | inr q ↦ keeps (ap (λ u. u.number) (r ∙ q.1)) (λ a. rw (← (ap (λ u. u.standing) (r ∙ q.1))) a)
            (λ _ y k. absurd (on_none y (sym (ap (λ u. on u y) h) ∙ k))) st
      ]

  own_row_move : {P : Policy} {z : Type 0} {ℓ₀ : List Entry} {s : State} {i j : ℕ} →
      Effect N P w d z ℓ₀ s i j → OwnRowMove N w d s
  own_row_move (keep b st) = kept refl refl st
  own_row_move (issue n f u) = kept refl refl (λ y h. inl h)
  own_row_move (return n f) = kept refl refl (λ y h. inl h)
  own_row_move (lay n) = kept refl refl (λ y h. inl h)
  own_row_move (want n f) = kept refl refl (λ y h. inl h)
  own_row_move (hear b L y st e a u) = kept refl refl st
  own_row_move (restart L e b) = kept refl refl (λ y h. inl h)
  own_row_move (lead f u) = leads (grind (arith, upd_tells)) (grind (arith, upd_tells)) (on_one _) (f d) u
  own_row_move (offer b L n st lt f u a) = grind (arith, upd_tells)
  own_row_move (gather b e st h a) =
      keeps refl (λ a. a) (λ k y f. elim (on_insert e _ y f) [
        | inl q ↦ rw q at a
        | inr q ↦ l.gathered d y h q
      ]) st
  own_row_move {P} (propose e₀ e f u) = proposes (grind (arith, upd_tells)) (grind (arith, upd_tells)) e
      (λ y k. (
        l.gathered d y e k,
        (rising_on N 0 _ y (rising_of N 0 _ f.listed.rises f.low) k).1,
        elim
            (cases_eq y d) [ inl q ↦ inl q | inr q ↦ inr (on_others N P d _ y k q) ],
      ))
  own_row_move (accept b L ℓ e₀ st e a q f u) = grind (arith, upd_tells, mark_tells)
  own_row_move (join b L ℓ e₀ st e a q f u) = grind (arith, nat_tests, upd_tells, mark_tells)
  own_row_move (refuse b L st e) = grind (arith, nat_tests, upd_tells, mark_tells)
  own_row_move (settle b L st e a) = sets L 4 refl (λ q _. let r = ap (standing w d) q in omega arith) refl st
  own_row_move (drop b L y st e a h) = sets L 5 refl (λ q _. let r = ap (standing w d) q in omega arith) refl st

  module _ {P : Policy} {z : Type 0} {ℓ₀ : List Entry} {s : State} {i j : ℕ} (does : Effect N P w d z ℓ₀ s i j) where
    abbrev w' : History
    w' = next w d s none

    mv : RowMove N w d s
    mv = move_of d<N g does

    at_least : (x L n k : ℕ) → k ≤ w.past x L n → k ≤ w'.past x L n
    at_least x L n k h = let q = le_on _ _ (grows g mv x L n) in omega arith

    listed : (L n : ℕ) → HasAccepted (w.past L L n) → w'.lists L n ≡ w.lists L n
    listed = lists_kept g mv

    rowed_d : (L : ℕ) → ((s.rows L).number ≡ 0) ⊎ (1 ≤ (s.rows L).standing)
    rowed_d L = elim mv [
      | still e f ↦ rw (ap (λ u. u L) e) (l.rowed d L)
      | moves M m k pos e lt up only t f ↦
          rw (ap (λ u. u L) e) (elim (upd_tells (w.at d).rows M (record { number = m; standing = k }) L)
          [ inl q ↦ rw q.1 (inr pos) | inr q ↦ rw q.1 (l.rowed d L) ])
    ]

    gathered_d : (y : ℕ) → (s.rows d).standing ≡ 1 → on s.gathered y ≡ true → 1 ≤ w'.past y d (s.rows d).number
    gathered_d y h k = grind (arith, own_row_move)

    -- of a list that stood before the call
    old_offered : (L n y : ℕ) → HasAccepted (w.past L L n) → on (w'.lists L n) y ≡ true →
        (1 ≤ w'.past y L n) × (y < N)
    old_offered L n y a k = let (b, c) = l.offered L n y a (sym (ap (λ u. on u y) (listed L n a)) ∙ k) in
        (at_least y L n 1 b, c)

    old_over : (L n y : ℕ) → HasAccepted (w.past L L n) → n < number w L L → on (w'.lists L n) y
        ≡ true → 3 ≤ w'.past y L n
    old_over L n y a b k = at_least y L n 3 (l.over L n y a b (sym (ap (λ u. on u y) (listed L n a)) ∙ k))

    offered_d : (n y : ℕ) → HasAccepted (w'.past d d n) → on (w'.lists d n) y ≡ true → (1 ≤ w'.past y d n) × (y < N)
    offered_d n y a k = elim (cases_eq n (s.rows d).number) [
      | inl q ↦ go q (own_row_move does)
      | inr q ↦ grind (arith, mark_tells)
    ]
      where
        go : n ≡ (s.rows d).number → OwnRowMove N w d s → (1 ≤ w'.past y d n) × (y < N)
        go q (keeps e f c st) = old_offered d n y
            (subst HasAccepted (sym ((g.own d).now d) ∙ ap (w.past d d) (sym (q ∙ e)))
            (f (rw (ap (w'.past d d) q ∙ now_d g mv d) at a))) k
        go q (leads e f c n u) = grind (arith, mark_tells)
        go q (proposes e f c h) = grind (arith, upd_tells, mark_tells)

    owing_d : (y : ℕ) → HasAccepted (s.rows d).standing → on (w'.lists d (s.rows d).number) y ≡ true →
        (y ≡ d) ⊎ ((has s.owing y ≡ true) ⊎ (3 ≤ w'.past y d (s.rows d).number))
    owing_d y a k = grind (arith, listed, own_row_move, upd_tells)

    over_d : (n y : ℕ) → HasAccepted (w'.past d d n) → n < (s.rows d).number → on (w'.lists d n) y
        ≡ true → 3 ≤ w'.past y d n
    over_d n y a b k = grind (arith, nat_tests, has_none, mark_tells, old_over, own_row_move, upd_tells)

    pub leaders_next : (o : Option Contents) → LeadersKnow N (next w d s o)
    leaders_next o =
        record {
          rowed = λ x L. case' x (λ _ z _. ((z.rows L).number ≡ 0) ⊎ (1 ≤ (z.rows L).standing))
              (rowed_d L) (λ _. l.rowed x L);
          gathered = λ x y. case' x (λ x z _. (z.rows x).standing ≡ 1 → on z.gathered y ≡ true →
              1 ≤ w'.past y x (z.rows x).number) (gathered_d y) (λ _ b k. at_least y x _ 1 (l.gathered x y b k));
          offered = λ L n y. case' L (λ x _ q. HasAccepted (q x n) → on (w'.lists x n) y ≡ true → (1 ≤ w'.past y x n)
              × (y < N)) (offered_d n y) (λ _. old_offered L n y);
          owing = λ L y. case' L (λ x z q. HasAccepted (z.rows x).standing → on (w'.lists x (z.rows x).number) y
              ≡ true → (y ≡ x) ⊎ ((has z.owing y ≡ true) ⊎ (3 ≤ w'.past y x (z.rows x).number))) (owing_d y)
              (λ _ a k. ⊎_map (λ u. u) (⊎_map (λ u. u) (at_least y L _ 3))
              (l.owing L y a (sym (ap (λ u. on u y) (listed L _ (rw ((g.own L).now L) a))) ∙ k)));
          over = λ L n y. case' L (λ x z q. HasAccepted (q x n) → n < (z.rows x).number → on (w'.lists x n) y ≡ true →
              3 ≤ w'.past y x n) (over_d n y) (λ _. old_over L n y);
        }
      where
        case' : (x : ℕ) (Q : ℕ → State → (ℕ → ℕ → ℕ) → Type 0) → Q d s (w'.past d) →
            ((x ≡ d → ⊥) → Q x (w.at x) (w.past x)) → Q x (w'.at x) (w'.past x)
        case' = case g mv
