-- Every effect leaves all rows as they were or moves one: the row in which the depot is engaged, or a new number where
-- it is engaged in none.
use Rattle.std.proofs.Common.{◌≡◌, ℕ, ◌<◌, ◌≤◌, ◌⊎◌, List, sym, refl, ap, ◌∙◌, inl, inr, arith}
use Rattle.entries.specs.declared.lists.Entry.{Entry}
use Rattle.entries.specs.Lists.{on}
use Rattle.protocol.specs.Law.{HasAccepted, Engages}
use Rattle.protocol.specs.Policy.{Policy}
use Rattle.protocol.specs.State.{State, upd}
use Rattle.protocol.proofs.InSets.{add_tells, of_mark, mark_self, in_pair, self_pair, head_pair}
use Rattle.protocol.proofs.Tests.{every_one, not_every}
use Rattle.protocol.proofs.History.{History, site_of}
use Rattle.protocol.proofs.History.{standing, number, Effect, StandingMove, RowMove, Safe}
use Rattle.protocol.proofs.History.Effect.{keep, issue, return, lay, want, hear, restart, lead, offer, gather, propose}
use Rattle.protocol.proofs.History.Effect.{accept, join, refuse, settle, drop}
use Rattle.protocol.proofs.History.StandingMove.{opens, binds, refuses, settles, drops}
use Rattle.protocol.proofs.History.RowMove.{still, moves}

module _ {N : ℕ} {w : History} {d : ℕ} (d<N : d < N) (g : Safe N w) where
  as_it_was : {s : State} → s.rows ≡ (w.at d).rows → s.list ≡ (w.at d).list → s.heard ≡ (w.at d).heard →
      s.shelf ≡ (w.at d).shelf → RowMove N w d s
  as_it_was e f h k = grind arith

  one_at : (L : ℕ) → Engages (standing w d L) → (M : ℕ) → Engages (standing w d M) →
      (M ≡ L) × (number w d M ≡ number w d L)
  one_at L e M f = grind arith

  -- the handover in the row of L, in which d is engaged, ends at k
  ends_in : (L k : ℕ) → Engages (standing w d L) → 3 ≤ k → {s : State} →
      s.rows ≡ upd (w.at d).rows L (record { number = number w d L; standing = k }) →
      StandingMove w d L (number w d L) (w.past d L (number w d L)) k → RowMove N w d s
  ends_in L k a l e t =
      moves L (number w d L) k (omega arith) e (g.small d L (omega arith)) (omega arith) (one_at L a) t
      (λ q. absurd (omega arith))

  -- itself and the leader have accepted what d is bound to
  pair_acc : (L : ℕ) → standing w d L ≡ 2 → (y : ℕ) → (y ≡ d) ⊎ (y ≡ L) → HasAccepted (w.past y L (number w d L))
  pair_acc L b y h = grind arith

  pub move_of : {P : Policy} {z : Type 0} {ℓ₀ : List Entry} {s : State} {i j : ℕ} →
      Effect N P w d z ℓ₀ s i j → RowMove N w d s
  move_of (keep b st) = as_it_was refl refl refl refl
  move_of (issue n f l) = grind arith
  move_of (return n f) = still refl (λ L e. absurd (f L (omega arith)))
  move_of (lay n) = as_it_was refl refl refl refl
  move_of (want n f) = as_it_was refl refl refl refl
  move_of (hear b L y st e a o) = grind (arith, add_tells)
  move_of {P} (restart L e b) = still refl (λ M c. let m = g.single d M L (omega arith) (omega arith) in
      let k = g.held d M c in (
        refl,
        (λ x q. pair_acc M c x (rw (← m) at (in_pair (site_of N P d) L x q))),
        record {
          me = k.me;
          mine = k.mine;
          self = self_pair (site_of N P d) L;
          head = rw m (head_pair (site_of N P d) L);
          waits = not_every _ _ _ (λ x q. elim (in_pair (site_of N P d) L x q) [
            | inl u ↦ rw u k.self
            | inr u ↦ rw (u, ← m) k.head
          ]) k.waits;
        },
      ))
  move_of (lead f o) = moves d _ 1 (omega arith) refl d<N (omega arith) (λ L e. absurd (f L e))
      (opens ((g.own d).later d _ (omega arith)) refl (inl refl)) (λ e. absurd (omega arith))
  move_of (offer b L n st l f u a) = moves L n 1 (omega arith) refl l (omega arith) (λ M e. absurd (f M e))
      (opens ((g.own d).later L n u) refl (inr a)) (λ e. absurd (omega arith))
  move_of (gather b e st h a) = as_it_was refl refl refl refl
  move_of (propose e₀ e f o) = moves d (number w d d) 2 (omega arith) refl d<N (omega arith)
      (one_at d (omega arith)) (binds ((g.own d).now d ∙ e) refl (inl refl))
      (λ _. (
        (g.own d).now d ∙ e,
        inl refl,
        (λ y q. inl (of_mark d y q)),
        record {
          me = f.me;
          mine = f.mine;
          self = mark_self d;
          head = mark_self d;
          waits = o;
        },
      ))
  move_of {P} (accept b L ℓ e₀ st e a q f o) = moves L (number w d L) 2 (omega arith) refl
      (g.small d L (omega arith)) (omega arith) (one_at L (omega arith)) (binds ((g.own d).now L ∙ e) refl (inr a))
      (λ _. (
        (g.own d).now L ∙ e,
        inr (a, q),
        in_pair (site_of N P d) L,
        record {
          me = f.me;
          mine = f.mine;
          self = self_pair (site_of N P d) L;
          head = head_pair (site_of N P d) L;
          waits = o;
        },
      ))
  move_of {P} (join b L ℓ e₀ st e a q f o) = ends_in L 4 (omega arith) (omega arith) refl
      (settles (let u = (g.own d).now L in
      omega arith) refl a (λ y h. elim (in_pair (site_of N P d) L y (every_one ℓ _ y o (ap (λ u. on u y) q ∙ h))) [
        | inl u ↦ inl u
        | inr u ↦ inr (rw u a)
      ]) (ap (λ u. on u d) (sym q) ∙ f.me))
  move_of (refuse b L st e) = ends_in L 3 (omega arith) (omega arith) refl (refuses ((g.own d).now L ∙ e) refl)
  move_of (settle b L st e a) = ends_in L 4 (omega arith) (omega arith) refl
      (settles (let u = (g.own d).now L in omega arith) refl (pair_acc L e L (inr refl)) (λ y h. inr (a y h))
      (ap (λ u. on u d) (sym (g.list d L e)) ∙ (g.held d L e).me))
  move_of (drop b L y st e a h) = ends_in L 5 (omega arith) (omega arith) refl
      (drops ((g.own d).now L ∙ e) refl (pair_acc L e L (inr refl)) y a h)
