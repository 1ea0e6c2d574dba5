-- The pieces due, over a call: each effect changes only the due of its depot, by what is issued and returned, but the
-- last acceptance of a list, where each listed depot's due goes from its shelf to its share.
use Rattle.std.proofs.Common.{◌≡◌, ℕ, ◌+◌, ◌<◌, true, false, cond, ◌⊎◌, List, sym, refl, ap, ◌∙◌, subst, ap₂, inl, inr, arith}
use mathlib.Core.Option.{none}
use Rattle.std.proofs.lemmas.Bool.{cases_Bool, cases_eq, both_ways}
use Rattle.entries.specs.declared.lists.Entry.{Entry}
use Rattle.entries.specs.Lists.{on, entry_of}
use Rattle.protocol.specs.Law.{HasAccepted, Engages}
use Rattle.protocol.specs.Listing.{every}
use Rattle.protocol.specs.Opening.{sum_to}
use Rattle.protocol.specs.Policy.{Policy, LawfulPolicy}
use Rattle.protocol.specs.State.{upd, State}
use Rattle.policies.specs.Shares.{share_of}
use Rattle.protocol.proofs.Tests.{upd_tells, every_one, all_every}
use Rattle.protocol.proofs.Sums.{rising_of, sum_one, sum_both, sum_on, total_shelves, total_besides}
use Rattle.protocol.proofs.History.{site_of, has_accepted, acc_true, true_acc}
use Rattle.protocol.proofs.History.{History, next}
use Rattle.protocol.proofs.History.{standing, number, Idle, BindingList, Effect, Safe}
use Rattle.protocol.proofs.History.Effect.{keep, issue, return, lay, want, hear, restart, lead, offer, gather, propose}
use Rattle.protocol.proofs.History.Effect.{accept, join, refuse, settle, drop}
use Rattle.protocol.proofs.InSets.{in_pair}
use Rattle.protocol.proofs.RowMoves.{move_of}
use Rattle.protocol.proofs.SafeNext.{accs, low}
use Rattle.protocol.proofs.Firm.{firmly, due_of, due, Firm, Low, due_yes, due_no, due_same}

module _ {N : ℕ} {w : History} {d : ℕ} (d<N : d < N) (g : Safe N w) {P : Policy} (lawful : LawfulPolicy P) where
  abbrev p : ℕ → ℕ → ℕ → ℕ
  p = w.past

  -- d is not bound to a list that stands
  loose : (M : ℕ) → standing w d M ≡ 1 → Firm p (w.at d) → ⊥
  loose M e (L, a, b) = grind arith

  loose_free : Idle w d → Firm p (w.at d) → ⊥
  loose_free f (L, a, b) = f L (omega arith)

  alone : (M : ℕ) → Engages (standing w d M) → (L : ℕ) → standing w d L ≡ 2 → L ≡ M
  alone M e L a = g.single d L M (omega arith) e

  module _ (s : State) where
    abbrev p' : ℕ → ℕ → ℕ → ℕ
    p' = (next w d s none).past

    -- nobody has accepted anew
    abbrev NoNew : Type 0
    NoNew = (x L n : ℕ) → HasAccepted (p' x L n) → HasAccepted (p x L n)

    same_past : s.rows ≡ (w.at d).rows → (x L n : ℕ) → p' x L n ≡ p x L n
    same_past e x L n = grind arith

    same_new : s.rows ≡ (w.at d).rows → NoNew
    same_new e x L n a = rw (same_past e x L n) at a

    -- one point of the past moves
    point : (M m k : ℕ) → s.rows ≡ upd (w.at d).rows M (record { number = m; standing = k }) → (x L n : ℕ) →
        ((x ≡ d) × (L ≡ M) × (n ≡ m) × (p' x L n ≡ k)) ⊎ (p' x L n ≡ p x L n)
    point M m k e x L n = let r = ap (λ u. u L) e in grind (arith, upd_tells)

    set_new : (M m k : ℕ) → s.rows ≡ upd (w.at d).rows M (record { number = m; standing = k }) →
        (HasAccepted k → HasAccepted (p d M m)) → NoNew
    set_new M m k e f x L n a = elim (point M m k e x L n)
        [ inl (b, c, h, q) ↦ rw (b, c, h) (f (rw q at a)) | inr q ↦ rw q at a ]

    loose_after : (M m k : ℕ) → s.rows ≡ upd (w.at d).rows M (record { number = m; standing = k }) → (k ≡ 2 → ⊥) →
        ((L : ℕ) → standing w d L ≡ 2 → L ≡ M) → Firm p' s → ⊥
    loose_after M m k e n f (L, a, b) = let r = ap (λ u. u L) e in
        elim (upd_tells (w.at d).rows M (record { number = m; standing = k }) L) [
          | inl u ↦ n (cc)
          | inr u ↦ u.0 (f L (cc))
        ]

    -- rows and list as they were
    firm_kept : s.rows ≡ (w.at d).rows → s.list ≡ (w.at d).list → firmly N p' s.rows s.list
        ≡ firmly N p (w.at d).rows (w.at d).list
    firm_kept e f = grind arith

    data DueMove (i j : ℕ) : Type 0 where
      calm : NoNew → due_of N P p' s d + i ≡ due_of N P p (w.at d) d + j → DueMove i j
      firms : (M k : ℕ) (ℓ : List Entry) → s.rows ≡ upd (w.at d).rows M
          (record { number = number w d M; standing = k }) → HasAccepted k → standing w d M ≡ 1 →
          BindingList N d (w.at d).shelf ℓ → on ℓ d ≡ true → (entry_of ℓ d).shelf ≡ (w.at d).shelf →
          (M ≡ d) ⊎ (HasAccepted (p M M (number w d M)) × (ℓ ≡ w.lists M (number w d M))) → i ≡ 0 → j ≡ 0 →
          (((y : ℕ) → on ℓ y ≡ true → HasAccepted (p' y M (number w d M))) → due_of N P p' s d ≡
          (w.at d).tray + share_of P.share ℓ d) → ((((y : ℕ) → on ℓ y ≡ true → HasAccepted (p' y M (number w d M))) → ⊥) → due_of N P p' s d
          ≡ (w.at d).tray + (w.at d).shelf) → DueMove i j

    at_point : (M m k : ℕ) → s.rows ≡ upd (w.at d).rows M (record { number = m; standing = k }) → p' d M m ≡ k
    at_point M m k e = let r = ap (λ u. u M) e in grind (arith, upd_tells)

  module _ {s : State} {i j : ℕ} where
    binds : (M : ℕ) (ℓ : List Entry) → s.rows ≡ upd (w.at d).rows M (record { number = number w d M; standing = 2 })
        → s.list ≡ ℓ → s.tray ≡ (w.at d).tray → s.shelf ≡ (w.at d).shelf → Low N s → standing w d M ≡ 1 →
        BindingList N d (w.at d).shelf ℓ → on ℓ d ≡ true → (entry_of ℓ d).shelf ≡ (w.at d).shelf →
        (M ≡ d) ⊎ (HasAccepted (p M M (number w d M)) × (ℓ ≡ w.lists M (number w d M))) → i ≡ 0 → j ≡ 0 → DueMove s i j
    binds M ℓ e l t h low b r x y c a' b' =
        firms M 2 ℓ e (omega arith) b r x y c a' b'
        (λ all. due_yes N P (p' s) s d low
        (M, row_s, λ y k. subst (λ n. HasAccepted (p' s y M n)) (sym row_n) (all y (sym (ap (λ u. on u y) l) ∙ k)))
        ∙ ap₂ (λ m u. m + share_of P.share u d) t l)
        (λ none. due_no N P (p' s) s d (λ (L, a, f). none
        (λ y k. rw (← row_n) (rw (bound_at L a) at (f y (ap (λ u. on u y) l ∙ k)))))
        ∙ ap₂ (λ m n. m + n) t h)
      where
        row_s : (s.rows M).standing ≡ 2
        row_s = let r = ap (λ u. u M) e in grind (arith, upd_tells)

        row_n : (s.rows M).number ≡ number w d M
        row_n = let r = ap (λ u. u M) e in grind (arith, upd_tells)

        bound_at : (L : ℕ) → (s.rows L).standing ≡ 2 → L ≡ M
        bound_at L a = elim (upd_tells (w.at d).rows M (record { number = number w d M; standing = 2 }) L) [
          | inl u ↦ u.0
          | inr u ↦ alone M (omega arith) L (cc)
        ]

    kept : s.rows ≡ (w.at d).rows → s.list ≡ (w.at d).list → s.shelf ≡ (w.at d).shelf →
        s.tray + i ≡ (w.at d).tray + j → DueMove s i j
    unfolding due_of
    kept e f h k = grind (arith, firm_kept)

    -- loose before and after
    idle : NoNew s → (Firm p (w.at d) → ⊥) → (Firm (p' s) s → ⊥) →
        s.tray + s.shelf + i ≡ (w.at d).tray + (w.at d).shelf + j → DueMove s i j
    idle n a b e = calm n (let q = due_no N P p (w.at d) d a in let r = due_no N P (p' s) s d b in omega arith)

    ends : (M m k : ℕ) → s.rows ≡ upd (w.at d).rows M (record { number = m; standing = k }) → (k ≡ 2 → ⊥) →
        (HasAccepted k → HasAccepted (p d M m)) → (Firm p (w.at d) → ⊥) → ((L : ℕ) → standing w d L ≡ 2 → L ≡ M) →
        s.tray + s.shelf + i ≡ (w.at d).tray + (w.at d).shelf + j → DueMove s i j
    ends M m k e n f a c h = idle (set_new s M m k e f) a (loose_after s M m k e n c) h

  module _ {z : Type 0} {ℓ₀ : List Entry} where
    low_of : {s : State} {i j : ℕ} → Effect N P w d z ℓ₀ s i j → Low N s
    low_of does = low g (move_of d<N g does)

    up : {s : State} {i j : ℕ} → Effect N P w d z ℓ₀ s i j → (x L n : ℕ) → HasAccepted (p x L n) →
        HasAccepted (p' s x L n)
    up does = accs g (move_of d<N g does)

    due_move : {s : State} {i j : ℕ} → Effect N P w d z ℓ₀ s i j → DueMove s i j
    due_move (keep b st) = kept refl refl refl refl
    due_move {s = s} (issue n f l) = idle (same_new s refl) (loose_free f)
        (λ (L, a, b). f L (omega arith)) (omega arith)
    due_move {s = s} (return n f) = idle (same_new s refl) (loose_free f)
        (λ (L, a, b). f L (omega arith)) (omega arith)
    due_move (lay n) = kept refl refl refl (omega arith)
    due_move (want n f) = kept refl refl refl refl
    due_move (hear b L y st e a u) = kept refl refl refl refl
    due_move (restart L e b) = kept refl refl refl refl
    due_move (lead f u) = ends d _ 1 refl (omega arith) (λ a. absurd (omega arith)) (loose_free f)
        (λ L a. absurd (f L (omega arith))) (omega arith)
    due_move (offer b L n st l f u a) = ends L n 1 refl (omega arith) (λ a. absurd (omega arith))
        (loose_free f) (λ M a. absurd (f M (omega arith))) (omega arith)
    due_move (gather b e st h a) = kept refl refl refl refl
    due_move (propose e₀ e f u) =
        (binds d (w.at d).gathered refl refl refl refl (low_of (propose e₀ e f u)) e f f.me
        f.mine (inl refl) refl refl)
    due_move (accept b L ℓ e₀ st e a q f u) =
        (binds L ℓ refl refl refl refl (low_of (accept b L ℓ e₀ st e a q f u)) e f f.me
        f.mine (inr (a, q)) refl refl)
    due_move {s = s} (join b L ℓ e₀ st e a q f u) = (
        firms L 4 ℓ refl (omega arith) e f f.me f.mine (inr (a, q)) refl refl
        (λ _. let v = due_no N P (p' s) s d
        (loose_after s L _ 4 refl (omega arith) (alone L (omega arith))) in omega arith)
        (λ n. absurd
        (n (λ y k. elim (in_pair (site_of N P d) L y (every_one ℓ _ y u k)) [
          | inl v ↦ rw v (let c = at_point s L _ 4 refl in omega arith)
          | inr v ↦ rw v (up (join b L ℓ e₀ st e a q f u) L L _ a)
        ]))))
    due_move (refuse b L st e) = ends L _ 3 refl (omega arith) (λ a. absurd (omega arith)) (loose L e)
        (alone L (omega arith)) (omega arith)
    due_move {s = s} (settle b L st e a) = calm (set_new s L _ 4 refl (λ _. let q = (g.own d).now L in omega arith))
        (let q = due_yes N P p (w.at d) d (g.small d) (L, e, λ y k. a y (sym (ap (λ ℓ. on ℓ y) (g.list d L e)) ∙ k)) in
        let r = due_no N P (p' s) s d (loose_after s L _ 4 refl (omega arith) (alone L (omega arith))) in
        omega arith)
    due_move (drop b L y st e a h) = ends L _ 5 refl (omega arith) (λ _. let q = (g.own d).now L in
        omega arith) (λ (M, x, f). let q = alone L (omega arith) M x in
        (rw q at (f y (ap (λ ℓ. on ℓ y) (g.list d L e) ∙ a))).1 h)
        (alone L (omega arith)) (omega arith)

  module _ {z : Type 0} {ℓ₀ : List Entry} {s : State} {i j : ℕ} (does : Effect N P w d z ℓ₀ s i j) where
    abbrev w' : History
    w' = next w d s none

    abbrev q : ℕ → ℕ → ℕ → ℕ
    q = p' s

    at_d_now : due N P w' d ≡ due_of N P q s d
    at_d_now = grind (arith, upd_tells)

    there : (x : ℕ) → (x ≡ d → ⊥) → due N P w' x ≡ due_of N P q (w.at x) x
    there x n = grind (arith, upd_tells)

    -- due to another as before
    unmoved : (x : ℕ) → (x ≡ d → ⊥) → (Firm q (w.at x) → Firm p (w.at x)) → due N P w' x ≡ due N P w x
    unmoved x n f = there x n ∙ due_same N P p q (w.at x) x (g.small x)
        (λ (L, a, b). (L, a, λ y k. up does y L _ (b y k))) f

    -- the sums, where only d's due has moved
    by_one : ((x : ℕ) → (x ≡ d → ⊥) → due N P w' x ≡ due N P w x) → due_of N P q s d + i ≡ due N P w d + j →
        sum_to N (due N P w') + i ≡ sum_to N (due N P w) + j
    by_one f e = let a = sum_one N d (due N P w') (due N P w) d<N f in let b = at_d_now in omega arith

    -- d accepts the list ℓ of the handover n of M
    module _ (M k : ℕ) (ℓ : List Entry)
        (e : s.rows ≡ upd (w.at d).rows M (record { number = number w d M; standing = k })) (b : standing w d M ≡ 1)
        (me : on ℓ d ≡ true) (mine : (entry_of ℓ d).shelf ≡ (w.at d).shelf)
        (c : (M ≡ d) ⊎ (HasAccepted (p M M (number w d M)) × (ℓ ≡ w.lists M (number w d M)))) where
      abbrev n : ℕ
      n = number w d M

      offered : p d M n ≡ 1
      offered = (g.own d).now M ∙ b

      -- bound to it before d
      bound_list : (x : ℕ) → standing w x M ≡ 2 → number w x M ≡ n → (w.at x).list ≡ ℓ
      bound_list x a f = grind arith

      -- a list that stands now stood before, but this one
      stood : (x : ℕ) → (standing w x M ≡ 2 → number w x M ≡ n → Firm q (w.at x) → ⊥) →
          Firm q (w.at x) → Firm p (w.at x)
      stood x refusal_kept (L, a, f) = grind (arith, point)

      module _ (all : (y : ℕ) → on ℓ y ≡ true → HasAccepted (q y M n)) where
        -- everybody else on it is bound to it
        joined : (x : ℕ) → (x ≡ d → ⊥) → on ℓ x ≡ true → (standing w x M ≡ 2) × (number w x M ≡ n)
        joined x x≢d h = grind arith

        -- each listed depot's due goes from its shelf to its share
        goes : (due_of N P q s d ≡ (w.at d).tray + share_of P.share ℓ d) → (x : ℕ) →
            due N P w' x + cond (on ℓ x) (entry_of ℓ x).shelf 0 ≡ due N P w x + cond (on ℓ x) (share_of P.share ℓ x) 0
        goes aye x = elim (cases_eq x d) [
          | inl u ↦ rw u at_d
          | inr u ↦ elim (cases_Bool (on ℓ x)) [ inl v ↦ on_it u v | inr v ↦ off_it u v ]
        ]
          where
            at_d : due N P w' d + cond (on ℓ d) (entry_of ℓ d).shelf 0 ≡ due N P w d + cond (on ℓ d)
                (share_of P.share ℓ d) 0
            at_d = rw me (let a = at_d_now in let f = due_no N P p (w.at d) d (loose M b) in omega arith)

            on_it : (x ≡ d → ⊥) → on ℓ x ≡ true → due N P w' x + cond (on ℓ x) (entry_of ℓ x).shelf 0
                ≡ due N P w x + cond (on ℓ x) (share_of P.share ℓ x) 0
            on_it u v =
                let (a, m) = joined x u v in
                let l = bound_list x a m in
                let before = due_no N P p (w.at x) x
                (λ (L, f, h). let r = g.single x L M (omega arith) (omega arith) in
                let t = rw m at (rw r at (h d (ap (λ u. on u d) l ∙ me))) in
                let y = offered in omega arith) in
                let after = there x u ∙ (due_yes N P q (w.at x) x (g.small x)
                (M, a, λ y h. rw m (all y (sym (ap (λ u. on u y) l) ∙ h)))
                ∙ ap (λ u. (w.at x).tray + share_of P.share u x) l) in
                let own : (entry_of ℓ x).shelf ≡ (w.at x).shelf = ap (λ u. (entry_of u x).shelf) (sym l)
                ∙ (g.held x M a).mine in
                rw v (omega arith)

            off_it : (x ≡ d → ⊥) → on ℓ x ≡ false → due N P w' x + cond (on ℓ x) (entry_of ℓ x).shelf 0
                ≡ due N P w x + cond (on ℓ x) (share_of P.share ℓ x) 0
            off_it u v =
                rw v
                (let a =
                unmoved x u
                (stood x (λ f m _. both_ways _ v (ap (λ u. on u x) (sym (bound_list x f m)) ∙ (g.held x M f).me))) in
                omega arith)

    pub balance : sum_to N (due N P w') + i ≡ sum_to N (due N P w) + j
    balance = go (due_move does)
      where
        go : DueMove s i j → sum_to N (due N P w') + i ≡ sum_to N (due N P w) + j
        go (calm n e) = by_one (λ x u. unmoved x u (λ (L, a, f). (L, a, λ y k. n y L _ (f y k)))) e
        go (firms M k ℓ e a b r me mine c i0 j0 aye nobody) =
            elim (cases_Bool (every ℓ (λ y. has_accepted (q y M (number w d M)))))
            [ inl u ↦ everyone u | inr u ↦ not_yet u ]
          where
            all_of : every ℓ (λ y. has_accepted (q y M (number w d M))) ≡ true → (y : ℕ) → on ℓ y ≡ true →
                HasAccepted (q y M (number w d M))
            all_of u y v = acc_true _ (every_one ℓ (λ y. has_accepted (q y M (number w d M))) y u v)

            everyone : every ℓ (λ y. has_accepted (q y M (number w d M))) ≡ true → sum_to N (due N P w') + i
                ≡ sum_to N (due N P w) + j
            everyone u =
                let all = all_of u in
                let v = sum_both N (due N P w') (due N P w) (λ x. cond (on ℓ x) (entry_of ℓ x).shelf 0)
                (λ x. cond (on ℓ x) (share_of P.share ℓ x) 0) (λ x _. goes M k ℓ e b me mine c all (aye all) x) in
                let up = rising_of N 0 ℓ r.listed.rises r.low in
                let x = sum_on N 0 ℓ (λ x. (entry_of ℓ x).shelf) up in
                let y = total_shelves N 0 ℓ up in
                let s = sum_on N 0 ℓ (share_of P.share ℓ) up in
                let t = total_besides N 0 ℓ (P.share ℓ) up (lawful.shares.each ℓ r.listed) in
                let u = lawful.shares.all ℓ r.listed in
                omega arith

            not_yet : every ℓ (λ y. has_accepted (q y M (number w d M))) ≡ false → sum_to N (due N P w') + i
                ≡ sum_to N (due N P w) + j
            not_yet u =
                let nope : ((y : ℕ) → on ℓ y ≡ true → HasAccepted (q y M (number w d M))) → ⊥ =
                λ f. both_ways _ u (all_every ℓ (λ y. has_accepted (q y M (number w d M)))
                (λ y v. true_acc _ (f y v))) in
                let off : (x : ℕ) → standing w x M ≡ 2 → number w x M ≡ number w d M → Firm q (w.at x) → ⊥ =
                λ x f m (L, g', h'). nope (λ y v. rw m at (rw (g.single x L M (omega arith) (omega arith)) at
                (h' y (ap (λ z. on z y) (bound_list M k ℓ e b me mine c x f m) ∙ v)))) in
                by_one (λ x v. unmoved x v (stood M k ℓ e b me mine c x (off x)))
                (let x = due_no N P p (w.at d) d (loose M b) in omega arith)
