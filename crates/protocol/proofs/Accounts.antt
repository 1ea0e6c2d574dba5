-- Accepted, settled, dropped and due, as the calls of a series tell them, are what the last standings say. So depots
-- agree, since one that has settled excludes one that refused, and pieces are conserved, by the dues of every call.
use Rattle.std.proofs.Common.{◌≡◌, ℕ, ◌+◌, ◌≤◌, Bool, true, false, cond, ◌&&◌, ◌||◌, eqb, ◌⊎◌, List, [], ◌∷◌, sym, refl, ap, ◌∙◌, inl, inr, arith}
use mathlib.Core.Path.{fun_ext}
use Rattle.std.proofs.lemmas.Bool.{eq-eqb, ne_eqb, and_from, cases_Bool, cond-true, cond-false}
use Rattle.entries.specs.declared.lists.Entry.{Entry}
use Rattle.policies.specs.Shares.{share_of}
use Rattle.protocol.specs.Calls.{Call, Hand, once, accepts, ends_at}
use Rattle.protocol.specs.Law.{HasAccepted}
use Rattle.protocol.specs.Listing.{every, same}
use Rattle.protocol.specs.Opening.{Opening, LawfulOpening, sum_to, total}
use Rattle.protocol.specs.Outcome.{after}
use Rattle.protocol.specs.Policy.{Policy, LawfulPolicy}
use Rattle.protocol.specs.Promises.{Agreed, Conservation}
use Rattle.protocol.specs.Series.{Stage, just_opened, outcome, Allowed, Series, start, then}
use Rattle.protocol.specs.State.{pick, Row, fresh, engages}
use Rattle.protocol.specs.Words.{among, stands, bound_to_standing, due}
use Rattle.protocol.proofs.Sums.{sum_same}
use Rattle.protocol.proofs.History.{past_of, lists_of, history}
use Rattle.protocol.proofs.Dues.{balance}
use Rattle.protocol.proofs.Firm.{firmly, due_of, due_no, due as dueBy}
use Rattle.protocol.proofs.History.{has_accepted, true_acc}
use Rattle.protocol.proofs.Counted.{ended_next, accepted_next}
use Rattle.protocol.proofs.Invariant.{Invariant, Handled, by_call, hand_is, hand_history, invariant}

zero_more : (n : ℕ) → 0 + n ≡ n
zero_more n = omega arith

-- a row that stays is not accepted and not ended
accepts_same : (r : Row) → accepts r r ≡ false
unfolding accepts
accepts_same r = grind arith

ends_same : (k : ℕ) (r : Row) → 3 ≤ k → ends_at k r r ≡ false
unfolding ends_at engages
ends_same k r h = grind arith

-- nor does anything else that is tested with it count
never : (n : ℕ) (c e f : Bool) → f ≡ false → n + once (c && (e && f)) ≡ n
never n c e f h = grind arith

pick_never : {A : Type 0} (c e f : Bool) (x y : A) → f ≡ false → pick (c && (e && f)) x y ≡ y
unfolding pick
pick_never c e f x y h = grind arith

pub record Accounted {P : Policy} {o : Opening} {w : Stage} (s : Series P o (just_opened o) w) : Type 0 where
  pub settled : (x L n : ℕ) → w.settled x L n ≡ once (eqb (past_of s x L n) 4)
  pub dropped : (x L n : ℕ) → w.dropped x L n ≡ once (eqb (past_of s x L n) 5)
  pub accepted : (x L n : ℕ) → w.accepted x L n ≡ cond (has_accepted (past_of s x L n)) (lists_of s L n ∷ []) []
  pub balanced : sum_to o.n (dueBy o.n P (history s)) + w.issued ≡ total o + w.returned

module _ {P : Policy} (lawful : LawfulPolicy P) {o : Opening} where
  accounted_start : Accounted {P = P} {o = o} start
  unfolding has_accepted
  accounted_start =
      record {
        settled = λ x L n. refl;
        dropped = λ x L n. refl;
        accepted = λ x L n. refl;
        balanced = (let e = sum_same o.n (dueBy o.n P (history {P = P} {o = o} start)) o.shares
            (λ x _. due_no o.n P (λ _ _ _. 0) (fresh (o.shares x)) x (λ (L, a, _). omega arith)
            ∙ zero_more (o.shares x)) in omega arith);
      }

  module _ {w : Stage} {s : Series P o (just_opened o) w} (h : Invariant s) (t : Accounted s) (d : ℕ) where
    hand_accounted : (a : Allowed w d Hand) → Accounted (then s d Hand a)
    hand_accounted a =
        record {
          settled = λ x L n. never (w.settled x L n) (eqb x d) _ _ (ends 4 L (omega arith))
              ∙ (t.settled x L n ∙ ap (λ u. once (eqb (u.past x L n) 4)) (sym same_history));
          dropped = λ x L n. never (w.dropped x L n) (eqb x d) _ _ (ends 5 L (omega arith))
              ∙ (t.dropped x L n ∙ ap (λ u. once (eqb (u.past x L n) 5)) (sym same_history));
          accepted = λ x L n. pick_never (eqb x d) _ _ _ (w.accepted x L n) (takes L)
              ∙ (t.accepted x L n ∙ ap (λ u. cond (has_accepted (u.past x L n))
              (u.lists L n ∷ []) []) (sym same_history));
          balanced = (let e = ap (λ u. sum_to o.n (dueBy o.n P u)) same_history in
              omega arith);
        }
      where
        same_history : history (then s d Hand a) ≡ history s
        same_history = hand_history h d a

        ends : (k L : ℕ) → 3 ≤ k → ends_at k ((w.at d).rows L) ((after (w.at d) (outcome P o w d Hand)).rows L) ≡ false
        ends k L l = ap (λ u. ends_at k ((w.at d).rows L) (u.rows L)) (hand_is h d).same
            ∙ ends_same k ((w.at d).rows L) l

        takes : (L : ℕ) → accepts ((w.at d).rows L) ((after (w.at d) (outcome P o w d Hand)).rows L) ≡ false
        takes L = ap (λ u. accepts ((w.at d).rows L) (u.rows L)) (hand_is h d).same
            ∙ accepts_same ((w.at d).rows L)

    handled_accounted : (c : Call) (a : Allowed w d c) → Handled s d c → Accounted (then s d c a)
    handled_accounted c a k =
        let does = k.explained.effect in
        record {
          settled = ended_next k.low h.safe does 4 (omega arith) w.settled t.settled;
          dropped = ended_next k.low h.safe does 5 (omega arith) w.dropped t.dropped;
          accepted = accepted_next k.low h.safe does w.accepted t.accepted;
          balanced = (let e = balance k.low h.safe lawful does in omega arith);
        }

  module _ (ok : LawfulOpening o) where
    pub accounted : {w : Stage} (s : Series P o (just_opened o) w) → Accounted s
    accounted start = accounted_start
    accounted (then s d c a) =
        let h = invariant lawful ok s in
        let t = accounted s in
        by_call lawful h d (λ c a. Accounted (then s d c a)) (hand_accounted h t d) (handled_accounted h t d) c a

  module _ (ok : LawfulOpening o) {w : Stage} (s : Series P o (just_opened o) w) where
    h : Invariant s
    h = invariant lawful ok s

    t : Accounted s
    t = accounted ok s

    -- once ended at m, the last standing is m
    last_is : (k m : ℕ) → 1 ≤ once (eqb k m) → k ≡ m
    last_is k m e = grind arith

    -- what a depot has accepted is the list of the handover, or nothing
    accepted_of : (y L n : ℕ) → HasAccepted (past_of s y L n) → w.accepted y L n ≡ lists_of s L n ∷ []
    accepted_of y L n a = t.accepted y L n ∙ cond-true _ _ _ (true_acc _ a)

    none_other : (y L n : ℕ) → (w.accepted y L n ≡ []) ⊎ (w.accepted y L n ≡ lists_of s L n ∷ [])
    none_other y L n = grind (arith, t)

    not_dropped : (x L n y : ℕ) → past_of s x L n ≡ 4 → past_of s y L n ≡ 5 → ⊥
    not_dropped x L n y p q = let (z, l, r) = h.safe.dropped y L n q in (h.safe.settled x L n z p l).1 r

    pub settled_last : (x L n : ℕ) → 1 ≤ w.settled x L n → past_of s x L n ≡ 4
    settled_last x L n e = last_is (past_of s x L n) 4 (rw (t.settled x L n) at e)

    pub agreed : (x L n : ℕ) → past_of s x L n ≡ 4 → Agreed w L n (lists_of s L n)
    agreed x L n p =
        record {
          accepted = λ y k. accepted_of y L n (h.safe.settled x L n y p k);
          no_other = λ y. none_other y L n;
          not_dropped = λ y k. t.dropped y L n ∙ ap once (ne_eqb _ 5 (λ q. not_dropped x L n y p q));
        }

    -- what is due, by the last standings
    same_self : (ℓ : List Entry) → same ℓ ℓ ≡ true
    unfolding same
    same_self [] = refl
    same_self (e ∷ ℓ) = and_from _ _
        (and_from _ _ (eq-eqb e.depot e.depot refl)
        (and_from _ _ (eq-eqb e.shelf e.shelf refl) (eq-eqb e.wish e.wish refl))) (same_self ℓ)

    among_acc : (b : Bool) (ℓ : List Entry) → among ℓ (cond b (ℓ ∷ []) []) ≡ b
    unfolding among
    among_acc true ℓ = ap (λ b. b || false) (same_self ℓ)
    among_acc false ℓ = refl

    pub stands_is : (x L : ℕ) → ((w.at x).rows L).standing ≡ 2 →
        stands w L ((w.at x).rows L).number (w.at x).list ≡ every (w.at x).list
        (λ y. has_accepted (past_of s y L ((w.at x).rows L).number))
    unfolding stands
    stands_is x L e =
        ap (every (w.at x).list)
        (fun_ext (λ y. ap (among (w.at x).list)
        (t.accepted y L n ∙ ap (λ u. cond (has_accepted (past_of s y L n)) (u ∷ []) []) (sym (h.safe.list x L e)))
        ∙ among_acc (has_accepted (past_of s y L n)) (w.at x).list))
      where
        n : ℕ
        n = ((w.at x).rows L).number

    firm_is : (x : ℕ) → bound_to_standing o w x ≡ firmly o.n (past_of s) (w.at x).rows (w.at x).list
    unfolding bound_to_standing firmly
    firm_is x = grind (arith, stands_is)

    due_is : (x : ℕ) → due P o w x ≡ dueBy o.n P (history s) x
    unfolding due due_of pick
    due_is x = elim (cases_Bool (w.handed x)) [
      | inl e ↦ cond-true _ _ _ e ∙ ap
          (λ b. (w.at x).tray + cond b (share_of P.share (w.at x).list x) (w.at x).shelf) (firm_is x)
      | inr e ↦ cond-false _ _ _ e ∙ sym (loose e)
    ]
      where
        loose : w.handed x ≡ false → dueBy o.n P (history s) x ≡ o.shares x
        loose e = let q = h.unhanded x e in
            ap (λ u. due_of o.n P (past_of s) u x) q
            ∙ (due_no o.n P (past_of s) (fresh (o.shares x)) x (λ (L, a, _). omega arith) ∙ zero_more (o.shares x))

    pub conservation : Conservation P o w
    conservation = let e = sum_same o.n (due P o w) (dueBy o.n P (history s)) (λ x _. due_is x) in
        let b = t.balanced in omega arith
