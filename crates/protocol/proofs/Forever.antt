-- What stays so, call after call: a standing only moves on, a list once accepted stays its handover's list. So what
-- depots have agreed on they agree on for good.
use Rattle.std.proofs.Common.{◌≡◌, ℕ, ◌⊎◌, refl, ap, ◌∙◌, inl, inr, arith}
use Rattle.protocol.specs.Calls.{Call}
use Rattle.protocol.specs.Law.{HasAccepted}
use Rattle.protocol.specs.Opening.{Opening, LawfulOpening}
use Rattle.protocol.specs.Policy.{Policy, LawfulPolicy}
use Rattle.protocol.specs.Promises.{Agreement}
use Rattle.protocol.specs.Series.{Stage, just_opened, Allowed, Series, start, then}
use Rattle.protocol.proofs.History.{history, past_of, lists_of}
use Rattle.protocol.proofs.RowMoves.{move_of}
use Rattle.protocol.proofs.SafeNext.{Grows, at_on, grows, lists_kept}
use Rattle.protocol.proofs.Invariant.{Invariant, Handled, by_call, hand_history, invariant}
use Rattle.protocol.proofs.Accounts.{settled_last, agreed}

-- a series and what follows it
abbrev pub glue : {P : Policy} {o : Opening} {u v w : Stage} → Series P o u v → Series P o v w → Series P o u w
glue r start = r
glue r (then s d c a) = then (glue r s) d c a

module _ {P : Policy} (lawful : LawfulPolicy P) {o : Opening} (ok : LawfulOpening o) where
  -- one call later
  module _ {w : Stage} (σ : Series P o (just_opened o) w) (d : ℕ) (c : Call) (a : Allowed w d c) where
    abbrev pub h : Invariant σ
    h = invariant lawful ok σ

    pub still_or_handled : (history (then σ d c a) ≡ history σ) ⊎ Handled σ d c
    still_or_handled = by_call lawful h d (λ c a. (history (then σ d c a) ≡ history σ) ⊎ Handled σ d c)
        (λ a. inl (hand_history h d a)) (λ c a k. inr k) c a

    pub grew : (x L n : ℕ) → Grows (past_of σ x L n) (past_of (then σ d c a) x L n)
    grew x L n = elim still_or_handled [
      | inl e ↦ inl (ap (λ u. u.past x L n) e)
      | inr k ↦ grows h.safe (move_of k.low h.safe k.explained.effect) x L n
    ]

    pub same_list : (L n : ℕ) → HasAccepted (past_of σ L L n) → lists_of (then σ d c a) L n ≡ lists_of σ L n
    same_list L n b = elim still_or_handled [
      | inl e ↦ ap (λ u. u.lists L n) e
      | inr k ↦ lists_kept h.safe (move_of k.low h.safe k.explained.effect) L n b
    ]

  -- settled is settled, and the list is the same
  settled_ever : {w u : Stage} (s : Series P o (just_opened o) w) (t : Series P o w u) (x L n : ℕ) →
      past_of s x L n ≡ 4 →
      (past_of (glue s t) x L n ≡ 4) × (lists_of (glue s t) L n ≡ lists_of s L n)
  settled_ever s start x L n e = (e, refl)
  settled_ever s (then t d c a) x L n e =
      let (f, l) = settled_ever s t x L n e in
      let led = (invariant lawful ok (glue s t)).safe.led x L n (omega arith) in
      (at_on _ _ (grew (glue s t) d c a x L n) (omega arith) ∙ f, same_list (glue s t) d c a L n led ∙ l)

  pub agreement : {w : Stage} → Series P o (just_opened o) w → Agreement P o w
  agreement s x L n e =
      let p = settled_last lawful ok s x L n e in (
        lists_of s L n,
        (invariant lawful ok s).safe.listed x L n (omega arith),
        λ u t.
            (let (q, l) = settled_ever s t x L n p in rw l at (agreed lawful ok (glue s t) x L n q)),
      )
