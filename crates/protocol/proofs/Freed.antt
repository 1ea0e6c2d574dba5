-- A Query that all have answered frees its sender, for good: each answer ended the handover there or was heard, a bound
-- depot never has all heard, and a row never comes back to a handover.
use Rattle.std.proofs.Common.{◌≡◌, ℕ, ◌<◌, ◌≤◌, true, List, [], sym, ap, ◌∙◌, subst, ap₂, subst₂, inl, inr, arith}
use mathlib.Core.Option.{Option, none, some}
use Rattle.std.proofs.lemmas.Bool.{cases_eq, eqb-true, both_ways, not-false}
use Rattle.entries.specs.declared.lists.Entry.{Entry}
use Rattle.letters.specs.declared.letter.Kind.{Kind}
use Rattle.letters.specs.declared.letter.Kind.TheVariants as kinds
use Rattle.letters.specs.Contents.{Contents, Lawful}
use Rattle.letters.specs.Bytes.{encode}
use Rattle.entries.specs.Sets.{has}
use Rattle.entries.specs.Lists.{on}
use Rattle.protocol.specs.Calls.{Call, Query, Restart}
use Rattle.protocol.specs.Calls.{Receive}
use Rattle.protocol.specs.Keeping.{Readable}
use Rattle.protocol.specs.Law.{HasAccepted}
use Rattle.protocol.specs.Opening.{Opening, LawfulOpening}
use Rattle.protocol.specs.Outcome.{mail, note, after, sends}
use Rattle.protocol.specs.Own.{query_in}
use Rattle.protocol.specs.Policy.{Policy, LawfulPolicy}
use Rattle.protocol.specs.Promises.{WayOut}
use Rattle.protocol.specs.Series.{Stage, just_opened, site, outcome, called, Allowed, Series, start, then}
use Rattle.protocol.specs.State.{upd, Site, State, leader, others}
use Rattle.protocol.specs.Taking.{take, taken}
use Rattle.protocol.specs.Words.{Arrives, CameBack, Answered, NoRestart, Free}
use Rattle.protocol.proofs.LawKept.{calls_kept}
use Rattle.letters.proofs.Forth.{one_form}
use Rattle.protocol.proofs.Tests.{upd_tells, by, all_every}
use Rattle.protocol.proofs.History.{past_of, lists_of}
use Rattle.protocol.proofs.SafeNext.{le_on, acc_on}
use Rattle.protocol.proofs.Leaders.{on_others}
use Rattle.protocol.proofs.Invariant.{Invariant, by_call, hand_is, invariant}
use Rattle.protocol.proofs.Forever.{glue, still_or_handled, grew, same_list}
use Rattle.protocol.proofs.Replies.{at_n, bound_x, heard_on, Reply, Replies, answer, arrives}

-- what a served Query sends, and of what
query_is : (a : Site) (s : State) (L : ℕ) (m : Contents) → sends (query_in a s L) ≡ some m → ((s.rows L).standing ≡ 2)
    × (mail a s kinds.Query (others a s.list) L [] ≡ some m)
unfolding query_in
query_is a s L m =
    by (λ r. sends r ≡ some m → ((s.rows L).standing ≡ 2) × (mail a s kinds.Query (others a s.list) L [] ≡ some m))
    (λ _ e. cc) (λ e f. (eqb-true _ 2 (not-false _ e), f))

mail_is : (a : Site) (s : State) (k : Kind) (to L : ℕ) (es : List Entry) (m : Contents) → mail a s k to L es
    ≡ some m → m ≡ note a s k to L es
unfolding mail
mail_is a s k to L es m = by (λ r. r ≡ some m → m ≡ note a s k to L es)
    (λ _ e. cc) (λ _ e. cc)

module _ {P : Policy} (lawful : LawfulPolicy P) {o : Opening} (ok : LawfulOpening o) where
  -- one call later
  module _ {w : Stage} (σ : Series P o (just_opened o) w) (d : ℕ) (c : Call) (a : Allowed w d c) where
    abbrev h : Invariant σ
    h = invariant lawful ok σ

    abbrev t : State
    t = after (w.at d) (outcome P o w d c)

    heard_next : (x L y : ℕ) → ((w.at x).rows L).standing ≡ 2 → (((called P o w d c).at x).rows L).standing ≡ 2 →
        (d ≡ x → c ≡ Restart → ⊥) → has (w.at x).heard y ≡ true → has ((called P o w d c).at x).heard y ≡ true
    heard_next x L y b e f k =
        elim (still_or_handled lawful ok σ d c a) [
          | inl q ↦ grind arith
          | inr q ↦ elim (upd_tells w.at d t x) [
            | inl (u, v) ↦ rw v (heard_on h.safe L (rw u at b) (f (sym u))
                q.explained.effect (sym (ap (λ z. (z.rows L).standing) v) ∙ e) y
                (rw u at k))
            | inr (u, v) ↦ rw v k
          ]
        ]

    -- what a call sends can be read
    sent_readable : Readable (sends (outcome P o w d c))
    sent_readable = by_call lawful h d (λ c _. Readable (sends (outcome P o w d c)))
        (λ _. rw (hand_is h d).silent tt) (λ c _ k. k.kept.mails) c a

  read : (w : Stage) (d : ℕ) (m : Contents) → Lawful m → outcome P o w d (Receive (encode m))
      ≡ take P (site P o d) (w.at d) m
  read w d m k = ap (taken P (site P o d) (w.at d)) (one_form.read_back m k)

  module _ {v : Stage} (r₀ : Series P o (just_opened o) v) (x : ℕ) (m : Contents) (a₀ : Allowed v x Query)
      (f₀ : sends (outcome P o v x Query) ≡ some m) where
    abbrev L : ℕ
    L = leader (site P o x) (v.at x)

    abbrev n : ℕ
    n = ((v.at x).rows L).number

    h₀ : Invariant r₀
    h₀ = invariant lawful ok r₀

    x<N : x < o.n
    x<N = h₀.low x a₀

    v_stands : ((v.at x).rows L).standing ≡ 2
    v_stands = (query_is (site P o x) (v.at x) L m f₀).0

    m_is : m ≡ note (site P o x) (v.at x) kinds.Query (others (site P o x) (v.at x).list) L []
    m_is = mail_is (site P o x) (v.at x) kinds.Query (others (site P o x) (v.at x).list) L [] m
        (query_is (site P o x) (v.at x) L m f₀).1

    m_lawful : Lawful m
    m_lawful = rw f₀ at (sent_readable r₀ x Query a₀)

    abbrev v₁ : Stage
    v₁ = called P o v x Query

    -- the whole series, with the Query and what follows it
    abbrev all : {w : Stage} → Series P o v₁ w → Series P o (just_opened o) w
    all s = glue (then r₀ x Query a₀) s

    v_bound : past_of r₀ x L n ≡ 2
    v_bound = (h₀.safe.own x).now L ∙ v_stands

    least : {w : Stage} (s : Series P o v₁ w) → 2 ≤ past_of (all s) x L n
    least start = let b = v_bound in let k = le_on _ _ (grew lawful ok r₀ x Query a₀ x L n) in omega arith
    least (then s d c a) = let b = least s in let k = le_on _ _ (grew lawful ok (all s) d c a x L n) in omega arith

    lists_on : {w : Stage} (s : Series P o v₁ w) → HasAccepted (past_of (all s) L L n)
        × (lists_of (all s) L n ≡ lists_of r₀ L n)
    lists_on start =
        let b : HasAccepted (past_of r₀ L L n) = h₀.safe.led x L n (let q = v_bound in omega arith) in
        (acc_on _ _ (grew lawful ok r₀ x Query a₀ L L n) b, same_list lawful ok r₀ x Query a₀ L n b)
    lists_on (then s d c a) = let (b, k) = lists_on s in
        (acc_on _ _ (grew lawful ok (all s) d c a L L n) b, same_list lawful ok (all s) d c a L n b ∙ k)

    -- bound at the end, bound before
    before : {w : Stage} (s : Series P o v₁ w) (d : ℕ) (c : Call) (a : Allowed w d c) →
        past_of (all (then s d c a)) x L n ≡ 2 → past_of (all s) x L n ≡ 2
    before s d c a e = let k = grew lawful ok (all s) d c a x L n in let b = least s in omega arith

    bound_at : {w : Stage} (s : Series P o v₁ w) → past_of (all s) x L n ≡ 2 → ((w.at x).rows L).standing ≡ 2
    bound_at s e = let h = invariant lawful ok (all s) in
        bound_x h.safe h.leaders x L n e

    module _ (y : ℕ) (y≢x : y ≡ x → ⊥) (on-y : on (v.at x).list y ≡ true) where
      listed : {w : Stage} (s : Series P o v₁ w) → on (lists_of (all s) L n) y ≡ true
      listed s = ap (λ u. on u y) ((lists_on s).1 ∙ sym (h₀.safe.list x L v_stands)) ∙ on-y

      -- what y answers
      reply_is : {w : Stage} (s : Series P o v₁ w) (r : Option Contents) → past_of (all s) x L n ≡ 2 →
          Arrives m y r s → Replies P x L n y r
      reply_is start r b k = elim k [ ]
      reply_is (then s d c a) r b (inl k) = reply_is s r (before s d c a b) k
      reply_is (then {w} s d c a) r b (inr (e, f, k)) =
          let h = invariant lawful ok (all s) in
          let q : r ≡ sends (take P (site P o y) (w.at y) m) =
          k ∙ (ap₂ (λ d c. sends (outcome P o w d c)) e f ∙ ap sends (read w y m m_lawful)) in
          rw (q ∙ ap (λ u. sends (take P (site P o y) (w.at y) u)) m_is)
          (answer P x L n y h.safe h.leaders (before s d c a b) (listed s) x<N y≢x
          (others (site P o x) (v.at x).list) [] (on_others o.n P x (v.at x).list y on-y y≢x))

      reply_lawful : {w : Stage} (s : Series P o v₁ w) (r : Contents) → Arrives m y (some r) s → Lawful r
      reply_lawful start r k = elim k [ ]
      reply_lawful (then s d c a) r (inl k) = reply_lawful s r k
      reply_lawful (then s d c a) r (inr (e, f, k)) = subst Readable (sym k) (sent_readable (all s) d c a)

      -- the answer's arrival
      came : {w : Stage} (s : Series P o v₁ w) → past_of (all s) x L n ≡ 2 → (r : Contents) → Lawful r →
          Reply P x L n y r → (((called P o w x (Receive (encode r))).at x).rows L).standing ≡ 2 →
          has ((called P o w x (Receive (encode r))).at x).heard y ≡ true
      came {w} s b r k f =
          let h = invariant lawful ok (all s) in
          let q = arrives P x L n y h.safe h.leaders b (listed s) x<N y≢x r f in
          let u : (called P o w x (Receive (encode r))).at x ≡ after (w.at x) (take P (site P o x) (w.at x) r) =
          at_x w x (after (w.at x) (outcome P o w x (Receive (encode r)))) ∙ ap (after (w.at x)) (read w x r k) in
          rw u q
        where
          at_x : (w : Stage) (x : ℕ) (t : State) → upd w.at x t x ≡ t
          at_x w x t = grind (arith, upd_tells)

      heard_is : {w : Stage} (s : Series P o v₁ w) → NoRestart x s → past_of (all s) x L n ≡ 2 → CameBack m y x s →
          has (w.at x).heard y ≡ true
      heard_is start sp b k = elim k [ ]
      heard_is (then s d c a) sp b (inl k) = let b₀ = before s d c a b in
          heard_next (all s) d c a x L y (bound_at s b₀) (bound_at (then s d c a) b) sp.1 (heard_is s sp.0 b₀ k)
      heard_is (then {w} s d c a) sp b (inr (r, k, e, f)) =
          let b₀ = before s d c a b in
          subst₂ (λ d c. (((called P o w d c).at x).rows L).standing ≡ 2 → has ((called P o w d c).at x).heard y ≡ true)
          (sym e) (sym f) (came s b₀ r (reply_lawful s r k) (reply_is s (some r) b₀ k)) (bound_at (then s d c a) b)

      heard_last : {w : Stage} (s : Series P o v₁ w) → NoRestart x s → past_of (all s) x L n ≡ 2 → Answered m y x s →
          has (w.at x).heard y ≡ true
      heard_last s sp b (inr k) = heard_is s sp b k
      heard_last s sp b (inl k) = absurd (reply_is s none b k)

    -- not bound when all have answered
    unbound : {w : Stage} (s : Series P o v₁ w) → NoRestart x s →
        ((y : ℕ) → on (v.at x).list y ≡ true → (y ≡ x → ⊥) → Answered m y x s) → past_of (all s) x L n ≡ 2 → ⊥
    unbound {w} s sp all_back b =
        let h = invariant lawful ok (all s) in
        let e = bound_at s b in
        let held = h.safe.held x L e in
        let same : (w.at x).list ≡ (v.at x).list =
        h.safe.list x L e ∙ (ap (lists_of (all s) L) (at_n h.safe h.leaders x L n b)
        ∙ ((lists_on s).1 ∙ sym (h₀.safe.list x L v_stands))) in
        both_ways _ held.waits
        (all_every _ (has (w.at x).heard)
        (λ y k. elim (cases_eq y x) [
          | inl u ↦ rw u held.self
          | inr u ↦ (let k' = ap (λ z. on z y) (sym same) ∙ k in heard_last y u k' s sp b (all_back y k' u))
        ]))

    -- nor ever after
    ever : {w u : Stage} (s : Series P o v₁ w) (s' : Series P o w u) → (past_of (all s) x L n ≡ 2 → ⊥) →
        past_of (all (glue s s')) x L n ≡ 2 → ⊥
    ever s start f b = f b
    ever s (then s' d c a) f b = ever s s' f (before (glue s s') d c a b)

    free : {w : Stage} (s : Series P o v₁ w) → NoRestart x s →
        ((y : ℕ) → on (v.at x).list y ≡ true → (y ≡ x → ⊥) → Answered m y x s) → (u : Stage) →
        Series P o w u → Free u x L n
    free s sp all_back u s' b =
        let h = invariant lawful ok (all (glue s s')) in
        ever s s' (unbound s sp all_back)
        (ap (past_of (all (glue s s')) x L) (sym b.number) ∙ ((h.safe.own x).now L ∙ b.accepted))

  -- the row in which it is bound is the one that Query finds
  pub way_out : {w : Stage} → Series P o (just_opened o) w → WayOut P o w
  way_out {w = v} r x L n m b a f w s sp all_back u s' c =
      let h = invariant lawful ok r in
      let q : leader (site P o x) (v.at x) ≡ L = (calls_kept P lawful (site P o x) (v.at x)
      (h.law x (h.low x a))).found L (omega arith) in
      free r x m a f s sp all_back u s'
      (record {
        accepted = ap (λ z. ((u.at x).rows z).standing) q ∙ c.accepted;
        number = grind arith;
      })
