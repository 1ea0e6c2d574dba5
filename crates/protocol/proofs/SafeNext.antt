-- A call keeps what holds of every history: a standing moves on only, in one of six ways, and what a letter vouches for
-- stays so.
use Rattle.std.proofs.Common.{◌≡◌, ℕ, ◌<◌, ◌≤◌, true, ◌⊎◌, sym, refl, ap, ◌∙◌, inl, inr, arith}
use mathlib.Core.Option.{Option, none, some}
use Rattle.letters.specs.Contents.{Contents}
use Rattle.entries.specs.Sets.{has}
use Rattle.entries.specs.Lists.{on}
use Rattle.protocol.specs.Law.{HasAccepted, Engages}
use Rattle.protocol.specs.Series.{Among, posted}
use Rattle.protocol.specs.State.{upd, State}
use Rattle.protocol.proofs.Tests.{upd_tells}
use Rattle.protocol.proofs.History.{History, next}
use Rattle.protocol.proofs.History.{standing, number, StandingMove, HoldsList, RowMove, OwnPast, Safe, Backed}
use Rattle.protocol.proofs.History.{Vouched}
use Rattle.protocol.proofs.History.StandingMove.{same, opens, binds, refuses, settles, drops}
use Rattle.protocol.proofs.History.RowMove.{still, moves}

-- a standing only goes on
abbrev pub Grows : ℕ → ℕ → Type 0
Grows k k' = (k' ≡ k) ⊎ (((k ≤ 1) × (k < k') × (k' ≤ 5)) ⊎ ((k ≡ 2) × (4 ≤ k') × (k' ≤ 5)))

pub acc_on : (k k' : ℕ) → Grows k k' → HasAccepted k → HasAccepted k'
acc_on k k' m a = omega arith

pub at_on : (k k' : ℕ) → Grows k k' → 3 ≤ k → k' ≡ k
at_on k k' m a = omega arith

pub le_on : (k k' : ℕ) → Grows k k' → k ≤ k'
le_on k k' m = omega arith

most_on : (k k' : ℕ) → Grows k k' → k ≤ 5 → k' ≤ 5
most_on k k' m a = omega arith

pub acc_2 : (k : ℕ) → k ≡ 2 → HasAccepted k
acc_2 k e = omega arith

pub turn_on : (w : History) (d L n k k' : ℕ) → StandingMove w d L n k k' → Grows k k'
turn_on w d L n k k' (same e) = inl e
turn_on w d L n k k' (opens a b j) = inr (inl (omega arith))
turn_on w d L n k k' (binds a b j) = inr (inl (omega arith))
turn_on w d L n k k' (refuses a b) = inr (inl (omega arith))
turn_on w d L n k k' (settles a b i j _) = grind arith
turn_on w d L n k k' (drops a b j y i h) = inr (inr (omega arith))

-- what d is bound to after a call
data Held (w : History) (d : ℕ) (s : State) (L : ℕ) : Type 0 where
  old : standing w d L ≡ 2 → (s.rows L).number ≡ number w d L → s.list ≡ (w.at d).list →
      ((y : ℕ) → has s.heard y ≡ true → HasAccepted (w.past y L (number w d L))) → HoldsList d L s → Held w d s L
  new : w.past d L (s.rows L).number ≡ 1 →
      (L ≡ d) ⊎ (HasAccepted (w.past L L (s.rows L).number) × (s.list ≡ w.lists L (s.rows L).number)) →
      ((y : ℕ) → has s.heard y ≡ true → (y ≡ d) ⊎ (y ≡ L)) → HoldsList d L s → Held w d s L

-- What d's record comes to be, and how its rows moved. What is sent plays no part but in the last
module _ {N : ℕ} {w : History} {d : ℕ} (g : Safe N w) {s : State} (mv : RowMove N w d s) where
  abbrev pub w' : History
  w' = next w d s none

  pub now_d : (L : ℕ) → w'.past d L (s.rows L).number ≡ (s.rows L).standing
  now_d L = grind arith

  pub turn : (L n : ℕ) → StandingMove w d L n (w.past d L n) (w'.past d L n)
  turn L n = go mv
    where
      go : RowMove N w d s → StandingMove w d L n (w.past d L n) (w'.past d L n)
      go (still e f) = grind arith
      go (moves M m k pos e lt up only t f) =
          elim (at_or L n) [
            | inl (a, b, c) ↦ rw c (rw (a, b) t)
            | inr c ↦ same c
          ]
        where
          at_or : (L n : ℕ) → ((L ≡ M) × (n ≡ m) × (w'.past d L n ≡ k)) ⊎ (w'.past d L n ≡ w.past d L n)
          at_or L n = let q : s.rows L ≡ upd (w.at d).rows M (record { number = m; standing = k }) L =
              ap (λ u. u L) e in grind (arith, upd_tells)

  -- a depot is d, or as it was
  pub case : (x : ℕ) (Q : ℕ → State → (ℕ → ℕ → ℕ) → Type 0) → Q d s (w'.past d) →
      ((x ≡ d → ⊥) → Q x (w.at x) (w.past x)) → Q x (w'.at x) (w'.past x)
  case x Q a b = grind (arith, upd_tells)

  pub grows : (x L n : ℕ) → Grows (w.past x L n) (w'.past x L n)
  grows x L n = case x (λ x _ p. Grows (w.past x L n) (p L n)) (turn_on w d L n _ _ (turn L n)) (λ _. inl refl)

  pub accs : (x L n : ℕ) → HasAccepted (w.past x L n) → HasAccepted (w'.past x L n)
  accs x L n = acc_on _ _ (grows x L n)

  -- the rows of d
  rise : (L : ℕ) → number w d L ≤ (s.rows L).number
  rise L = elim mv [
    | still e f ↦ grind arith
    | moves M m k pos e lt up only t f ↦
        rw (ap (λ u. u L) e) (elim (upd_tells (w.at d).rows M (record { number = m; standing = k }) L)
        [ inl q ↦ grind arith | inr q ↦ grind arith ])
  ]

  pub engaged : (L : ℕ) → Engages (standing w d L) → (s.rows L).number ≡ number w d L
  engaged L b = elim mv [
    | still e f ↦ ap (λ u. (u L).number) e
    | moves M m k pos e lt up only t f ↦ let r = ap (λ u. u L) e in grind (arith, upd_tells)
  ]

  pub one : (L M : ℕ) → Engages (s.rows L).standing → Engages (s.rows M).standing → L ≡ M
  one L M a b = elim mv [
    | still e f ↦ grind arith
    | moves O m k pos e lt up only t f ↦ let r = ap (λ u. u L) e in let r' = ap (λ u. u M) e in grind (arith, upd_tells)
  ]

  pub low : (L : ℕ) → 1 ≤ (s.rows L).standing → L < N
  low L a = elim mv [
    | still e f ↦ grind arith
    | moves O m k pos e lt up only t f ↦ let r = ap (λ u. u L) e in grind (arith, upd_tells)
  ]

  live_d : (L n : ℕ) → Engages (w'.past d L n) → (s.rows L).number ≡ n
  live_d L n h = grind (arith, engaged)

  pub own_d : OwnPast (w'.past d) s
  own_d =
      record {
        now = now_d;
        later = λ L n h. let r = rise L in grind arith;
        live = live_d;
      }

  held : (L : ℕ) → (s.rows L).standing ≡ 2 → Held w d s L
  held L h = go mv
    where
      go : RowMove N w d s → Held w d s L
      go (still e f) = grind arith
      go (moves M m k pos e lt up only t f) =
          elim (upd_tells (w.at d).rows M (record { number = m; standing = k }) L) [
            | inl q ↦ grind arith
            | inr q ↦ grind (arith, upd_tells)
          ]
        where
          n : (s.rows M).number ≡ m
          n = let r = ap (λ u. u M) e in grind (arith, upd_tells)

  pub lists_kept : (L n : ℕ) → HasAccepted (w.past L L n) → w'.lists L n ≡ w.lists L n
  lists_kept L n a = grind (arith, held)

  pub list_d : (L : ℕ) → (s.rows L).standing ≡ 2 → s.list ≡ w'.lists L (s.rows L).number
  list_d L h = elim (held L h) [
    | old b m l f x ↦
        l
        ∙ (g.list d L b ∙ (ap (w.lists L) (sym m)
        ∙ sym (lists_kept L _ (rw (← m) at (g.led d L _ (acc_2 _ ((g.own d).now L ∙ b)))))))
    | new b (inl e) f x ↦ grind arith
    | new b (inr c) f x ↦ c.1 ∙ sym (lists_kept L _ c.0)
  ]

  asked_d : (L n : ℕ) → 1 ≤ w'.past d L n → 1 ≤ w'.past L L n
  asked_d L n a = grind (arith, turn)

  led_d : (L n : ℕ) → HasAccepted (w'.past d L n) → HasAccepted (w'.past L L n)
  led_d L n a = grind (arith, turn)

  heard_d : (L y : ℕ) → (s.rows L).standing ≡ 2 → has s.heard y ≡ true →
      HasAccepted (w'.past y L (s.rows L).number)
  heard_d L y h k = go (held L h)
    where
      go : Held w d s L → HasAccepted (w'.past y L (s.rows L).number)
      go (old b m l f x) = accs y L _ (rw (← m) at (f y k))
      go (new b c f x) = grind arith

  held_d : (L : ℕ) → (s.rows L).standing ≡ 2 → HoldsList d L s
  held_d L h = elim (held L h) [
    | old b m l f x ↦ x
    | new b c f x ↦ x
  ]

  listed_d : (L n : ℕ) → HasAccepted (w'.past d L n) → on (w'.lists L n) d ≡ true
  listed_d L n a = elim (turn L n) [
    | same e ↦ old (omega arith)
    | opens b e c ↦ absurd (omega arith)
    | binds b e c ↦
        let q = live_d L n (omega arith) in
        let r : (s.rows L).standing ≡ 2 = sym (now_d L) ∙ (ap (w'.past d L) q ∙ e) in
        ap (λ ℓ. on ℓ d) (ap (w'.lists L) (sym q) ∙ sym (list_d L r)) ∙ (held_d L r).me
    | refuses b e ↦ absurd (omega arith)
    | settles b e c f m ↦ ap (λ ℓ. on ℓ d) (lists_kept L n c) ∙ m
    | drops b e c y f h ↦ old (omega arith)
  ]
    where
      old : HasAccepted (w.past d L n) → on (w'.lists L n) d ≡ true
      old b = ap (λ ℓ. on ℓ d) (lists_kept L n (g.led d L n b)) ∙ g.listed d L n b

  old_settled : (x L n y : ℕ) → w.past x L n ≡ 4 → on (w'.lists L n) y ≡ true → HasAccepted (w'.past y L n)
  old_settled x L n y h k = accs y L n (g.settled x L n y h (rw (lists_kept L n (g.led x L n (omega arith))) at k))

  old_dropped : (x L n : ℕ) → w.past x L n ≡ 5 → (y : ℕ) × (on (w'.lists L n) y ≡ true) × (w'.past y L n ≡ 3)
  old_dropped x L n h = grind (arith, grows, lists_kept)

  settled_d : (L n y : ℕ) → w'.past d L n ≡ 4 → on (w'.lists L n) y ≡ true → HasAccepted (w'.past y L n)
  settled_d L n y h k = grind (arith, old_settled, turn)

  dropped_d : (L n : ℕ) → w'.past d L n ≡ 5 → (y : ℕ) × (on (w'.lists L n) y ≡ true) × (w'.past y L n ≡ 3)
  dropped_d L n h = elim (turn L n) [
    | same e ↦ old_dropped d L n (omega arith)
    | opens b e c ↦ absurd (omega arith)
    | binds b e c ↦ absurd (omega arith)
    | refuses b e ↦ absurd (omega arith)
    | settles b e c f m ↦ absurd (omega arith)
    | drops b e c z f q ↦ (z, ap (λ ℓ. on ℓ z) (lists_kept L n c) ∙ f, at_on _ _ (grows z L n) (omega arith) ∙ q)
  ]

  old_letter : (m : Contents) → Among m w.sent → Backed w' m
  old_letter m h = grind (arith, grows, lists_kept)

  new_letter : (m : Contents) → Vouched d s (some m) → Backed w' m
  new_letter m (e, f, t) = grind arith

  letters : (o' : Option Contents) → Vouched d s o' → (m : Contents) → Among m (posted o' w.sent) → Backed w' m
  letters none t m h = old_letter m h
  letters (some m') t m (inl e) = rw e (new_letter m' t)
  letters (some m') t m (inr h) = old_letter m h

  pub safe_next : (o : Option Contents) → Vouched d s o → Safe N (next w d s o)
  safe_next o t =
      record {
        own = λ x. case x (λ _ z p. OwnPast p z) own_d (λ _. g.own x);
        single = λ x L M. case x (λ _ z _. Engages (z.rows L).standing → Engages (z.rows M).standing → L ≡ M)
            (one L M) (λ _. g.single x L M);
        small = λ x L. case x (λ _ z _. 1 ≤ (z.rows L).standing → L < N) (low L) (λ _. g.small x L);
        most = λ x L n. most_on _ _ (grows x L n) (g.most x L n);
        asked = λ x L n. case x (λ _ _ p. 1 ≤ p L n → 1 ≤ w'.past L L n) (asked_d L n)
            (λ _ a. let q = g.asked x L n a in let r = le_on _ _ (grows L L n) in omega arith);
        led = λ x L n. case x (λ _ _ p. HasAccepted (p L n) → HasAccepted (w'.past L L n)) (led_d L n)
            (λ _ a. accs L L n (g.led x L n a));
        list = λ x L. case x (λ _ z _. (z.rows L).standing ≡ 2 → z.list ≡ w'.lists L (z.rows L).number) (list_d L)
            (λ _ b. g.list x L b ∙ sym (lists_kept L _ (g.led x L _ (acc_2 _ ((g.own x).now L ∙ b)))));
        heard = λ x L y. case x (λ _ z _. (z.rows L).standing ≡ 2 → has z.heard y ≡ true →
            HasAccepted (w'.past y L (z.rows L).number)) (heard_d L y) (λ _ b h. accs y L _ (g.heard x L y b h));
        held = λ x L. case x (λ x z _. (z.rows L).standing ≡ 2 → HoldsList x L z) (held_d L) (λ _. g.held x L);
        listed = λ x L n. case x (λ x _ p. HasAccepted (p L n) → on (w'.lists L n) x ≡ true) (listed_d L n)
            (λ _ a. ap (λ ℓ. on ℓ x) (lists_kept L n (g.led x L n a)) ∙ g.listed x L n a);
        settled = λ x L n y. case x (λ _ _ p. p L n ≡ 4 → on (w'.lists L n) y ≡ true → HasAccepted (w'.past y L n))
            (settled_d L n y) (λ _. old_settled x L n y);
        dropped = λ x L n. case x (λ _ _ p. p L n ≡ 5 → (y : ℕ) × (on (w'.lists L n) y ≡ true) × (w'.past y L n ≡ 3))
            (dropped_d L n) (λ _. old_dropped x L n);
        letter = letters o t;
      }
