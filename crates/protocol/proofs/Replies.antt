-- While a depot is bound, every other depot on its list answers its Query, and the answer ends the handover or is
-- heard: the leader has not gone on, so all rows of that leader have the number of the handover.
use Rattle.std.proofs.Common.{◌≡◌, ℕ, ◌<◌, ◌≤◌, Bool, true, false, not, ◌&&◌, eqb, List, [], sym, refl, ap, ◌∙◌, inl, inr, arith}
use mathlib.Core.Option.{Option, none, some}
use Rattle.std.proofs.lemmas.Bool.Decides.{nat_tests}
use Rattle.std.proofs.lemmas.Bool.{eqb-true, eq-eqb, ne_eqb, le-ltb, lt-leb, and_left, or_from, not_from_true, both_ways}
use Rattle.entries.specs.declared.lists.Entry.{Entry}
use Rattle.entries.specs.Sets.{has, mark}
use Rattle.entries.specs.Lists.{on}
use Rattle.letters.specs.declared.letter.Kind.{Kind}
use Rattle.letters.specs.declared.letter.Kind.TheVariants as kinds
use Rattle.letters.specs.Contents.{Contents}
use Rattle.protocol.specs.declared.step.Step.{Step}
use Rattle.protocol.specs.declared.step.Step.TheVariants as steps
use Rattle.protocol.specs.declared.step.Situation.{Situation}
use Rattle.protocol.specs.Law.{HasAccepted, Engages}
use Rattle.protocol.specs.Lines.{decided}
use Rattle.protocol.specs.Outcome.{Outcome, note, mail, after, sends}
use Rattle.protocol.specs.Policy.{Policy}
use Rattle.protocol.specs.State.{upd, Site, State, owed, ended}
use Rattle.protocol.specs.Steps.{situation, concluded, carried}
use Rattle.protocol.specs.Taking.{kind_of, strikes, struck, newer, step_for, take}
use Rattle.protocol.proofs.InSets.{has_none, add_tells, mark_self, add_keeps}
use Rattle.protocol.proofs.Tests.{upd_tells, by}
use Rattle.protocol.proofs.ByKind.{by_kind, by_kind_lem}
use Rattle.protocol.proofs.History.{History, site_of}
use Rattle.protocol.proofs.History.{standing, number, Effect, Safe, LeadersKnow}
use Rattle.protocol.proofs.LawfulLists.{kind_back}

-- While one is bound, its leader has not gone on, nor has anybody in the leader's row
module _ {N : ℕ} {w : History} (g : Safe N w) (l : LeadersKnow N w) (x L n : ℕ) (b : w.past x L n ≡ 2) where
  pub at_n : number w x L ≡ n
  at_n = (g.own x).live L n (omega arith)

  pub bound_x : standing w x L ≡ 2
  bound_x = grind arith

  pub led_x : HasAccepted (w.past L L n)
  led_x = g.led x L n (omega arith)

  pub list_x : (w.at x).list ≡ w.lists L n
  list_x = g.list x L bound_x ∙ ap (w.lists L) at_n

  pub pinned : (y : ℕ) → on (w.lists L n) y ≡ true → number w y L ≡ n
  pinned y h = grind arith

  pub stands : (y : ℕ) → on (w.lists L n) y ≡ true → (1 ≤ standing w y L) × (standing w y L ≤ 5)
      × (standing w y L ≡ 1 → y ≡ L → ⊥)
  stands y h = grind arith

-- what is heard stays heard
module _ {N : ℕ} {w : History} {d : ℕ} (g : Safe N w) (L : ℕ) (b : standing w d L ≡ 2) where
  ended_on : (s : State) (M m k : ℕ) → s.rows ≡ upd (w.at d).rows M (record { number = m; standing = k }) →
      Engages (standing w d M) → (k ≡ 2 → standing w d M ≡ 1) → (s.rows L).standing ≡ 2 → ⊥
  ended_on s M m k e a f h = let q = g.single d L M (omega arith) a in let r = ap (λ u. u L) e in
      let t = ap (standing w d) q in
      elim (upd_tells (w.at d).rows M (record { number = m; standing = k }) L)
      [ inl u ↦ (let v = f (cc) in omega arith) | inr u ↦ u.0 q ]

  pub heard_on : {P : Policy} {z : Type 0} {ℓ₀ : List Entry} {s : State} {i j : ℕ} → (z → ⊥) →
      Effect N P w d z ℓ₀ s i j → (s.rows L).standing ≡ 2 → (y : ℕ) → has (w.at d).heard y ≡ true → has s.heard y ≡ true
  heard_on never (Effect.keep b st) h y k = k
  heard_on never (Effect.issue n f u) h y k = k
  heard_on never (Effect.return n f) h y k = k
  heard_on never (Effect.lay n) h y k = k
  heard_on never (Effect.want n f) h y k = k
  heard_on never (Effect.hear c M x st e a u) h y k = add_keeps _ x y k
  heard_on never (Effect.restart M e c) h y k = absurd (never e)
  heard_on never (Effect.lead f u) h y k = absurd (f L (omega arith))
  heard_on never (Effect.offer c M n st lt f u a) h y k = k
  heard_on never (Effect.gather c e st f a) h y k = k
  heard_on {s = s} never (Effect.propose e₀ e f u) h y k = absurd (ended_on s d _ 2 refl (omega arith) (λ _. e) h)
  heard_on {s = s} never (Effect.accept c M ℓ e₀ st e a q f u) h y k =
      absurd (ended_on s M _ 2 refl (omega arith) (λ _. e) h)
  heard_on {s = s} never (Effect.join c M ℓ e₀ st e a q f u) h y k =
      absurd (ended_on s M _ 4 refl (omega arith) (omega arith) h)
  heard_on {s = s} never (Effect.refuse c M st e) h y k =
      absurd (ended_on s M _ 3 refl (omega arith) (omega arith) h)
  heard_on {s = s} never (Effect.settle c M st e a) h y k =
      absurd (ended_on s M _ 4 refl (omega arith) (omega arith) h)
  heard_on {s = s} never (Effect.drop c M x st e a u) h y k =
      absurd (ended_on s M _ 5 refl (omega arith) (omega arith) h)

-- Yes, No, Settle, Drop
abbrev pub IsAnswer : Kind → Type 0
IsAnswer kinds.Ask = ⊥
IsAnswer kinds.Offer = ⊥
IsAnswer kinds.List = ⊥
IsAnswer kinds.Yes = Unit {0}
IsAnswer kinds.No = Unit {0}
IsAnswer kinds.Settle = Unit {0}
IsAnswer kinds.Drop = Unit {0}
IsAnswer kinds.Query = ⊥
IsAnswer kinds.Done = ⊥

-- an answer of y to x about the handover n of L
pub record Reply (P : Policy) (x L n y : ℕ) (r : Contents) : Type 0 where
  pub from : r.sender ≡ y
  pub lead : r.leader ≡ L
  pub about : r.number ≡ n
  pub to : has r.to x ≡ true
  pub good : IsAnswer (kind_of r.kind)
  pub code : r.code ≡ P.code

abbrev pub Replies : Policy → ℕ → ℕ → ℕ → ℕ → Option Contents → Type 0
Replies P x L n y none = ⊥
Replies P x L n y (some r) = Reply P x L n y r

-- a letter to a set with a depot is sent
pub mail_some : (a : Site) (s : State) (k : Kind) (to L : ℕ) (es : List Entry) (x : ℕ) → has to x ≡ true →
    mail a s k to L es ≡ some (note a s k to L es)
unfolding mail
mail_some a s k to L es x h = by (λ u. u ≡ some (note a s k to L es))
    (λ e. absurd (has_none x (rw (eqb-true to 0 e) at h))) (λ _. refl)

-- a letter about the number in the leader's row, under the policy and to the depot, is answered by its step
module _ (N : ℕ) (P : Policy) (w : History) (y : ℕ) (m : Contents) (code : m.code ≡ P.code)
    (to : has m.to y ≡ true) (from : m.sender < N) (low : m.leader < N) (out : m.sender ≡ y → ⊥)
    (about : m.number ≡ number w y m.leader) where
  abbrev a : Site
  a = site_of N P y

  abbrev s₁ : State
  s₁ = struck a (w.at y) m

  old : newer (w.at y) m ≡ false
  unfolding newer
  old = le-ltb _ _ (omega arith)

  old₁ : newer s₁ m ≡ false
  unfolding newer
  old₁ = old

  pub stepped : (Q : Outcome → Type 0) →
      Q (carried a s₁ m.leader m.sender m.number m.entries P (strikes a m)
      (by_kind (kind_of m.kind) (standing w y m.leader)
      (situation a s₁ m.leader m.sender m.number m.entries))) →
      Q (take P a (w.at y) m)
  unfolding take step_for
  stepped Q h =
      by Q
      (λ e. absurd
      (both_ways _ (or_from _ _ (not_from_true _ (eq-eqb _ _ code))
      (not_from_true _ (eq-eqb P.code P.code refl))) e))
      (λ _. by Q (λ e. absurd (both_ways _ (not_from_true _ to) e))
      (λ _. by Q
      (λ e. absurd (both_ways _ (or_from _ _ (lt-leb _ _ from) (or_from _ _ (lt-leb _ _ low) (ne_eqb _ _ out))) e))
      (λ _. by Q (λ e. absurd (both_ways _ (le-ltb _ _ (omega arith)) e))
      (λ _. by Q (λ e. absurd (both_ways _ (and_left _ _ old) e))
      (λ _. by Q (λ e. absurd (both_ways _ (and_left _ _ old) e))
      (λ _. by (λ k. Q (go (decided (kind_of m.kind) k sit))) (λ e. absurd (both_ways _ old₁ e))
      (λ _. rw (by_kind_lem (kind_of m.kind) _ sit) h)))))))
    where
      go : Step → Outcome
      go u = carried a s₁ m.leader m.sender m.number m.entries P (strikes a m) u

      sit : Situation
      sit = situation a s₁ m.leader m.sender m.number m.entries

module _ {N : ℕ} (P : Policy) (x L n y : ℕ) {w : History} (g : Safe N w) (l : LeadersKnow N w) (b : w.past x L n ≡ 2)
    (h : on (w.lists L n) y ≡ true) (x<N : x < N) (y≢x : y ≡ x → ⊥) where
  y<N : y < N
  y<N = (l.offered L n y (led_x g l x L n b) h).1

  L<N : L < N
  L<N = grind arith

  reply : (t : State) (k : Kind) → (t.rows L).number ≡ n → IsAnswer k →
      Replies P x L n y (mail (site_of N P y) t k (mark x) L [])
  reply t k e f = rw (mail_some (site_of N P y) t k (mark x) L [] x (mark_self x)) (record {
    from = refl;
    lead = refl;
    about = e;
    to = mark_self x;
    good = rw (kind_back k) f;
    code = refl;
  })

  module _ (c : ℕ) (v : Bool) (es : List Entry) where
    abbrev sʸ : State
    sʸ = owed c (w.at y)

    abbrev To : Step → Type 0
    To u = Replies P x L n y (sends (carried (site_of N P y) sʸ L x n es P v u))

    -- whatever the standing, one of the lines of Query is for it
    query_told : To (by_kind kinds.Query (standing w y L) (situation (site_of N P y) sʸ L x n es))
    query_told =
        let (lo, hi, no1) = stands g l x L n b y h in
        let p = pinned g l x L n b y h in
        by To (λ _. reply (ended L 3 sʸ) kinds.No
        (let q : (upd (w.at y).rows L (record { number = number w y L; standing = 3 }) L).number ≡ number w y L =
        grind (arith, upd_tells) in q ∙ p) tt)
        (λ f1. by To (λ _. reply sʸ kinds.Yes p tt)
        (λ f2. by To (λ _. reply sʸ kinds.No p tt)
        (λ f3. by To (λ _. reply sʸ kinds.Settle p tt)
        (λ f4. by To (λ _. reply sʸ kinds.Drop p tt)
        (λ f5. absurd (nowhere (λ q r. no1 q (sym r)) lo hi f1 f2 f3 f4 f5))))))
      where
        nowhere : (standing w y L ≡ 1 → L ≡ y → ⊥) → 1 ≤ standing w y L → standing w y L ≤ 5 →
            (eqb (standing w y L) 1 && not (eqb L y)) ≡ false → (eqb (standing w y L) 2 && true) ≡ false →
            (eqb (standing w y L) 3 && true) ≡ false → (eqb (standing w y L) 4 && true) ≡ false →
            (eqb (standing w y L) 5 && true) ≡ false → ⊥
        nowhere no1 lo hi f1 f2 f3 f4 f5 = grind (arith, nat_tests)

  abbrev pub query : ℕ → List Entry → Contents
  query to es = record { kind = 8; sender = x; to = to; leader = L; code = P.code; number = n; entries = es }

  -- y's answer to the Query
  pub answer : (to : ℕ) (es : List Entry) → has to y ≡ true →
      Replies P x L n y (sends (take P (site_of N P y) (w.at y) (query to es)))
  answer to es t =
      let s' = struck (site_of N P y) (w.at y) (query to es) in
      let v = strikes (site_of N P y) (query to es) in
      stepped N P w y (query to es) refl t x<N L<N (λ q. y≢x (sym q)) (sym (pinned g l x L n b y h))
      (λ r. Replies P x L n y (sends r))
      (rw (kind_back kinds.Query) (query_told s'.owing v es))

  -- an answer that arrives at x ends the handover there or is heard
  abbrev Heard : Outcome → Type 0
  Heard r = ((after (w.at x) r).rows L).standing ≡ 2 → has (after (w.at x) r).heard y ≡ true

  gone : (m k : ℕ) → (k ≡ 2 → ⊥) → (upd (w.at x).rows L (record { number = m; standing = k }) L).standing ≡ 2 → ⊥
  gone m k f e = grind (arith, upd_tells)

  here_bound : (eqb (standing w x L) 2 && on (w.at x).list y) ≡ true
  here_bound = grind arith

  module _ (c : ℕ) (v : Bool) (es : List Entry) where
    abbrev sˣ : State
    sˣ = owed c (w.at x)

    abbrev Ends : Step → Type 0
    Ends u = Heard (carried (site_of N P x) sˣ L y n es P v u)

    hear_one : Ends steps.Hear
    unfolding concluded
    hear_one =
        by Heard (λ _ f. absurd (gone _ _ (omega arith) f))
        (λ _ _. elim (add_tells (w.at x).heard y y) [ inl u ↦ u.1 | inr u ↦ absurd (u.0 refl) ])

    takes_answer : (k : Kind) → IsAnswer k → Ends (by_kind k (standing w x L) (situation (site_of N P x) sˣ L y n es))
    takes_answer kinds.Ask e = elim e [ ]
    takes_answer kinds.Offer e = elim e [ ]
    takes_answer kinds.List e = elim e [ ]
    takes_answer kinds.Query e = elim e [ ]
    takes_answer kinds.Done e = elim e [ ]
    takes_answer kinds.Yes e = by Ends (λ _. hear_one) (λ f. absurd (both_ways _ f here_bound))
    takes_answer kinds.No e = by Ends (λ _ f. absurd (gone _ _ (omega arith) f))
        (λ f. absurd (both_ways _ f here_bound))
    takes_answer kinds.Settle e =
        by Ends (λ _ f. absurd (gone _ _ (omega arith) f))
        (λ _. by Ends (λ _ f. absurd (gone _ _ (omega arith) f)) (λ f. absurd (both_ways _ f here_bound)))
    takes_answer kinds.Drop e =
        by Ends (λ _ f. absurd (gone _ _ (omega arith) f))
        (λ _. by Ends (λ _ f. absurd (gone _ _ (omega arith) f)) (λ f. absurd (both_ways _ f here_bound)))

  pub arrives : (r : Contents) → Reply P x L n y r → Heard (take P (site_of N P x) (w.at x) r)
  arrives r f =
      stepped N P w x r f.code f.to (rw f.from y<N)
      (rw f.lead L<N)
      (λ q. y≢x (sym f.from ∙ q)) (f.about ∙ (sym (at_n g l x L n b) ∙ ap (number w x) (sym f.lead))) Heard
      (subst₃
      (λ L' y' n'. Heard (carried (site_of N P x) s' L' y' n' r.entries P (strikes (site_of N P x) r)
      (by_kind (kind_of r.kind) (standing w x L') (situation (site_of N P x) s' L' y' n' r.entries))))
      (sym f.lead) (sym f.from) (sym f.about)
      (takes_answer s'.owing (strikes (site_of N P x) r) r.entries (kind_of r.kind) f.good))
    where
      s' : State
      s' = struck (site_of N P x) (w.at x) r

      subst₃ : (Q : ℕ → ℕ → ℕ → Type 0) {a b c d e f : ℕ} → a ≡ b → c ≡ d → e ≡ f → Q a c e → Q b d f
      subst₃ Q {b = b} {c = c} {e = e} {f = f} p q r h =
          rw q at (rw r at (rw p at h))
