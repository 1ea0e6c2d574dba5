-- What holds after every series, by going through its calls: the history is safe, every record is lawful, and so is
-- every letter sent.
use Rattle.std.proofs.Common.{◌≡◌, ℕ, zero, suc, ◌<◌, ◌≤◌, true, false, eqb, List, sym, refl, ap, ◌∙◌, ap₂, inl, inr, arith}
use mathlib.Core.Path.{fun_ext}
use mathlib.Core.Option.{Option, none, some}
use Rattle.std.proofs.lemmas.Bool.{ltb-true, not-false, false≢true, eqb-true, and_parts, or_cases, or_parts, both_ways, cases_eq}
use Rattle.entries.specs.declared.lists.Entry.{Entry}
use Rattle.letters.specs.Contents.{Contents, Lawful}
use Rattle.letters.specs.Reading.{letter, reads}
use Rattle.protocol.specs.Calls.{Call, Hand, Issue, Return, Wish, Lead, Propose, Withdraw, Query, Remind, Restart}
use Rattle.protocol.specs.Calls.{Receive, list_carried, issues, returns, hands}
use Rattle.protocol.specs.Keeping.{Keeps, CallsKeep, Readable}
use Rattle.protocol.specs.Law.{Law}
use Rattle.protocol.specs.Opening.{Opening, LawfulOpening, sum_to}
use Rattle.protocol.specs.Outcome.{Outcome, after, sends, served}
use Rattle.protocol.specs.Policy.{Policy, LawfulPolicy}
use Rattle.protocol.specs.Series.{Stage, just_opened, site, outcome, Among, Given, Allowed, Series, posted, called}
use Rattle.protocol.specs.Series.{start, then}
use Rattle.protocol.specs.State.{upd, Site, State, fresh}
use Rattle.letters.proofs.Forth.{one_form}
use Rattle.protocol.proofs.Tests.{upd_tells, by}
use Rattle.protocol.proofs.History.{History, next, history, Safe, LeadersKnow}
use Rattle.protocol.proofs.Explained.{Explained, refused_explained, take_explained, issue_explained, return_explained}
use Rattle.protocol.proofs.Explained.{wish_explained, lead_explained, propose_explained, withdraw_explained}
use Rattle.protocol.proofs.Explained.{query_explained, restart_explained, remind_explained}
use Rattle.protocol.proofs.CallsKeep.{refusal_kept}
use Rattle.protocol.proofs.LawKept.{fresh_lawful, calls_kept}
use Rattle.protocol.proofs.RowMoves.{move_of}
use Rattle.protocol.proofs.SafeNext.{safe_next}
use Rattle.protocol.proofs.Leaders.{leaders_next}

-- a call that leaves a record as it was leaves the history as it was
pub same_next : {N : ℕ} {w : History} → Safe N w → (d : ℕ) → next w d (w.at d) none ≡ w
same_next {w = w} g d = ap (λ u. mk u (next w d (w.at d) none).past (next w d (w.at d) none).lists) e1
    ∙ (ap (λ u. mk w.at u (next w d (w.at d) none).lists) e2 ∙ ap (λ u. mk w.at w.past u) e3)
  where
    mk : (ℕ → State) → (ℕ → ℕ → ℕ → ℕ) → (ℕ → ℕ → List Entry) → History
    mk a p l = record { at = a; past = p; lists = l; sent = w.sent }

    e1 : upd w.at d (w.at d) ≡ w.at
    e1 = fun_ext (λ x. elim (upd_tells w.at d (w.at d) x) [ inl u ↦ u.1 ∙ ap w.at (sym u.0) | inr u ↦ u.1 ])

    e2 : (next w d (w.at d) none).past ≡ w.past
    e2 = fun_ext (λ x. fun_ext (λ L. fun_ext (λ n. grind arith)))

    e3 : (next w d (w.at d) none).lists ≡ w.lists
    e3 = fun_ext (λ L. fun_ext (λ n. grind arith))

-- Hand leaves what is there: a record not handed out is as Hand fills it
pub record Invariant {P : Policy} {o : Opening} {w : Stage} (s : Series P o (just_opened o) w) : Type 0 where
  pub safe : Safe o.n (history s)
  pub leaders : LeadersKnow o.n (history s)
  pub law : (x : ℕ) → x < o.n → Law (site P o x) (w.at x)
  pub sent : (m : Contents) → Among m w.sent → Lawful m
  pub unhanded : (x : ℕ) → w.handed x ≡ false → w.at x ≡ fresh (o.shares x)
  pub low : (x : ℕ) → w.handed x ≡ true → x < o.n

-- what Hand answers
pub record Handed (o : Opening) (w : Stage) (d : ℕ) (r : Outcome) : Type 0 where
  pub same : after (w.at d) r ≡ w.at d
  pub silent : sends r ≡ none
  pub low : served r ≡ true → d < o.n

-- a call at a depot that has its record
pub record Handled {P : Policy} {o : Opening} {w : Stage} (s : Series P o (just_opened o) w) (d : ℕ) (c : Call) :
    Type 0 where
  pub handed : w.handed d ≡ true
  pub other : hands c ≡ false
  pub low : d < o.n
  pub explained : Explained o.n P (history s) d (c ≡ Restart) (list_carried (w.at d) c) (issues c) (returns c)
      (outcome P o w d c)
  pub kept : Keeps (site P o d) (w.at d) (outcome P o w d c)

module _ {P : Policy} (lawful : LawfulPolicy P) {o : Opening} {w : Stage} {s : Series P o (just_opened o) w}
    (h : Invariant s) (d : ℕ) where
  abbrev a : Site
  a = site P o d

  handled : {c : Call} → hands c ≡ false → w.handed d ≡ true →
      (Law a (w.at d) → Explained o.n P (history s) d (c ≡ Restart) (list_carried (w.at d) c) (issues c) (returns c)
      (outcome P o w d c)) →
      (CallsKeep P a (w.at d) → Keeps a (w.at d) (outcome P o w d c)) → Handled s d c
  handled f e x k =
      let l = h.law d (h.low d e) in
      record {
        handed = e;
        other = f;
        low = h.low d e;
        explained = x l;
        kept = k (calls_kept P lawful a (w.at d) l);
      }

  read_handled : (bytes : List ℕ) → w.handed d ≡ true → Given w bytes → Handled s d (Receive bytes)
  read_handled bytes e (inl (m, k, q)) =
      let r : reads bytes ≡ letter m = ap reads q ∙ one_form.read_back m (h.sent m k) in
      handled refl e
      (λ l. rw r (take_explained P _ _ h.safe l m refl (h.sent m k) (h.safe.letter m k)))
      (λ c. rw r (c.take m (h.sent m k)))
  read_handled bytes e (inr (n, q)) =
      handled refl e
      (λ l. rw q (refused_explained P _ _ h.safe l 0 0 n))
      (λ c. rw q (refusal_kept a (w.at d) (h.law d (h.low d e)) n))

  -- what is so after a Hand, and after a call at a depot that has its record, is so after every call
  pub by_call : (Q : (c : Call) → Allowed w d c → Type 0) → ((t : Allowed w d Hand) → Q Hand t) →
      ((c : Call) (t : Allowed w d c) → Handled s d c → Q c t) → (c : Call) (t : Allowed w d c) → Q c t
  by_call Q x y Hand t = x t
  by_call Q x y (Issue n) t = y _ t (handled refl t (λ l. issue_explained P _ _ h.safe l n) (λ k. k.issue n))
  by_call Q x y (Return n) t = y _ t (handled refl t (λ l. return_explained P _ _ h.safe l n) (λ k. k.give_back n))
  by_call Q x y (Wish n) t = y _ t (handled refl t (λ l. wish_explained P _ _ h.safe l n) (λ k. k.set_wish n))
  by_call Q x y Lead t = y _ t (handled refl t (λ l. lead_explained P _ _ h.safe l) (λ k. k.lead))
  by_call Q x y Propose t = y _ t (handled refl t (λ l. propose_explained P _ _ h.safe l refl) (λ k. k.propose))
  by_call Q x y Withdraw t = y _ t (handled refl t (λ l. withdraw_explained P _ _ h.safe l _) (λ k. k.withdraw))
  by_call Q x y Query t = y _ t (handled refl t (λ l. query_explained P _ _ h.safe l _) (λ k. k.query))
  by_call Q x y Remind t = y _ t (handled refl t (λ l. remind_explained P _ _ h.safe l) (λ k. k.remind))
  by_call Q x y Restart t = y _ t (handled refl t (λ l. restart_explained P _ _ h.safe l _ refl) (λ k. k.restart))
  by_call Q x y (Receive bytes) t = y _ t (read_handled bytes t.0 t.1)

mailed : (o : Option Contents) (ms : List Contents) → Readable o → ((m : Contents) → Among m ms → Lawful m) →
    (m : Contents) → Among m (posted o ms) → Lawful m
mailed none ms h f m k = f m k
mailed (some x) ms h f m (inl e) = rw e h
mailed (some x) ms h f m (inr k) = f m k

-- a share is at most the total
part : (N x : ℕ) (f : ℕ → ℕ) → x < N → f x ≤ sum_to N f
unfolding sum_to
part zero x f l = absurd (omega arith)
part (suc N) x f l = elim (cases_eq x N) [
  | inl e ↦ (let q = ap f e in omega arith)
  | inr e ↦ (let q = part N x f (omega arith) in omega arith)
]

fresh_law : (P : Policy) → LawfulPolicy P → (o : Opening) → LawfulOpening o → (x : ℕ) → x < o.n →
    Law (site P o x) (fresh (o.shares x))
fresh_law P lawful o ok x l = fresh_lawful (site P o x) (o.shares x)
    (record { depot = l; size = ok.few; code_low = lawful.coded.0; code_high = lawful.coded.1 })
    (let p = part o.n x o.shares l in omega arith)

invariant_start : {P : Policy} → LawfulPolicy P → {o : Opening} → LawfulOpening o → Invariant {P = P} {o = o} start
invariant_start {P} lawful {o} ok =
    record {
      safe = record {
        own = λ x. record { now = λ L. refl; later = λ L n _. refl; live = λ L n a. absurd (omega arith) };
        single = λ x L M a _. absurd (omega arith);
        small = λ x L a. absurd (omega arith);
        most = λ x L n. omega arith;
        asked = λ x L n a. absurd (omega arith);
        led = λ x L n a. absurd (omega arith);
        list = λ x L a. absurd (omega arith);
        heard = λ x L y a _. absurd (omega arith);
        held = λ x L a. absurd (omega arith);
        listed = λ x L n a. absurd (omega arith);
        settled = λ x L n y a _. absurd (omega arith);
        dropped = λ x L n a. absurd (omega arith);
        letter = λ m h. elim h [ ];
      };
      leaders = record {
        rowed = λ x L. inl refl;
        gathered = λ x y a _. absurd (omega arith);
        offered = λ L n y a _. absurd (omega arith);
        owing = λ L y a _. absurd (omega arith);
        over = λ L n y a _ _. absurd (omega arith);
      };
      law = fresh_law P lawful o ok;
      sent = λ m h. elim h [ ];
      unhanded = λ x _. refl;
      low = λ x e. absurd (false≢true e);
    }

module _ {P : Policy} {o : Opening} {w : Stage} {s : Series P o (just_opened o) w} (h : Invariant s) (d : ℕ) where
  pub hand_is : Handed o w d (outcome P o w d Hand)
  hand_is =
      by (Handed o w d) (λ _. record { same = refl; silent = refl; low = λ e. absurd (false≢true e) })
      (λ l. by (Handed o w d) (λ _. record { same = refl; silent = refl; low = λ e. absurd (false≢true e) })
      (λ f. record { same = sym (h.unhanded d f); silent = refl; low = λ _. ltb-true d o.n (not-false _ l) }))

  -- Hand changes no record that a history speaks of
  pub hand_history : (t : Allowed w d Hand) → history (then s d Hand t) ≡ history s
  hand_history t = ap₂ (λ u v. next (history s) d u v) hand_is.same hand_is.silent ∙ same_next h.safe d

  pub hand_invariant : (t : Allowed w d Hand) → Invariant (then s d Hand t)
  hand_invariant t =
      record {
        safe = rw (hand_history t) h.safe;
        leaders = rw (hand_history t) h.leaders;
        law = λ x l. rw (at x) (h.law x l);
        sent = λ m k. h.sent m (rw hand_is.silent at k);
        unhanded = λ x e. at x ∙ h.unhanded x (or_parts (w.handed x) _ e).0;
        low = λ x e. elim (or_cases (w.handed x) _ e) [
          | inl q ↦ h.low x q
          | inr q ↦ (let (p, r) = and_parts (served (outcome P o w d Hand)) (eqb x d) q in
              rw (eqb-true x d r) (hand_is.low p))
        ];
      }
    where
      at : (x : ℕ) → (called P o w d Hand).at x ≡ w.at x
      at x = elim (upd_tells w.at d (after (w.at d) (outcome P o w d Hand)) x)
          [ inl u ↦ u.1 ∙ (hand_is.same ∙ ap w.at (sym u.0)) | inr u ↦ u.1 ]

  handled_invariant : (c : Call) (t : Allowed w d c) → Handled s d c → Invariant (then s d c t)
  handled_invariant c t k =
      record {
        safe = safe_next h.safe (move_of k.low h.safe k.explained.effect) (sends r) k.explained.vouched;
        leaders = leaders_next k.low h.safe h.leaders k.explained.effect (sends r);
        law = λ x l. elim (upd_tells w.at d (after (w.at d) r) x) [
          | inl u ↦ rw u.1 (rw u.0 k.kept.law)
          | inr u ↦ rw u.1 (h.law x l)
        ];
        sent = mailed (sends r) w.sent k.kept.mails h.sent;
        unhanded = λ x q. let z = (or_parts (w.handed x) _ q).0 in
            elim (upd_tells w.at d (after (w.at d) r) x) [
              | inl u ↦ absurd (both_ways _ (rw u.0 at z) k.handed)
              | inr u ↦ u.1 ∙ h.unhanded x z
            ];
        low = λ x q. elim (or_cases (w.handed x) _ q) [
          | inl z ↦ h.low x z
          | inr z ↦ grind arith
        ];
      }
    where
      r : Outcome
      r = outcome P o w d c

module _ {P : Policy} (lawful : LawfulPolicy P) {o : Opening} (ok : LawfulOpening o) where
  pub invariant : {w : Stage} (s : Series P o (just_opened o) w) → Invariant s
  invariant start = invariant_start lawful ok
  invariant (then {w} s d c t) =
      let h = invariant s in
      by_call lawful h d (λ c t. Invariant (then s d c t)) (hand_invariant h d) (handled_invariant h d) c t
