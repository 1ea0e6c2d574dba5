-- Steps that are served: since the outcome keeps the law, so does the record that it names, and the letter that it
-- names can be read; and what the steps that may conclude a handover come to.
use Rattle.std.proofs.Common.{◌≡◌, ℕ, Bool, true, false, List, [], Ok, sym, refl, ap, ◌∙◌, subst}
use mathlib.Core.Logic.{∥∥₁_map}
use mathlib.Core.Option.{Option, none}
use Rattle.entries.specs.declared.lists.Entry.{Entry}
use Rattle.entries.specs.Sets.{has, mark, add}
use Rattle.letters.specs.declared.letter.Kind.{Kind}
use Rattle.letters.specs.declared.letter.Kind.TheVariants as kinds
use Rattle.letters.specs.declared.message.Message.{Message}
use Rattle.letters.specs.Contents.{Contents}
use Rattle.letters.specs.Writing.{message_says}
use Rattle.protocol.specs.declared.step.Step.{Step}
use Rattle.protocol.specs.declared.step.Step.TheVariants as steps
use Rattle.policies.specs.Shares.{share_of}
use Rattle.protocol.specs.Policy.{Policy}
use Rattle.protocol.specs.Listing.{every}
use Rattle.protocol.specs.Law.{Law}
use Rattle.protocol.specs.Keeping.{Keeps, CallsKeep, Readable}
use Rattle.protocol.specs.State.{pick, Site, State, pair, others, stocked, hears, bound, ended, settled}
use Rattle.protocol.specs.Outcome.{Outcome, serves, after, sends, mail}
use Rattle.protocol.specs.Steps.{concluded}
use Rattle.book.specs.declared.record.Record.{Record}
use Rattle.book.specs.View.{site, view, mail_of}
use Rattle.book.specs.Calls.{at, stepped, Sound, Posted, Called, Sent}
use Rattle.book.proofs.Answering.{call_served}
use Rattle.book.proofs.Kept.{any_policy, own_calls}
use Rattle.book.proofs.Mailing.{mail_is, posted_as}
use Rattle.book.proofs.Plain.{readable_known}

-- the record and the letter of an outcome that is served
module _ {a : Site} {s : State} {o : Outcome} (ok : ∥ Keeps a s o ∥₁) where
  pub law_after : {t : State} {m : Option Contents} → o ≡ serves t m → ∥ Law a t ∥₁
  law_after q = ∥∥₁_map ok (λ k. subst (λ x. Law a (after s x)) q k.law)

  pub readable_after : {t : State} {m : Option Contents} → o ≡ serves t m → Readable m
  readable_after {t} {m} q = readable_known m (∥∥₁_map ok (λ k. subst (λ x. Readable (sends x)) q k.mails))

  -- the letter as the record that was left fills it in
  pub said_fine : {t t' : State} {a' : Site} {to to' : ℕ} (k : Kind) (L : ℕ) (es : List Entry)
      → o ≡ serves t (mail a t k to L es) → a' ≡ a → t' ≡ t → to' ≡ to → Readable (mail a' t' k to' L es)
  said_fine k L es q e f g = subst Readable (sym (mail_is k L es e f g)) (readable_after q)

-- an own call keeps the law and sends what can be read
pub sound_by : (call : Site → State → Outcome) (r : Record)
    → (CallsKeep any_policy (site r) (view r) → Keeps (site r) (view r) (at call r)) → Sound call r
sound_by call r keeps = ∥∥₁_map r.kept (λ law. keeps (own_calls (site r) (view r) law))

-- a call that is served: it leaves this record, and sends this letter of it
pub record Says (call : Site → State → Outcome) (r t : Record) (k : Kind) (to L : ℕ) (es : List Entry) : Type 0 where
  pub served : at call r ≡ serves (view t) (mail_of t k to L es)
  pub same : site t ≡ site r

module _ {call : Site → State → Outcome} {r t : Record} {k : Kind} {L : ℕ} {es : List Entry} where
  pub says : {u : State} {to to' : ℕ} → at call r ≡ serves u (mail (site r) u k to L es) → site t ≡ site r → view t ≡ u
      → to' ≡ to → Says call r t k to' L es
  says q e f g = record { served = cc; same = e }

  pub says_fine : {to : ℕ} → Sound call r → Says call r t k to L es → Readable (mail_of t k to L es)
  says_fine ok q = readable_after ok q.served

  pub says_done : {to : ℕ} {x : Sent} {lent left : Message} → Says call r t k to L es
      → Posted (mail_of t k to L es) x lent left → Called call (Ok x) r t lent left
  says_done q h = call_served q.served refl q.same h

-- a step that leaves a record and then sends a letter of it
pub step_said : {call : Site → State → Outcome} {r t : Record} {u : State} {to to' : ℕ} {x : Sent}
    {lent left : Message} (k : Kind) (L : ℕ) (es : List Entry) → at call r ≡ serves u (mail (site r) u k to L es)
    → site t ≡ site r → view t ≡ u → to' ≡ to → Posted (mail (site t) (view t) k to' L es) x lent left
    → Called call (Ok x) r t lent left
step_said {x = x} {lent = lent} {left = left} k L es q e f g h =
    call_served q f e (posted_as x lent left (mail_is k L es e f g) h)

-- settling with the share that the policy gives
module _ (P : Policy) (L : ℕ) (es : List Entry) (r : Record) {share : ℕ} (e : share ≡ share_of P.share es (site r).depot)
  where
    abbrev given : ℕ → State
    given n = ended L 4 (stocked n (view r).tray 0 (view r))

    pub may_settle : ∥ Law (site r) (settled P (site r) L es (view r)) ∥₁ → ∥ Law (site r) (given share) ∥₁
    may_settle ok = subst (λ n. ∥ Law (site r) (given n) ∥₁) (sym e) ok

    pub is_settled : {t : State} → t ≡ given share → t ≡ settled P (site r) L es (view r)
    is_settled q = q ∙ ap given e

-- binding to the list that a letter carries
module _ (L : ℕ) (r : Record) {es es' : List Entry} (e : es ≡ es') where
  abbrev tied : List Entry → State
  tied xs = bound L xs (pair (site r) L) (view r).owing (view r)

  pub may_bind : ∥ Law (site r) (tied es') ∥₁ → ∥ Law (site r) (tied es) ∥₁
  may_bind ok = subst (λ xs. ∥ Law (site r) (tied xs) ∥₁) (sym e) ok

  pub is_bound : {t : State} → t ≡ tied es → t ≡ tied es'
  is_bound q = q ∙ ap tied e

-- accepting and hearing, with all on the list heard and without
module _ (P : Policy) (m : Contents) (a : Site) (s : State) where
  abbrev accepting : State
  accepting = bound m.leader m.entries (pair a m.leader) s.owing s

  abbrev hearing : ℕ
  hearing = add s.heard m.sender

  -- a letter about its handover
  abbrev of : State → Kind → ℕ → Option Contents
  of t k to = mail a t k to m.leader []

  pub accept_settles : every m.entries (has (pair a m.leader)) ≡ true → stepped P false m steps.Accept a s
      ≡ serves (settled P a m.leader m.entries s)
      (of (settled P a m.leader m.entries s) kinds.Settle (others a m.entries))
  unfolding concluded pick
  accept_settles e = rw e refl

  pub accept_binds : every m.entries (has (pair a m.leader)) ≡ false
      → stepped P false m steps.Accept a s ≡ serves accepting (of accepting kinds.Yes (mark m.leader))
  unfolding concluded pick
  accept_binds e = rw e refl

  pub hear_settles : every s.list (has hearing) ≡ true
      → stepped P false m steps.Hear a s
      ≡ serves (settled P a m.leader s.list s) (of (settled P a m.leader s.list s) kinds.Settle (others a s.list))
  unfolding concluded pick
  hear_settles e = rw e refl

  pub hear_waits : every s.list (has hearing) ≡ false
      → stepped P false m steps.Hear a s ≡ serves (hears hearing s) none
  unfolding concluded pick
  hear_waits e = rw e refl

-- the outcome of a step that is known
pub step_is : (P : Policy) (b : Bool) (letter : Message) (a : Site) (s : State) {x y : Step} → x ≡ y
    → stepped P b (message_says letter) x a s ≡ stepped P b (message_says letter) y a s
step_is P b letter a s e = ap (λ z. stepped P b (message_says letter) z a s) e
