-- Following a letter's line: the step that the code decided on is the one that the definitions name, it has what
-- carrying it out relies on, and carrying it out at the record with the sender struck is what the line comes to.
use Rattle.std.proofs.Common.{◌≡◌, ℕ, ◌≤◌, Bool, true, false, Result, sym, refl, ap, ◌∙◌, subst, ap₂, arith}
use mathlib.Core.Logic.{∥∥₁_map}
use mathlib.Core.Option.{Option, none}
use Rattle.entries.specs.Sets.{mark, less}
use Rattle.letters.specs.declared.letter.Kind.{Kind}
use Rattle.letters.specs.declared.letter.Kind.TheVariants as kinds
use Rattle.letters.specs.declared.message.Message.{Message}
use Rattle.letters.specs.Contents.{Contents, Lawful}
use Rattle.letters.specs.Reading.{Refusal as Refused}
use Rattle.letters.specs.Code.{kind_number}
use Rattle.letters.specs.Writing.{message_says}
use Rattle.letters.proofs.Carried.{lawful_listed}
use Rattle.protocol.specs.declared.refusal.Refusal.{Refusal}
use Rattle.protocol.specs.declared.step.Whom.{Whom}
use Rattle.protocol.specs.declared.step.Step.{Step}
use Rattle.protocol.specs.declared.step.Step.TheVariants as steps
use Rattle.protocol.specs.declared.step.Situation.{Situation}
use Rattle.protocol.specs.Policy.{Policy, LawfulPolicy}
use Rattle.protocol.specs.Law.{Law}
use Rattle.protocol.specs.Keeping.{Keeps}
use Rattle.protocol.specs.State.{pick, Site, State, owed}
use Rattle.protocol.specs.Outcome.{Outcome, refuses, serves, after}
use Rattle.protocol.specs.Lines.{decided, Grounds}
use Rattle.protocol.specs.Steps.{situation, concluded}
use Rattle.protocol.specs.Taking.{strikes, struck, standing_in, step_for, take}
use Rattle.protocol.proofs.Tests.{by}
use Rattle.protocol.proofs.ByKind.{tells_how, by_kind, by_kind_lem}
use Rattle.protocol.proofs.LawfulLists.{kind_back}
use Rattle.protocol.proofs.LawKept.{law_kept}
use Rattle.book.specs.declared.record.Record.{Record}
use Rattle.book.specs.View.{site, view}
use Rattle.book.specs.Calls.{told, at, stepped, lined, Sound, StepGrounds, Answered, Called, Sent}

-- another step than Accept
abbrev Other : Step → Type 0
Other x = x ≡ steps.Accept → ⊥

-- telling how a handover stands is another step
other_told : (k : ℕ) (b : Bool) (to : Whom) → Other (tells_how k b to)
other_told k b to =
    by Other (λ _ q. cc) (λ _. by Other (λ _ q. cc) (λ _. by Other (λ _ q. cc) (λ _. by Other (λ _ q. cc) (λ _ q. cc))))

-- only a List is accepted
accepts_list : (c : Kind) (k : ℕ) (o : Situation) → by_kind c k o ≡ steps.Accept → c ≡ kinds.List
accepts_list kinds.List k o q = refl
accepts_list kinds.Ask k o q = absurd (by Other (λ _ q. cc) (λ _. by Other (λ _ q. cc) (λ _ q. cc)) q)
accepts_list kinds.Offer k o q = absurd (by Other (λ _ q. cc) (λ _. by Other (λ _ q. cc) (λ _ q. cc)) q)
accepts_list kinds.Yes k o q = absurd (by Other (λ _ q. cc) (λ _ q. cc) q)
accepts_list kinds.No k o q = absurd (by Other (λ _ q. cc) (λ _ q. cc) q)
accepts_list kinds.Settle k o q =
    absurd (by Other (λ _ q. cc) (λ _. by Other (λ _ q. cc) (λ _. by Other (λ _ q. cc) (λ _ q. cc))) q)
accepts_list kinds.Drop k o q =
    absurd (by Other (λ _ q. cc) (λ _. by Other (λ _ q. cc) (λ _. by Other (λ _ q. cc)
    (λ _. by Other (λ _ q. cc) (λ _. by Other (λ _ q. cc) (λ _ q. cc))))) q)
accepts_list kinds.Query k o q = absurd (by Other (λ _ q. cc) (λ _. other_told k true _) q)
accepts_list kinds.Done k o q = absurd (let f : Other steps.Unlined = λ q. cc in f q)

-- a standing other than 0 in a letter's handover is that in the leader's row
past_new : (b : Bool) (x j : ℕ) → 1 ≤ j → pick b 0 x ≡ j → x ≡ j
unfolding pick
past_new true x j h q = absurd (omega arith)
past_new false x j h q = q

-- an outcome that keeps the law at one record keeps it at another lawful one
keeps_at : (a : Site) (s t : State) (o : Outcome) → ∥ Law a t ∥₁ → ∥ Keeps a s o ∥₁ → ∥ Keeps a t o ∥₁
keeps_at a s t (refuses e) law ok = ∥∥₁_map law (λ l. record { law = l; mails = tt })
keeps_at a s t (serves u m) law ok = ∥∥₁_map ok (λ k. record { law = k.law; mails = k.mails })

-- a step leaves the same, whichever of two records a refusal would leave: it is refused only where it does not strike
module _ (u u' : State) where
  -- either of two served outcomes
  one_after : (b : Bool) (t t' : State) (m m' : Option Contents)
      → after u (pick b (serves t m) (serves t' m')) ≡ after u' (pick b (serves t m) (serves t' m'))
  unfolding pick
  one_after true t t' m m' = refl
  one_after false t t' m m' = refl

  -- a letter without a line
  strike_after : (b : Bool) (t : State) (e : Refused) → (b ≡ false → u ≡ u')
      → after u (pick b (serves t none) (refuses e)) ≡ after u' (pick b (serves t none) (refuses e))
  unfolding pick
  strike_after true t e f = refl
  strike_after false t e f = f refl

-- any step
after_same : (P : Policy) (b : Bool) (m : Contents) (a : Site) (s : State) (x : Step) (u u' : State)
    → (b ≡ false → u ≡ u') → after u (stepped P b m x a s) ≡ after u' (stepped P b m x a s)
unfolding concluded
after_same P b m a s steps.Unlined u u' f = strike_after u u' b s _ f
after_same P b m a s steps.Stay u u' f = refl
after_same P b m a s steps.Join u u' f = refl
after_same P b m a s steps.OfferAgain u u' f = refl
after_same P b m a s steps.Gather u u' f = refl
after_same P b m a s steps.Accept u u' f = one_after u u' _ _ _ _ _
after_same P b m a s steps.Hear u u' f = one_after u u' _ _ _ _ _
after_same P b m a s (steps.Say k v) u u' f = refl
after_same P b m a s (steps.Refuse v) u u' f = refl
after_same P b m a s (steps.Settle k v) u u' f = refl
after_same P b m a s (steps.Drop k v) u u' f = refl

-- a letter at a record
module _ (letter : Message) where
  -- what it says
  abbrev m : Contents
  m = message_says letter

  -- its kind
  abbrev k : Kind
  k = letter.kind

  -- whether a record's guards see this of it
  abbrev Seen : Site → State → Situation → Type 0
  Seen a t about = about ≡ situation a t m.leader m.sender m.number m.entries

  -- the step that it calls for, as the code decides it
  pub step_now : (a : Site) (t : State) {n : ℕ} {about : Situation} {x : Step} → x ≡ decided k n about
      → n ≡ standing_in t m → Seen a t about → x ≡ step_for a t m
  unfolding step_for
  step_now a t e f g =
      e ∙ ap₂ (decided k) f g
      ∙ ap (λ c. decided c (standing_in t m) (situation a t m.leader m.sender m.number m.entries)) (sym (kind_back k))

  -- what the step may rely on
  pub grounds_now : (a : Site) (t : State) {n : ℕ} {about : Situation} (x : Step) → ∥ Lawful m ∥₁ → x ≡ decided k n about
      → Grounds x n about → n ≡ standing_in t m → Seen a t about
      → StepGrounds m t x
  grounds_now a t steps.Unlined law e g f i = tt
  grounds_now a t steps.Stay law e g f i = tt
  grounds_now a t steps.Join law e g f i = tt
  grounds_now a t steps.OfferAgain law e g f i = tt
  grounds_now a t steps.Gather law e g f i = sym (ap (λ o. o.gatherable) i) ∙ g
  grounds_now a t {n} {about} steps.Accept law e g f i =
      let q = accepts_list k n about (sym (e ∙ by_kind_lem k n about)) in
      ∥∥₁_map law (λ l. lawful_listed m l (ap kind_number q))
  grounds_now a t steps.Hear law e g f i = past_new _ _ 2 (omega arith) (sym f ∙ g)
  grounds_now a t (steps.Say c v) law e g f i = tt
  grounds_now a t (steps.Refuse v) law e g f i = past_new _ _ 1 (omega arith) (sym f ∙ g)
  grounds_now a t (steps.Settle c v) law e g f i = past_new _ _ 2 (omega arith) (sym f ∙ g)
  grounds_now a t (steps.Drop c v) law e g f i = past_new _ _ 2 (omega arith) (sym f ∙ g)

  -- a record that its sender is struck from, where it strikes, and the step that it calls for there
  pub record Struck (r r' : Record) (b : Bool) (x : Step) : Type 0 where
    pub same : site r' ≡ site r
    pub strikes_it : b ≡ strikes (site r) m
    pub now : view r' ≡ owed (pick b (less (view r).owing (mark m.sender)) (view r).owing) (view r)
    pub step : x ≡ step_for (site r') (view r') m

  module _ (P : Policy) {r r' : Record} {b : Bool} {x : Step} (is : Struck r r' b x) where
    -- the record is the one that the letter leaves with its sender struck
    struck_now : view r' ≡ struck (site r) (view r) m
    struck_now = is.now ∙ ap (λ z. owed (pick z (less (view r).owing (mark m.sender)) (view r).owing) (view r)) is.strikes_it

    -- the step at the record with the sender struck comes to what the line comes to
    line_is : at (stepped P b m x) r' ≡ at (lined P m) r
    line_is =
        ap (λ z. stepped P b m z (site r') (view r')) is.step
        ∙ ap (λ z. stepped P b m (step_for z (view r') m) z (view r')) is.same
        ∙ ap (λ z. stepped P b m (step_for (site r) z m) (site r) z) struck_now
        ∙ ap (λ z. stepped P z m (step_for (site r) (struck (site r) (view r) m) m) (site r)
        (struck (site r) (view r) m)) is.strikes_it

    -- a letter that does not strike leaves the record as it was
    unstruck : b ≡ false → view r' ≡ view r
    unfolding pick
    unstruck q = is.now ∙ rw q refl

    -- carrying it out keeps the law and sends what can be read, since the line does
    pub sound_now : Sound (lined P m) r → Sound (stepped P b m x) r'
    sound_now ok =
        subst (λ o. ∥ Keeps (site r') (view r') o ∥₁) (sym line_is)
        (subst (λ z. ∥ Keeps z (view r') (at (lined P m) r) ∥₁) (sym is.same)
        (keeps_at (site r) (view r) (view r') (at (lined P m) r)
        (subst (λ z. ∥ Law z (view r') ∥₁) is.same r'.kept) ok))

    -- and answers and leaves what the line does
    pub called_now : {res : Result Sent Refusal} {t : Record} {lent left : Message}
        → Called (stepped P b m x) res r' t lent left → Called (lined P m) res r t lent left
    called_now {res} {t} {lent} {left} c =
        record {
          answer = subst (λ o. Answered told o res lent left) line_is c.answer;
          leaves = record {
            state =
                c.leaves.state
                ∙ after_same P b m (site r') (view r') x (view r') (view r) unstruck
                ∙ ap (after (view r)) line_is;
            same = c.leaves.same ∙ is.same;
          };
        }

-- a letter that no refusal before the lines keeps out: its line keeps the law, since taking it does
pub line_sound : (P : Policy) → LawfulPolicy P → (r : Record) (m : Contents) → Lawful m
    → at (λ a s. take P a s m) r ≡ at (lined P m) r → Sound (lined P m) r
line_sound P lawful r m ok q =
    subst (λ o. ∥ Keeps (site r) (view r) o ∥₁) q
    (∥∥₁_map r.kept (λ law. (law_kept.calls P lawful (site r) (view r) law).take m ok))
