-- A letter's being lawful is a plain fact: it has one proof at most, so that it comes out of the law in a record's
-- type.
use Rattle.std.proofs.Common.{◌≡◌, ℕ, Bool, true, false, cond, eqb, List, [], ◌∷◌, refl, arith}
use mathlib.Core.Logic.{∥∥₁_elim, ∥∥₁_map}
use mathlib.Core.Option.{Option, none, some}
use native.Mathlib.Bridge.{le_prop}
use denote.Struct.Props.{props}
use Rattle.entries.specs.declared.lists.Entry.{Entry}
use Rattle.entries.proofs.Known.{all_plain, listed_known}
use Rattle.letters.specs.Contents.{Contents, LawfulEntry, Offered, Carries, Lawful, offer_kind, list_kind}
use Rattle.protocol.specs.Keeping.{Readable}

entry_plain : (e : Entry) → IsProp (LawfulEntry e)
entry_plain e a b = λ i. record {
  depot_below = le_prop a.depot_below b.depot_below i;
  wish_within = le_prop a.wish_within b.wish_within i;
  shelf_within = le_prop a.shelf_within b.shelf_within i;
}

offered_known : (sender : ℕ) (es : List Entry) → ∥ Offered sender es ∥₁ → Offered sender es
offered_known sender es ok =
    record {
      one = ∥∥₁_elim ok (hlevel props) (λ o. o.one);
      own = ∥∥₁_elim ok (all_plain (λ e. e.depot ≡ sender) (λ e. hlevel props) es) (λ o. o.own);
      lawful = ∥∥₁_elim ok (all_plain LawfulEntry entry_plain es) (λ o. o.lawful);
    }

empty_known : (es : List Entry) → ∥ es ≡ [] ∥₁ → es ≡ []
empty_known [] ok = refl
empty_known (e ∷ es) ok =
    absurd (∥∥₁_elim ok (hlevel props) (λ q. let z : ◌≡◌ {A = ℕ} 0 1 = cc in omega arith))

either_known : (b : Bool) {A B : Type 0} → (∥ A ∥₁ → A) → (∥ B ∥₁ → B) → ∥ cond b A B ∥₁ → cond b A B
either_known true f g ok = f ok
either_known false f g ok = g ok

carries_known : (kind sender : ℕ) (es : List Entry) → ∥ Carries kind sender es ∥₁ → Carries kind sender es
carries_known kind sender es ok =
    either_known (eqb kind offer_kind) (offered_known sender es)
    (either_known (eqb kind list_kind) (listed_known es) (empty_known es)) ok

lawful_known : (m : Contents) → ∥ Lawful m ∥₁ → Lawful m
lawful_known m ok =
    record {
      kind_low = ∥∥₁_elim ok le_prop (λ l. l.kind_low);
      kind_high = ∥∥₁_elim ok le_prop (λ l. l.kind_high);
      sender_below = ∥∥₁_elim ok le_prop (λ l. l.sender_below);
      to_fits = ∥∥₁_elim ok le_prop (λ l. l.to_fits);
      leader_below = ∥∥₁_elim ok le_prop (λ l. l.leader_below);
      code_low = ∥∥₁_elim ok le_prop (λ l. l.code_low);
      code_high = ∥∥₁_elim ok le_prop (λ l. l.code_high);
      number_low = ∥∥₁_elim ok le_prop (λ l. l.number_low);
      number_fits = ∥∥₁_elim ok le_prop (λ l. l.number_fits);
      carries = carries_known m.kind m.sender m.entries (∥∥₁_map ok (λ l. l.carries));
    }

pub readable_known : (m : Option Contents) → ∥ Readable m ∥₁ → Readable m
readable_known none ok = tt
readable_known (some m) ok = lawful_known m ok
