-- Gathering an entry: insertion takes it, since its depot is not there and the pool stays within the limit, and since
-- the record that it leads to is lawful there is room for it.
use Rattle.std.proofs.Common.{◌≡◌, ◌≤◌, true, cond, not, List, [], ◌∷◌, length, get_or, is_ok, Result, sym, ap, ◌∙◌, inl, inr, refl, arith}
use mathlib.Core.Logic.{∥∥₁_elim}
use denote.Struct.Props.{props}
use Rattle.std.proofs.lemmas.Bool.{cases_eq, and_parts, not-true, false≢true}
use Rattle.entries.specs.declared.lists.Entry.{Entry}
use Rattle.entries.specs.declared.filling.InsertRefusal.{InsertRefusal}
use Rattle.entries.specs.Limits.{max_depots}
use Rattle.entries.specs.Lists.{on, insert}
use Rattle.entries.specs.Filling.{Inserted}
use Rattle.entries.proofs.Rising.{rising_short}
use Rattle.entries.proofs.Insertion.{insert_length, is_taken}
use Rattle.protocol.specs.State.{Site, State, gathers}
use Rattle.protocol.specs.Law.{Law}
use Rattle.protocol.specs.Steps.{fits_gathered, gathered_with}

-- a lawful record has gathered no more entries than there can be depots
gathered_few : (a : Site) (s : State) → ∥ Law a s ∥₁ → length s.gathered ≤ max_depots
gathered_few a s ok =
    ∥∥₁_elim ok (hlevel props) (λ law. elim (cases_eq (s.rows a.depot).standing 1) [
      | inl e ↦ (
          let b = (law.lists.gathering e).0.begun in
          let h = rising_short a.n 0 s.gathered (omega arith) b.rises b.depots in
          let n = law.site.size in
          omega arith
          )
      | inr e ↦ (let h = ap length (law.lists.ungathered e) in omega arith)
    ])

-- the list with the entry in its order
pub gathered_now : (a : Site) (s : State) (e : Entry) {after : List Entry} {r : Result (Unit {0}) InsertRefusal}
    → Inserted e s.gathered r after → fits_gathered s.gathered (e ∷ []) ≡ true
    → ∥ Law a (gathers (insert e s.gathered) s) ∥₁ → after ≡ insert e s.gathered
gathered_now a s e {r = r} did fits ok =
    let few = gathered_few a (gathers (insert e s.gathered) s) ok in
    let more = insert_length e s.gathered in
    let (absent, within) = and_parts (not (on s.gathered e.depot)) _ fits in
    let taken : is_ok r ≡ true =
    ap is_ok (did.answer ∙ sym (is_taken e s.gathered (not-true _ absent) (omega arith) within)) in
    did.list ∙ ap (λ b. cond b (insert e s.gathered) s.gathered) taken

-- an Offer whose entry fits has one, and the first is the entry that is gathered
pub offered_gathered : (gathered es : List Entry) (z : Entry) → fits_gathered gathered es ≡ true
    → gathered_with gathered es ≡ insert (get_or es 0 z) gathered
offered_gathered gathered [] z h = absurd (false≢true h)
offered_gathered gathered (e ∷ es) z h = refl
