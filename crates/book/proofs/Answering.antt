-- Answers of calls from the outcome that the definitions name: refused with nothing changed, or served.
use Rattle.std.proofs.Common.{◌≡◌, Ok, Err, sym, refl, ap, ◌∙◌, subst}
use mathlib.Core.Option.{Option, none}
use Rattle.letters.specs.declared.message.Message.{Message}
use Rattle.letters.specs.Contents.{Contents}
use Rattle.letters.specs.Reading as reading
use Rattle.protocol.specs.State.{Site, State}
use Rattle.protocol.specs.Outcome.{Outcome, refuses, serves, after}
use Rattle.protocol.specs.declared.refusal.Refusal.{Refusal}
use Rattle.book.specs.declared.record.Record.{Record}
use Rattle.book.specs.View.{site, view}
use Rattle.book.specs.Calls.{told, at, Left, Posted, Replied, Answered, Moved, Called, Sent}

-- a record that a call leaves as it was, and one that has the outcome's state
pub left_refused : {o : Outcome} (r : Record) {k : reading.Refusal} → o ≡ refuses k → Left o r r
left_refused r q = record { state = sym (ap (after (view r)) q); same = refl }

pub left_served : {o : Outcome} {t : State} {m : Option Contents} (before now : Record) → o ≡ serves t m → view now ≡ t
    → site now ≡ site before → Left o before now
left_served before now q e f = record { state = e ∙ sym (ap (after (view before)) q); same = f }

pub moved_refused : {call : Site → State → Outcome} {r : Record} {e : Refusal} → at call r ≡ refuses (told e)
    → Moved call (Err e) r r
moved_refused {call} {r} {e} q =
    record { answer = subst (λ o. Replied {X = Unit {0}} o (Err e)) (sym q) refl; leaves = left_refused r q }

pub moved_served : {call : Site → State → Outcome} {r t : Record} → at call r ≡ serves (view t) none → site t ≡ site r
    → Moved call (Ok tt) r t
moved_served {call} {r} {t} q same =
    record { answer = subst (λ o. Replied {X = Unit {0}} o (Ok tt)) (sym q) refl; leaves = left_served r t q refl same }

pub answer_refused : {o : Outcome} (e : Refusal) (lent : Message) → o ≡ refuses (told e)
    → Answered told o (Err e) lent lent
answer_refused e lent q = subst (λ o. Answered told o (Err e) lent lent) (sym q) (refl, refl)

pub answer_served : {o : Outcome} {s : State} {m : Option Contents} (x : Sent) (lent left : Message) → o ≡ serves s m
    → Posted m x lent left → Answered told o (Ok x) lent left
answer_served x lent left q posts = subst (λ o. Answered told o (Ok x) lent left) (sym q) posts

pub call_refused : {call : Site → State → Outcome} {r : Record} {e : Refusal} {lent : Message}
    → at call r ≡ refuses (told e) → Called call (Err e) r r lent lent
call_refused {call} {r} {e} {lent} q = record { answer = answer_refused e lent q; leaves = left_refused r q }

pub call_served : {call : Site → State → Outcome} {r t : Record} {s : State} {m : Option Contents} {x : Sent}
    {lent left : Message} → at call r ≡ serves s m → view t ≡ s → site t ≡ site r → Posted m x lent left
    → Called call (Ok x) r t lent left
call_served {call} {r} {t} {s} {m} {x} {lent} {left} q e same posts =
    record { answer = answer_served x lent left q posts; leaves = left_served r t q e same }
