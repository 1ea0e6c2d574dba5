use Rattle.std.proofs.Common.{◌≡◌, ℕ, ◌+◌, List, [], ◌∷◌, take, sym, refl, ap, ◌∙◌, arith}
use Rattle.std.proofs.lemmas.List.{take_all}
use Rattle.std.proofs.lemmas.Bool.Decides.{nat_tests}
use Rattle.entries.specs.declared.lists.Entry.{Entry}
use Rattle.entries.specs.Limits.{max_depots}
use Rattle.entries.proofs.Width.{as_many_marks}
use Rattle.letters.specs.declared.letter.Kind.TheVariants as kinds
use Rattle.protocol.specs.State.{upd, pick, rest, Row}
use Rattle.protocol.specs.Outcome.{serves, mail}
use Rattle.protocol.specs.Own.{led, lead}
use Rattle.book.specs.declared.record.Record.{Record}
use Rattle.book.specs.Calls.{at}
use Rattle.book.specs.Fields.{rows_of}
use Rattle.book.specs.View.{site, view, own_entry}
use Rattle.book.proofs.Kept.{written_kept}
use Rattle.book.proofs.Answering.{call_refused}
use Rattle.book.proofs.Stepping.{sound_by, law_after, said_fine, step_said}
use Rattle.book.proofs.Written.{make, state_is}
use Rattle.book.proofs.Outcomes.{leads}
use Rattle.book.proofs.record.Record.lead.Goals.{After-refill}
use Rattle.book.proofs.record.Record.lead.Goals as goal

-- the rows with a number in the own row, which stands at 1
abbrev at_number : Record → ℕ → ℕ → Row
at_number r n = upd (view r).rows r.identity.depot (record { number = n; standing = 1 })

-- the record as it is written
led_now : (r : Record) {rows : ℕ → Row} {gathered : List Entry} {n : ℕ} {e : Entry}
    → rows ≡ at_number r (n + 1)
    → n ≡ ((view r).rows r.identity.depot).number → gathered ≡ take max_depots (e ∷ []) → e ≡ own_entry r
    → make r.shelf r.tray r.wish rows (view r).list (view r).heard gathered (view r).owing ≡ led (site r) (view r)
led_now r {n = n} {e = e} is same took own =
    state_is r.shelf r.tray r.wish
    (is ∙ ap (λ k. at_number r (k + 1)) same) refl refl
    (took ∙ take_all max_depots (e ∷ []) (omega (arith, as_many_marks)) ∙ ap (λ x. x ∷ []) own) refl

pub returns-then-engaged : goal.returns-then-engaged
unfolding lead pick
returns-then-engaged c = call_refused (grind (arith, nat_tests))

pub returns-then-not-is_empty : goal.returns-then-not-is_empty
unfolding lead pick
returns-then-not-is_empty c = call_refused (grind (arith, nat_tests))

pub returns-then-self-eq0 : goal.returns-then-self-eq0
unfolding lead pick
returns-then-self-eq0 c = call_refused (grind (arith, nat_tests))

pub returns-then-self-gt-MAX_POOL : goal.returns-then-self-gt-MAX_POOL
unfolding lead pick
returns-then-self-gt-MAX_POOL c = call_refused (grind (arith, nat_tests))

pub returns-then-known : goal.returns-then-known
unfolding lead pick
returns-then-known c =
    let same = ap (λ x. x.number) c.row-known.ensures in
    call_refused (grind (arith, nat_tests))

-- what it comes to once no test refuses
leads_now : (c : After-refill)
    → at lead c.args.self.now ≡ serves (led (site c.args.self.now) (view c.args.self.now))
    (mail (site c.args.self.now) (led (site c.args.self.now) (view c.args.self.now)) kinds.Ask
    (rest (site c.args.self.now)) c.args.self.now.identity.depot [])
leads_now c =
    let same = ap (λ x. x.number) c.row-known.ensures in
    let apart = c.if-known.false in
    leads _ _ (sym c.engaged.ensures ∙ c.if-engaged.false) (sym c.is_empty.ensures ∙ c.if-not-is_empty.false)
    (λ e. omega arith) (omega arith) (λ e. omega arith)

-- the record is written so
written : (c : After-refill) → make c.args.self.now.shelf c.args.self.now.tray c.args.self.now.wish
    (rows_of c.put.new.self.of) (view c.args.self.now).list (view c.args.self.now).heard c.refill.new.self
    (view c.args.self.now).owing ≡ led (site c.args.self.now) (view c.args.self.now)
written c =
    let r = c.args.self.now in
    led_now r c.put.ensures (ap (λ x. x.number) c.row-known.ensures)
    c.refill.ensures c.own_entry-own.ensures

pub invariant_of-self-clause-kept : goal.invariant_of-self-clause-kept
invariant_of-self-clause-kept c =
    let r = c.args.self.now in
    let h = (goal.at.invariant_of-self-clause-kept c).After-refill in
    written_kept (site r) _ _ (written h) (law_after (sound_by lead r (λ k. k.lead)) (leads_now h))

pub say-requires : goal.say-requires
say-requires c =
    let r = c.args.self.now in
    let h = (goal.at.say-requires c).After-refill in
    said_fine (sound_by lead r (λ k. k.lead)) kinds.Ask r.identity.depot [] (leads_now h) refl (written h)
    c.rest-to.ensures

pub returns : goal.returns
returns c =
    let h = (goal.at.returns c).After-refill in
    step_said kinds.Ask c.args.self.now.identity.depot [] (leads_now h) refl (written h) c.rest-to.ensures c.say.ensures
