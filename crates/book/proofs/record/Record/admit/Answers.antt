use Rattle.std.proofs.Common.{List, sym, ap, ◌∙◌, arith}
use Rattle.entries.specs.declared.lists.Entry.{Entry}
use Rattle.std.proofs.lemmas.Bool.{not-true, not-false}
use Rattle.letters.specs.Code.{kind_number, says}
use Rattle.book.specs.Sharing.{policy_of}
use Rattle.book.specs.View.{site, view}
use Rattle.book.proofs.Admitting.{Addressed, asks_now, other_code, ungoverned, unaddressed, no_sender, passed, unknown, engaged_already, admitted_new, admitted}
use Rattle.book.proofs.record.Record.admit.Given.{Over}
use Rattle.book.proofs.record.Record.admit.Goals.{After-row-known}
use Rattle.book.proofs.record.Record.admit.Goals as goal
use Rattle.book.proofs.record.Record.admit.Goals.{then-head-own-via-then-head-own, then-head-own-via-else-head-own+then-not-governs}

pub returns-then-head-own : goal.returns-then-head-own
returns-then-head-own g c es =
    let r = c.args.self.now in
    let P = policy_of g.P.Policy in
    let m = says (kind_number c.args.kind) c.args.head es in
    elim c.then-head-own.branch [
      | then-head-own-via-then-head-own w ↦ other_code P (site r) (view r) m w.if-head-own.true
      | then-head-own-via-else-head-own+then-not-governs w ↦ ungoverned P (site r) (view r) m
          (sym w.governs.ensures ∙ w.if-not-governs.true)
    ]

pub returns-then-not-contains : goal.returns-then-not-contains
returns-then-not-contains g c es =
    let r = c.args.self.now in
    let P = policy_of g.P.Policy in
    let m = says (kind_number c.args.kind) c.args.head es in
    unaddressed P (site r) (view r) m c.if-head-own.false (sym c.governs.ensures ∙ c.if-not-governs.false)
    (sym c.contains.ensures ∙ c.if-not-contains.true)

pub returns-then-head-own-2 : goal.returns-then-head-own-2
returns-then-head-own-2 g c es =
    let r = c.args.self.now in
    let P = policy_of g.P.Policy in
    let m = says (kind_number c.args.kind) c.args.head es in
    no_sender P (site r) (view r) m c.if-head-own.false (sym c.governs.ensures ∙ c.if-not-governs.false)
    (sym c.contains.ensures ∙ c.if-not-contains.false) c.then-head-own-2.either

-- what the tests told once the row is read
addressed : (g : Over) (c : After-row-known g) (es : List Entry)
    → Addressed (policy_of g.P.Policy) (site c.args.self.now) (view c.args.self.now) (says (kind_number c.args.kind) c.args.head es)
    c.row-known.result.number
addressed g c es =
    record {
      own = c.if-head-own.false;
      governs = sym c.governs.ensures ∙ c.if-not-governs.false;
      to = sym c.contains.ensures ∙ c.if-not-contains.false;
      sender = c.if-head-own-2.false;
      leader = c.if-head-own-3.false;
      other = c.if-head-own-4.false;
      row = ap (λ x. x.number) c.row-known.ensures;
    }

pub returns-then-head-known : goal.returns-then-head-known
returns-then-head-known g c es =
    passed _ _ _ _ (addressed g (goal.at.returns-then-head-known g c).After-row-known es) (omega arith)

pub returns-then-ne : goal.returns-then-ne
returns-then-ne g c es =
    unknown _ _ _ _ (addressed g (goal.at.returns-then-ne g c).After-row-known es) (omega arith)
    (asks_now c.args.kind ∙ not-true _ (sym c.ne.ensures ∙ c.if-ne.true))

pub returns-then-engaged : goal.returns-then-engaged
returns-then-engaged g c es =
    engaged_already _ _ _ _ (addressed g (goal.at.returns-then-engaged g c).After-row-known es) (omega arith)
    (asks_now c.args.kind ∙ not-false _ (sym c.ne.ensures ∙ c.if-ne.false))
    (sym c.engaged.ensures ∙ c.if-engaged.true)

pub returns-else-engaged : goal.returns-else-engaged
returns-else-engaged g c es =
    admitted_new _ _ _ _ (addressed g (goal.at.returns-else-engaged g c).After-row-known es) (omega arith)
    (asks_now c.args.kind ∙ not-false _ (sym c.ne.ensures ∙ c.if-ne.false))
    (sym c.engaged.ensures ∙ c.if-engaged.false)

pub returns-else-known-head : goal.returns-else-known-head
returns-else-known-head g c es =
    admitted _ _ _ _ (addressed g (goal.at.returns-else-known-head g c).After-row-known es) (omega arith) (omega arith)
