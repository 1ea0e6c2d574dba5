use Rattle.std.proofs.Common.{sym, ap, ◌∙◌, subst}
use Rattle.std.proofs.lemmas.Bool.{eqb-true, eqb-false}
use Rattle.letters.specs.Contents.{Lawful}
use Rattle.letters.specs.Code.{kind_number, says}
use Rattle.book.specs.View.{site, view}
use Rattle.book.proofs.Mailing.{posted_none, posted_some, note_lawful}
use Rattle.book.proofs.record.Record.say.Goals as goal

pub returns-then-is_empty : goal.returns-then-is_empty
returns-then-is_empty c =
    let r = c.args.self.now in
    posted_none (site r) (view r) c.args.kind c.args.to c.args.leader c.args.entries.now _
    (eqb-true _ 0 (sym c.is_empty.ensures ∙ c.if-is_empty.true))

pub set-requires : goal.set-requires
set-requires c =
    let r = c.args.self.now in
    subst (λ h. Lawful (says (kind_number c.args.kind) h c.args.entries.now)) (sym c.head.ensures)
    (note_lawful (site r) (view r) c.args.kind c.args.to c.args.leader c.args.entries.now
    (eqb-false _ 0 (sym c.is_empty.ensures ∙ c.if-is_empty.false)) c.requires)

pub returns : goal.returns
returns c =
    let r = c.args.self.now in
    posted_some (site r) (view r) c.args.kind c.args.to c.args.leader c.args.entries.now _ _
    (eqb-false _ 0 (sym c.is_empty.ensures ∙ c.if-is_empty.false))
    (c.set.ensures ∙ ap (λ h. says (kind_number c.args.kind) h c.args.entries.now) c.head.ensures)
