use Rattle.std.proofs.Common.{sym, ◌∙◌}
use Rattle.std.proofs.lemmas.Bool.{eqb-true, eqb-false}
use Rattle.book.specs.View.{site, view}
use Rattle.book.proofs.Answering.{answer_refused, answer_served}
use Rattle.book.proofs.Reminding.{again_refuses, again_serves}
use Rattle.book.proofs.record.Record.again.Goals as goal

pub returns-then-is_empty : goal.returns-then-is_empty
returns-then-is_empty c =
    let r = c.args.self.now in
    answer_refused _ _ (again_refuses (site r) (view r) c.args.kind c.args.to.0 c.args.entries.now
    (eqb-true _ 0 (sym c.is_empty.ensures ∙ c.if-is_empty.true)))

pub returns : goal.returns
returns c =
    let r = c.args.self.now in
    answer_served _ _ _ (again_serves (site r) (view r) c.args.kind c.args.to.0 c.args.entries.now
    (eqb-false _ 0 (sym c.is_empty.ensures ∙ c.if-is_empty.false))) c.say.ensures
