use Rattle.std.proofs.Common.{not, ◌&&◌, eqb, leb, rules, ◌∙◌}
use borrow.Author.Tests.{tests}
use Rattle.std.proofs.lemmas.Iterator.{YieldsList-from_slice}
use Rattle.std.proofs.lemmas.Iterator.Search.{find_from_yields_List}
use Rattle.book.proofs.record.asking.covering.Goals as goal

pub returns : goal.returns
returns c =
    let own = c.args.own in
    let first = find_from_yields_List (λ e. not (eqb e.depot own.depot) && leb own.wish e.shelf) _ _ c.find.result
    c.find.ensures.ran (YieldsList-from_slice c.args.list.now cc) (λ x b q k. search (rules, tests)) in
    c.copied.ensures ∙ first
