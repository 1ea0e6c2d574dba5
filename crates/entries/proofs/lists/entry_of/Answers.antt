use Rattle.std.proofs.Common.{eqb, rules, ◌∙◌}
use borrow.Author.Tests.{tests}
use Rattle.std.proofs.lemmas.Iterator.{YieldsList-from_slice}
use Rattle.std.proofs.lemmas.Iterator.Search.{find_from_yields_List}
use Rattle.entries.proofs.Lookup.{first_is}
use Rattle.entries.proofs.lists.entry_of.Goals as goal

pub returns : goal.returns
returns c =
    let first = find_from_yields_List (λ e. eqb e.depot c.args.depot) _ _ c.find.result c.find.ensures.ran
    (YieldsList-from_slice c.args.list.now cc)
    (λ x b q k. search (rules, tests)) in
    c.copied.ensures ∙ (first ∙ first_is c.args.list.now c.args.depot)
