use Rattle.std.proofs.Common.{not, ltb, length, rules, sym, ap, ◌∙◌}
use Rattle.std.specs.Option.{unwrap_or}
use Rattle.std.proofs.lemmas.List.Sums.{prefix_len-le-length}
use Rattle.entries.proofs.Placing.{found_or_end}
use borrow.Author.Tests.{tests}
use Rattle.std.proofs.lemmas.Iterator.{YieldsList-from_slice}
use Rattle.std.proofs.lemmas.Iterator.Search.{position_from_yields_List}
use Rattle.entries.proofs.filling.place_for.Goals as goal

pub returns-in-Some-clause-place : goal.returns-in-Some-clause-place
returns-in-Some-clause-place c =
    let first = position_from_yields_List (λ e. ltb c.args.depot e.depot) _ _ c.position.result c.position.ensures.ran
    (YieldsList-from_slice c.args.list.now cc)
    (λ x b q k. search (rules, tests)) in
    ap (λ r. unwrap_or r (length c.args.list.now)) (sym c.in-Some.is ∙ first)
    ∙ found_or_end _ _ (prefix_len-le-length (λ e. not (ltb c.args.depot e.depot)) c.args.list.now)

pub returns-in-None-clause-place : goal.returns-in-None-clause-place
returns-in-None-clause-place c =
    let first = position_from_yields_List (λ e. ltb c.args.depot e.depot) _ _ c.position.result c.position.ensures.ran
    (YieldsList-from_slice c.args.list.now cc)
    (λ x b q k. search (rules, tests)) in
    ap (λ r. unwrap_or r (length c.args.list.now)) (sym c.in-None.is ∙ first)
    ∙ found_or_end _ _ (prefix_len-le-length (λ e. not (ltb c.args.depot e.depot)) c.args.list.now)
