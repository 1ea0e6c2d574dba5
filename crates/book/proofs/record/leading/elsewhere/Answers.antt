use Rattle.std.proofs.Common.{not, eqb, ◌∙◌, rules, tests, arith}
use Rattle.std.proofs.lemmas.Iterator.{YieldsList-from_slice, YieldsList-from_map}
use Rattle.std.proofs.lemmas.Iterator.Adapters.{fits_from_length, at_most_from_yields_List, at_most_from_Filter}
use Rattle.std.proofs.lemmas.Iterator.Consumers.{YieldsList-at, YieldsList-from_filter, sum_by_from_yields_List}
use Rattle.entries.proofs.Width.{as_many_marks}
use Rattle.book.proofs.Listing.{elsewhere_sum}
use Rattle.book.proofs.record.leading.elsewhere.Goals as goal

pub sum-requires-clause-fits : goal.sum-requires-clause-fits
sum-requires-clause-fits c =
    fits_from_length _ _ 16 _
    (at_most_from_Filter _ (at_most_from_yields_List (YieldsList-from_slice c.args.list.now cc) (omega (arith, as_many_marks))))
    c.map.ensures.closure (omega arith) (λ x r q k. search (rules, tests))

pub returns : goal.returns
returns c =
    sum_by_from_yields_List _ _ c.map.result _ c.sum.ensures.ran
    (YieldsList-from_map _ (λ e. e.shelf)
    (YieldsList-at c.map.ensures.source
    (YieldsList-from_filter _ (λ e. not (eqb e.depot c.args.depot)) (YieldsList-from_slice c.args.list.now cc)
    c.filter.ensures.closure (λ x r q k. search (rules, tests)))) c.map.ensures.closure
    (λ x r q k. search (rules, tests)))
    ∙ elsewhere_sum c.args.depot c.args.list.now
