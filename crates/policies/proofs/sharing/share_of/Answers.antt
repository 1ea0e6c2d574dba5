use Rattle.std.proofs.Common.{◌≡◌, ◌≢◌, rules}
use Rattle.std.proofs.lemmas.Iterator.{IsFirst-from_position, YieldsList-from_slice}
use borrow.Author.Tests.{tests}
use Rattle.policies.proofs.Standing.{IsPlaceOf, share_found}
use Rattle.policies.proofs.sharing.share_of.Goals as goal

pub returns : goal.returns
returns g c =
    let es = c.args.list.now in
    let d = c.args.depot in
    let place : IsPlaceOf d es c.position.result =
    IsFirst-from_position _ _ _ (λ e. e.depot ≡ d) (λ e. e.depot ≢ d) c.position.ensures.ran (YieldsList-from_slice es cc)
    (λ x q k. search (rules, tests)) (λ x q k. search (rules, tests)) in
    let size = g.met.P.Policy.size es c.requires in
    share_found es (g.P.Policy.share es) d c.map_or.result c.position.result size place (search rules)
