-- The policies of others are lawful: shelves that stay are what they are, and one entry that gets all gets all.
-- They stand in specs/, since an impl takes no proof of a law from proofs/.
use Rattle.std.specs.Prelude.{◌≡◌, ℕ, suc, ◌<◌, cond, List, [], ◌∷◌, length, sum, ◌==◌, refl}
use Rattle.std.proofs.Common.{ap, arith}
use Rattle.std.proofs.lemmas.List.{length-map}
use Rattle.std.proofs.lemmas.List.Sums.{sum_by-cons, sum-map}
use Rattle.std.proofs.lemmas.Bool.Decides.{nat_tests}
use Rattle.entries.specs.declared.lists.Entry.{Entry}
use Rattle.entries.specs.Lists.{pool}
use Rattle.policies.specs.Policy.{OneEach, Conserving}
use Rattle.policies_tests.specs.Others.{kept, to_last, last_takes_all}

pub kept_size : OneEach kept
unfolding kept
kept_size es listed = length-map es (λ e. e.shelf)

pub kept_conserves : Conserving kept
unfolding kept
kept_conserves es listed = sum-map (λ e. e.shelf) es

last_length : (pieces : ℕ) (es : List Entry) → length (to_last pieces es) ≡ length es
unfolding to_last
last_length pieces [] = refl
last_length pieces (e ∷ es) = ap suc (last_length pieces es)

last_sum : (pieces : ℕ) (es : List Entry) → 0 < length es → sum (to_last pieces es) ≡ pieces
unfolding to_last
last_sum pieces [] some = absurd (omega arith)
last_sum pieces (e ∷ []) some = omega arith
last_sum pieces (e ∷ (f ∷ es)) some =
    let others = last_sum pieces (f ∷ es) (omega arith) in
    let first = sum_by-cons (λ n. n) (cond (length (f ∷ es) == 0) pieces 0) (to_last pieces (f ∷ es)) in
    grind (arith, nat_tests)

pub last_size : OneEach last_takes_all
unfolding last_takes_all
last_size es listed = last_length (pool es) es

pub last_conserves : Conserving last_takes_all
unfolding last_takes_all
last_conserves es listed = last_sum (pool es) es (omega (arith, listed.two))
