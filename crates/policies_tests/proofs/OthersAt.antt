-- The share at a place under the policies of others: its shelf, and all pieces at the last place alone.
use Rattle.std.proofs.Common.{◌≡◌, ℕ, zero, suc, ◌+◌, ◌<◌, cond, eqb, List, [], ◌∷◌, length, get_or, arith}
use Rattle.std.proofs.lemmas.List.{get_or-map}
use Rattle.std.proofs.lemmas.Bool.Decides.{nat_tests}
use Rattle.entries.specs.declared.lists.Entry.{Entry}
use Rattle.entries.specs.Lists.{blank, pool}
use Rattle.policies_tests.specs.Others.{kept, to_last, last_takes_all}

pub kept_at : (es : List Entry) (place : ℕ) → place < length es → get_or (kept es) place 0 ≡ (get_or es place blank).shelf
unfolding kept
kept_at es place within = get_or-map (λ e. e.shelf) es place blank 0 within

last_place : (pieces : ℕ) (es : List Entry) (place : ℕ) → place < length es
    → get_or (to_last pieces es) place 0 ≡ cond (eqb (place + 1) (length es)) pieces 0
unfolding to_last
last_place pieces [] place within = absurd (omega arith)
last_place pieces (e ∷ es) zero within = grind (arith, nat_tests)
last_place pieces (e ∷ es) (suc place) within =
    let others = last_place pieces es place (omega arith) in
    grind (arith, nat_tests)

pub last_at : (es : List Entry) (place : ℕ) → place < length es
    → get_or (last_takes_all es) place 0 ≡ cond (eqb (place + 1) (length es)) (pool es) 0
unfolding last_takes_all
last_at es place within = last_place (pool es) es place within
