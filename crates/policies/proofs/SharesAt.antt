-- The share at a place: what dealing out gives there, and in Wishes First what was granted there besides.
use Rattle.std.proofs.Common.{◌≡◌, ℕ, zero, suc, ◌+◌, ◌-◌, ◌/◌, ◌%◌, ◌<◌, ◌≤◌, cond, nat_lt, List, [], ◌∷◌, length, get_or, refl, arith}
use Rattle.std.proofs.lemmas.List.Sums.{get_or-le-sum_by}
use Rattle.std.proofs.lemmas.Bool.Decides.{nat_tests}
use Rattle.entries.specs.declared.lists.Entry.{Entry}
use Rattle.entries.specs.Limits.{max_pool}
use Rattle.entries.specs.Lists.{pool, Listed}
use Rattle.policies.specs.Shares.{evenly, dealt_out, added, grants, rest, wishes_first}
use Rattle.policies.specs.Granting.{same_length, wishes_size, wishes_conserves}

evenly_at : (each more k place : ℕ) → place < k
    → get_or (evenly each more k) place 0 ≡ cond (nat_lt place more) (each + 1) each
evenly_at each more zero place within = absurd (omega arith)
evenly_at each more (suc k) zero within = refl
evenly_at each more (suc k) (suc place) within =
    let others = evenly_at each (more - 1) k place (omega arith) in
    grind (arith, nat_tests)

pub dealt_out_at : (pieces k place : ℕ) → place < k
    → get_or (dealt_out pieces k) place 0 ≡ cond (nat_lt place (pieces % k)) (pieces / k + 1) (pieces / k)
dealt_out_at pieces k place within = evenly_at (pieces / k) (pieces % k) k place within

added_at : (ms ns : List ℕ) (i : ℕ) → length ms ≡ length ns → get_or (added ms ns) i 0 ≡ get_or ms i 0 + get_or ns i 0
added_at [] [] i same = omega arith
added_at [] (n ∷ ns) i same = absurd (omega arith)
added_at (m ∷ ms) [] i same = absurd (omega arith)
added_at (m ∷ ms) (n ∷ ns) zero same = refl
added_at (m ∷ ms) (n ∷ ns) (suc i) same = added_at ms ns i (omega arith)

pub wishes_first_at : (es : List Entry) (place : ℕ) → get_or (wishes_first es) place 0
    ≡ get_or (grants (pool es) es) place 0 + get_or (dealt_out (rest (pool es) es) (length es)) place 0
unfolding wishes_first
wishes_first_at es place = added_at (grants (pool es) es) (dealt_out (rest (pool es) es) (length es)) place (same_length es)

-- no share passes the pool
pub wishes_within : (es : List Entry) (place : ℕ) → Listed es → place < length es
    → get_or (wishes_first es) place 0 ≤ pool es
wishes_within es place listed within =
    let here : place < length (wishes_first es) = omega (arith, wishes_size es listed) in
    let most = get_or-le-sum_by (λ n. n) (wishes_first es) place 0 here in
    omega (arith, most, wishes_conserves es listed)

-- nor do its two parts together pass the limit of a pool
pub parts_within : (es : List Entry) (place : ℕ) → Listed es → place < length es
    → get_or (grants (pool es) es) place 0 + get_or (dealt_out (rest (pool es) es) (length es)) place 0 ≤ max_pool
parts_within es place listed within =
    omega (arith, wishes_first_at es place, wishes_within es place listed within, listed.sum_within)
