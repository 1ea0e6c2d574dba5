-- Turns at the pieces, one after the other: what a list leaves is what its end leaves of what its beginning left.
use Rattle.std.proofs.Common.{◌≡◌, ℕ, zero, suc, ◌-◌, ◌<◌, List, [], ◌∷◌, ◌++◌, length, get_or, take, drop, refl, arith}
use Rattle.entries.specs.declared.lists.Entry.{Entry}
use Rattle.entries.specs.Lists.{blank}
use Rattle.policies.specs.Shares.{granted, grants, rest}

pub rest_append : (left : ℕ) (es fs : List Entry) → rest left (es ++ fs) ≡ rest (rest left es) fs
rest_append left [] fs = refl
rest_append left (e ∷ es) fs = rest_append (left - granted e.wish left) es fs

-- the whole, split before a place
pub rest_split : (left : ℕ) (es : List Entry) (place : ℕ) → rest (rest left (take place es)) (drop place es) ≡ rest left es
rest_split left es zero = refl
rest_split left [] (suc place) = refl
rest_split left (e ∷ es) (suc place) = rest_split (left - granted e.wish left) es place

-- the grant at a place is that of what those before it leave
pub grant_at : (left : ℕ) (es : List Entry) (place : ℕ) → place < length es
    → get_or (grants left es) place 0 ≡ granted (get_or es place blank).wish (rest left (take place es))
grant_at left [] place within = absurd (omega arith)
grant_at left (e ∷ es) zero within = refl
grant_at left (e ∷ es) (suc place) within = grant_at (left - granted e.wish left) es place (omega arith)
