-- Putting shares on shelves one by one: the list's beginning with its shares on its shelves grows by one entry, and the
-- shelves of the whole hold the sum of the shares.
use Rattle.std.proofs.Common.{◌≡◌, ℕ, zero, suc, ◌+◌, ◌<◌, List, [], ◌∷◌, ◌++◌, length, get_or, take, sum, refl, ap, arith}
use native.Mathlib.Numerals.{unary_clauses}
use Rattle.std.proofs.lemmas.List.Sums.{sum_by-cons}
use Rattle.entries.specs.declared.lists.Entry.{Entry}
use Rattle.entries.specs.Lists.{blank, pool}
use Rattle.policies.specs.Shares.{reshelved}

abbrev pub with_shelf : Entry → ℕ → Entry
with_shelf e n = record { depot = e.depot; shelf = n; wish = e.wish }

pub reshelved_length : (es : List Entry) (ns : List ℕ) → length (reshelved es ns) ≡ length es
unfolding reshelved
reshelved_length [] ns = refl
reshelved_length (e ∷ es) [] = refl
reshelved_length (e ∷ es) (n ∷ ns) = ap suc (reshelved_length es ns)

pub reshelved_more : (es : List Entry) (ns : List ℕ) (i : ℕ) → i < length es → i < length ns
    → reshelved (take i es) ns ++ with_shelf (get_or es i blank) (get_or ns i 0) ∷ [] ≡ reshelved (take (i + 1) es) ns
unfolding reshelved
reshelved_more [] ns i here there = absurd (omega arith)
reshelved_more (e ∷ es) [] i here there = absurd (omega arith)
reshelved_more (e ∷ es) (n ∷ ns) zero here there = refl
reshelved_more (e ∷ es) (n ∷ ns) (suc i) here there =
    let others = reshelved_more es ns i (omega arith) (omega arith) in
    simp unary_clauses (ap (λ xs. with_shelf e n ∷ xs) (simp unary_clauses at others))

pub reshelved_pool : (es : List Entry) (ns : List ℕ) → length ns ≡ length es → pool (reshelved es ns) ≡ sum ns
unfolding reshelved
reshelved_pool [] [] same = refl
reshelved_pool [] (n ∷ ns) same = absurd (omega arith)
reshelved_pool (e ∷ es) [] same = absurd (omega arith)
reshelved_pool (e ∷ es) (n ∷ ns) same =
    let others = reshelved_pool es ns (omega arith) in
    let first = sum_by-cons (λ x. x.shelf) (with_shelf e n) (reshelved es ns) in
    let all = sum_by-cons (λ k. k) n ns in
    omega arith
