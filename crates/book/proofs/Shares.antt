-- The shares of a set, in an array and as a function of the depot: a place written is a depot's share changed, and the
-- sum over the depots changes by that share alone.
use Rattle.std.proofs.Common.{◌≡◌, ℕ, zero, suc, ◌+◌, ◌<◌, ◌≤◌, List, length, get_or, set, ap, inl, inr, arith}
use mathlib.Core.Path.{fun_ext}
use Rattle.std.proofs.lemmas.List.{get_or-set_same, get_or-set_other}
use Rattle.std.proofs.lemmas.Bool.{cases_eq}
use Rattle.std.proofs.lemmas.Bool.Decides.{nat_tests}
use Rattle.entries.proofs.Width.{as_many_marks}
use Rattle.protocol.specs.Opening.{sum_to}
use Rattle.protocol.specs.State.{upd}
use Rattle.protocol.proofs.Tests.{upd_tells}
use Rattle.protocol.proofs.Sums.{sum_one}
use Rattle.book.specs.Fields.{shares_of}

pub share_set : (of : List ℕ) (k v : ℕ) → k < length of → shares_of (set of k v) ≡ upd (shares_of of) k v
share_set of k v h = fun_ext (λ x. grind (arith, upd_tells, get_or-set_same, get_or-set_other))

-- the sum with one share changed
pub sum_set : (n k v : ℕ) (of : List ℕ) → k < n → k < length of
    → sum_to n (shares_of (set of k v)) + shares_of of k ≡ sum_to n (shares_of of) + v
sum_set n k v of l h =
    let e = sum_one n k (shares_of (set of k v)) (shares_of of) l (λ x q. get_or-set_other of k x v 0 q) in
    grind (arith, get_or-set_same)

-- one share is no more than all
pub share_within : (n k : ℕ) (f : ℕ → ℕ) → k < n → f k ≤ sum_to n f
unfolding sum_to
share_within zero k f l = absurd (omega arith)
share_within (suc n) k f l =
    elim (cases_eq k n) [
      | inl e ↦ (let q = ap f e in omega arith)
      | inr e ↦ (let q = share_within n k f (omega arith) in omega arith)
    ]

-- nor is what stands at a place of their array
pub piece_within : (n k : ℕ) (of : List ℕ) → k < n → get_or of k 0 ≤ sum_to n (shares_of of)
piece_within n k of = share_within n k (shares_of of)

-- what the calls of an opening rest on: tests of numbers, the places of an array, and the sums of shares
pub ruleset opening_steps = (nat_tests, as_many_marks, piece_within, share_set, sum_set)
