-- Level is lawful: dealing out gives k shares, which together are all the pieces, since the quotient k times and the
-- remainder are. It stands in specs/, since an impl takes no proof of a law from proofs/.
use Rattle.std.specs.Prelude.{◌≡◌, ℕ, zero, suc, ◌+◌, ◌-◌, ◌*◌, ◌/◌, ◌%◌, ◌<◌, ◌≤◌, cond, length, sum, nat_lt, refl}
use Rattle.std.proofs.Common.{ap, ◌∙◌, suc-mul, zero-mul, mod-lt, arith}
use Rattle.std.proofs.Math.Nat.{div-add-mod}
use Rattle.std.proofs.lemmas.List.Sums.{sum_by-cons}
use Rattle.std.proofs.lemmas.Bool.Decides.{nat_tests}
use Rattle.entries.specs.Lists.{pool}
use Rattle.policies.specs.Policy.{OneEach, Conserving, Lawful}
use Rattle.policies.specs.Shares.{evenly, dealt_out, level}

evenly_length : (each more k : ℕ) → length (evenly each more k) ≡ k
evenly_length each more zero = refl
evenly_length each more (suc k) = ap suc (evenly_length each (more - 1) k)

evenly_sum : (each more k : ℕ) → more ≤ k → sum (evenly each more k) ≡ k * each + more
evenly_sum each more zero few = rw zero-mul (omega arith)
evenly_sum each more (suc k) few =
    let others : sum (evenly each (more - 1) k) ≡ k * each + (more - 1) = evenly_sum each (more - 1) k (omega arith) in
    let first = sum_by-cons (λ n. n) (cond (nat_lt 0 more) (each + 1) each) (evenly each (more - 1) k) in
    let times = suc-mul k each in
    grind (arith, nat_tests)

module _ (pieces k : ℕ) where
  pub dealt_length : length (dealt_out pieces k) ≡ k
  dealt_length = evenly_length (pieces / k) (pieces % k) k

  pub dealt_sum : 0 < k → sum (dealt_out pieces k) ≡ pieces
  dealt_sum some =
      let few = mod-lt pieces some in
      evenly_sum (pieces / k) (pieces % k) k (omega arith) ∙ div-add-mod pieces k

pub level_size : OneEach level
unfolding level
level_size es listed = dealt_length (pool es) (length es)

pub level_conserves : Conserving level
unfolding level
level_conserves es listed = dealt_sum (pool es) (length es) (omega (arith, listed.two))

pub level_lawful : Lawful level
level_lawful = record { each = level_size; all = level_conserves }
