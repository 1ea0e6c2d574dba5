-- A standing compared with another tells whether their numbers are equal: no two standings have one number.
use Rattle.std.proofs.Common.{◌≡◌, ℕ, zero, suc, true, false, not, rules, sym, refl, ap, ◌∙◌}
use Rattle.std.proofs.lemmas.Bool.{not-true, not-false}
use denote.Enum.Bare.{sameb, same_true, same_false}
use Rattle.protocol.specs.contracts.standing.Standing.{the_type}
use Rattle.protocol.specs.declared.standing.Standing.{Standing}
use Rattle.protocol.specs.declared.standing.Standing.TheVariants.{Blank, Offered, Accepted, Refused, Settled, Dropped}
use Rattle.protocol.specs.Code.{standing_number}

-- the standing of a number
standing_of : ℕ → Standing
standing_of zero = Blank
standing_of (suc zero) = Offered
standing_of (suc (suc zero)) = Accepted
standing_of (suc (suc (suc zero))) = Refused
standing_of (suc (suc (suc (suc zero)))) = Settled
standing_of (suc (suc (suc (suc (suc n))))) = Dropped

standing_back : (k : Standing) → standing_of (standing_number k) ≡ k
unfolding standing_of
standing_back Blank = refl
standing_back Offered = refl
standing_back Accepted = refl
standing_back Refused = refl
standing_back Settled = refl
standing_back Dropped = refl

module _ (k at : Standing) {n : ℕ} (e : standing_number k ≡ n) where
  pub stands : sameb the_type k at ≡ true → n ≡ standing_number at
  stands q = sym e ∙ ap standing_number (same_true the_type (search rules) k at q)

  pub stands_not : sameb the_type k at ≡ false → n ≡ standing_number at → ⊥
  stands_not q f =
      same_false the_type k at q
      (sym (standing_back k) ∙ ap standing_of (e ∙ f) ∙ standing_back at)

  -- the same of a test for difference
  pub stands_still : not (sameb the_type k at) ≡ false → n ≡ standing_number at
  stands_still q = stands (not-false _ q)

  pub stands_elsewhere : not (sameb the_type k at) ≡ true → n ≡ standing_number at → ⊥
  stands_elsewhere q = stands_not (not-true _ q)
