-- The row that engages a depot, from a search through the rows of the set: the depot is engaged just where the search
-- finds one, and that one is the leader's, since a record's law lets at most one row engage it.
use Rattle.std.proofs.Common.{◌≡◌, ℕ, zero, suc, ◌<◌, Bool, true, false, List, length, Some, None, Option, sym, refl, ap, ◌∙◌, arith}
use mathlib.Core.Logic.{∥∥₁_elim}
use denote.Struct.Props.{props}
use Rattle.std.specs.Option.{MatchOption, is_some, unwrap_or}
use Rattle.std.specs.List.{AllWithin, HoldsAt}
use Rattle.std.proofs.lemmas.Bool.Decides.{nat_tests}
use Rattle.protocol.specs.State.{Site, State, any, found, pick, engages, engaged, leader}
use Rattle.protocol.specs.Law.{Law, Engages}
use Rattle.protocol.proofs.Tests.{one_any}
use Rattle.book.specs.declared.parts.Row as parts
use Rattle.book.specs.Fields.{row_of, rows_of, blank_row, EngagedIn}
use Rattle.book.proofs.Kept.{own_calls}

pub first_engaged : (rs : List parts.Row) (r : Option ℕ)
    → MatchOption r (AllWithin (λ x. engages (row_of x).standing ≡ false) rs 0 (length rs))
    (λ i. (i < length rs) × HoldsAt (λ x. engages (row_of x).standing ≡ true) rs i
    × AllWithin (λ x. engages (row_of x).standing ≡ false) rs 0 i)
    → EngagedIn rs r
unfolding rows_of
first_engaged rs None h = λ L l. h L blank_row (omega arith) l
first_engaged rs (Some i) h = (h.0, h.1 blank_row)

module _ (passes : ℕ → Bool) where
  none_passes : (n : ℕ) → ((L : ℕ) → L < n → passes L ≡ false) → (any n passes ≡ false) × (found n passes ≡ 0)
  unfolding any found pick
  none_passes zero h = (refl, refl)
  none_passes (suc n) h =
      let (q, f) = none_passes n (λ L l. h L (omega arith)) in
      let p = h n (omega arith) in
      (rw p q, rw p f)

-- a standing that engages
engaging : (k : ℕ) → engages k ≡ true → Engages k
unfolding engages
engaging k h = (grind (arith, nat_tests), grind (arith, nat_tests))

module _ (a : Site) (s : State) (rs : List parts.Row) (long : length rs ≡ a.n)
    (same : (L : ℕ) → L < a.n → rows_of rs L ≡ s.rows L) where
  none_engages : EngagedIn rs None → (L : ℕ) → L < a.n → engages (s.rows L).standing ≡ false
  none_engages h L l = ap (λ x. engages x.standing) (sym (same L l)) ∙ h L (omega arith)

  one_engages : (L : ℕ) → EngagedIn rs (Some L) → (L < a.n) × (engages (s.rows L).standing ≡ true)
  one_engages L h =
      let l : L < a.n = (let k = h.0 in omega arith) in
      (l, ap (λ x. engages x.standing) (sym (same L l)) ∙ h.1)

  pub engaged_is : (r : Option ℕ) → EngagedIn rs r → is_some r ≡ engaged a s
  unfolding engaged
  engaged_is None h = sym (none_passes (λ L. engages (s.rows L).standing) a.n (none_engages h)).0
  engaged_is (Some L) h =
      let (l, e) = one_engages L h in
      sym (one_any a.n (λ M. engages (s.rows M).standing) L l e)

  pub leader_is : ∥ Law a s ∥₁ → (r : Option ℕ) → EngagedIn rs r → unwrap_or r 0 ≡ leader a s
  unfolding leader
  leader_is ok None h = sym (none_passes (λ L. engages (s.rows L).standing) a.n (none_engages h)).1
  leader_is ok (Some L) h =
      ∥∥₁_elim ok (hlevel props)
      (λ law. sym ((own_calls a s law).found L (engaging (s.rows L).standing (one_engages L h).1)))
