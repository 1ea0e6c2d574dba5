-- What lawful lamps give: each of them is lawful, and the forecast over them stays far below 2 to the power 32, since a
-- lamp needs at most its hours and the period together. And the first unlawful lamp is the library's first place.
use Rattle.std.proofs.Common.{◌≡◌, ℕ, ◌+◌, ◌≤◌, cond, not, true, false, List, [], ◌∷◌, length, Some, None, refl, ◌∙◌, ⊎_elim, div-le_self, arith}
use Rattle.std.specs.List.{All, position, position_from}
use Rattle.std.proofs.lemmas.Iterator.Adapters.{position_from-zero}
use Rattle.std.proofs.lemmas.List.Elements.{All-cons, All-nil, All-weaker}
use Rattle.std.proofs.lemmas.List.Sums.{sum_by-le}
use Rattle.std.proofs.lemmas.Bool.{and_parts, and_from, cases_Bool, cond-true, cond-false}
use Rattle.std.proofs.lemmas.Bool.Decides.{nat_tests}
use Rattle.forecast.specs.declared.lamp.Lamp.{Lamp}
use Rattle.forecast.specs.Checking.{lawful, all_lawful, first_unlawful, max_lamps, max_period}
use Rattle.forecast.specs.Hours.{lamp_need, forecast}

pub each_lawful : (lamps : List Lamp) → all_lawful lamps ≡ true → All (λ lamp. lawful lamp ≡ true) lamps
each_lawful [] h = All-nil _
each_lawful (lamp ∷ lamps) h =
    let parts = and_parts (lawful lamp) (all_lawful lamps) h in
    All-cons (λ x. lawful x ≡ true) lamp lamps parts.0 (each_lawful lamps parts.1)

-- no place is told only where all lamps are lawful
pub lawful_from_none : (place : ℕ) (lamps : List Lamp) → first_unlawful place lamps ≡ None → all_lawful lamps ≡ true
lawful_from_none place [] h = refl
lawful_from_none place (lamp ∷ lamps) h =
    ⊎_elim (λ yes. let q = cond-true (lawful lamp) (first_unlawful (place + 1) lamps) (Some place) yes in
    and_from _ _ yes (lawful_from_none (place + 1) lamps (cc)))
    (λ no. let q = cond-false (lawful lamp) (first_unlawful (place + 1) lamps) (Some place) no in cc)
    (cases_Bool (lawful lamp))

-- the library's first place of a lamp that is not lawful
found_from : (place : ℕ) (lamps : List Lamp) →
    position_from (λ lamp. not (lawful lamp)) place lamps ≡ first_unlawful place lamps
found_from place [] = refl
found_from place (lamp ∷ lamps) =
    let later = position_from (λ x. not (lawful x)) (place + 1) lamps in
    elim (lawful lamp) as (λ b. cond (not b) (Some place) later ≡ cond b (first_unlawful (place + 1) lamps) (Some place))
    [ true ↦ found_from (place + 1) lamps | false ↦ refl ]

pub first_place : (lamps : List Lamp) → position (λ lamp. not (lawful lamp)) lamps ≡ first_unlawful 0 lamps
first_place lamps = position_from-zero (λ lamp. not (lawful lamp)) lamps ∙ found_from 0 lamps

need_bound : (period : ℕ) (lamp : Lamp) → period ≤ max_period → lawful lamp ≡ true → lamp_need period lamp ≤ 1010000
need_bound period lamp short h =
    let hours : lamp.hours ≤ 1000000 = grind (arith, nat_tests) in
    omega (arith, div-le_self (lamp.hours + period) lamp.life)

pub forecast_bound : (period : ℕ) (lamps : List Lamp) → length lamps ≤ max_lamps → period ≤ max_period →
    all_lawful lamps ≡ true → forecast period lamps ≤ 1010000000
forecast_bound period lamps few short h =
    let each = All-weaker _ _ (λ lamp. need_bound period lamp short) lamps (each_lawful lamps h) in
    omega (arith, sum_by-le (lamp_need period) 1010000 lamps each)
