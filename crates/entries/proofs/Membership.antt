-- The laws of membership, over any width. Each operation on numbers works digit by digit in base two, and `has` reads
-- one digit, so that each law follows by recursion on the depot.
use Rattle.std.proofs.Common.{◌≡◌, ℕ, zero, suc, ◌+◌, ◌-◌, ◌/◌, ◌%◌, ◌^◌, ◌<◌, ◌≤◌, min, max, Bool, true, false, not, ◌&&◌, ◌||◌, eqb, ltb, List, [], ◌∷◌, Decides, sym, refl, ap, ◌∙◌, ⊎_elim, pow-suc, arith}
use lib.Bits.{bit_and, bit_or, and_step, or_step, and_zero_r, and_le_l}
use Rattle.std.specs.List.{AllByRecursion}
use Rattle.std.proofs.lemmas.Nat.{pow_pos}
use Rattle.std.proofs.lemmas.Bool.{cases_Bool, cases_eq, eqb-true, eq-eqb}
use Rattle.std.proofs.lemmas.Bool.Decides.{nat_tests}
use Rattle.entries.specs.declared.lists.Entry.{Entry}
use Rattle.entries.specs.Sets.{has, mark, union, add, less, everyone, covers}
use Rattle.entries.specs.Lists.{on, names}
use Rattle.entries.specs.Laws.{Within, ByMembership}
use Rattle.entries.proofs.Lookup.{on_below}

pub has_none : (i : ℕ) → has 0 i ≡ false
unfolding has
has_none zero = refl
has_none (suc i) = has_none i

-- both operations, a digit at a time
or_half : (a b : ℕ) → bit_or a b / 2 ≡ bit_or (a / 2) (b / 2)
or_half a b = let e = or_step a b in omega arith

or_low : (a b : ℕ) → bit_or a b % 2 ≡ max (a % 2) (b % 2)
or_low a b = let e = or_step a b in omega arith

and_half : (a b : ℕ) → bit_and a b / 2 ≡ bit_and (a / 2) (b / 2)
and_half a b = let e = and_step a b in omega arith

and_low : (a b : ℕ) → bit_and a b % 2 ≡ min (a % 2) (b % 2)
and_low a b = let e = and_step a b in omega arith

pub has_or : (a b i : ℕ) → has (bit_or a b) i ≡ (has a i || has b i)
unfolding has
has_or a b zero = let e = or_low a b in grind (arith, nat_tests)
has_or a b (suc i) = ap (λ n. has n i) (or_half a b) ∙ has_or (a / 2) (b / 2) i

pub has_and : (a b i : ℕ) → has (bit_and a b) i ≡ (has a i && has b i)
unfolding has
has_and a b zero = let e = and_low a b in grind (arith, nat_tests)
has_and a b (suc i) = ap (λ n. has n i) (and_half a b) ∙ has_and (a / 2) (b / 2) i

pub has_power : (i j : ℕ) → has (2 ^ i) j ≡ eqb i j
unfolding has
has_power zero zero = refl
has_power zero (suc j) = let e = has_none j in grind (arith, nat_tests)
has_power (suc i) zero = let e = pow-suc 2 i in grind (arith, nat_tests)
has_power (suc i) (suc j) =
    let e = pow-suc 2 i in
    let half : 2 ^ suc i / 2 ≡ 2 ^ i = omega arith in
    let rest = has_power i j in
    let here : has (2 ^ suc i / 2) j ≡ has (2 ^ i) j = ap (λ n. has n j) half in
    grind (arith, nat_tests)

pub has_mark : (i j : ℕ) → has (mark i) j ≡ eqb i j
unfolding mark
has_mark = has_power

pub has_union : (set other j : ℕ) → has (union set other) j ≡ (has set j || has other j)
unfolding union
has_union = has_or

pub has_add : (set i j : ℕ) → has (add set i) j ≡ (has set j || eqb i j)
unfolding add
has_add set i j = has_union set (mark i) j ∙ ap (λ b. has set j || b) (has_mark i j)

-- taking off marks that are all there borrows nothing
less_half : (s t : ℕ) → (s - bit_and s t) / 2 ≡ s / 2 - bit_and (s / 2) (t / 2)
less_half s t =
    let half = and_half s t in
    let low = and_low s t in
    let most = and_le_l (s / 2) (t / 2) in
    omega arith

less_low : (s t : ℕ) → (s - bit_and s t) % 2 ≡ s % 2 - min (s % 2) (t % 2)
less_low s t =
    let half = and_half s t in
    let low = and_low s t in
    let most = and_le_l (s / 2) (t / 2) in
    omega arith

has_difference : (s t j : ℕ) → has (s - bit_and s t) j ≡ (has s j && not (has t j))
unfolding has
has_difference s t zero = let e = less_low s t in grind (arith, nat_tests)
has_difference s t (suc j) = ap (λ n. has n j) (less_half s t) ∙ has_difference (s / 2) (t / 2) j

pub has_less : (set other j : ℕ) → has (less set other) j ≡ (has set j && not (has other j))
unfolding less
has_less = has_difference

has_ones : (n j : ℕ) → has (2 ^ n - 1) j ≡ ltb j n
unfolding has
has_ones zero j = has_none j ∙ sym (grind (arith, nat_tests))
has_ones (suc n) zero = let p = pow-suc 2 n in let q = pow_pos n in grind (arith, nat_tests)
has_ones (suc n) (suc j) =
    let p = pow-suc 2 n in
    let q = pow_pos n in
    let half : (2 ^ suc n - 1) / 2 ≡ 2 ^ n - 1 = omega arith in
    let rest = has_ones n j in
    let here : has ((2 ^ suc n - 1) / 2) j ≡ has (2 ^ n - 1) j = ap (λ m. has m j) half in
    grind (arith, nat_tests)

pub has_everyone : (n j : ℕ) → has (everyone n) j ≡ ltb j n
unfolding everyone
has_everyone = has_ones

or_swap : (x y : Bool) → (x || y) ≡ (y || x)
or_swap true true = refl
or_swap true false = refl
or_swap false true = refl
or_swap false false = refl

pub has_names : (es : List Entry) (j : ℕ) → has (names es) j ≡ on es j
unfolding names on
has_names [] j = has_none j
has_names (e ∷ es) j =
    has_add (names es) e.depot j
    ∙ (or_swap (has (names es) j) (eqb e.depot j) ∙ ap (λ b. eqb e.depot j || b) (has_names es j))

pub below_width : (width set : ℕ) → set < 2 ^ width → (i : ℕ) → has set i ≡ true → i < width
unfolding has
below_width zero set small i h =
    let none : set ≡ 0 = omega arith in
    let e = has_none i in
    let f : has set i ≡ has 0 i = ap (λ n. has n i) none in
    grind (arith, nat_tests)
below_width (suc width) set small zero h = omega arith
below_width (suc width) set small (suc i) h =
    let p = pow-suc 2 width in
    let rest : i < width = below_width width (set / 2) (omega arith) i h in
    omega arith

pub has_high : (width set i : ℕ) → set < 2 ^ width → width ≤ i → has set i ≡ false
has_high width set i small high =
    ⊎_elim (λ h. absurd (let k = below_width width set small i h in omega arith)) (λ h. h) (cases_Bool (has set i))

-- two sets below one width are the same where they have the same depots below it
same_below : (width set other : ℕ) → set < 2 ^ width → other < 2 ^ width → ((i : ℕ) → has set i ≡ has other i)
    → set ≡ other
unfolding has
same_below zero set other small low e = omega arith
same_below (suc width) set other small low e =
    let p = pow-suc 2 width in
    let first = e 0 in
    let rest : set / 2 ≡ other / 2 =
    same_below width (set / 2) (other / 2) (omega arith) (omega arith) (λ i. e (suc i)) in
    grind (arith, nat_tests)

-- every number has a width
below_own_power : (n : ℕ) → n < 2 ^ n
below_own_power zero = omega arith
below_own_power (suc n) = let p = pow-suc 2 n in let rest = below_own_power n in omega arith

pub same_set : (set other : ℕ) → ((i : ℕ) → has set i ≡ has other i) → set ≡ other
same_set set other e =
    let wide = below_own_power (set + other) in
    same_below (set + other) set other (omega arith) (omega arith) e

pub from_width : (width set : ℕ) → ((i : ℕ) → has set i ≡ true → i < width) → set < 2 ^ width
unfolding has
from_width zero set low =
    let none : set ≡ 0 = same_set set 0 (λ i. nowhere i ∙ sym (has_none i)) in
    omega arith
  where
    nowhere : (i : ℕ) → has set i ≡ false
    nowhere i = ⊎_elim (λ h. absurd (let k = low i h in omega arith)) (λ h. h) (cases_Bool (has set i))
from_width (suc width) set low =
    let p = pow-suc 2 width in
    let rest : set / 2 < 2 ^ width =
    from_width width (set / 2) (λ i h. let k = low (suc i) h in omega arith) in
    omega arith

meets_power : (s i : ℕ) → not (eqb (bit_and s (2 ^ i)) 0) ≡ has s i
unfolding has
meets_power s zero =
    let digits = and_step s 1 in
    let none = and_zero_r (s / 2) in
    grind (arith, nat_tests)
meets_power s (suc i) =
    let p = pow-suc 2 i in
    let half = and_half s (2 ^ suc i) in
    let low = and_low s (2 ^ suc i) in
    let power : 2 ^ suc i / 2 ≡ 2 ^ i = omega arith in
    let met : bit_and s (2 ^ suc i) / 2 ≡ bit_and (s / 2) (2 ^ i) = half ∙ ap (bit_and (s / 2)) power in
    let rest = meets_power (s / 2) i in
    grind (arith, nat_tests)

-- a set meets the mark of a depot where it has that depot
pub meets_mark : (set i : ℕ) → not (eqb (bit_and set (mark i)) 0) ≡ has set i
unfolding mark
meets_mark = meets_power

-- a depot that the set does not have takes nothing off
pub less_absent : (set i : ℕ) → has set i ≡ false → less set (mark i) ≡ set
less_absent set i absent = same_set (less set (mark i)) set each
  where
    each : (j : ℕ) → has (less set (mark i)) j ≡ has set j
    each j =
        let left = has_less set (mark i) j in
        let one = has_mark i j in
        ⊎_elim
        (λ e. let here : has set i ≡ has set j = ap (has set) e in grind (arith, nat_tests))
        (λ n. grind (arith, nat_tests))
        (cases_eq i j)

-- nothing of the other set is left without the set, exactly where all of it is in the set
module _ (set other : ℕ) where
  left_none : Within other set → (i : ℕ) → has (less other set) i ≡ has 0 i
  left_none within i =
      let left = has_less other set i in
      let none = has_none i in
      ⊎_elim
      (λ h. let k = within i h in grind (arith, nat_tests))
      (λ h. grind (arith, nat_tests))
      (cases_Bool (has other i))

  none_left : less other set ≡ 0 → Within other set
  none_left none i h =
      let left = has_less other set i in
      let zero_has : has (less other set) i ≡ has 0 i = ap (λ n. has n i) none in
      let empty = has_none i in
      grind (arith, nat_tests)

pub covers_within : (set other : ℕ) → Decides (covers set other) (Within other set)
unfolding covers
covers_within set other = (
  λ e. none_left set other (eqb-true _ _ e),
  λ within. eq-eqb _ _ (same_set (less other set) 0 (left_none set other within)),
)

-- the set of a list's depots lies below where they do
pub names_below : (n : ℕ) (es : List Entry) → AllByRecursion (λ e. e.depot < n) es → names es < 2 ^ n
names_below n es low =
    from_width n (names es) (λ i there. on_below n es i low (sym (has_names es i) ∙ there))

pub membership : ByMembership
membership = record {
  has_none = has_none;
  has_mark = has_mark;
  has_union = has_union;
  has_add = has_add;
  has_less = has_less;
  has_everyone = has_everyone;
  has_names = has_names;
  covers_within = covers_within;
  below_width = below_width;
  from_width = from_width;
  same_set = same_set;
}
