-- Who is in a set of depots, told as a case: by the laws of membership. A set of depots that there can be fits the
-- place that a letter has for it.
use Rattle.std.proofs.Common.{◌≡◌, ℕ, ◌^◌, ◌<◌, ◌≤◌, true, false, not, ◌⊎◌, List, sym, ◌∙◌, arith}
use Rattle.std.proofs.lemmas.Bool.{ltb-true, and_parts, both_ways}
use Rattle.entries.specs.declared.lists.Entry.{Entry}
use Rattle.entries.specs.Limits.{max_depots}
use Rattle.entries.specs.Sets.{has, mark, add, less, everyone}
use Rattle.entries.specs.Lists.{on, names}
use Rattle.entries.proofs.Membership as sets
use Rattle.entries.proofs.Width.{as_many_marks}
use Rattle.protocol.specs.State.{Site, pair}
use Rattle.letters.specs.Format.{to_len}

-- depot x is in the set of i alone, and in the set with i
pub mark_tells : (i x : ℕ) → ((x ≡ i) × (has (mark i) x ≡ true)) ⊎ ((x ≡ i → ⊥) × (has (mark i) x ≡ false))
mark_tells i x = let e = sets.has_mark i x in grind arith

pub add_tells : (set i x : ℕ) →
    ((x ≡ i) × (has (add set i) x ≡ true)) ⊎ ((x ≡ i → ⊥) × (has (add set i) x ≡ has set x))
add_tells set i x =
    let e = sets.has_add set i x in grind arith

pub of_mark : (i x : ℕ) → has (mark i) x ≡ true → x ≡ i
of_mark i x h = grind (arith, mark_tells)

pub mark_self : (i : ℕ) → has (mark i) i ≡ true
mark_self i = grind (arith, mark_tells)

-- a set with one more depot has what it had
pub add_keeps : (set y x : ℕ) → has set x ≡ true → has (add set y) x ≡ true
add_keeps set y x h = grind (arith, add_tells)

-- who is in the pair of a depot and its leader
pub in_pair : (a : Site) (L y : ℕ) → has (pair a L) y ≡ true → (y ≡ a.depot) ⊎ (y ≡ L)
in_pair a L y h = grind (arith, mark_tells, add_tells)

pub self_pair : (a : Site) (L : ℕ) → has (pair a L) a.depot ≡ true
self_pair a L = grind (arith, mark_tells, add_tells)

pub head_pair : (a : Site) (L : ℕ) → has (pair a L) L ≡ true
head_pair a L = grind (arith, add_tells)

-- what is so of a depot and of its leader is so of their pair
pub of_both : (a : Site) (L : ℕ) (Q : ℕ → Type 0) → Q a.depot → Q L → (y : ℕ) → has (pair a L) y ≡ true → Q y
of_both a L Q self head y h = grind (arith, mark_tells, add_tells)

pub less_none : (other : ℕ) → less 0 other ≡ 0
unfolding less
less_none other = omega arith

pub has_none : (x : ℕ) → has 0 x ≡ true → ⊥
has_none x h = both_ways _ (sets.has_none x) h

-- every depot of the set lies below n
abbrev pub Below : ℕ → ℕ → Type 0
Below n set = (i : ℕ) → has set i ≡ true → i < n

pub mark_below : (n i : ℕ) → i < n → Below n (mark i)
mark_below n i h x k = grind (arith, mark_tells)

pub less_below : (n set other : ℕ) → Below n set → Below n (less set other)
less_below n set other h x k = h x (and_parts (has set x) (not (has other x)) (sym (sets.has_less set other x) ∙ k)).0

pub everyone_below : (n m : ℕ) → n ≤ m → Below m (everyone n)
everyone_below n m h x k = let q = ltb-true x n (sym (sets.has_everyone n x) ∙ k) in omega arith

pub names_below : (n : ℕ) (es : List Entry) → ((y : ℕ) → on es y ≡ true → y < n) → Below n (names es)
names_below n es h x k = h x (sym (sets.has_names es x) ∙ k)

-- a set of depots fits the place that a letter has for it
pub set_fits : (set : ℕ) → Below max_depots set → set < 256 ^ to_len
set_fits set h = rw as_many_marks at (sets.from_width max_depots set h)
