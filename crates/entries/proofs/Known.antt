-- Being a list is a plain fact: it has one proof at most, so that it comes out of where only its being true is kept.
use Rattle.std.proofs.Common.{ℕ, ◌+◌, ◌<◌, ◌≤◌, List, [], ◌∷◌, refl}
use mathlib.Core.Logic.{∥∥₁_elim}
use native.Mathlib.Bridge.{le_prop}
use Rattle.std.specs.List.{AllByRecursion}
use Rattle.entries.specs.declared.lists.Entry.{Entry}
use Rattle.entries.specs.Limits.{max_depots, max_wish}
use Rattle.entries.specs.Lists.{RisesFrom, Listed, Begun}

pub all_plain : (P : Entry → Type 0) → ((e : Entry) → IsProp (P e)) → (es : List Entry) → IsProp (AllByRecursion P es)
all_plain P plain [] a b = refl
all_plain P plain (e ∷ es) a b = λ i. (plain e a.0 b.0 i, all_plain P plain es a.1 b.1 i)

rises_plain : (d : ℕ) (es : List Entry) → IsProp (RisesFrom d es)
rises_plain d [] a b = refl
rises_plain d (e ∷ es) a b = λ i. (le_prop a.0 b.0 i, rises_plain (e.depot + 1) es a.1 b.1 i)

depots_plain : (n : ℕ) (es : List Entry) → IsProp (AllByRecursion (λ e. e.depot < n) es)
depots_plain n = all_plain (λ e. e.depot < n) (λ e. le_prop)

wishes_plain : (es : List Entry) → IsProp (AllByRecursion (λ e. e.wish ≤ max_wish) es)
wishes_plain = all_plain (λ e. e.wish ≤ max_wish) (λ e. le_prop)

pub listed_plain : (es : List Entry) → IsProp (Listed es)
listed_plain es a b = λ i. record {
  two = le_prop a.two b.two i;
  few = le_prop a.few b.few i;
  rises = rises_plain 0 es a.rises b.rises i;
  depots = depots_plain max_depots es a.depots b.depots i;
  wishes = wishes_plain es a.wishes b.wishes i;
  sum_within = le_prop a.sum_within b.sum_within i;
}

pub begun_plain : (n : ℕ) (es : List Entry) → IsProp (Begun n es)
begun_plain n es a b = λ i. record {
  rises = rises_plain 0 es a.rises b.rises i;
  depots = depots_plain n es a.depots b.depots i;
  wishes = wishes_plain es a.wishes b.wishes i;
  sum_within = le_prop a.sum_within b.sum_within i;
}

pub listed_known : (es : List Entry) → ∥ Listed es ∥₁ → Listed es
listed_known es known = ∥∥₁_elim known (listed_plain es) (λ listed. listed)

pub begun_known : (n : ℕ) (es : List Entry) → ∥ Begun n es ∥₁ → Begun n es
begun_known n es known = ∥∥₁_elim known (begun_plain n es) (λ begun. begun)

pub depots_known : (n : ℕ) (es : List Entry) → ∥ AllByRecursion (λ e. e.depot < n) es ∥₁
    → AllByRecursion (λ e. e.depot < n) es
depots_known n es known = ∥∥₁_elim known (depots_plain n es) (λ depots. depots)
