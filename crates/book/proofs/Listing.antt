-- The record's lists: their depots are depots, and sums over them one entry at a time.
use Rattle.std.proofs.Common.{◌≡◌, ℕ, ◌+◌, ◌<◌, ◌≤◌, Bool, true, false, cond, not, eqb, List, [], ◌∷◌, refl, sym, ap, ◌∙◌, subst, inl, inr, arith}
use mathlib.Core.Logic.{∥∥₁_map}
use Rattle.std.specs.List.{AllByRecursion, filter, sum_by}
use Rattle.std.proofs.lemmas.List.Sums.{sum_by-cons}
use Rattle.std.proofs.lemmas.Bool.{cases_eq}
use Rattle.entries.specs.declared.lists.Entry.{Entry}
use Rattle.entries.specs.Limits.{max_depots}
use Rattle.entries.specs.Lists.{Listed}
use Rattle.entries.proofs.Known.{depots_known, listed_known}
use Rattle.protocol.specs.Listing.{elsewhere}
use Rattle.protocol.specs.State.{Site, State, leader}
use Rattle.protocol.specs.Law.{Law}
use Rattle.protocol.proofs.Changed.{bound_listed}
use Rattle.book.proofs.Kept.{own_calls}

-- depots below n are depots
all_depots : (n : ℕ) (es : List Entry) → n ≤ max_depots → AllByRecursion (λ e. e.depot < n) es
    → AllByRecursion (λ e. e.depot < max_depots) es
all_depots n [] h all = tt
all_depots n (e ∷ es) h all = (let l = all.0 in omega arith, all_depots n es h all.1)

-- whoever is gathered is a depot: entries are gathered only while the depot leads
pub gathered_depots : (a : Site) (s : State) → ∥ Law a s ∥₁ → AllByRecursion (λ e. e.depot < max_depots) s.gathered
gathered_depots a s ok =
    depots_known max_depots s.gathered (∥∥₁_map ok (λ law. elim (cases_eq (s.rows a.depot).standing 1) [
      | inl e ↦ all_depots a.n s.gathered law.site.size (law.lists.gathering e).0.begun.depots
      | inr e ↦ subst (AllByRecursion (λ x. x.depot < max_depots)) (sym (law.lists.ungathered e)) tt
    ]))

-- who is bound has a list that may be shared out
pub listed_now : (a : Site) (s : State) (L : ℕ) → (s.rows L).standing ≡ 2 → ∥ Law a s ∥₁ → Listed s.list
listed_now a s L e ok = listed_known s.list (∥∥₁_map ok (λ law. bound_listed a s law L e))

-- whoever stands on a record's list is a depot: a list is there only while the depot is bound
pub list_depots : (a : Site) (s : State) → ∥ Law a s ∥₁ → AllByRecursion (λ e. e.depot < max_depots) s.list
list_depots a s ok = depots_known max_depots s.list (∥∥₁_map ok (λ law. elim (cases_eq (s.rows (leader a s)).standing 2) [
  | inl e ↦ (bound_listed a s law (leader a s) e).depots
  | inr e ↦ subst (λ es. AllByRecursion (λ x. x.depot < max_depots) es) (sym (law.lists.unbound (λ L k. e (
      ap (λ l. (s.rows l).standing) ((own_calls a s law).found L (omega arith)) ∙ k
      ))).0) tt
]))

-- the pieces on the other shelves, as the sum over the entries of other depots
pub elsewhere_sum : (d : ℕ) (es : List Entry)
    → sum_by (λ e. e.shelf) (filter (λ e. not (eqb e.depot d)) es) ≡ elsewhere d es
unfolding elsewhere
elsewhere_sum d [] = refl
elsewhere_sum d (e ∷ es) = by (eqb e.depot d) (elsewhere_sum d es)
  where
    others : List Entry
    others = filter (λ x. not (eqb x.depot d)) es

    by : (b : Bool) → sum_by (λ x. x.shelf) others ≡ elsewhere d es
        → sum_by (λ x. x.shelf) (cond (not b) (e ∷ others) others) ≡ cond b 0 e.shelf + elsewhere d es
    by true rest = omega (arith, rest)
    by false rest = sum_by-cons (λ x. x.shelf) e others ∙ ap (λ n. e.shelf + n) rest
