-- Lists whose depots rise: read entry by entry they are orderly, and below n they have at most n entries, so that a
-- list begun needs only a second entry to be a list.
use Rattle.std.proofs.Common.{ℕ, ◌+◌, ◌<◌, ◌≤◌, List, [], ◌∷◌, length, get_or, drop, sym, subst, arith}
use Rattle.std.specs.List.{AllByRecursion}
use Rattle.std.proofs.lemmas.List.{drop_more, drop_all}
use Rattle.entries.specs.declared.lists.Entry.{Entry}
use Rattle.entries.specs.Limits.{max_depots, max_wish, max_pool}
use Rattle.entries.specs.Lists.{pool, RisesFrom, Listed, MayFollow, Orderly, Begun, blank}

pub orderly_rises : (d : ℕ) (es : List Entry) → Orderly d es → RisesFrom d es
orderly_rises d [] ok = tt
orderly_rises d (e ∷ es) ok = (ok.0.0, orderly_rises (e.depot + 1) es ok.1)

pub orderly_depots : (d : ℕ) (es : List Entry) → Orderly d es → AllByRecursion (λ e. e.depot < max_depots) es
orderly_depots d [] ok = tt
orderly_depots d (e ∷ es) ok = (ok.0.1, orderly_depots (e.depot + 1) es ok.1)

pub orderly_wishes : (d : ℕ) (es : List Entry) → Orderly d es → AllByRecursion (λ e. e.wish ≤ max_wish) es
orderly_wishes d [] ok = tt
orderly_wishes d (e ∷ es) ok = (ok.0.2, orderly_wishes (e.depot + 1) es ok.1)

pub orderly_from : (d : ℕ) (es : List Entry) → RisesFrom d es → AllByRecursion (λ e. e.depot < max_depots) es
    → AllByRecursion (λ e. e.wish ≤ max_wish) es → Orderly d es
orderly_from d [] rises depots wishes = tt
orderly_from d (e ∷ es) rises depots wishes =
    ((rises.0, depots.0, wishes.0), orderly_from (e.depot + 1) es rises.1 depots.1 wishes.1)

-- what is left of a list, one entry on and at the end
module _ (es : List Entry) (i d : ℕ) where
  pub orderly_next : i < length es → Orderly d (drop i es) → MayFollow d (get_or es i blank)
  orderly_next within ok = (subst (Orderly d) (drop_more es i blank within) ok).0

  pub orderly_rest : i < length es → Orderly d (drop i es) → Orderly ((get_or es i blank).depot + 1) (drop (i + 1) es)
  orderly_rest within ok = (subst (Orderly d) (drop_more es i blank within) ok).1

  pub orderly_with : i < length es → MayFollow d (get_or es i blank)
      → Orderly ((get_or es i blank).depot + 1) (drop (i + 1) es) → Orderly d (drop i es)
  orderly_with within next rest = subst (Orderly d) (sym (drop_more es i blank within)) (next, rest)

  pub orderly_end : length es ≤ i → Orderly d (drop i es)
  orderly_end end = subst (Orderly d) (sym (drop_all i es end)) tt

pub rising_short : (n d : ℕ) (es : List Entry) → d ≤ n → RisesFrom d es → AllByRecursion (λ e. e.depot < n) es
    → d + length es ≤ n
rising_short n d [] low rises depots = omega arith
rising_short n d (e ∷ es) low rises depots =
    let rest : e.depot + 1 + length es ≤ n =
    rising_short n (e.depot + 1) es (omega (arith, depots.0)) rises.1 depots.1 in
    omega (arith, rises.0)

pub begun_enough : (es : List Entry) → Begun max_depots es → 2 ≤ length es → Listed es
begun_enough es begun two = record {
  two = two;
  few = let short = rising_short max_depots 0 es (omega arith) begun.rises begun.depots in omega arith;
  rises = begun.rises;
  depots = begun.depots;
  wishes = begun.wishes;
  sum_within = begun.sum_within;
}

pub listed_begun : (es : List Entry) → Listed es → Begun max_depots es
listed_begun es listed = record {
  rises = listed.rises;
  depots = listed.depots;
  wishes = listed.wishes;
  sum_within = listed.sum_within;
}

pub listed_orderly : (es : List Entry) → Listed es → Orderly 0 es
listed_orderly es listed = orderly_from 0 es listed.rises listed.depots listed.wishes

pub orderly_enough : (es : List Entry) → Orderly 0 es → 2 ≤ length es → pool es ≤ max_pool → Listed es
orderly_enough es ok two within = begun_enough es begun two
  where
    begun : Begun max_depots es
    begun = record {
      rises = orderly_rises 0 es ok;
      depots = orderly_depots 0 es ok;
      wishes = orderly_wishes 0 es ok;
      sum_within = within;
    }
