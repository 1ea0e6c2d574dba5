-- What a kind carries, and what reading tests the entries of that kind for, are the same: by the three cases of a
-- kind, an Offer, a List and every other.
use Rattle.std.proofs.Common.{◌≡◌, ℕ, ◌<◌, ◌≤◌, true, not, ◌||◌, eqb, leb, List, [], ◌∷◌, length, sym, refl, subst, inl, inr, arith}
use Rattle.std.specs.List.{AllByRecursion}
use Rattle.std.proofs.lemmas.Bool.{cases_eq, eq-eqb, eqb-true, ne_eqb, le-leb, leb-true, and_from, and_parts}
use Rattle.std.proofs.lemmas.List.{nil_from_length}
use Rattle.std.proofs.ByRecursion.{All-weaker, All-get_or, All-from_get_or}
use Rattle.std.proofs.lemmas.List.Sums.{get_or-le-sum_by}
use Rattle.entries.specs.declared.lists.Entry.{Entry}
use Rattle.entries.specs.Limits.{max_depots, max_wish, max_pool}
use Rattle.entries.specs.Lists.{blank, pool, Rises, Listed}
use Rattle.letters.specs.Contents.{Contents, offer_kind, list_kind, LawfulEntry, Offered, Carries, Lawful}
use Rattle.letters.specs.Reading.{count_fits, owner_of, owns}

-- what holds of an Offer, of a List and of every other kind holds of all
by_kind : (P : ℕ → Type 0) → P offer_kind → P list_kind →
    ((kind : ℕ) → (kind ≡ offer_kind → ⊥) → (kind ≡ list_kind → ⊥) → P kind) → (kind : ℕ) → P kind
by_kind P offer list other k =
    elim (cases_eq k offer_kind) [
      | inl e ↦ subst P (sym e) offer
      | inr no-offer ↦
          elim (cases_eq k list_kind) [
            | inl e ↦ subst P (sym e) list
            | inr no-list ↦ other k no-offer no-list
          ]
    ]

-- what reading tests the entries for
pub record Fits (kind sender : ℕ) (es : List Entry) : Type 0 where
  pub count : count_fits kind (length es) ≡ true
  pub owned : AllByRecursion (λ e. owns (owner_of kind sender) e.depot ≡ true) es
  pub each : AllByRecursion LawfulEntry es
  pub rises : Rises es
  pub sum : (not (eqb kind list_kind) || leb (pool es) max_pool) ≡ true

one_rises : (es : List Entry) → length es ≡ 1 → Rises es
one_rises [] h = tt
one_rises (e ∷ []) h = (omega arith, tt)
one_rises (e ∷ f ∷ es) h = absurd (omega arith)

offered_fits : (sender : ℕ) (es : List Entry) → Offered sender es → Fits offer_kind sender es
offered_fits s es h =
    record {
      count = eq-eqb _ _ h.one;
      owned = All-weaker (λ e. e.depot ≡ s) (λ e. eqb e.depot s ≡ true) (λ e q. eq-eqb _ _ q) es h.own;
      each = h.lawful;
      rises = one_rises es h.one;
      sum = refl;
    }

-- a shelf of a list holds no more than all its shelves together
listed_each : (es : List Entry) → Listed es → AllByRecursion LawfulEntry es
listed_each es h =
    All-from_get_or LawfulEntry es blank
    (λ i l.
    record {
      depot_below = All-get_or (λ e. e.depot < max_depots) es i blank l h.depots;
      wish_within = All-get_or (λ e. e.wish ≤ max_wish) es i blank l h.wishes;
      shelf_within = omega (arith, get_or-le-sum_by (λ e. e.shelf) es i blank l, h.sum_within);
    })

listed_fits : (sender : ℕ) (es : List Entry) → Listed es → Fits list_kind sender es
listed_fits s es h =
    record {
      count = and_from _ _ (le-leb _ _ h.two) (le-leb _ _ h.few);
      owned = All-from_get_or (λ e. owns (owner_of list_kind s) e.depot ≡ true) es blank (λ i l. refl);
      each = listed_each es h;
      rises = h.rises;
      sum = le-leb _ _ h.sum_within;
    }

none_fits : (kind sender : ℕ) → (kind ≡ offer_kind → ⊥) → (kind ≡ list_kind → ⊥) → Fits kind sender []
none_fits k s no-offer no-list =
    let a = ne_eqb k offer_kind no-offer in
    let b = ne_eqb k list_kind no-list in
    record { count = simp (a, b); owned = tt; each = tt; rises = tt; sum = simp b }

pub carries_fits : (kind sender : ℕ) (es : List Entry) → Carries kind sender es → Fits kind sender es
carries_fits k s es =
    by_kind (λ k. Carries k s es → Fits k s es) (offered_fits s es) (listed_fits s es)
    (λ k no-offer no-list h.
    let none : es ≡ [] = rw (ne_eqb k offer_kind no-offer, ne_eqb k list_kind no-list) at h in
    rw none (none_fits k s no-offer no-list))
    k

-- a List that is lawful carries a list
fits_listed : (sender : ℕ) (es : List Entry) → Fits list_kind sender es → Listed es
fits_listed s es h =
    let n = and_parts (leb 2 (length es)) (leb (length es) max_depots) h.count in
    record {
      two = leb-true _ _ n.0;
      few = leb-true _ _ n.1;
      rises = h.rises;
      depots = All-weaker LawfulEntry (λ e. e.depot < max_depots) (λ e l. l.depot_below) es h.each;
      wishes = All-weaker LawfulEntry (λ e. e.wish ≤ max_wish) (λ e l. l.wish_within) es h.each;
      sum_within = leb-true _ _ h.sum;
    }

fits_offered : (sender : ℕ) (es : List Entry) → Fits offer_kind sender es → Offered sender es
fits_offered s es h =
    record {
      one = eqb-true _ _ h.count;
      own = All-weaker (λ e. eqb e.depot s ≡ true) (λ e. e.depot ≡ s) (λ e q. eqb-true _ _ q) es h.owned;
      lawful = h.each;
    }

pub fits_carries : (kind sender : ℕ) (es : List Entry) → Fits kind sender es → Carries kind sender es
fits_carries k s es =
    by_kind (λ k. Fits k s es → Carries k s es) (fits_offered s es) (fits_listed s es)
    (λ k no-offer no-list h.
    let a = ne_eqb k offer_kind no-offer in
    let b = ne_eqb k list_kind no-list in
    let none : eqb (length es) 0 ≡ true = rw (a, b) at h.count in
    rw (a, b) (nil_from_length es (eqb-true _ _ none)))
    k

-- a lawful List carries a list, and a list makes a lawful List
pub lawful_listed : (m : Contents) → Lawful m → m.kind ≡ list_kind → Listed m.entries
lawful_listed m h e = rw e at h.carries

-- a lawful Offer carries its sender's entry alone
pub lawful_offered : (m : Contents) → Lawful m → m.kind ≡ offer_kind → Offered m.sender m.entries
lawful_offered m h e = rw e at h.carries
