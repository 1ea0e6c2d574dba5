-- What `insert` does to a list: one entry more, its pieces more in the pool, its depot more on the list, and a list
-- begun stays one, since the new entry stands between a lower and a higher depot.
use Rattle.std.proofs.Common.{◌≡◌, ℕ, ◌+◌, ◌<◌, ◌≤◌, Bool, true, false, ◌||◌, eqb, ltb, leb, List, [], ◌∷◌, length, Ok, Err, sum_by, sym, refl, ap, ◌∙◌, subst, arith}
use Rattle.std.specs.List.{AllByRecursion}
use Rattle.std.proofs.lemmas.List.Sums.{sum_by-cons}
use Rattle.std.proofs.lemmas.Bool.{cond_both, leb-true, ltb-true, ltb-false, lt-ltb, le-ltb, eqb-false, or_parts}
use Rattle.entries.specs.declared.lists.Entry.{Entry}
use Rattle.entries.specs.declared.filling.InsertRefusal.{InsertRefusal}
use Rattle.entries.specs.declared.filling.InsertRefusal.TheVariants.{Present, Full, PastLimit}
use Rattle.entries.specs.Limits.{max_depots, max_wish, max_pool}
use Rattle.entries.specs.Lists.{pool, RisesFrom, Begun, on, insert}
use Rattle.entries.specs.Filling.{insertion, Inserted}
use Rattle.entries.proofs.Width.{as_many_marks}

-- a property of both ways in which `insert` goes on holds of `insert`
by_order : (P : List Entry → Type 0) (e x : Entry) (xs : List Entry) → (e.depot < x.depot → P (e ∷ x ∷ xs))
    → (x.depot ≤ e.depot → P (x ∷ insert e xs)) → P (insert e (x ∷ xs))
unfolding insert
by_order P e x xs here later =
    cond_both (ltb e.depot x.depot) (e ∷ x ∷ xs) (x ∷ insert e xs) P
    (λ t. here (ltb-true e.depot x.depot t))
    (λ t. later (ltb-false e.depot x.depot t))

insert_none : (e : Entry) → insert e [] ≡ e ∷ []
unfolding insert
insert_none e = refl

pub insert_length : (e : Entry) (es : List Entry) → length (insert e es) ≡ length es + 1
insert_length e [] = rw (insert_none e) (omega arith)
insert_length e (x ∷ xs) =
    let rest = insert_length e xs in
    by_order (λ ys. length ys ≡ length (x ∷ xs) + 1) e x xs (λ h. omega arith) (λ h. omega arith)

-- any sum over the entries grows by the new one's part
pub insert_sum : (f : Entry → ℕ) (e : Entry) (es : List Entry) → sum_by f (insert e es) ≡ f e + sum_by f es
insert_sum f e [] = rw (insert_none e) (omega (arith, sum_by-cons f e []))
insert_sum f e (x ∷ xs) =
    let rest = insert_sum f e xs in
    let all = sum_by-cons f x xs in
    by_order (λ ys. sum_by f ys ≡ f e + sum_by f (x ∷ xs)) e x xs
    (λ h. sum_by-cons f e (x ∷ xs))
    (λ h. omega (arith, sum_by-cons f x (insert e xs)))

pub insert_pool : (e : Entry) (es : List Entry) → pool (insert e es) ≡ e.shelf + pool es
insert_pool = insert_sum (λ e. e.shelf)

pub insert_all : (P : Entry → Type 0) (e : Entry) (es : List Entry) → P e → AllByRecursion P es
    → AllByRecursion P (insert e es)
unfolding insert
insert_all P e [] here all = (here, tt)
insert_all P e (x ∷ xs) here all =
    let rest = insert_all P e xs here all.1 in
    by_order (AllByRecursion P) e x xs (λ h. (here, all)) (λ h. (all.0, rest))

or_across : (a b c : Bool) → (a || (b || c)) ≡ (b || (a || c))
or_across true true c = refl
or_across true false c = refl
or_across false true c = refl
or_across false false c = refl

pub insert_on : (e : Entry) (es : List Entry) (d : ℕ) → on (insert e es) d ≡ (eqb e.depot d || on es d)
unfolding on insert
insert_on e [] d = refl
insert_on e (x ∷ xs) d =
    let rest = insert_on e xs d in
    by_order (λ ys. on ys d ≡ (eqb e.depot d || on (x ∷ xs) d)) e x xs
    (λ h. refl)
    (λ h. ap (λ b. eqb x.depot d || b) rest ∙ or_across (eqb x.depot d) (eqb e.depot d) (on xs d))

-- where the depot is not there yet, the list goes on rising
pub insert_rises : (d : ℕ) (e : Entry) (es : List Entry) → d ≤ e.depot → on es e.depot ≡ false → RisesFrom d es
    → RisesFrom d (insert e es)
unfolding on insert
insert_rises d e [] low absent rises = (low, tt)
insert_rises d e (x ∷ xs) low absent rises =
    let parts = or_parts (eqb x.depot e.depot) (on xs e.depot) absent in
    let apart = eqb-false x.depot e.depot parts.0 in
    by_order (RisesFrom d) e x xs
    (λ h. (low, (omega arith, rises.1)))
    (λ h.
    let above : x.depot + 1 ≤ e.depot = omega arith in
    (rises.0, insert_rises (x.depot + 1) e xs above parts.1 rises.1))

pub insert_begun :
    (n : ℕ) (e : Entry) (es : List Entry)
    → on es e.depot ≡ false
    → pool es + e.shelf ≤ max_pool → Begun n es → e.depot < n → e.wish ≤ max_wish → Begun n (insert e es)
insert_begun n e es absent within begun low wish = record {
  rises = insert_rises 0 e es (omega arith) absent begun.rises;
  depots = insert_all (λ x. x.depot < n) e es low begun.depots;
  wishes = insert_all (λ x. x.wish ≤ max_wish) e es wish begun.wishes;
  sum_within = omega (arith, insert_pool e es);
}

-- the answers in their order
module _ (e : Entry) (es : List Entry) where
  pub is_present : on es e.depot ≡ true → Err Present ≡ insertion e es
  unfolding insertion
  is_present t = rw t

  pub is_full : on es e.depot ≡ false → max_depots ≤ length es → Err Full ≡ insertion e es
  unfolding insertion
  is_full absent full = let f = le-ltb (length es) max_depots full in rw (absent, f)

  pub is_past_limit : on es e.depot ≡ false → length es < max_depots → leb (pool es + e.shelf) max_pool ≡ false
      → Err PastLimit ≡ insertion e es
  unfolding insertion
  is_past_limit absent room past = let f = lt-ltb (length es) max_depots room in rw (absent, f, past)

  pub is_taken : on es e.depot ≡ false → length es < max_depots → leb (pool es + e.shelf) max_pool ≡ true
      → Ok tt ≡ insertion e es
  unfolding insertion
  is_taken absent room within = let f = lt-ltb (length es) max_depots room in rw (absent, f, within)

-- a place that is not full has room for another entry
pub room_left : (list : List Entry) → (length list ≡ 16 → ⊥) → length list ≤ max_depots → length list < max_depots
room_left list apart fits = omega (arith, as_many_marks)

-- what putting an entry to a list leaves, where `list` is what was read of the place
module _ (e : Entry) (list before : List Entry) (is : list ≡ before) where
  pub refused : (why : InsertRefusal) → Err why ≡ insertion e list → Inserted e before (Err why) before
  refused why told = record {
    answer = told ∙ ap (insertion e) is;
    list = refl;
    begun = λ n begun low wish. begun;
  }

  pub taken : {after : List Entry} → after ≡ insert e before → on list e.depot ≡ false → length list < max_depots
      → leb (pool list + e.shelf) max_pool ≡ true → Inserted e before (Ok tt) after
  taken grown absent room within = record {
    answer = is_taken e list absent room within ∙ ap (insertion e) is;
    list = grown;
    begun = λ n begun low wish.
        subst (Begun n) (sym grown)
        (insert_begun n e before (sym (ap (λ es. on es e.depot) is) ∙ absent)
        (leb-true _ _ (sym (ap (λ es. leb (pool es + e.shelf) max_pool) is) ∙ within))
        begun low wish);
  }
