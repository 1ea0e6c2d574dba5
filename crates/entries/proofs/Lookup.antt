-- Looking a depot up on a list: the first entry of the depot is the answer, and there is one where it is on the list.
use Rattle.std.proofs.Common.{◌≡◌, ℕ, ◌<◌, Bool, true, false, cond, ◌||◌, eqb, List, [], ◌∷◌, Some, None, Option, refl, arith}
use Rattle.std.specs.List.{AllByRecursion, find}
use Rattle.std.proofs.lemmas.Bool.{eqb-true, cond_both, false≢true}
use Rattle.entries.specs.declared.lists.Entry.{Entry}
use Rattle.entries.specs.Lists.{on, entry_of}

-- the answer of a search, from the test and the entry that it rests on
abbrev pub looked_up : List Entry → ℕ → Option Entry
looked_up es d = cond (on es d) (Some (entry_of es d)) None

first_or_later : (b later : Bool) (e other : Entry) (r : Option Entry) → r ≡ cond later (Some other) None
    → cond b (Some e) r ≡ cond (b || later) (Some (cond b e other)) None
first_or_later true later e other r is = refl
first_or_later false later e other r is = is

pub first_is : (es : List Entry) (d : ℕ) → find (λ e. eqb e.depot d) es ≡ looked_up es d
unfolding on entry_of
first_is [] d = refl
first_is (e ∷ es) d = first_or_later (eqb e.depot d) (on es d) e (entry_of es d) _ (first_is es d)

-- what is known of every entry is known of the one that is found
pub entry_all : (P : Entry → Type 0) (es : List Entry) (d : ℕ) → AllByRecursion P es → on es d ≡ true
    → P (entry_of es d)
unfolding on entry_of
entry_all P [] d all there = absurd (false≢true there)
entry_all P (e ∷ es) d all there =
    cond_both (eqb e.depot d) e (entry_of es d) P
    (λ t. all.0)
    (λ t. entry_all P es d all.1 (rw t at there))

pub entry_depot : (es : List Entry) (d : ℕ) → (entry_of es d).depot ≡ d
unfolding entry_of
entry_depot [] d = refl
entry_depot (e ∷ es) d =
    cond_both (eqb e.depot d) e (entry_of es d) (λ x. x.depot ≡ d)
    (λ t. eqb-true e.depot d t)
    (λ t. entry_depot es d)

pub on_below : (n : ℕ) (es : List Entry) (d : ℕ) → AllByRecursion (λ e. e.depot < n) es → on es d ≡ true → d < n
on_below n es d low there =
    let found-low = entry_all (λ e. e.depot < n) es d low there in
    let is = entry_depot es d in
    omega arith
