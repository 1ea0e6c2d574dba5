-- The first gathered entry that covers the wish is a partner's: since the entries rise by depot, it is the one that
-- stands for its depot; and where there is none, no depot covers the wish.
use Rattle.std.proofs.Common.{◌≡◌, ℕ, ◌+◌, ◌≤◌, Bool, true, false, cond, not, ◌&&◌, ◌||◌, eqb, leb, List, [], ◌∷◌, Some, None, sym, refl, ap, subst, inl, inr, arith}
use mathlib.Core.Logic.{∥∥₁_elim}
use denote.Struct.Props.{props}
use Rattle.std.specs.List.{find}
use Rattle.std.specs.Option.{unwrap_or, is_some}
use Rattle.std.proofs.lemmas.Bool.{cases_eq, eq-eqb, ne_eqb, eqb-true, leb-true, not-true, and_parts, false≢true, both_ways}
use Rattle.std.proofs.lemmas.Bool.Decides.{nat_tests}
use Rattle.entries.specs.declared.lists.Entry.{Entry}
use Rattle.entries.specs.Lists.{RisesFrom, on, entry_of}
use Rattle.protocol.specs.Law.{Law}
use Rattle.protocol.specs.Own.{Covers}
use Rattle.protocol.specs.State.{Site, State, own}

-- another depot's entry, whose shelf alone covers the wish
abbrev pub covers : Entry → Entry → Bool
covers me e = not (eqb e.depot me.depot) && leb me.wish e.shelf

-- what is found covers the wish, and is the entry of its depot
record Found (me : Entry) (d : ℕ) (es : List Entry) (e : Entry) : Type 0 where
  from : d ≤ e.depot
  on_it : on es e.depot ≡ true
  entry : entry_of es e.depot ≡ e
  covers : covers me e ≡ true

first_found : (me : Entry) (d : ℕ) (es : List Entry) (e : Entry) → RisesFrom d es → find (covers me) es ≡ Some e
    → Found me d es e
unfolding on entry_of
first_found me d [] e rises q = absurd (false≢true (ap is_some q))
first_found me d (x ∷ es) e rises q = here (covers me x) refl q (first_found me (x.depot + 1) es e rises.1)
  where
    here : (b : Bool) → covers me x ≡ b → cond b (Some x) (find (covers me) es) ≡ Some e
        → (find (covers me) es ≡ Some e → Found me (x.depot + 1) es e) → Found me d (x ∷ es) e
    here true t p later =
        let is : x ≡ e = ap (λ o. unwrap_or o x) p in
        let same : eqb x.depot e.depot ≡ true = eq-eqb x.depot e.depot (ap (λ y. y.depot) is) in
        record {
          from = subst (λ y. d ≤ y.depot) is rises.0;
          on_it = rw same refl;
          entry = rw same is;
          covers = subst (λ y. covers me y ≡ true) is t;
        }
    here false t p later =
        let f = later p in
        let apart : eqb x.depot e.depot ≡ false = ne_eqb x.depot e.depot (λ z. let l = f.from in omega arith) in
        record {
          from = let l = f.from in let l' = rises.0 in omega arith;
          on_it = rw apart f.on_it;
          entry = rw apart f.entry;
          covers = f.covers;
        }

-- where nothing is found, no depot's entry covers the wish
none_found : (me : Entry) (es : List Entry) (y : ℕ) → find (covers me) es ≡ None → on es y ≡ true
    → (y ≡ me.depot → ⊥) → me.wish ≤ (entry_of es y).shelf → ⊥
unfolding on entry_of
none_found me [] y q h other enough = false≢true h
none_found me (x ∷ es) y q h other enough =
    here (covers me x) (eqb x.depot y) refl refl q h enough (none_found me es y)
  where
    here : (b here : Bool) → covers me x ≡ b → eqb x.depot y ≡ here
        → cond b (Some x) (find (covers me) es) ≡ None → (here || on es y) ≡ true
        → me.wish ≤ (entry_of (x ∷ es) y).shelf
        → (find (covers me) es ≡ None → on es y ≡ true → (y ≡ me.depot → ⊥) → me.wish ≤ (entry_of es y).shelf → ⊥) → ⊥
    here true k t u p o w later = false≢true (sym (ap is_some p))
    here false true t u p o w later =
        let e = eqb-true x.depot y u in
        let w' : me.wish ≤ x.shelf = rw u at w in
        both_ways (covers me x) t (grind (arith, nat_tests))
    here false false t u p o w later = later p o other (rw u at w)

module _ (a : Site) (s : State) where
  pub no_partner : find (covers (own a s)) s.gathered ≡ None → (y : ℕ) → Covers a s y → ⊥
  no_partner q y c = none_found (own a s) s.gathered y q c.gathered c.another c.enough

  -- what is gathered rises
  rising : (X : Type 0) → IsProp X → (RisesFrom 0 s.gathered → X) → ∥ Law a s ∥₁ → X
  rising X prop f ok =
      ∥∥₁_elim ok prop (λ law. elim (cases_eq (s.rows a.depot).standing 1) [
        | inl e ↦ f (law.lists.gathering e).0.begun.rises
        | inr e ↦ f (subst (RisesFrom 0) (sym (law.lists.ungathered e)) tt)
      ])

  partner_is : (e : Entry) → covers (own a s) e ≡ true → on s.gathered e.depot ≡ true
      → (entry_of s.gathered e.depot).shelf ≡ e.shelf
      → Covers a s e.depot × (e.shelf ≡ (entry_of s.gathered e.depot).shelf)
  partner_is e c o w =
      let (other, enough) = and_parts (not (eqb e.depot a.depot)) (leb s.wish e.shelf) c in
      let l = leb-true s.wish e.shelf enough in (
        record {
          gathered = o;
          another = λ z. both_ways _ (not-true _ other) (eq-eqb e.depot a.depot z);
          enough = omega arith;
        },
        sym w,
      )

  pub partner : (e : Entry) → find (covers (own a s)) s.gathered ≡ Some e → ∥ Law a s ∥₁
      → Covers a s e.depot × (e.shelf ≡ (entry_of s.gathered e.depot).shelf)
  partner e q ok =
      partner_is e
      (rising _ (hlevel props) (λ r. (first_found (own a s) 0 s.gathered e r q).covers) ok)
      (rising _ (hlevel props) (λ r. (first_found (own a s) 0 s.gathered e r q).on_it) ok)
      (rising _ (hlevel props) (λ r. ap (λ x. x.shelf) (first_found (own a s) 0 s.gathered e r q).entry) ok)
