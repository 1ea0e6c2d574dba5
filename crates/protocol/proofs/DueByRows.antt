-- The records tell what is due: while a depot is bound to a list, the row of its leader has the handover's number in
-- the record of every depot on that list, so that the row's standing is the last one in the handover.
use Rattle.std.proofs.Common.{◌≡◌, ℕ, ◌≤◌, Bool, true, ◌&&◌, ◌||◌, eqb, List, [], ◌∷◌, sym, refl, ap, ◌∙◌, ap₂, arith}
use Rattle.std.proofs.lemmas.Bool.{eq-eqb, or_left, or_right}
use Rattle.entries.specs.declared.lists.Entry.{Entry}
use Rattle.entries.specs.Lists.{on}
use Rattle.protocol.specs.Listing.{every}
use Rattle.protocol.specs.Opening.{Opening, LawfulOpening}
use Rattle.protocol.specs.Policy.{Policy, LawfulPolicy}
use Rattle.protocol.specs.Series.{Stage, just_opened, Series}
use Rattle.protocol.specs.Words.{stands, bound_to_standing, due}
use Rattle.protocol.specs.ByRows.{accepted_by_row, stands_by_rows, bound_by_rows, due_by_rows, DueByRows}
use Rattle.protocol.proofs.History.{past_of, has_accepted}
use Rattle.protocol.proofs.Invariant.{Invariant, invariant}
use Rattle.protocol.proofs.Accounts.{stands_is}
use Rattle.protocol.proofs.Replies.{pinned, list_x}

-- two tests that agree on every depot of a list agree on the list
every_same : (ℓ : List Entry) (p q : ℕ → Bool) → ((y : ℕ) → on ℓ y ≡ true → p y ≡ q y) → every ℓ p ≡ every ℓ q
unfolding every on
every_same [] p q f = refl
every_same (e ∷ ℓ) p q f =
    ap₂ (λ b c. b && c) (f e.depot (or_left _ _ (eq-eqb e.depot e.depot refl)))
    (every_same ℓ p q (λ y k. f y (or_right _ _ k)))

-- a standing up to 5 says by its number whether a list was accepted
accepted_standing : (k : ℕ) → k ≤ 5 → has_accepted k ≡ (eqb k 2 || (eqb k 4 || eqb k 5))
unfolding has_accepted
accepted_standing k l = grind arith

module _ {P : Policy} (lawful : LawfulPolicy P) {o : Opening} (ok : LawfulOpening o) {w : Stage}
    (s : Series P o (just_opened o) w) where
  h : Invariant s
  h = invariant lawful ok s

  module _ (x L : ℕ) (bound : ((w.at x).rows L).standing ≡ 2) where
    abbrev n : ℕ
    n = ((w.at x).rows L).number

    -- a depot on the list has accepted it exactly if its row says so
    row_tells : (y : ℕ) → on (w.at x).list y ≡ true → has_accepted (past_of s y L n) ≡ accepted_by_row w.at L n y
    unfolding accepted_by_row
    row_tells y listed =
        ap has_accepted last
        ∙ (accepted_standing k (rw (← last) (h.safe.most y L n))
        ∙ sym (ap (λ b. b && (eqb k 2 || (eqb k 4 || eqb k 5))) (eq-eqb _ n at_n)))
      where
        k : ℕ
        k = ((w.at y).rows L).standing

        bound_last : past_of s x L n ≡ 2
        bound_last = (h.safe.own x).now L ∙ bound

        at_n : ((w.at y).rows L).number ≡ n
        at_n =
            pinned h.safe h.leaders x L n bound_last y
            (ap (λ ℓ. on ℓ y) (sym (list_x h.safe h.leaders x L n bound_last)) ∙ listed)

        last : past_of s y L n ≡ k
        last = ap (past_of s y L) (sym at_n) ∙ (h.safe.own y).now L

    stands_by_rows_lem : stands w L n (w.at x).list ≡ stands_by_rows w.at L n (w.at x).list
    unfolding stands_by_rows
    stands_by_rows_lem =
        stands_is lawful ok s x L bound
        ∙ every_same (w.at x).list (λ y. has_accepted (past_of s y L n)) (accepted_by_row w.at L n) row_tells

  bound_by_rows_lem : (x : ℕ) → bound_to_standing o w x ≡ bound_by_rows o w.at x
  unfolding bound_to_standing bound_by_rows
  bound_by_rows_lem x = grind (arith, stands_by_rows_lem)

  due_rows : (x : ℕ) → due P o w x ≡ due_by_rows P o w.handed w.at x
  unfolding due due_by_rows
  due_rows x = grind (arith, bound_by_rows_lem)

pub due_by_rows_lem : DueByRows
due_by_rows_lem P lawful o ok w s x = due_rows lawful ok s x
