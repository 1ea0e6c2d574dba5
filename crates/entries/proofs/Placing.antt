-- Where an entry's depot comes in rising order: behind the leading ones whose depots are not above.
use Rattle.std.proofs.Common.{◌≡◌, ℕ, ◌+◌, ◌≤◌, Bool, true, false, cond, not, ltb, List, [], ◌∷◌, Some, None, refl, ap, ⊎_elim, one-add, arith}
use Rattle.std.specs.Option.{unwrap_or}
use Rattle.std.proofs.lemmas.Bool.{cases_lt, lt-ltb, le-ltb}
use Rattle.std.specs.List.{insert as inserted, prefix_len}
use Rattle.entries.specs.declared.lists.Entry.{Entry}
use Rattle.entries.specs.Lists.{insert}

-- an entry whose depot is not above that of the new one
abbrev pub not_above : Entry → Entry → Bool
not_above e x = not (ltb e.depot x.depot)

insert_step : (e x : Entry) (xs rest : List Entry) (k : ℕ) → rest ≡ inserted xs k e → (b : Bool)
    → cond b (e ∷ x ∷ xs) (x ∷ rest) ≡ inserted (x ∷ xs) (cond (not b) (1 + k) 0) e
insert_step e x xs rest k is true = refl
insert_step e x xs rest k is false = rw one-add (ap (λ ys. x ∷ ys) is)

pub insert_at : (e : Entry) (es : List Entry) → insert e es ≡ inserted es (prefix_len (not_above e) es) e
unfolding insert
insert_at e [] = refl
insert_at e (x ∷ xs) =
    insert_step e x xs (insert e xs) (prefix_len (not_above e) xs) (insert_at e xs) (ltb e.depot x.depot)

-- a place that was found, or the end where none was, is the place
pub found_or_end : (n end : ℕ) → n ≤ end → unwrap_or (cond (ltb n end) (Some n) None) end ≡ n
found_or_end n end within =
    ⊎_elim
    (λ h. let t = lt-ltb n end h in rw t refl)
    (λ h. let t = le-ltb n end h in rw t (omega arith))
    (cases_lt n end)
