-- A letter has few entries: no kind has more than there can be depots.
use Rattle.std.proofs.Common.{◌≡◌, ℕ, ◌/◌, ◌%◌, ◌^◌, ◌<◌, ◌≤◌, true, eqb, List, [], length, arith}
use Rattle.std.proofs.lemmas.Bool.{and_parts, eqb-true, ne_eqb}
use Rattle.std.proofs.lemmas.Bool.Decides.{nat_tests}
use Rattle.std.proofs.lemmas.List.{nil_from_length}
use Rattle.entries.specs.Limits.{max_depots}
use Rattle.letters.specs.Format.{entry_len}
use Rattle.letters.specs.Contents.{offer_kind, list_kind}
use Rattle.letters.specs.Reading.{count_fits, length_fits}

count_few : (kind n : ℕ) → count_fits kind n ≡ true → n ≤ max_depots
unfolding max_depots
count_few k n h = grind (arith, nat_tests)

module _ (kind n : ℕ) (h : length_fits kind n ≡ true) where
  pub length_whole : n % entry_len ≡ 0
  length_whole = eqb-true _ _ (and_parts (eqb (n % entry_len) 0) (count_fits kind (n / entry_len)) h).0

  count : count_fits kind (n / entry_len) ≡ true
  count = (and_parts (eqb (n % entry_len) 0) (count_fits kind (n / entry_len)) h).1

  pub length_few : n < 2 ^ 16
  unfolding max_depots
  length_few = omega (arith, count_few kind (n / entry_len) count, length_whole)

-- only an Offer and a List have bytes after the head
pub no_entries : (kind : ℕ) (bs : List ℕ) → length_fits kind (length bs) ≡ true → (kind ≡ offer_kind → ⊥) →
    (kind ≡ list_kind → ⊥) → bs ≡ []
no_entries k bs h no-offer no-list =
    let n = length bs in
    let fits = count k n h in
    let none : eqb (n / entry_len) 0 ≡ true = rw (ne_eqb k offer_kind no-offer, ne_eqb k list_kind no-list) at fits in
    nil_from_length bs (omega (arith, eqb-true _ _ none, length_whole k n h))
