-- Wishes First is lawful: what is granted and what is left are together what there was, and what is left is dealt out
-- level and added. It stands in specs/, since an impl takes no proof of a law from proofs/.
use Rattle.std.specs.Prelude.{◌≡◌, ℕ, suc, ◌+◌, ◌-◌, ◌<◌, ◌≤◌, List, [], ◌∷◌, length, sum, refl}
use Rattle.std.proofs.Common.{sym, ap, ◌∙◌}
use native.Mathlib.Omega.{arith}
use Rattle.std.proofs.lemmas.List.Sums.{sum_by-cons}
use Rattle.std.proofs.lemmas.Bool.Decides.{nat_tests}
use Rattle.entries.specs.declared.lists.Entry.{Entry}
use Rattle.entries.specs.Lists.{pool}
use Rattle.policies.specs.Policy.{OneEach, Conserving, Lawful}
use Rattle.policies.specs.Shares.{dealt_out, granted, grants, rest, added, wishes_first}
use Rattle.policies.specs.Dealt.{dealt_length, dealt_sum}

pub granted_le : (wish left : ℕ) → granted wish left ≤ left
granted_le wish left = grind (arith, nat_tests)

grants_length : (left : ℕ) (es : List Entry) → length (grants left es) ≡ length es
grants_length left [] = refl
grants_length left (e ∷ es) = ap suc (grants_length (left - granted e.wish left) es)

grants_sum : (left : ℕ) (es : List Entry) → sum (grants left es) + rest left es ≡ left
grants_sum left [] = omega arith
grants_sum left (e ∷ es) =
    let given = granted e.wish left in
    let first = sum_by-cons (λ n. n) given (grants (left - given) es) in
    omega (arith, grants_sum (left - given) es, granted_le e.wish left)

added_length : (ms ns : List ℕ) → length (added ms ns) ≡ length ms
added_length [] ns = refl
added_length (m ∷ ms) [] = refl
added_length (m ∷ ms) (n ∷ ns) = ap suc (added_length ms ns)

added_sum : (ms ns : List ℕ) → length ms ≡ length ns → sum (added ms ns) ≡ sum ms + sum ns
added_sum [] [] same = omega arith
added_sum [] (n ∷ ns) same = absurd (omega arith)
added_sum (m ∷ ms) [] same = absurd (omega arith)
added_sum (m ∷ ms) (n ∷ ns) same =
    let both = sum_by-cons (λ k. k) (m + n) (added ms ns) in
    let left = sum_by-cons (λ k. k) m ms in
    let right = sum_by-cons (λ k. k) n ns in
    omega (arith, added_sum ms ns (omega arith))

module _ (es : List Entry) where
  abbrev wished : List ℕ
  wished = grants (pool es) es

  abbrev dealt : List ℕ
  dealt = dealt_out (rest (pool es) es) (length es)

  pub same_length : length wished ≡ length dealt
  same_length = grants_length (pool es) es ∙ sym (dealt_length (rest (pool es) es) (length es))

  size : length (wishes_first es) ≡ length es
  unfolding wishes_first
  size = added_length wished dealt ∙ grants_length (pool es) es

  conserves : 0 < length es → sum (wishes_first es) ≡ pool es
  unfolding wishes_first
  conserves some =
      omega (
        arith,
        added_sum wished dealt same_length,
        dealt_sum (rest (pool es) es) (length es) some,
        grants_sum (pool es) es,
      )

pub wishes_size : OneEach wishes_first
wishes_size es listed = size es

pub wishes_conserves : Conserving wishes_first
wishes_conserves es listed = conserves es (omega (arith, listed.two))

pub wishes_lawful : Lawful wishes_first
wishes_lawful = record { each = wishes_size; all = wishes_conserves }
