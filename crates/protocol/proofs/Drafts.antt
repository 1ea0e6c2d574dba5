-- Every draft opens with shares that add up to its total: what is allotted never passes the total, a depot that was not
-- allotted has nothing, and what remains goes to depot 0.
use Rattle.std.proofs.Common.{◌≡◌, ℕ, ◌+◌, ◌<◌, ◌≤◌, false, ltb, Ok, Err, Result, sym, refl, ◌∙◌, subst, inl, inr, arith}
use Rattle.std.proofs.lemmas.Bool.{ltb-true, ltb-false, or_parts, not-false, both_ways}
use Rattle.entries.specs.Limits.{max_depots}
use Rattle.entries.specs.Sets.{has}
use Rattle.protocol.specs.Limits.{max_total}
use Rattle.protocol.specs.Opening.{sum_to, Draft, draft, remains, allot, opened, Drafted, drafted, allotted, total}
use Rattle.protocol.specs.Opening.{OpensWhole}
use Rattle.protocol.specs.State.{upd}
use Rattle.protocol.proofs.InSets.{add_tells}
use Rattle.protocol.proofs.Tests.{by, upd_tells}
use Rattle.protocol.proofs.Sums.{sum_one, sum_none}

-- what every draft keeps
record Lawful (d : Draft) : Type 0 where
  some : 1 ≤ d.n
  few : d.n ≤ max_depots
  limit : d.total ≤ max_total
  within : sum_to d.n d.shares ≤ d.total
  nothing : (y : ℕ) → has d.allotted y ≡ false → d.shares y ≡ 0

-- a share for one depot more, or for it anew
sum_set : (n k v : ℕ) (f : ℕ → ℕ) → k < n → sum_to n (upd f k v) + f k ≡ sum_to n f + v
sum_set n k v f l =
    let e = sum_one n k (upd f k v) f l
    (λ x q. elim (upd_tells f k v x) [ inl u ↦ absurd (q u.0) | inr u ↦ u.1 ]) in
    let h : upd f k v k ≡ v = elim (upd_tells f k v k) [ inl u ↦ u.1 | inr u ↦ absurd (u.0 refl) ] in
    omega arith

-- what a call that may refuse gives is lawful
abbrev Gives : Result Draft ℕ → Type 0
Gives r = (d : Draft) → r ≡ Ok d → Lawful d

refused : (n : ℕ) → Gives (Err n)
refused n d e = absurd (let z : ◌≡◌ {A = ℕ} 0 1 = cc in omega arith)

served : (d : Draft) → Lawful d → Gives (Ok d)
served d h e q = subst Lawful (cc) h

draft_lawful : (total n : ℕ) → Gives (draft total n)
draft_lawful total n =
    by Gives (λ _. refused 1)
    (λ u. let (lo, hi) = or_parts (ltb n 1) (ltb max_depots n) u in
    by Gives (λ _. refused 2)
    (λ v. served _ (record {
      some = ltb-false _ _ lo;
      few = ltb-false _ _ hi;
      limit = ltb-false _ _ v;
      within = (let q = sum_none n (λ _. 0) (λ _ _. refl) in omega arith);
      nothing = λ _ _. refl;
    })))

allot_lawful : (d : Draft) → Lawful d → (depot pieces : ℕ) → Gives (allot d depot pieces)
allot_lawful d h depot pieces =
    by Gives (λ _. refused 3)
    (λ u. by Gives (λ _. refused 4)
    (λ v. by Gives (λ _. refused 5)
    (λ w. served _ (record {
      some = h.some;
      few = h.few;
      limit = h.limit;
      within =
          (let q = sum_set d.n depot pieces d.shares (ltb-true _ _ (not-false _ u)) in
          let r = h.nothing depot v in
          let x = ltb-false _ _ w in
          let y = h.within in
          omega arith);
      nothing = λ y e.
          elim (add_tells d.allotted depot y) [
            | inl q ↦ absurd (both_ways _ e q.1)
            | inr q ↦ elim (upd_tells d.shares depot pieces y) [
              | inl r ↦ absurd (q.0 r.0)
              | inr r ↦ r.1 ∙ h.nothing y (sym q.1 ∙ e)
            ]
          ];
    }))))

every_lawful : (d : Draft) → Drafted d → Lawful d
every_lawful d (drafted total n _ e) = draft_lawful total n d e
every_lawful d (allotted {d = c} h depot pieces _ e) = allot_lawful c (every_lawful c h) depot pieces d e

pub opens_whole : (d : Draft) → Drafted d → OpensWhole d
opens_whole d h =
    let l = every_lawful d h in
    let q = sum_set d.n 0 (d.shares 0 + remains d) d.shares (omega arith) in
    let s : total (opened d) ≡ d.total = omega arith in
    record { lawful = record { some = l.some; few = l.few; limit = omega arith }; whole = s }
