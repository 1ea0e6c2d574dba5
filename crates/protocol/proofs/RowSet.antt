-- The law of a record after one row has changed, and after a depot was struck from owing. A row that changes is the one
-- in which the depot was engaged, or the depot was engaged in none: so no other row is engaged after it.
use Rattle.std.proofs.Common.{◌≡◌, ℕ, ◌+◌, ◌<◌, ◌≤◌, Bool, true, false, cond, not, ◌||◌, eqb, ◌⊎◌, [], sym, refl, ap, ◌∙◌, inl, inr, arith}
use Rattle.std.proofs.lemmas.Bool.{and_parts}
use Rattle.entries.specs.Limits.{max_wish, max_shelf}
use Rattle.entries.specs.Sets.{has, mark, less}
use Rattle.entries.proofs.Membership.{has_less}
use Rattle.protocol.specs.Law.{Engages, HasAccepted, LawfulRow, LawfulList, LawfulBound, Law}
use Rattle.protocol.specs.Limits.{max_tray, last_number}
use Rattle.protocol.specs.State.{upd, Site, State, engages, engaged, owed}
use Rattle.protocol.proofs.InSets.{less_none}
use Rattle.protocol.proofs.Tests.{upd_tells, any_none}

not_engaged : (a : Site) (s : State) → engaged a s ≡ false → (L : ℕ) → L < a.n → Engages (s.rows L).standing → ⊥
unfolding engaged engages
not_engaged a s h L l e =
    let q = any_none a.n (λ L. eqb (s.rows L).standing 1 || eqb (s.rows L).standing 2) L h l in
    grind arith

-- a depot that is not engaged is engaged in no row
pub idle : (a : Site) (s : State) → Law a s → engaged a s ≡ false → (L : ℕ) → Engages (s.rows L).standing → ⊥
idle a s law h L e = not_engaged a s h L ((law.rows.row L).low e.0) e

-- a row that was set stands where it was set
pub row_set : (s : State) (L n k : ℕ) → 1 ≤ k → 1 ≤ (upd s.rows L (record { number = n; standing = k }) L).standing
row_set s L n k h =
    elim (upd_tells s.rows L (record { number = n; standing = k }) L) [
      | inl u ↦ rw u.1 h
      | inr u ↦ absurd (u.0 refl)
    ]

-- What is to be shown of a record t that came from s by setting the row of L to the number m and the standing k
pub record Turned (a : Site) (s t : State) (L m k : ℕ) : Type 0 where
  pub rows : t.rows ≡ upd s.rows L (record { number = m; standing = k })
  pub lone : (M : ℕ) → Engages (s.rows M).standing → M ≡ L
  pub low : L < a.n
  pub most : k ≤ 5
  pub some : 1 ≤ k
  pub number_high : m ≤ last_number
  pub number_some : 1 ≤ m
  pub stock : t.shelf + t.tray ≤ max_shelf
  pub tray : t.tray ≤ max_tray
  pub wish : t.wish ≤ max_wish
  pub tray_empty : (Engages k → ⊥) → t.tray ≡ 0
  pub bound : k ≡ 2 → LawfulBound a L t.shelf t.wish t.list t.heard
  pub unbound : (k ≡ 2 → ⊥) → (t.list ≡ []) × (t.heard ≡ 0)
  pub gathering : k ≡ 1 → L ≡ a.depot → LawfulList a a.depot t.shelf t.wish t.gathered × (1 ≤ t.wish)
  pub ungathered : (k ≡ 1 → L ≡ a.depot → ⊥) → t.gathered ≡ []
  pub owing : (y : ℕ) → has t.owing y ≡ true → (y < a.n) × (y ≡ a.depot → ⊥)
  pub owes :
      (t.owing ≡ 0)
      ⊎ (((L ≡ a.depot) × HasAccepted k) ⊎ ((L ≡ a.depot → ⊥) × HasAccepted (s.rows a.depot).standing))

module _ (a : Site) (s t : State) (L m k : ℕ) (law : Law a s) (h : Turned a s t L m k) where
  at : (M : ℕ) →
      ((M ≡ L) × (t.rows M ≡ record { number = m; standing = k })) ⊎ ((M ≡ L → ⊥) × (t.rows M ≡ s.rows M))
  at M =
      let q : t.rows M ≡ upd s.rows L (record { number = m; standing = k }) M = ap (λ f. f M) h.rows in
      elim (upd_tells s.rows L (record { number = m; standing = k }) M) [
        | inl u ↦ inl (u.0, q ∙ u.1)
        | inr u ↦ inr (u.0, q ∙ u.1)
      ]

  stands_at : (t.rows L).standing ≡ k
  stands_at = elim (at L) [ inl u ↦ ap (λ r. r.standing) u.1 | inr u ↦ absurd (u.0 refl) ]

  row_law : (M : ℕ) → LawfulRow a.n M (t.rows M)
  row_law M =
      elim (at M) [
        | inl (e, q) ↦ rw q (record {
          low = λ _. rw e h.low;
          most = h.most;
          number_high = h.number_high;
          number_none = λ z. absurd (omega arith);
          number_some = λ _. h.number_some;
        })
        | inr (e, q) ↦ rw q (law.rows.row M)
      ]

  only : (M : ℕ) → Engages (t.rows M).standing → M ≡ L
  only M e = elim (at M) [ inl (u, _) ↦ u | inr (u, q) ↦ h.lone M (rw q at e) ]

  -- the row M, where it stands at j, is the one that was set
  same_row : (M j : ℕ) → Engages j → (t.rows M).standing ≡ j → (M ≡ L) × (k ≡ j)
  same_row M j f e =
      let q = only M (rw e f) in
      (q, sym stands_at ∙ (ap (λ x. (t.rows x).standing) (sym q) ∙ e))

  own_row : (L ≡ a.depot → ⊥) → t.rows a.depot ≡ s.rows a.depot
  own_row n = elim (at a.depot) [ inl (u, _) ↦ absurd (n (sym u)) | inr (_, q) ↦ q ]

  owes_now : (t.owing ≡ 0) ⊎ HasAccepted (t.rows a.depot).standing
  owes_now = grind (arith, own_row, stands_at)

  pub turned_law : Law a t
  turned_law =
      record {
        site = law.site;
        rows = record { row = row_law; single = λ M O e f. only M e ∙ sym (only O f) };
        stock = record {
          stock = h.stock;
          tray = h.tray;
          wish = h.wish;
          tray_empty = λ e. h.tray_empty (λ g. not_engaged a t e L h.low (rw stands_at g));
        };
        lists = record {
          bound = λ M e.
              let (q, j) = same_row M 2 (omega arith) e in
              rw q (h.bound j);
          unbound = λ f. h.unbound (λ e. f L (stands_at ∙ e));
          gathering = λ e. let (q, j) = same_row a.depot 1 (omega arith) e in h.gathering j (sym q);
          ungathered = λ f. h.ungathered (λ e q. f (ap (λ x. (t.rows x).standing) (sym q) ∙ (stands_at ∙ e)));
        };
        owing = record { owing = h.owing; owes = owes_now };
      }

-- who owes, after a depot may have been struck
pub owed_law : (a : Site) (s : State) (x : Bool) (y : ℕ) → Law a s →
    Law a (owed (cond x (less s.owing (mark y)) s.owing) s)
unfolding engaged
owed_law a s x y law =
    record {
      site = law.site;
      rows = record { row = law.rows.row; single = law.rows.single };
      stock = record {
        stock = law.stock.stock;
        tray = law.stock.tray;
        wish = law.stock.wish;
        tray_empty = law.stock.tray_empty;
      };
      lists = record {
        bound = law.lists.bound;
        unbound = law.lists.unbound;
        gathering = law.lists.gathering;
        ungathered = law.lists.ungathered;
      };
      owing = record { owing = λ z h. law.owing.owing z (fewer x z h); owes = none x law.owing.owes };
    }
  where
    fewer : (x : Bool) (z : ℕ) → has (cond x (less s.owing (mark y)) s.owing) z ≡ true → has s.owing z ≡ true
    fewer true z h = (and_parts (has s.owing z) (not (has (mark y) z)) (sym (has_less s.owing (mark y) z) ∙ h)).0
    fewer false z h = h

    none : (x : Bool) → (s.owing ≡ 0) ⊎ HasAccepted (s.rows a.depot).standing →
        (cond x (less s.owing (mark y)) s.owing ≡ 0) ⊎ HasAccepted (s.rows a.depot).standing
    none true (inl z) = inl (ap (λ u. less u (mark y)) z ∙ less_none (mark y))
    none false (inl z) = inl z
    none x (inr z) = inr z
