-- The law of a record after each way in which calls change it, given what the call has tested before.
use Rattle.std.proofs.Common.{◌≡◌, ℕ, ◌+◌, ◌<◌, ◌≤◌, true, false, not, ◌&&◌, eqb, ◌⊎◌, List, [], ◌∷◌, sum, sym, refl, ap, ◌∙◌, inl, inr, arith}
use Rattle.std.specs.List.{AllByRecursion}
use Rattle.std.proofs.lemmas.List.Sums.{sum_by-cons}
use Rattle.std.proofs.lemmas.Bool.{and_parts, both_ways, eqb-true, eq-eqb, not-true, or_cases, or_left, false≢true, cond-true, cond_both}
use Rattle.entries.specs.declared.lists.Entry.{Entry}
use Rattle.entries.specs.Limits.{max_depots, max_wish, max_shelf, max_pool}
use Rattle.entries.specs.Sets.{has, mark}
use Rattle.entries.specs.Lists.{Listed, pool, on, entry_of, names, insert}
use Rattle.entries.proofs.Membership.{has_less, has_names}
use Rattle.entries.proofs.Insertion.{insert_begun}
use Rattle.policies.specs.Shares.{beside, share_of}
use Rattle.protocol.specs.Law.{Engages, HasAccepted, LawfulList, LawfulBound, Law}
use Rattle.protocol.specs.Limits.{max_tray, last_number}
use Rattle.protocol.specs.Listing.{every}
use Rattle.protocol.specs.Own.{led, proposed}
use Rattle.protocol.specs.Policy.{Policy, LawfulPolicy}
use Rattle.protocol.specs.State.{Site, State, engaged, own, others, pair, stocked, hears, gathers, turned, bound, ended}
use Rattle.protocol.specs.State.{settled}
use Rattle.protocol.proofs.InSets.{Below, less_below, names_below, of_mark, mark_self, self_pair, head_pair, of_both}
use Rattle.protocol.proofs.Tests.{not_every}
use Rattle.protocol.proofs.LawfulLists.{listed_of, two}
use Rattle.protocol.proofs.LawfulLists.{insert_on, insert_entry}
use Rattle.protocol.proofs.RowSet.{idle, turned_law}

pub all_on : (Q : ℕ → Type 0) (ℓ : List Entry) (y : ℕ) → AllByRecursion (λ e. Q e.depot) ℓ → on ℓ y ≡ true → Q y
unfolding on
all_on Q [] y h k = absurd (false≢true k)
all_on Q (e ∷ ℓ) y h k =
    elim (or_cases (eqb e.depot y) (on ℓ y) k) [
      | inl q ↦ rw (eqb-true _ y q) at h.0
      | inr q ↦ all_on Q ℓ y h.1 q
    ]

-- a share is at most the sum
share_within : (ℓ : List Entry) (ns : List ℕ) (d : ℕ) → beside ℓ ns d ≤ sum ns
unfolding beside
share_within [] ns d = omega arith
share_within (e ∷ ℓ) [] d = omega arith
share_within (e ∷ ℓ) (n ∷ ns) d =
    let q = share_within ℓ ns d in
    let r = sum_by-cons (λ x. x) n ns in
    cond_both (eqb e.depot d) n (beside ℓ ns d) (λ x. x ≤ sum (n ∷ ns)) (λ _. omega arith) (λ _. omega arith)

module _ (a : Site) (s : State) (law : Law a s) where
  -- who is bound has a list that may be shared out
  pub bound_listed : (L : ℕ) → (s.rows L).standing ≡ 2 → Listed s.list
  bound_listed L e = grind (arith, listed_of, not_every, of_mark, two)

  pub names_known : (es : List Entry) → AllByRecursion (λ e. e.depot < max_depots) es → Below max_depots (names es)
  names_known es h = names_below max_depots es (λ y k. all_on (λ x. x < max_depots) es y h k)

  pub others_below : (es : List Entry) → AllByRecursion (λ e. e.depot < max_depots) es → Below max_depots (others a es)
  others_below es h = less_below max_depots (names es) (mark a.depot) (names_known es h)

  pub idle_stock : (n v : ℕ) → engaged a s ≡ false → n + s.tray ≤ max_shelf → v ≤ max_wish →
      Law a (stocked n s.tray v s)
  unfolding engaged
  idle_stock n v f h k =
      record {
        site = law.site;
        rows = record { row = law.rows.row; single = law.rows.single };
        stock = record { stock = h; tray = law.stock.tray; wish = k; tray_empty = law.stock.tray_empty };
        lists = record {
          bound = λ L e. absurd (idle a s law f L (omega arith));
          unbound = law.lists.unbound;
          gathering = λ e. absurd (idle a s law f a.depot (omega arith));
          ungathered = law.lists.ungathered;
        };
        owing = record { owing = law.owing.owing; owes = law.owing.owes };
      }

  pub lay_law : (n : ℕ) → engaged a s ≡ true → s.shelf + (s.tray + n) ≤ max_tray →
      Law a (stocked s.shelf (s.tray + n) s.wish s)
  unfolding engaged
  lay_law n f h =
      record {
        site = law.site;
        rows = record { row = law.rows.row; single = law.rows.single };
        stock = record {
          stock = omega arith;
          tray = omega arith;
          wish = law.stock.wish;
          tray_empty = λ e. absurd (both_ways _ e f);
        };
        lists = record {
          bound = law.lists.bound;
          unbound = law.lists.unbound;
          gathering = law.lists.gathering;
          ungathered = law.lists.ungathered;
        };
        owing = record { owing = law.owing.owing; owes = law.owing.owes };
      }

  -- a record with the same rows, shelf, tray, wish and owing: what is heard and gathered may be other
  module _ (heard : ℕ) (es : List Entry) where
    listed_law :
        ((L : ℕ) → (s.rows L).standing ≡ 2 → LawfulBound a L s.shelf s.wish s.list heard) →
        (((L : ℕ) → (s.rows L).standing ≡ 2 → ⊥) → heard ≡ 0) →
        ((s.rows a.depot).standing ≡ 1 → LawfulList a a.depot s.shelf s.wish es) →
        (((s.rows a.depot).standing ≡ 1 → ⊥) → es ≡ []) →
        Law a (hears heard (gathers es s))
    unfolding engaged
    listed_law b u g n =
        record {
          site = law.site;
          rows = record { row = law.rows.row; single = law.rows.single };
          stock = record {
            stock = law.stock.stock;
            tray = law.stock.tray;
            wish = law.stock.wish;
            tray_empty = law.stock.tray_empty;
          };
          lists = record {
            bound = b;
            unbound = λ f. ((law.lists.unbound f).0, u f);
            gathering = λ e. (g e, (law.lists.gathering e).1);
            ungathered = n;
          };
          owing = record { owing = law.owing.owing; owes = law.owing.owes };
        }

  pub hears_law : (L h : ℕ) → (s.rows L).standing ≡ 2 → has h a.depot ≡ true → has h L ≡ true →
      every s.list (has h) ≡ false → ((y : ℕ) → has h y ≡ true → on s.list y ≡ true) → Law a (hears h s)
  hears_law L h e self head waits within =
      listed_law h s.gathered
      (λ M f. let q = law.rows.single M L (omega arith) (omega arith) in
      record {
        list = (law.lists.bound M f).list;
        self = self;
        head = rw q head;
        waits = waits;
        within = within;
      })
      (λ f. absurd (f L e)) (λ f. (law.lists.gathering f).0) law.lists.ungathered

  pub gathers_law : (e : Entry) → (s.rows a.depot).standing ≡ 1 → e.depot < a.n → (e.depot ≡ a.depot → ⊥) →
      e.wish ≤ max_wish → on s.gathered e.depot ≡ false → pool s.gathered + e.shelf ≤ max_pool →
      Law a (gathers (insert e s.gathered) s)
  gathers_law e r low n v fresh sum =
      listed_law s.heard (insert e s.gathered) law.lists.bound (λ f. (law.lists.unbound f).1)
      (λ f. more (law.lists.gathering f).0) (λ f. absurd (f r))
    where
      more : LawfulList a a.depot s.shelf s.wish s.gathered →
          LawfulList a a.depot s.shelf s.wish (insert e s.gathered)
      more g =
          let mine = insert_entry e s.gathered a.depot n in
          record {
            begun = insert_begun a.n e s.gathered fresh sum g.begun low v;
            lead = insert_on e s.gathered a.depot g.lead;
            me = insert_on e s.gathered a.depot g.me;
            own_shelf = ap (λ x. x.shelf) mine ∙ g.own_shelf;
            own_wish = ap (λ x. x.wish) mine ∙ g.own_wish;
          }

  -- who owes, where the row of L goes to k
  owes_on : (L k : ℕ) → (L ≡ a.depot → 2 ≤ (s.rows a.depot).standing → HasAccepted k) →
      (s.owing ≡ 0)
      ⊎ (((L ≡ a.depot) × HasAccepted k) ⊎ ((L ≡ a.depot → ⊥) × HasAccepted (s.rows a.depot).standing))
  owes_on L k f = grind arith

  -- The row of L, in which the depot is engaged, goes on under its number
  module _ (L : ℕ) (e : Engages (s.rows L).standing) where
    -- the handover ends at k, with this shelf and wish before the tray is added
    ended_with : (k shelf wish : ℕ) → 3 ≤ k → k ≤ 5 → (k ≡ 3 → (s.rows L).standing ≡ 1) → shelf + s.tray ≤ max_shelf →
        wish ≤ max_wish → Law a (ended L k (stocked shelf s.tray wish s))
    ended_with k shelf wish lo hi f stock w =
        turned_law a s _ L (s.rows L).number k law
        (record {
          rows = refl;
          lone = λ M g. law.rows.single M L g e;
          low = (law.rows.row L).low e.0;
          most = hi;
          some = omega arith;
          number_high = (law.rows.row L).number_high;
          number_some = (law.rows.row L).number_some e.0;
          stock = omega arith;
          tray = omega arith;
          wish = w;
          tray_empty = λ _. refl;
          bound = λ q. absurd (omega arith);
          unbound = λ _. (refl, refl);
          gathering = λ q. absurd (omega arith);
          ungathered = λ _. refl;
          owing = law.owing.owing;
          owes = owes_on L k (λ q u. (
            omega arith,
            λ z. let x = ap (λ y. (s.rows y).standing) q in omega arith,
          ));
        })

    pub ended_law : (k : ℕ) → 3 ≤ k → k ≤ 5 → (k ≡ 3 → (s.rows L).standing ≡ 1) → Law a (ended L k s)
    ended_law k lo hi f = ended_with k s.shelf s.wish lo hi f law.stock.stock law.stock.wish

    pub settled_law : (P : Policy) → LawfulPolicy P → (es : List Entry) → Listed es → Law a (settled P a L es s)
    settled_law P lawful es l =
        ended_with 4 (share_of P.share es a.depot) 0 (omega arith) (omega arith) (λ q. absurd (omega arith))
        (let p = share_within es (P.share es) a.depot in
        omega arith)
        (omega arith)

    -- the depot is bound to a list
    bound_with : (es : List Entry) (heard owing : ℕ) → LawfulBound a L s.shelf s.wish es heard →
        ((y : ℕ) → has owing y ≡ true → (y < a.n) × (y ≡ a.depot → ⊥)) →
        (owing ≡ 0)
        ⊎ (((L ≡ a.depot) × HasAccepted 2) ⊎ ((L ≡ a.depot → ⊥) × HasAccepted (s.rows a.depot).standing)) →
        Law a (bound L es heard owing s)
    bound_with es heard owing b o w =
        turned_law a s _ L (s.rows L).number 2 law
        (record {
          rows = refl;
          lone = λ M g. law.rows.single M L g e;
          low = (law.rows.row L).low e.0;
          most = omega arith;
          some = omega arith;
          number_high = (law.rows.row L).number_high;
          number_some = (law.rows.row L).number_some e.0;
          stock = law.stock.stock;
          tray = law.stock.tray;
          wish = law.stock.wish;
          tray_empty = λ q. absurd (q (omega arith));
          bound = λ _. b;
          unbound = λ q. absurd (q refl);
          gathering = λ q. absurd (omega arith);
          ungathered = λ _. refl;
          owing = o;
          owes = w;
        })

  -- a list that is accepted
  pub bound_law : (L : ℕ) (es : List Entry) → (s.rows L).standing ≡ 1 → LawfulList a L s.shelf s.wish es →
      every es (has (pair a L)) ≡ false → Law a (bound L es (pair a L) s.owing s)
  bound_law L es e l waits =
      bound_with L (omega arith) es (pair a L) s.owing
      (record {
        list = l;
        self = self_pair a L;
        head = head_pair a L;
        waits = waits;
        within = of_both a L (λ y. on es y ≡ true) l.me l.lead;
      })
      law.owing.owing (owes_on L 2 (λ q u. (omega arith, omega arith)))

  -- the own list is proposed
  pub proposed_law : (s.rows a.depot).standing ≡ 1 → every s.gathered (has (mark a.depot))
      ≡ false → Law a (proposed a s)
  proposed_law e waits =
      let g = (law.lists.gathering e).0 in
      bound_with a.depot (omega arith) s.gathered (mark a.depot) (others a s.gathered)
      (record {
        list = g;
        self = mark_self a.depot;
        head = mark_self a.depot;
        waits = waits;
        within = λ y h. rw (of_mark a.depot y h) g.me;
      })
      (λ y h. owe g y (sym (has_less (names s.gathered) (mark a.depot) y) ∙ h))
      (inr (inl (refl, (omega arith, omega arith))))
    where
      owe : LawfulList a a.depot s.shelf s.wish s.gathered → (y : ℕ) →
          (has (names s.gathered) y && not (has (mark a.depot) y)) ≡ true → (y < a.n) × (y ≡ a.depot → ⊥)
      owe g y h =
          let (p, q) = and_parts (has (names s.gathered) y) (not (has (mark a.depot) y)) h in
          let low = all_on (λ x. x < a.n) s.gathered y g.begun.depots (sym (has_names s.gathered y) ∙ p) in
          let me = mark_self a.depot in
          (low, λ z. both_ways _ (not-true _ q) (rw z me))

  -- The depot is not engaged, and the row of L is set at 1 under a number
  opened_with : (L n : ℕ) (es : List Entry) → engaged a s ≡ false → L < a.n → 1 ≤ n → n ≤ last_number →
      (L ≡ a.depot → LawfulList a a.depot s.shelf s.wish es × (1 ≤ s.wish)) →
      ((L ≡ a.depot → ⊥) → es ≡ []) →
      (s.owing ≡ 0) ⊎ (((L ≡ a.depot) × HasAccepted 1)
      ⊎ ((L ≡ a.depot → ⊥) × HasAccepted (s.rows a.depot).standing)) →
      Law a (gathers es (turned L n 1 s))
  opened_with L n es f low some high g none owes =
      let empty = law.lists.unbound (λ M e. idle a s law f M (omega arith)) in
      turned_law a s _ L n 1 law
      (record {
        rows = refl;
        lone = λ M g. absurd (idle a s law f M g);
        low = low;
        most = omega arith;
        some = omega arith;
        number_high = high;
        number_some = some;
        stock = law.stock.stock;
        tray = law.stock.tray;
        wish = law.stock.wish;
        tray_empty = λ q. absurd (q (omega arith));
        bound = λ q. absurd (omega arith);
        unbound = λ _. empty;
        gathering = λ _. g;
        ungathered = λ q. none (q refl);
        owing = law.owing.owing;
        owes = owes;
      })

  -- a new number of another depot
  pub joined_law : (L n : ℕ) → engaged a s ≡ false → L < a.n → (L ≡ a.depot → ⊥) → 1 ≤ n →
      n ≤ last_number → Law a (turned L n 1 s)
  joined_law L n f low out some high =
      opened_with L n s.gathered f low some high (λ q. absurd (out q))
      (λ _. law.lists.ungathered (λ e. idle a s law f a.depot (omega arith))) (owes_on L 1 (λ q _. absurd (out q)))

  -- a new number of its own
  pub led_law : engaged a s ≡ false → s.owing ≡ 0 → 1 ≤ s.wish → s.shelf ≤ max_pool →
      ((s.rows a.depot).number ≡ last_number → ⊥) → Law a (led a s)
  unfolding on entry_of
  led_law f none wish shelf last =
      let self : eqb a.depot a.depot ≡ true = eq-eqb a.depot a.depot refl in
      let mine = cond-true (eqb a.depot a.depot) (own a s)
      (record { depot = a.depot; shelf = 0; wish = 0 }) self in
      opened_with a.depot ((s.rows a.depot).number + 1) (own a s ∷ []) f law.site.depot (omega arith)
      (let p = (law.rows.row a.depot).number_high in omega arith)
      (λ _. (
        record {
          begun = record {
            rises = (omega arith, tt);
            depots = (law.site.depot, tt);
            wishes = (law.stock.wish, tt);
            sum_within = (let q = sum_by-cons (λ e. e.shelf) (own a s) [] in omega arith);
          };
          lead = or_left _ _ self;
          me = or_left _ _ self;
          own_shelf = ap (λ x. x.shelf) mine;
          own_wish = ap (λ x. x.wish) mine;
        },
        wish,
      ))
      (λ q. absurd (q refl)) (inl none)
