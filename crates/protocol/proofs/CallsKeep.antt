-- Every call keeps a record's law, and what it sends is a lawful letter: by going through its refusals, and for Receive
-- through the lines of each kind.
use Rattle.std.proofs.Common.{◌≡◌, ℕ, ◌+◌, ◌-◌, ◌<◌, ◌≤◌, Bool, true, false, not, ◌&&◌, ◌||◌, eqb, leb, List, [], ◌∷◌, sym, refl, ◌∙◌, inl, inr, arith}
use mathlib.Core.Option.{none}
use Rattle.std.proofs.lemmas.Bool.{eqb-true, eqb-false, ltb-false, leb-true, leb-false, and_parts, or_parts, not-true, not-false, false≢true}
use Rattle.entries.specs.declared.lists.Entry.{Entry}
use Rattle.entries.specs.Limits.{max_depots}
use Rattle.entries.specs.Sets.{has, mark, add}
use Rattle.entries.specs.Lists.{Listed, on}
use Rattle.letters.specs.declared.letter.Kind.{Kind}
use Rattle.letters.specs.declared.letter.Kind.TheVariants as kinds
use Rattle.letters.specs.Contents.{Contents, Lawful, Offered, Carries}
use Rattle.letters.specs.Reading.{Refusal}
use Rattle.letters.specs.Code.{kind_number}
use Rattle.protocol.specs.declared.step.Whom.{Whom}
use Rattle.protocol.specs.declared.step.Whom.TheVariants.{Leader, Sender, Others}
use Rattle.protocol.specs.declared.step.Step.{Step}
use Rattle.protocol.specs.declared.step.Step.TheVariants as steps
use Rattle.protocol.specs.declared.step.Situation.{Situation}
use Rattle.protocol.specs.Keeping.{Keeps}
use Rattle.protocol.specs.Law.{LawfulList, Law}
use Rattle.protocol.specs.Lines.{decided}
use Rattle.protocol.specs.Outcome.{Outcome, refuses, serves, mail}
use Rattle.protocol.specs.Own.{issue, give_back, set_wish, led, lead, proposed, propose, withdraw_in, query_in, restart_in}
use Rattle.protocol.specs.Own.{remind}
use Rattle.protocol.specs.Policy.{Policy, LawfulPolicy}
use Rattle.protocol.specs.State.{pick, Site, State, fresh, engaged, rest, others, pair, gathers}
use Rattle.protocol.specs.State.{ended}
use Rattle.protocol.specs.Steps.{fits_gathered, gathered_with, situation, to_whom, concluded, carried}
use Rattle.protocol.specs.Taking.{kind_of, asks, strikes, struck, newer, step_for, take}
use Rattle.protocol.proofs.InSets.{Below, mark_below, less_below, everyone_below, add_tells, add_keeps, self_pair}
use Rattle.protocol.proofs.InSets.{head_pair, of_both}
use Rattle.protocol.proofs.Tests.{by, not_every, other_way}
use Rattle.protocol.proofs.ByKind.{tells_how, by_kind, by_kind_lem, line}
use Rattle.protocol.proofs.LawfulLists.{asks_is, acceptable_lawful, binding_of, two, not_alone, CarriedBy}
use Rattle.protocol.proofs.LawfulLists.{lawful_right}
use Rattle.protocol.proofs.RowSet.{row_set, owed_law}
use Rattle.protocol.proofs.Letters.{plain, listing, offering}
use Rattle.protocol.proofs.Changed.{bound_listed, others_below, idle_stock, lay_law, hears_law, gathers_law, ended_law}
use Rattle.protocol.proofs.Changed.{settled_law, bound_law, proposed_law, joined_law, led_law}
use Rattle.protocol.proofs.Changed.{names_known}

pub refusal_kept : (a : Site) (s : State) → Law a s → (r : Refusal) → Keeps a s (refuses r)
refusal_kept a s law r = record { law = law; mails = tt }

module _ (P : Policy) (lawful : LawfulPolicy P) (a : Site) (s₀ : State) (law₀ : Law a s₀) where
  abbrev Kept : Outcome → Type 0
  Kept = Keeps a s₀

  denied : {b c : Bool} {x : Refusal} → b ≡ c → Kept (refuses x)
  denied _ = refusal_kept a s₀ law₀ _

  silent : {t : State} → Law a t → Kept (serves t none)
  silent law = record { law = law; mails = tt }

  -- a letter without entries
  bare : (t : State) (L to : ℕ) → Law a t → 1 ≤ (t.rows L).standing → Below max_depots to → (c : Kind) →
      Carries (kind_number c) a.depot [] → Kept (serves t (mail a t c to L []))
  bare t L to law e h c k = record { law = law; mails = plain a t law to L h e c k }

  mark_ok : (x : ℕ) → x < a.n → Below max_depots (mark x)
  mark_ok x l = mark_below max_depots x (omega arith)

  rest_below : Below max_depots (rest a)
  rest_below = less_below max_depots _ _ (everyone_below a.n max_depots law₀.site.size)

  -- A letter that was read reaches the record s, of which its sender may have been struck
  module _ (m : Contents) (ok : Lawful m) (y-low : m.sender < a.n) (low : m.leader < a.n)
      (y-else : m.sender ≡ a.depot → ⊥) where
    abbrev s : State
    s = struck a s₀ m

    abbrev L : ℕ
    L = m.leader

    abbrev Go : Step → Type 0
    Go x = Kept (carried a s L m.sender m.number m.entries P (strikes a m) x)

    abbrev to : Whom → ℕ
    to v = to_whom a s L m.sender m.number m.entries v

    abbrev sit : Situation
    sit = situation a s L m.sender m.number m.entries

    law : Law a s
    unfolding pick
    law = owed_law a s₀ (strikes a m) m.sender law₀

    -- where the depot stands
    abbrev here : ℕ
    here = (s.rows L).standing

    unlined_kept : Go steps.Unlined
    unlined_kept = by Kept (λ _. silent law) denied

    -- letters without entries to a set that there can be
    module _ (c : Kind) (k : Carries (kind_number c) a.depot []) (v : Whom) (h : Below max_depots (to v)) where
      say_kept : 1 ≤ (s.rows L).standing → Go (steps.Say c v)
      say_kept e = bare s L (to v) law e h c k

      settle_kept : (s.rows L).standing ≡ 2 → Go (steps.Settle c v)
      settle_kept e =
          bare _ L (to v) (settled_law a s law L (omega arith) P lawful s.list (bound_listed a s law L e))
          (row_set s L _ 4 (omega arith)) h c k

      drop_kept : (s.rows L).standing ≡ 2 → Go (steps.Drop c v)
      drop_kept e =
          bare _ L (to v) (ended_law a s law L (omega arith) 5 (omega arith) (omega arith) (λ q. absurd (omega arith)))
          (row_set s L _ 5 (omega arith)) h c k

    refuse_kept : (v : Whom) → Below max_depots (to v) → (s.rows L).standing ≡ 1 → Go (steps.Refuse v)
    refuse_kept v h e =
        bare _ L (to v) (ended_law a s law L (omega arith) 3 (omega arith) (omega arith) (λ _. e))
        (row_set s L _ 3 (omega arith)) h kinds.No refl

    others_ok : (s.rows L).standing ≡ 2 → Below max_depots (others a s.list)
    others_ok e = others_below a s law s.list (bound_listed a s law L e).depots

    to_leader_lem : Below max_depots (mark L)
    to_leader_lem = mark_ok L low

    tells_kept : (b : Bool) (v : Whom) → Below max_depots (to v) → Go (tells_how (s.rows L).standing b v)
    tells_kept b v h =
        line Go here 2 (λ q _. say_kept kinds.Yes refl v h (omega arith))
        (line Go here 3 (λ q _. say_kept kinds.No refl v h (omega arith))
        (line Go here 4 (λ q _. say_kept kinds.Settle refl v h (omega arith))
        (line Go here 5 (λ q _. say_kept kinds.Drop refl v h (omega arith)) unlined_kept)))

    gather_kept : (xs : List Entry) → L ≡ a.depot → (s.rows L).standing ≡ 1 → Offered m.sender xs →
        fits_gathered s.gathered xs ≡ true → Kept (serves (gathers (gathered_with s.gathered xs) s) none)
    gather_kept [] l e r f = silent law
    gather_kept (x ∷ xs) l e r f =
        let (fresh, room) = and_parts (not (on s.gathered x.depot)) _ f in
        let q : x.depot ≡ m.sender = r.own.0 in
        silent (gathers_law a s law x (rw l at e) (rw q y-low) (λ z. y-else (sym q ∙ z))
        r.lawful.0.wish_within (not-true _ fresh) (leb-true _ _ room))

    accept_kept : (s.rows L).standing ≡ 1 → Listed m.entries → LawfulList a L s.shelf s.wish m.entries →
        Go steps.Accept
    unfolding concluded
    accept_kept e l f =
        by Kept (λ v. bare _ L _ (settled_law a s law L (omega arith) P lawful m.entries l)
        (row_set s L _ 4 (omega arith)) (others_below a s law m.entries l.depots) kinds.Settle refl)
        (λ v. bare _ L _ (bound_law a s law L m.entries e f v) (row_set s L _ 2 (omega arith)) to_leader_lem
        kinds.Yes refl)

    hear_kept : (s.rows L).standing ≡ 2 → on s.list m.sender ≡ true → Go steps.Hear
    unfolding concluded
    hear_kept e h =
        let b = law.lists.bound L e in
        by Kept (λ v. bare _ L _ (settled_law a s law L (omega arith) P lawful s.list (bound_listed a s law L e))
        (row_set s L _ 4 (omega arith)) (others_ok e) kinds.Settle refl)
        (λ v. silent (hears_law a s law L (add s.heard m.sender) e (add_keeps _ _ _ b.self)
        (add_keeps _ _ L b.head) v
        (λ x q. elim (add_tells s.heard m.sender x) [
          | inl u ↦ rw u.0 h
          | inr u ↦ b.within x (sym u.1 ∙ q)
        ])))

    kind_kept : (c : Kind) → CarriedBy m.sender c m.entries → ((s.rows L).standing ≡ 0 → ⊥) →
        Go (by_kind c (s.rows L).standing sit)
    kind_kept kinds.Ask r alive =
        line Go here 0 (λ q _. absurd (alive q))
        (line Go here 1 (λ q _. record {
          law = law;
          mails = offering a s s law law (mark L) L to_leader_lem (omega arith);
        })
        unlined_kept)
    kind_kept kinds.Offer r alive =
        line Go here 1 (λ q h. let (l, f) = and_parts _ _ h in gather_kept m.entries (eqb-true L _ l) q r f)
        (line Go here 1 (λ _ _. silent law) unlined_kept)
    kind_kept kinds.List r alive =
        line Go here 1 (λ q h. accept_kept q r
        (acceptable_lawful a s L m.sender m.number m.entries r (and_parts (eqb m.sender L) _ h).1))
        (line Go here 1 (λ q _. refuse_kept Leader to_leader_lem q) (tells_kept _ Leader to_leader_lem))
    kind_kept kinds.Yes r alive = line Go here 2 hear_kept unlined_kept
    kind_kept kinds.No r alive = line Go here 2 (λ q _. drop_kept kinds.Drop refl Others (others_ok q) q) unlined_kept
    kind_kept kinds.Settle r alive =
        line Go here 2 (λ q _. settle_kept kinds.Settle refl Others (others_ok q) q)
        (line Go here 2 (λ q _. settle_kept kinds.Done refl Leader to_leader_lem q)
        (line Go here 4 (λ q _. say_kept kinds.Done refl Leader to_leader_lem (omega arith)) unlined_kept))
    kind_kept kinds.Drop r alive =
        line Go here 2 (λ q _. drop_kept kinds.Drop refl Others (others_ok q) q)
        (line Go here 2 (λ q _. drop_kept kinds.Done refl Leader to_leader_lem q)
        (line Go here 1 (λ q _. refuse_kept Leader to_leader_lem q)
        (line Go here 3 (λ q _. say_kept kinds.No refl Leader to_leader_lem (omega arith))
        (line Go here 5 (λ q _. say_kept kinds.Done refl Leader to_leader_lem (omega arith)) unlined_kept))))
    kind_kept kinds.Query r alive =
        line Go here 1 (λ q _. refuse_kept Sender (mark_ok _ y-low) q) (tells_kept true Sender (mark_ok _ y-low))
    kind_kept kinds.Done r alive = unlined_kept

    -- a new Ask, at a depot that is not engaged
    join_kept : engaged a s₀ ≡ false → Go (by_kind kinds.Ask 0 sit)
    unfolding engaged
    join_kept f =
        by Go (λ e. let q = eqb-true m.sender L e in
        let l = joined_law a s law L m.number f low (λ z. y-else (q ∙ z)) ok.number_low
        (omega arith) in
        record {
          law = l;
          mails = offering a s _ law l (mark L) L to_leader_lem (row_set s L m.number 1 (omega arith));
        })
        (λ _. by Go (λ e. absurd (false≢true e)) (λ _. unlined_kept))

    step_kept : (newer s₀ m && not (asks (kind_of m.kind))) ≡ false → (newer s₀ m && engaged a s₀) ≡ false →
        Go (step_for a s m)
    unfolding step_for newer
    step_kept asked free =
        by (λ k. Go (decided (kind_of m.kind) k sit))
        (λ n. rw (asks_is _ (not-false _ (other_way _ _ n asked)), by_kind_lem kinds.Ask 0 sit)
        (join_kept (other_way _ _ n free)))
        (λ f. rw (by_kind_lem (kind_of m.kind) _ sit)
        (kind_kept (kind_of m.kind) (lawful_right m ok)
        (λ z. let h = (law.rows.row L).number_none z in let j = ltb-false _ _ f in
        omega arith)))

  pub take_kept : (m : Contents) → Lawful m → Kept (take P a s₀ m)
  unfolding take
  take_kept m ok =
      by Kept denied (λ _. by Kept denied (λ _. by Kept denied
      (λ x. by Kept denied (λ _. by Kept denied
      (λ asked. by Kept denied (λ free. answered x asked free))))))
    where
      answered : (leb a.n m.sender || (leb a.n m.leader || eqb m.sender a.depot)) ≡ false →
          (newer s₀ m && not (asks (kind_of m.kind))) ≡ false → (newer s₀ m && engaged a s₀) ≡ false →
          Kept (carried a (struck a s₀ m) m.leader m.sender m.number m.entries P (strikes a m)
          (step_for a (struck a s₀ m) m))
      answered x =
          let (u, v) = or_parts (leb a.n m.sender) (leb a.n m.leader || eqb m.sender a.depot) x in
          let (p, q) = or_parts (leb a.n m.leader) (eqb m.sender a.depot) v in
          step_kept m ok (leb-false _ _ u) (leb-false _ _ p) (eqb-false _ _ q)

  pub issue_kept : (n : ℕ) → Kept (issue a s₀ n)
  unfolding issue
  issue_kept n =
      by Kept denied
      (λ _. by Kept denied (λ f. by Kept denied
      (λ _. silent (idle_stock a s₀ law₀ (s₀.shelf - n) s₀.wish f (omega arith) law₀.stock.wish))))

  pub return_kept : (n : ℕ) → Kept (give_back a s₀ n)
  unfolding give_back
  return_kept n =
      by Kept denied (λ _. by Kept denied
      (λ h. let q = ltb-false _ (s₀.shelf + s₀.tray + n) h in
      by Kept (λ f. silent (lay_law a s₀ law₀ n f (omega arith)))
      (λ f. silent (idle_stock a s₀ law₀ (s₀.shelf + n) s₀.wish f (omega arith) law₀.stock.wish))))

  pub wish_kept : (n : ℕ) → Kept (set_wish a s₀ n)
  unfolding set_wish
  wish_kept n =
      by Kept denied
      (λ h. by Kept denied (λ f. silent (idle_stock a s₀ law₀ s₀.shelf n f law₀.stock.stock (ltb-false _ _ h))))

  pub lead_kept : Kept (lead a s₀)
  unfolding lead
  lead_kept =
      by Kept denied
      (λ f. by Kept denied (λ o. by Kept denied (λ w. by Kept denied (λ h. by Kept denied
      (λ n. let w' = eqb-false s₀.wish 0 w in
      bare (led a s₀) a.depot (rest a) (led_law a s₀ law₀ f (eqb-true _ 0 (not-false _ o)) (omega arith)
      (ltb-false _ _ h) (eqb-false _ _ n)) (row_set s₀ a.depot _ 1 (omega arith)) rest_below kinds.Ask refl)))))

  pub propose_kept : Kept (propose P a s₀)
  unfolding propose
  propose_kept =
      by Kept denied (λ _. by Kept denied (λ e. by Kept denied
      (λ l. let q = eqb-true (s₀.rows a.depot).standing 1 (not-false _ e) in
      let (g, v) = law₀.lists.gathering q in
      let n = not_alone a.depot s₀.wish s₀.gathered v (ltb-false _ _ l) in
      let f = (binding_of a a.depot _ _ _ law₀.site.size g (two a.depot _ g.me n)).listed in
      let k = proposed_law a s₀ law₀ q n in
      record {
        law = k;
        mails = listing a (proposed a s₀) k (others a s₀.gathered) a.depot
            (others_below a s₀ law₀ s₀.gathered f.depots) (row_set s₀ a.depot _ 2 (omega arith)) s₀.gathered f;
      })))

  pub withdraw_kept : (L : ℕ) → Kept (withdraw_in a s₀ L)
  unfolding withdraw_in
  withdraw_kept L =
      by Kept denied
      (λ e. let q = eqb-true (s₀.rows L).standing 1 (not-false _ e) in
      let l = ended_law a s₀ law₀ L (omega arith) 3 (omega arith) (omega arith) (λ _. q) in
      let r = row_set s₀ L (s₀.rows L).number 3 (omega arith) in
      by Kept (λ _. bare (ended L 3 s₀) L (rest a) l r rest_below kinds.Drop refl)
      (λ _. bare (ended L 3 s₀) L (mark L) l r (mark_ok L ((law₀.rows.row L).low (omega arith))) kinds.No refl))

  pub query_kept : (L : ℕ) → Kept (query_in a s₀ L)
  unfolding query_in
  query_kept L = by Kept denied (λ e. let q = eqb-true (s₀.rows L).standing 2 (not-false _ e) in
      bare s₀ L _ law₀ (omega arith) (others_below a s₀ law₀ s₀.list (bound_listed a s₀ law₀ L q).depots)
      kinds.Query refl)

  pub restart_kept : (L : ℕ) → Kept (restart_in a s₀ L)
  unfolding restart_in
  restart_kept L =
      by Kept (λ e. let q = eqb-true (s₀.rows a.depot).standing 1 e in
      silent (ended_law a s₀ law₀ a.depot (omega arith) 3 (omega arith) (omega arith) (λ _. q)))
      (λ _. by Kept
      (λ e. let q = eqb-true (s₀.rows L).standing 2 e in
      let b = law₀.lists.bound L q in
      silent (hears_law a s₀ law₀ L (pair a L) q (self_pair a L) (head_pair a L)
      (not_every s₀.list _ (has s₀.heard)
      (of_both a L (λ z. has s₀.heard z ≡ true) b.self b.head) b.waits)
      (of_both a L (λ z. on s₀.list z ≡ true) b.list.me b.list.lead)))
      (λ _. silent law₀))

  pub remind_kept : Kept (remind a s₀)
  unfolding remind
  remind_kept =
      by Kept (λ e. let q = row 1 e in
      by Kept denied (λ _. bare s₀ a.depot _ law₀ (omega arith) (less_below max_depots _ _ rest_below) kinds.Ask refl))
      (λ _. by Kept (λ e. let q = row 2 e in let l = bound_listed a s₀ law₀ a.depot q in
      by Kept denied
      (λ _. record {
        law = law₀;
        mails =
            listing a s₀ law₀ _ a.depot (less_below max_depots _ _ (names_known a s₀ law₀ s₀.list l.depots))
            (omega arith) s₀.list l;
      }))
      (λ _. by Kept (λ e. let q = row 4 e in
      by Kept denied (λ _. bare s₀ a.depot _ law₀ (omega arith) owing_below kinds.Settle refl))
      (λ _. by Kept (λ e. let q = row 5 e in
      by Kept denied (λ _. bare s₀ a.depot _ law₀ (omega arith) owing_below kinds.Drop refl))
      denied)))
    where
      owing_below : Below max_depots s₀.owing
      owing_below y h = grind arith

      row : (n : ℕ) → eqb (s₀.rows a.depot).standing n ≡ true → (s₀.rows a.depot).standing ≡ n
      row n e = eqb-true _ n e
