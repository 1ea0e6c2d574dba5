-- Every call is one of the effects, with what that effect relies on, and what its letter vouches for is so: by going
-- through the refusals of each call, and for Receive through the lines of each kind.
use Rattle.std.proofs.Common.{◌≡◌, ℕ, ◌<◌, ◌≤◌, Bool, true, false, not, ◌&&◌, ◌||◌, eqb, ltb, leb, ◌⊎◌, List, [], ◌∷◌, sym, refl, ap, ◌∙◌, subst, inl, inr, arith}
use mathlib.Core.Option.{none}
use Rattle.std.proofs.lemmas.Bool.{eqb-true, ltb-true, ltb-false, and_parts, not-false, both_ways, false≢true}
use Rattle.entries.specs.declared.lists.Entry.{Entry}
use Rattle.entries.specs.Sets.{has, mark, add}
use Rattle.entries.specs.Lists.{on}
use Rattle.entries.proofs.Membership.{has_less}
use Rattle.letters.specs.declared.letter.Kind.{Kind}
use Rattle.letters.specs.declared.letter.Kind.TheVariants as kinds
use Rattle.letters.specs.Contents.{Contents, Lawful}
use Rattle.letters.specs.Reading.{Refusal}
use Rattle.protocol.specs.declared.step.Whom.{Whom}
use Rattle.protocol.specs.declared.step.Whom.TheVariants.{Leader, Sender, Others}
use Rattle.protocol.specs.declared.step.Step.{Step}
use Rattle.protocol.specs.declared.step.Step.TheVariants as steps
use Rattle.protocol.specs.declared.step.Situation.{Situation}
use Rattle.protocol.specs.Calls.{pieces}
use Rattle.protocol.specs.Law.{HasAccepted, Law}
use Rattle.protocol.specs.Lines.{decided}
use Rattle.protocol.specs.Outcome.{Outcome, refuses, serves, mail, after, sends, served}
use Rattle.protocol.specs.Own.{issue, give_back, set_wish, led, lead, proposed, propose, withdraw_in, query_in, restart_in}
use Rattle.protocol.specs.Own.{remind}
use Rattle.protocol.specs.Policy.{Policy}
use Rattle.protocol.specs.State.{upd, Site, State, engaged, pair, owed, gathers, turned, bound, ended, settled}
use Rattle.protocol.specs.Steps.{gathered_with, situation, concluded, carried}
use Rattle.protocol.specs.Taking.{kind_of, tells_end, asks, strikes, struck, newer, step_for, take}
use Rattle.protocol.proofs.InSets.{mark_tells, add_tells}
use Rattle.protocol.proofs.Tests.{upd_tells, by, every_one, other_way}
use Rattle.protocol.proofs.ByKind.{tells_how, by_kind, by_kind_lem, line}
use Rattle.protocol.proofs.RowSet.{idle}
use Rattle.protocol.proofs.LawfulLists.{asks_is, kind_back, acceptable_lawful, binding_of, two, not_alone, CarriedBy}
use Rattle.protocol.proofs.LawfulLists.{lawful_right}
use Rattle.protocol.proofs.History.{History, site_of}
use Rattle.protocol.proofs.History.{standing, number, Idle, BindingList, Strikes, Effect, Vouched, Safe, FromSender}
use Rattle.protocol.proofs.History.{Vouches, Backed, ended_vouches, ask_ends_nothing}

-- i and j: the pieces that the call issues and returns if it is served
pub record Explained (N : ℕ) (P : Policy) (w : History) (d : ℕ) (z : Type 0) (ℓ₀ : List Entry) (i j : ℕ)
    (r : Outcome) : Type 0 where
  pub effect : Effect N P w d z ℓ₀ (after (w.at d) r) (pieces (served r) i) (pieces (served r) j)
  pub vouched : Vouched d (after (w.at d) r) (sends r)

module _ {N : ℕ} (P : Policy) {w : History} {d : ℕ} (z : Type 0) (ℓ₀ : List Entry) (g : Safe N w)
    (law : Law (site_of N P d) (w.at d)) where
  abbrev a : Site
  a = site_of N P d

  abbrev s₀ : State
  s₀ = w.at d

  -- a call that issues and returns nothing
  abbrev pub Ok : Outcome → Type 0
  Ok = Explained N P w d z ℓ₀ 0 0

  none_struck : Strikes w d s₀.owing
  none_struck y h = inl h

  -- a refusal changes nothing, whatever the call was to issue and return
  pub refused_explained : (i j : ℕ) (x : Refusal) → Explained N P w d z ℓ₀ i j (refuses x)
  refused_explained i j x = record { effect = Effect.keep s₀.owing none_struck; vouched = tt }

  denied : {i j : ℕ} {b c : Bool} {x : Refusal} → b ≡ c → Explained N P w d z ℓ₀ i j (refuses x)
  denied _ = refused_explained _ _ _

  idle_of : engaged a s₀ ≡ false → Idle w d
  idle_of = idle a s₀ law

  -- the row that an effect has set
  at_row : (M m k : ℕ) → upd s₀.rows M (record { number = m; standing = k }) M ≡ record { number = m; standing = k }
  at_row M m k = grind (arith, upd_tells)

  mail_vouched : (t : State) (c : Kind) (to L : ℕ) (es : List Entry) → Vouches c d L (t.rows L).standing es
      (λ ℓ. ((t.rows L).standing ≡ 2) × (ℓ ≡ t.list)) → Vouched d t (mail a t c to L es)
  unfolding mail
  mail_vouched t c to L es h = by (Vouched d t) (λ _. tt)
      (λ _. (
        refl,
        refl,
        rw (kind_back c) h,
      ))

  -- an effect on the row of L, and the letter that tells of it
  vouches_of : (c : Kind) (to L m k : ℕ) (es : List Entry) (t : State) →
      t.rows ≡ upd s₀.rows L (record { number = m; standing = k }) → Effect N P w d z ℓ₀ t 0 0 →
      Vouches c d L k es (λ ℓ. (k ≡ 2) × (ℓ ≡ t.list)) → Ok (serves t (mail a t c to L es))
  vouches_of c to L m k es t e f h =
      let q : (t.rows L).standing ≡ k = ap (λ r. r.standing) (ap (λ f. f L) e ∙ at_row L m k) in
      record {
        effect = f;
        vouched =
            mail_vouched t c to L es (rw q h);
      }

  row_is : (L k : ℕ) → eqb (standing w d L) k ≡ true → standing w d L ≡ k
  row_is L k e = eqb-true _ k e

  module _ (b : ℕ) (st : Strikes w d b) where
    abbrev s₁ : State
    s₁ = owed b s₀

    still_explained : Ok (serves s₁ none)
    still_explained = record { effect = Effect.keep b st; vouched = tt }

    -- a letter about a row as it is
    said : (c : Kind) (to L : ℕ) (es : List Entry) →
        Vouches c d L (standing w d L) es (λ ℓ. (standing w d L ≡ 2) × (ℓ ≡ s₀.list)) →
        Ok (serves s₁ (mail a s₁ c to L es))
    said c to L es t = record { effect = Effect.keep b st; vouched = mail_vouched s₁ c to L es t }

    refuse_explained : (L to : ℕ) → standing w d L ≡ 1 →
        Ok (serves (ended L 3 s₁) (mail a (ended L 3 s₁) kinds.No to L []))
    refuse_explained L to e = vouches_of kinds.No to L _ 3 [] (ended L 3 s₁) refl (Effect.refuse b L st e) refl

    module _ (k : Bool) (L y n : ℕ) (es : List Entry) where
      -- a step is carried out well
      abbrev Go : Step → Type 0
      Go x = Ok (carried a s₁ L y n es P k x)

      -- where d stands
      abbrev here : ℕ
      here = standing w d L

      unlined_explained : Go steps.Unlined
      unlined_explained = by Ok (λ _. still_explained) denied

      tells_explained : (b : Bool) (v : Whom) → Go (tells_how (standing w d L) b v)
      tells_explained b v =
          line Go here 2 (λ q _. said kinds.Yes _ L [] (omega arith))
          (line Go here 3 (λ q _. said kinds.No _ L [] q)
          (line Go here 4 (λ q _. said kinds.Settle _ L [] q)
          (line Go here 5 (λ q _. said kinds.Drop _ L [] (inr q)) unlined_explained)))

      listed : standing w d L ≡ 2 → (x : ℕ) → on s₀.list x ≡ on (w.lists L (number w d L)) x
      listed e x = ap (λ ℓ. on ℓ x) (g.list d L e)

      hears_more : standing w d L ≡ 2 → HasAccepted (w.past y L (number w d L)) → (x : ℕ) →
          has (add s₀.heard y) x ≡ true →
          HasAccepted (w.past x L (number w d L))
      hears_more e t x h =
          elim (add_tells s₀.heard y x) [ inl q ↦ rw q.0 t | inr q ↦ g.heard d L x e (sym q.1 ∙ h) ]

      -- settled or dropped as a depot on the list tells
      settle_explained : (c : Kind) (v : Whom) →
          Vouches c d L 4 [] (λ ℓ. (◌≡◌ {A = ℕ} 4 2) × (ℓ ≡ [])) → standing w d L ≡ 2 →
          w.past y L (number w d L) ≡ 4 → Go (steps.Settle c v)
      settle_explained c v h e t =
          vouches_of c _ L _ 4 [] (settled P a L s₀.list s₁) refl
          (Effect.settle b L st e (λ x h. g.settled y L _ x t h)) h

      drop_explained : (c : Kind) (v : Whom) →
          Vouches c d L 5 [] (λ ℓ. (◌≡◌ {A = ℕ} 5 2) × (ℓ ≡ [])) → standing w d L ≡ 2 →
          on s₀.list y ≡ true → (w.past y L (number w d L) ≡ 3)
          ⊎ (w.past y L (number w d L) ≡ 5) → Go (steps.Drop c v)
      drop_explained c v h e l t = vouches_of c _ L _ 5 [] (ended L 5 s₁) refl (dropped t) h
        where
          dropped : (w.past y L (number w d L) ≡ 3) ⊎ (w.past y L (number w d L) ≡ 5) →
              Effect N P w d z ℓ₀ (ended L 5 s₁) 0 0
          dropped (inl t) = Effect.drop b L y st e (sym (listed e y) ∙ l) t
          dropped (inr t) = let q = g.dropped y L _ t in Effect.drop b L q.0 st e q.1 q.2

      gather_explained : (xs : List Entry) → L ≡ d → standing w d L ≡ 1 →
          1 ≤ w.past y L (number w d L) → FromSender y xs →
          Ok (serves (gathers (gathered_with s₀.gathered xs) s₁) none)
      gather_explained [] l h t f = elim f [ ]
      gather_explained (e ∷ xs) l h t f =
          record {
            effect = Effect.gather b e st (rw l at h)
                (subst (λ u. 1 ≤ w.past e.depot u (number w d u)) l (rw f t));
            vouched = tt;
          }

      accept_explained : ℓ₀ ≡ es → standing w d L ≡ 1 → HasAccepted (w.past L L (number w d L)) →
          es ≡ w.lists L (number w d L) →
          BindingList N d s₀.shelf es → Go steps.Accept
      unfolding concluded
      accept_explained e₀ q c l f =
          by Ok (λ v. vouches_of kinds.Settle _ L _ 4 [] (settled P a L es s₁) refl
          (Effect.join b L es e₀ st q c l f v) refl)
          (λ v. vouches_of kinds.Yes _ L _ 2 [] (bound L es (pair a L) b s₁) refl
          (Effect.accept b L es e₀ st q c l f v) (omega arith))

      hear_explained : standing w d L ≡ 2 → HasAccepted (w.past y L (number w d L)) → Go steps.Hear
      unfolding concluded
      hear_explained q t =
          by Ok (λ v. vouches_of kinds.Settle _ L _ 4 [] (settled P a L s₀.list s₁) refl
          (Effect.settle b L st q (λ x h. hears_more q t x (every_one _ _ x v (listed q x ∙ h)))) refl)
          (λ v. record { effect = Effect.hear b L y st q t v; vouched = tt })

      kind_explained : (c : Kind) → ℓ₀ ≡ es → (standing w d L ≡ 0 → ⊥) → CarriedBy y c es →
          Vouches c y L (w.past y L (number w d L)) es (λ ℓ. ℓ ≡ w.lists L (number w d L)) →
          Go (by_kind c (standing w d L) (situation a s₁ L y n es))
      kind_explained kinds.Ask e₀ alive r t =
          line Go here 0 (λ q _. absurd (alive q))
          (line Go here 1 (λ q _. said kinds.Offer _ L _ (omega arith, refl)) unlined_explained)
      kind_explained kinds.Offer e₀ alive r t =
          line Go here 1 (λ q h. gather_explained es (eqb-true L d (and_parts (eqb L d) _ h).0) q t.0 t.1)
          (line Go here 1 (λ _ _. still_explained) unlined_explained)
      kind_explained kinds.List e₀ alive r t =
          line Go here 1 (λ q h. let f = acceptable_lawful a s₁ L y n es r (and_parts (eqb y L) _ h).1 in
          accept_explained e₀ q (rw t.0 at t.1) t.2
          (record { listed = r; low = f.begun.depots; me = f.me; mine = f.own_shelf }))
          (line Go here 1 (λ q _. refuse_explained L _ q) (tells_explained _ Leader))
      kind_explained kinds.Yes e₀ alive r t = line Go here 2 (λ q _. hear_explained q t) unlined_explained
      kind_explained kinds.No e₀ alive r t =
          line Go here 2 (λ q h. drop_explained kinds.Drop Others (inr refl) q h (inl t)) unlined_explained
      kind_explained kinds.Settle e₀ alive r t =
          line Go here 2 (λ q _. settle_explained kinds.Settle Others refl q t)
          (line Go here 2 (λ q _. settle_explained kinds.Done Leader (omega arith) q t)
          (line Go here 4 (λ q _. said kinds.Done _ L [] (omega arith)) unlined_explained))
      kind_explained kinds.Drop e₀ alive r t =
          line Go here 2 (λ q h. drop_explained kinds.Drop Others (inr refl) q (and_parts (on s₀.list y) _ h).0 t)
          (line Go here 2 (λ q h. drop_explained kinds.Done Leader (omega arith) q h t)
          (line Go here 1 (λ q _. refuse_explained L _ q)
          (line Go here 3 (λ q _. said kinds.No _ L [] q)
          (line Go here 5 (λ q _. said kinds.Done _ L [] (omega arith)) unlined_explained))))
      kind_explained kinds.Query e₀ alive r t =
          line Go here 1 (λ q _. refuse_explained L _ q) (tells_explained true Sender)
      kind_explained kinds.Done e₀ alive r t = unlined_explained

  struck_explained : (m : Contents) → Backed w m → (strikes a m ≡ true → m.number ≡ number w d m.leader) →
      Strikes w d (struck a s₀ m).owing
  unfolding strikes
  struck_explained m t e y h =
      by (λ u. (has u y ≡ true) ⊎ (3 ≤ w.past y d (number w d d)))
      (λ k. elim (mark_tells m.sender y) [
        | inl q ↦ inr (rw q.0 (went k))
        | inr q ↦ inl (has_less s₀.owing (mark m.sender) y ∙ (rw (h, q.1) refl))
      ])
      (λ _. inl h)
    where
      went : (tells_end (kind_of m.kind) && eqb m.leader d) ≡ true → 3 ≤ w.past m.sender d (number w d d)
      went k =
          let (u, v) = and_parts (tells_end (kind_of m.kind)) (eqb m.leader d) k in
          let l : m.leader ≡ d = eqb-true m.leader d v in
          rw l at (rw (e k) at (ended_vouches (kind_of m.kind) m.sender m.leader
          (w.past m.sender m.leader m.number) m.entries
          (λ ℓ. ℓ ≡ w.lists m.leader m.number) u t))

  not_struck : (m : Contents) → tells_end (kind_of m.kind) ≡ false → strikes a m ≡ true → ⊥
  unfolding strikes
  not_struck m e x = both_ways _ e (and_parts _ _ x).0

  -- a letter that is answered
  step_explained : (m : Contents) → ℓ₀ ≡ m.entries → Lawful m → Backed w m → m.leader < N →
      ltb m.number (number w d m.leader) ≡ false → (newer s₀ m && not (asks (kind_of m.kind))) ≡ false →
      (newer s₀ m && engaged a s₀) ≡ false →
      Ok (carried a (struck a s₀ m) m.leader m.sender m.number m.entries P (strikes a m)
      (step_for a (struck a s₀ m) m))
  unfolding step_for newer
  step_explained m e₀ ok t l up asked free =
      by (λ k. Go' (decided (kind_of m.kind) k sit))
      (λ n. let k = asks_is _ (not-false _ (other_way _ _ n asked)) in
      let (y, q) = rw k at t in
      let st =
      struck_explained m t (λ x. absurd (not_struck m (rw k ask_ends_nothing) x))
      in
      let lt = ltb-true (number w d m.leader) m.number n in
      rw (k, by_kind_lem kinds.Ask 0 sit)
      (by Go' (λ _. vouches_of kinds.Offer _ m.leader m.number 1 _ (turned m.leader m.number 1 s₂) refl
      (Effect.offer _ m.leader m.number st l (idle_of (other_way _ _ n free)) lt
      (rw y at q)) (omega arith, refl))
      (λ _. by Go' (λ e. absurd (false≢true e))
      (λ _. unlined_explained s₂.owing st (strikes a m) m.leader m.sender m.number m.entries))))
      (λ n. let e : m.number ≡ number w d m.leader = (let u = ltb-false _ _ n in
      let v = ltb-false _ _ up in omega arith) in
      rw (by_kind_lem (kind_of m.kind) _ sit)
      (kind_explained _ (struck_explained m t (λ _. e)) (strikes a m) m.leader m.sender m.number m.entries
      (kind_of m.kind) e₀
      (λ z. let h = (law.rows.row m.leader).number_none z in omega arith)
      (lawful_right m ok) (rw e at t)))
    where
      s₂ : State
      s₂ = struck a s₀ m

      Go' : Step → Type 0
      Go' x = Ok (carried a s₂ m.leader m.sender m.number m.entries P (strikes a m) x)

      sit : Situation
      sit = situation a s₂ m.leader m.sender m.number m.entries

  pub take_explained : (m : Contents) → ℓ₀ ≡ m.entries → Lawful m → Backed w m → Ok (take P a s₀ m)
  unfolding take
  take_explained m e₀ ok t =
      by Ok denied (λ _. by Ok denied (λ _. by Ok denied
      (λ x. by Ok denied
      (λ up. by Ok denied
      (λ asked. by Ok denied (λ free. step_explained m e₀ ok t (low x) up asked free))))))
    where
      low : (leb N m.sender || (leb N m.leader || eqb m.sender d)) ≡ false → m.leader < N
      low x = grind arith

  pub issue_explained : (n : ℕ) → Explained N P w d z ℓ₀ n 0 (issue a s₀ n)
  unfolding issue
  issue_explained n =
      by Q denied (λ _. by Q denied
      (λ f. by Q denied (λ l. record { effect = Effect.issue n (idle_of f) (ltb-false _ _ l); vouched = tt })))
    where
      Q : Outcome → Type 0
      Q = Explained N P w d z ℓ₀ n 0

  pub return_explained : (n : ℕ) → Explained N P w d z ℓ₀ 0 n (give_back a s₀ n)
  unfolding give_back
  return_explained n =
      by Q denied (λ _. by Q denied
      (λ _. by Q (λ _. record { effect = Effect.lay n; vouched = tt })
      (λ f. record { effect = Effect.return n (idle_of f); vouched = tt })))
    where
      Q : Outcome → Type 0
      Q = Explained N P w d z ℓ₀ 0 n

  pub wish_explained : (n : ℕ) → Ok (set_wish a s₀ n)
  unfolding set_wish
  wish_explained n = by Ok denied
      (λ _. by Ok denied (λ f. record { effect = Effect.want n (idle_of f); vouched = tt }))

  pub lead_explained : Ok (lead a s₀)
  unfolding lead
  lead_explained =
      by Ok denied (λ f. by Ok denied
      (λ o. by Ok denied (λ _. by Ok denied (λ _. by Ok denied
      (λ _. vouches_of kinds.Ask _ d _ 1 [] (led a s₀) refl (Effect.lead (idle_of f) (eqb-true _ 0 (not-false _ o)))
      (refl, omega arith))))))

  pub propose_explained : ℓ₀ ≡ s₀.gathered → Ok (propose P a s₀)
  unfolding propose
  propose_explained e₀ =
      by Ok denied (λ _. by Ok denied (λ e. by Ok denied
      (λ l. let q = row_is d 1 (not-false _ e) in
      let (h, v) = law.lists.gathering q in
      let n = not_alone d s₀.wish s₀.gathered v (ltb-false _ _ l) in
      vouches_of kinds.List _ d _ 2 s₀.gathered (proposed a s₀) refl
      (Effect.propose e₀ q (binding_of a d _ _ _ law.site.size h (two d _ h.me n)) n)
      (refl, omega arith, (refl, refl)))))

  pub withdraw_explained : (L : ℕ) → Ok (withdraw_in a s₀ L)
  unfolding withdraw_in
  withdraw_explained L =
      by Ok denied (λ e. let q = row_is L 1 (not-false _ e) in
      by Ok (λ _. vouches_of kinds.Drop _ L _ 3 [] (ended L 3 s₀) refl (Effect.refuse _ L none_struck q) (inl refl))
      (λ _. refuse_explained _ none_struck L _ q))

  pub query_explained : (L : ℕ) → Ok (query_in a s₀ L)
  unfolding query_in
  query_explained L = by Ok denied (λ e. let q = row_is L 2 (not-false _ e) in
      said _ none_struck kinds.Query _ L [] (omega arith))

  pub restart_explained : (L : ℕ) → z → Ok (restart_in a s₀ L)
  unfolding restart_in
  restart_explained L k =
      by Ok (λ e. record { effect = Effect.refuse _ d none_struck (row_is d 1 e); vouched = tt })
      (λ _. by Ok (λ e. record { effect = Effect.restart L k (row_is L 2 e); vouched = tt })
      (λ _. still_explained _ none_struck))

  pub remind_explained : Ok (remind a s₀)
  unfolding remind
  remind_explained =
      by Ok (λ e. let q = row_is d 1 e in
      by Ok denied (λ _. said _ none_struck kinds.Ask _ d [] (refl, omega arith)))
      (λ _. by Ok (λ e. let q = row_is d 2 e in
      by Ok denied (λ _. said _ none_struck kinds.List _ d _ (refl, omega arith, (q, refl))))
      (λ _. by Ok (λ e. by Ok denied (λ _. said _ none_struck kinds.Settle _ d [] (row_is d 4 e)))
      (λ _. by Ok (λ e. by Ok denied (λ _. said _ none_struck kinds.Drop _ d [] (inr (row_is d 5 e))))
      denied)))
