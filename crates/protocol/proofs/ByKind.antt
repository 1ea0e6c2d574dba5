-- The table of lines, kind by kind, as tests one after another: a line of another kind never fits.
use Rattle.std.proofs.Common.{◌≡◌, ℕ, Bool, true, not, ◌&&◌, eqb, refl}
use Rattle.std.proofs.lemmas.Bool.{and_parts, eqb-true}
use Rattle.letters.specs.declared.letter.Kind.{Kind}
use Rattle.letters.specs.declared.letter.Kind.TheVariants as kinds
use Rattle.protocol.specs.declared.step.Whom.{Whom}
use Rattle.protocol.specs.declared.step.Whom.TheVariants.{Leader, Sender, Others}
use Rattle.protocol.specs.declared.step.Step.{Step}
use Rattle.protocol.specs.declared.step.Step.TheVariants as steps
use Rattle.protocol.specs.declared.step.Situation.{Situation}
use Rattle.protocol.specs.Lines.{decided}
use Rattle.protocol.specs.State.{pick}
use Rattle.protocol.proofs.Tests.{by}

-- Yes, No, Settle or Drop, by the standing
abbrev pub tells_how : ℕ → Bool → Whom → Step
tells_how k b to =
    pick (eqb k 2 && b) (steps.Say kinds.Yes to)
    (pick (eqb k 3 && b) (steps.Say kinds.No to)
    (pick (eqb k 4 && b) (steps.Say kinds.Settle to)
    (pick (eqb k 5 && b) (steps.Say kinds.Drop to) steps.Unlined)))

abbrev pub by_kind : Kind → ℕ → Situation → Step
by_kind kinds.Ask k o =
    pick (eqb k 0 && o.from_leader) steps.Join (pick (eqb k 1 && o.from_leader) steps.OfferAgain steps.Unlined)
by_kind kinds.Offer k o =
    pick (eqb k 1 && (o.to_leader && o.gatherable)) steps.Gather
    (pick (eqb k 1 && o.to_leader) steps.Stay steps.Unlined)
by_kind kinds.List k o =
    pick (eqb k 1 && (o.from_leader && o.acceptable)) steps.Accept
    (pick (eqb k 1 && o.from_leader) (steps.Refuse Leader) (tells_how k o.from_leader Leader))
by_kind kinds.Yes k o = pick (eqb k 2 && o.from_listed) steps.Hear steps.Unlined
by_kind kinds.No k o = pick (eqb k 2 && o.from_listed) (steps.Drop kinds.Drop Others) steps.Unlined
by_kind kinds.Settle k o =
    pick (eqb k 2 && (o.from_listed && o.to_leader)) (steps.Settle kinds.Settle Others)
    (pick (eqb k 2 && o.from_listed) (steps.Settle kinds.Done Leader)
    (pick (eqb k 4 && not o.to_leader) (steps.Say kinds.Done Leader) steps.Unlined))
by_kind kinds.Drop k o =
    pick (eqb k 2 && (o.from_listed && o.to_leader)) (steps.Drop kinds.Drop Others)
    (pick (eqb k 2 && o.from_listed) (steps.Drop kinds.Done Leader)
    (pick (eqb k 1 && not o.to_leader) (steps.Refuse Leader)
    (pick (eqb k 3 && not o.to_leader) (steps.Say kinds.No Leader)
    (pick (eqb k 5 && not o.to_leader) (steps.Say kinds.Done Leader) steps.Unlined))))
by_kind kinds.Query k o = pick (eqb k 1 && not o.to_leader) (steps.Refuse Sender) (tells_how k true Sender)
by_kind kinds.Done k o = steps.Unlined

pub by_kind_lem : (c : Kind) (k : ℕ) (o : Situation) → decided c k o ≡ by_kind c k o
unfolding pick
by_kind_lem kinds.Ask k o = refl
by_kind_lem kinds.Offer k o = refl
by_kind_lem kinds.List k o = refl
by_kind_lem kinds.Yes k o = refl
by_kind_lem kinds.No k o = refl
by_kind_lem kinds.Settle k o = refl
by_kind_lem kinds.Drop k o = refl
by_kind_lem kinds.Query k o = refl
by_kind_lem kinds.Done k o = refl

-- a line asks for a standing, and what its guard tests
pub line : (Q : Step → Type 0) (k j : ℕ) {b : Bool} {x y : Step} → (k ≡ j → b ≡ true → Q x) → Q y →
    Q (pick (eqb k j && b) x y)
line Q k j f t = by Q (λ e. let (p, q) = and_parts _ _ e in f (eqb-true k j p) q) (λ _. t)
