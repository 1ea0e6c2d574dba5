-- The law in a record's type: a state that a call of the protocol leads to keeps it, since the protocol's calls do, and
-- so does the state after each step that the calls are made of.
use Rattle.std.proofs.Common.{◌≡◌, ℕ, zero, suc, ◌<◌, ◌≤◌, List, length, get_or, set, replicate, sym, refl, ap, ◌∙◌, subst, inl, inr, arith}
use mathlib.Core.Path.{fun_ext}
use mathlib.Core.Logic.{∥∥₁_elim, ∥∥₁_map}
use denote.Struct.Props.{props}
use Rattle.std.proofs.lemmas.List.{get_or-set_same, get_or-set_other, get_or-take}
use Rattle.policies.specs.Shares.{level}
use Rattle.policies.specs.Dealt.{level_lawful}
use Rattle.protocol.specs.Policy.{Policy}
use Rattle.entries.proofs.Width.{as_many_marks}
use Rattle.entries.specs.Limits.{max_depots}
use Rattle.protocol.specs.State.{upd, Site, Row, State}
use Rattle.protocol.specs.Outcome.{Outcome, after}
use Rattle.protocol.specs.Law.{Law}
use Rattle.protocol.specs.Keeping.{Keeps, CallsKeep}
use Rattle.protocol.proofs.Tests.{upd_tells}
use Rattle.protocol.proofs.LawKept.{law_kept}
use Rattle.book.specs.declared.parts.Row as parts
use Rattle.protocol.specs.declared.standing.Standing.{Standing}
use Rattle.protocol.specs.declared.standing.Standing.TheVariants.{Blank, Offered, Accepted, Refused, Settled, Dropped}
use Rattle.protocol.specs.Code.{standing_number}
use Rattle.book.specs.Fields.{row_of, rows_of, blank_row, Bounds}

-- the calls of a depot keep the law under any policy; those that use none keep it under Level
abbrev pub any_policy : Policy
any_policy = record { code = 1; share = level }

pub own_calls : (a : Site) (s : State) → Law a s → CallsKeep any_policy a s
own_calls a s law =
    law_kept.calls any_policy (record { coded = (omega arith, omega arith); shares = level_lawful }) a s law

pub bounds_of : (a : Site) (s : State) → ∥ Law a s ∥₁ → Bounds a s
bounds_of a s ok =
    ∥∥₁_elim ok (hlevel props)
    (λ law. (
      (law.site.depot, law.site.size, law.site.code_low, law.site.code_high),
      (law.stock.stock, law.stock.tray, law.stock.wish),
    ))

pub number_high : (a : Site) (s : State) (L : ℕ) → ∥ Law a s ∥₁ → (s.rows L).number ≤ 4294967295
number_high a s L ok = ∥∥₁_elim ok (hlevel props) (λ law. (law.rows.row L).number_high)

-- a state that is lawful because another is
pub lawful_now : (a : Site) (s t u : State) → ((law : Law a s) → Law a u) → t ≡ u → ∥ Law a s ∥₁
    → ∥ Law a t ∥₁
lawful_now a s t u keeps e ok = ∥∥₁_map ok (λ law. subst (λ x. Law a x) (sym e) (keeps law))

-- a state that a call leads to
pub kept : (a : Site) (s t : State) (o : Outcome) → ((law : Law a s) → Keeps a s o) → t ≡ after s o → ∥ Law a s ∥₁
    → ∥ Law a t ∥₁
kept a s t o keeps e ok = lawful_now a s t (after s o) (λ law. (keeps law).law) e ok

pub most_five : (k : Standing) → standing_number k ≤ 5
most_five Blank = omega arith
most_five Offered = omega arith
most_five Accepted = omega arith
most_five Refused = omega arith
most_five Settled = omega arith
most_five Dropped = omega arith

-- a row written is a row changed
pub row_set : (rs : List parts.Row) (L : ℕ) (r : parts.Row) → L < length rs
    → rows_of (set rs L r) ≡ upd (rows_of rs) L (row_of r)
unfolding rows_of
row_set rs L r h =
    fun_ext (λ x. elim (upd_tells (rows_of rs) L (row_of r) x) [
      | inl u ↦ ap row_of (ap (λ y. get_or (set rs L r) y blank_row) u.0 ∙ get_or-set_same rs L r blank_row h) ∙ sym u.1
      | inr u ↦ ap row_of (get_or-set_other rs L x r blank_row u.0) ∙ sym u.1
    ])

-- what reading and changing rows rests on
pub ruleset row_steps = (as_many_marks, row_set, get_or-take)

-- the rows of a new record
all_blank : (k L : ℕ) → get_or (replicate k blank_row) L blank_row ≡ blank_row
all_blank zero L = refl
all_blank (suc k) zero = refl
all_blank (suc k) (suc L) = all_blank k L

pub blank_rows : (k : ℕ) → rows_of (replicate k blank_row) ≡ (λ _. record { number = 0; standing = 0 })
unfolding rows_of
blank_rows k = fun_ext (λ L. ap row_of (all_blank k L))

-- a state that was written is the one that was to be lawful
pub written_kept : (a : Site) (t u : State) → t ≡ u → ∥ Law a u ∥₁ → ∥ Law a t ∥₁
written_kept a t u e ok = subst (λ x. ∥ Law a x ∥₁) (sym e) ok

-- the leader in whose row a depot has stood is a depot
pub stood_low : (a : Site) (t : State) (L : ℕ) → 1 ≤ (t.rows L).standing → ∥ Law a t ∥₁ → L < max_depots
stood_low a t L k ok =
    ∥∥₁_elim ok (hlevel props)
    (λ law. let l = (law.rows.row L).low k in let n = law.site.size in omega arith)

-- so is the leader whose row was changed
pub changed_low : (a : Site) (rows : ℕ → Row) (L : ℕ) (r : Row) (t : State) → t.rows ≡ upd rows L r → 1 ≤ r.standing
    → ∥ Law a t ∥₁ → L < max_depots
changed_low a rows L r t e k ok =
    elim (upd_tells rows L r L) [
      | inl u ↦ (
          let q : (t.rows L).standing ≡ r.standing = ap (λ f. (f L).standing) e ∙ ap (λ x. x.standing) u.1 in
          stood_low a t L (omega arith) ok
          )
      | inr u ↦ absurd (u.0 refl)
    ]
