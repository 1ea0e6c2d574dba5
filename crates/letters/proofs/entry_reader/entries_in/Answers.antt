use Rattle.std.proofs.Common.{[], ◌∷◌, ◌++◌, sym, ap, ◌∙◌, append_assoc, length-append, arith}
use Rattle.std.specs.Iterator.Adapters.{take_source}
use Rattle.std.proofs.lemmas.Grind.{common_steps}
use Rattle.entries.specs.Limits.{max_depots}
use Rattle.letters.proofs.Steps.{rest, rest_gave}
use Rattle.letters.proofs.entry_reader.entries_in.Goals as goal

pub loop-entry-init : goal.loop-entry-init
unfolding max_depots
loop-entry-init c = grind (arith, common_steps)

pub loop-entry-preserved : goal.loop-entry-preserved
loop-entry-preserved c =
    let so_far = c.loop-entry.entries in
    let was = take_source c.loop-entry.entry-iterator in
    let is = take_source c.next.new.self in
    let s = c.in-Some.ensures.steps in
    let more = rest_gave was is c.in-Some.field-0-0 c.in-Some.entry s.0.0 in
    let e = c.push.ensures in
    let a = append_assoc so_far (c.in-Some.entry ∷ []) (rest is) in (
      tt,
      tt,
      simp (e, length-append) (omega (arith, s.1)),
      rw e (a ∙ ap (λ es. so_far ++ es) (sym more) ∙ c.loop-entry.invariant.3),
    )
