use Rattle.std.proofs.Common.{[], ◌∷◌, ◌++◌, ap, ◌∙◌}
use Rattle.std.proofs.lemmas.List.{append-nil, append_assoc}
use Rattle.entries.specs.Lists.{names}
use Rattle.entries.specs.Sets.{add}
use Rattle.entries.proofs.lists.names_of.Goals as goal

-- nothing is behind the last entry
pub loop-next-init : goal.loop-next-init
unfolding names
loop-next-init c = let all = append-nil c.args.list.now in ([], cc, c.none-set.ensures)

pub loop-next-preserved : goal.loop-next-preserved
unfolding names
loop-next-preserved c =
    let behind = c.loop-next.invariant.0 in
    let next = c.in-Some.next.now in (
      next ∷ behind,
      c.loop-next.invariant.1
          ∙ (ap (λ left. left ++ behind) c.in-Some.ensures.steps ∙ append_assoc c.next.new.self.iter.rest.now (next ∷ []) behind),
      c.with-set.ensures ∙ ap (λ n. add n next.depot) c.loop-next.invariant.2,
    )
