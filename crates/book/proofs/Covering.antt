-- A set that covers the depots on a list has each of them.
use Rattle.std.proofs.Common.{◌≡◌, ℕ, ltb, List, Decides, sym, ap, ◌∙◌}
use mathlib.Core.Path.{fun_ext}
use Rattle.std.proofs.lemmas.Bool.Decides.{same_from_decides, nat_tests}
use Rattle.entries.specs.declared.lists.Entry.{Entry}
use Rattle.entries.specs.Sets.{has, covers, everyone}
use Rattle.entries.specs.Lists.{names}
use Rattle.entries.specs.Laws.{Within}
use Rattle.entries.proofs.Membership.{has_names, has_everyone, covers_within}
use Rattle.protocol.specs.Listing.{every}
use Rattle.protocol.proofs.Tests.{every_one, all_every}

-- each depot on the list is in the set just where the set of the list's depots lies within it
each_within : (set : ℕ) (es : List Entry) → Decides (every es (has set)) (Within (names es) set)
each_within set es = (
  λ e i h. every_one es (has set) i e (sym (has_names es i) ∙ h),
  λ within. all_every es (has set) (λ y h. within y (has_names es y ∙ h)),
)

pub covers_every : (set : ℕ) (es : List Entry) → covers set (names es) ≡ every es (has set)
covers_every set es = same_from_decides _ _ (covers_within set (names es)) (each_within set es)

-- all of them are depots of a set
pub everyone_every : (n : ℕ) (es : List Entry) → every es (has (everyone n)) ≡ every es (λ x. ltb x n)
everyone_every n es = ap (every es) (fun_ext (has_everyone n))

-- what accepting a list rests on
pub ruleset accepting = (nat_tests, everyone_every)
