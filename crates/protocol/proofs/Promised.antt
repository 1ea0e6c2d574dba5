-- The three promises, joined; and the same where a list of calls is carried out, which is a series.
use Rattle.std.proofs.Common.{ℕ, List, [], ◌∷◌}
use Rattle.protocol.specs.Calls.{Call}
use Rattle.protocol.specs.Opening.{Opening, LawfulOpening}
use Rattle.protocol.specs.Policy.{Policy, LawfulPolicy}
use Rattle.protocol.specs.Promises.{Kept, Promises}
use Rattle.protocol.specs.Series.{Stage, just_opened, called, carried_out, EachAllowed, Series, start, then}
use Rattle.protocol.proofs.Accounts.{conservation}
use Rattle.protocol.proofs.Forever.{agreement}
use Rattle.protocol.proofs.Freed.{way_out}
use Rattle.protocol.proofs.Drafts.{opens_whole}

pub kept : (P : Policy) → LawfulPolicy P → (o : Opening) → LawfulOpening o → (w : Stage) →
    Series P o (just_opened o) w → Kept P o w
kept P lawful o ok w s =
    record {
      agreement = agreement lawful ok s;
      conservation = conservation lawful ok s;
      way_out = way_out lawful ok s;
    }

pub promised : Promises
promised = record { every = kept; opening = opens_whole }

-- a list of calls, each allowed where it stands, is a series
pub follows : {P : Policy} {o : Opening} {v : Stage} (es : List (ℕ × Call)) (w : Stage) →
    Series P o v w → EachAllowed P o w es →
    Series P o v (carried_out P o w es)
follows [] w s a = s
follows {P} {o} (e ∷ es) w s a = follows es (called P o w e.0 e.1) (then s e.0 e.1 a.0) a.1

-- so the promises are kept where a list of calls is carried out
pub kept_carried_out : (P : Policy) → LawfulPolicy P → (o : Opening) → LawfulOpening o → (es : List (ℕ × Call)) →
    EachAllowed P o (just_opened o) es → Kept P o (carried_out P o (just_opened o) es)
kept_carried_out P lawful o ok es a = kept P lawful o ok _ (follows es (just_opened o) start a)
