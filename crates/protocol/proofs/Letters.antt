-- Every letter that a lawful record sends is one that reading accepts: its values are those that the law bounds.
use Rattle.std.proofs.Common.{ℕ, ◌≤◌, List, [], ◌∷◌, arith}
use Rattle.entries.specs.declared.lists.Entry.{Entry}
use Rattle.letters.specs.declared.letter.Kind.{Kind}
use Rattle.letters.specs.declared.letter.Kind.TheVariants as kinds
use Rattle.letters.specs.Code.{kind_number}
use Rattle.letters.specs.Contents.{Lawful, Carries}
use Rattle.entries.specs.Limits.{max_depots}
use Rattle.entries.specs.Lists.{Listed}
use Rattle.protocol.specs.Keeping.{Readable}
use Rattle.protocol.specs.Law.{Law}
use Rattle.protocol.specs.Outcome.{mail, note}
use Rattle.protocol.specs.State.{Site, State, own}
use Rattle.protocol.proofs.InSets.{Below, set_fits}
use Rattle.protocol.proofs.Tests.{by}

kind_numbers : (k : Kind) → (1 ≤ kind_number k) × (kind_number k ≤ 9)
kind_numbers kinds.Ask = (omega arith, omega arith)
kind_numbers kinds.Offer = (omega arith, omega arith)
kind_numbers kinds.List = (omega arith, omega arith)
kind_numbers kinds.Yes = (omega arith, omega arith)
kind_numbers kinds.No = (omega arith, omega arith)
kind_numbers kinds.Settle = (omega arith, omega arith)
kind_numbers kinds.Drop = (omega arith, omega arith)
kind_numbers kinds.Query = (omega arith, omega arith)
kind_numbers kinds.Done = (omega arith, omega arith)

-- the letter to a set of depots that there can be, about a row with a standing
module _ (a : Site) (s : State) (law : Law a s) (to L : ℕ) (high : Below max_depots to)
    (on_Row : 1 ≤ (s.rows L).standing) where
  sheet_lawful : (k : Kind) (es : List Entry) → Carries (kind_number k) a.depot es → Lawful (note a s k to L es)
  sheet_lawful k es c =
      record {
        kind_low = (kind_numbers k).0;
        kind_high = (kind_numbers k).1;
        sender_below = (let p = law.site.depot in let q = law.site.size in omega arith);
        to_fits = set_fits to high;
        leader_below = (let p = (law.rows.row L).low on_Row in omega arith);
        code_low = law.site.code_low;
        code_high = (let p = law.site.code_high in omega arith);
        number_low = (law.rows.row L).number_some on_Row;
        number_fits = (let p = (law.rows.row L).number_high in omega arith);
        carries = c;
      }

  mail_lawful : (k : Kind) (es : List Entry) → Carries (kind_number k) a.depot es → Readable (mail a s k to L es)
  unfolding mail
  mail_lawful k es c = by Readable (λ _. tt) (λ _. sheet_lawful k es c)

  pub plain : (k : Kind) → Carries (kind_number k) a.depot [] → Readable (mail a s k to L [])
  plain k c = mail_lawful k [] c

  pub listing : (es : List Entry) → Listed es → Readable (mail a s kinds.List to L es)
  listing es h = mail_lawful kinds.List es h

-- the own entry as some record of this site has it
pub offering : (a : Site) (s t : State) → Law a s → Law a t → (to L : ℕ) → Below max_depots to →
    1 ≤ (t.rows L).standing → Readable (mail a t kinds.Offer to L (own a s ∷ []))
offering a s t law law' to L high row = grind (arith, mail_lawful)
