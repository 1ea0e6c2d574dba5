-- A record seen as a site and a state of the definitions.
use Rattle.std.specs.Prelude.{ℕ, List}
use Rattle.std.proofs.Math.Option.{Option}
use Rattle.entries.specs.declared.lists.Entry.{Entry}
use Rattle.entries.specs.declared.sets.Depots.{Depots}
use Rattle.letters.specs.declared.letter.Head.{Head}
use Rattle.letters.specs.declared.letter.Kind.{Kind}
use Rattle.letters.specs.Contents.{Contents}
use Rattle.protocol.specs.State.{Site, State, own}
use Rattle.protocol.specs.Outcome.{mail}
use Rattle.book.specs.declared.record.Record.{Record}
use Rattle.book.specs.Fields.{site_of, state_of}

abbrev pub site : Record → Site
site r = site_of r.identity

abbrev pub view : Record → State
view r = state_of r.shelf r.tray r.wish r.rows r.list r.heard r.gathered r.owing

-- its own entry
abbrev pub own_entry : Record → Entry
own_entry r = own (site r) (view r)

-- the head of its letters to some depots about the handover in the row of L
abbrev pub head_of : Record → Depots → ℕ → Head
head_of r to L =
    record {
      sender = (site r).depot;
      to = to;
      leader = L;
      code = (site r).code;
      number = ((view r).rows L).number;
    }

-- its letter of a kind to a set of depots about the handover in the row of L; to nobody it is none
abbrev pub mail_of : Record → Kind → ℕ → ℕ → List Entry → Option Contents
mail_of r kind to L es = mail (site r) (view r) kind to L es
