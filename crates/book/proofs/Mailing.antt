-- Letters that a record sends: a letter to nobody is none, any other is what the lent message then says, and each is
-- lawful since the record is.
use Rattle.std.proofs.Common.{◌≡◌, ℕ, List, sym, refl, subst, arith}
use Rattle.std.proofs.lemmas.Nat.{pow_pos}
use Rattle.entries.specs.Sets.{mark}
use mathlib.Core.Option.{Option, none, some}
use Rattle.std.proofs.lemmas.Bool.{eq-eqb, ne_eqb}
use Rattle.entries.specs.declared.lists.Entry.{Entry}
use Rattle.entries.specs.declared.sets.Depots.{Depots}
use Rattle.letters.specs.declared.letter.Kind.{Kind}
use Rattle.letters.specs.declared.message.Message.{Message}
use Rattle.letters.specs.Contents.{Contents, Lawful}
use Rattle.letters.specs.Writing.{message_says}
use Rattle.protocol.specs.State.{pick, Site, State}
use Rattle.protocol.specs.Outcome.{mail, note}
use Rattle.protocol.specs.Keeping.{Readable}
use Rattle.std.specs.declared.option.Option.TheVariants as options
use Rattle.book.specs.Calls.{Posted, Sent}

module _ (a : Site) (s : State) (k : Kind) (to : Depots) (L : ℕ) (es : List Entry) where
  none_sent : to.0 ≡ 0 → mail a s k to.0 L es ≡ none
  unfolding mail pick
  none_sent e = rw (eq-eqb to.0 0 e) refl

  one_sent : (to.0 ≡ 0 → ⊥) → mail a s k to.0 L es ≡ some (note a s k to.0 L es)
  unfolding mail pick
  one_sent e = rw (ne_eqb to.0 0 e) refl

  pub posted_none : (lent : Message) → to.0 ≡ 0 → Posted (mail a s k to.0 L es) options.None lent lent
  posted_none lent e = subst (λ m. Posted m options.None lent lent) (sym (none_sent e)) refl

  pub posted_some : (lent left : Message) → (to.0 ≡ 0 → ⊥) → message_says left ≡ note a s k to.0 L es
      → Posted (mail a s k to.0 L es) (options.Some to) lent left
  posted_some lent left e h = subst (λ m. Posted m (options.Some to) lent left) (sym (one_sent e)) (refl, h)

  -- a letter that is sent is lawful
  pub note_lawful : (to.0 ≡ 0 → ⊥) → Readable (mail a s k to.0 L es) → Lawful (note a s k to.0 L es)
  note_lawful e h = subst Readable (one_sent e) h

-- the same letter from an equal record
pub mail_is : {a a' : Site} {s s' : State} (k : Kind) {to to' : ℕ} (L : ℕ) (es : List Entry) → a ≡ a' → s ≡ s'
    → to ≡ to' → mail a s k to L es ≡ mail a' s' k to' L es
mail_is k L es e f g = cc

-- the same with an equal list
pub mail_with : {a a' : Site} {s s' : State} (k : Kind) {to to' : ℕ} (L : ℕ) {es es' : List Entry} → a ≡ a' → s ≡ s'
    → to ≡ to' → es ≡ es' → mail a s k to L es ≡ mail a' s' k to' L es'
mail_with k L e f g h = cc

pub posted_as : {m m' : Option Contents} (x : Sent) (lent left : Message) → m ≡ m' → Posted m x lent left
    → Posted m' x lent left
posted_as x lent left e h = subst (λ m. Posted m x lent left) e h

-- a depot's mark is no empty set
pub mark_some : (depot : ℕ) → mark depot ≡ 0 → ⊥
unfolding mark
mark_some depot empty = let some = pow_pos depot in omega arith
