-- Two letters byte for byte: depot 2 of five asks, and depot 0 offers it its shelf.
use Rattle.std.specs.Prelude.{◌≡◌, ℕ, List, [], ◌∷◌}
use Rattle.letters.specs.Contents.{Contents}
use Rattle.letters.specs.Bytes.{encode}
use Rattle.letters.specs.Reading.{letter, reads}

-- Ask by depot 2 to depots 0, 1, 3 and 4, number 1, policy Level
abbrev pub the_ask : Contents
the_ask = record { kind = 1; sender = 2; to = 0x1B; leader = 2; code = 1; number = 1; entries = [] }

-- its bytes
abbrev pub ask_bytes : List ℕ
ask_bytes = 0x48 ∷ 0x4F ∷ 0x01 ∷ 0x02 ∷ 0x00 ∷ 0x1B ∷ 0x02 ∷ 0x01 ∷ 0x00 ∷ 0x00 ∷ 0x00 ∷ 0x01 ∷ []

-- the Offer to it by depot 0, with shelf 4 and wish 0
abbrev pub the_offer : Contents
the_offer =
    record {
      kind = 2;
      sender = 0;
      to = 0x04;
      leader = 2;
      code = 1;
      number = 1;
      entries = record { depot = 0; shelf = 4; wish = 0 } ∷ [];
    }

-- its bytes
abbrev pub offer_bytes : List ℕ
offer_bytes =
    0x48 ∷ 0x4F ∷ 0x02 ∷ 0x00 ∷ 0x00 ∷ 0x04 ∷ 0x02 ∷ 0x01 ∷ 0x00 ∷ 0x00 ∷ 0x00 ∷ 0x01
    ∷ 0x45 ∷ 0x4E ∷ 0x00 ∷ 0x00 ∷ 0x00 ∷ 0x00 ∷ 0x00 ∷ 0x00 ∷ 0x00 ∷ 0x04 ∷ []

-- each is written as its bytes and read from them
pub record WorkedLetters : Type 0 where
  pub ask_written : encode the_ask ≡ ask_bytes
  pub ask_read : reads ask_bytes ≡ letter the_ask
  pub offer_written : encode the_offer ≡ offer_bytes
  pub offer_read : reads offer_bytes ≡ letter the_offer
