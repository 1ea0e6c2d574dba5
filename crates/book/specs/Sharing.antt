-- A policy of the code as a policy of the definitions.
use Rattle.policies.specs.declared.meaning.Policy.{Ghosts}
use Rattle.protocol.specs.Policy.{Policy}

abbrev pub policy_of : {X : Type 0} → Ghosts X → Policy
policy_of p = record { code = p.CODE; share = p.share }
