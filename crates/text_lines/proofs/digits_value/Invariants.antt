-- the value so far is that of the digits so far
use Rattle.std.proofs.Common.{◌≡◌, take}
use Rattle.text_lines.specs.Numbers.{value_of}
use Rattle.text_lines.proofs.digits_value.Given as goal

abbrev pub invariant-loop-digit : goal.invariant-loop-digit
invariant-loop-digit l = l.value ≡ value_of (take l.digit-index l.digits)
