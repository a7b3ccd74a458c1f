use Rattle.std.proofs.Common.{◌-◌, ◌/◌, ◌^◌, ◌≡◌}
use Rattle.octets.proofs.Digits.{written}
use Rattle.octets.proofs.put_number.Given as goal

abbrev pub invariant-loop-i : goal.invariant-loop-i
invariant-loop-i l = (l.rest ≡ l.number / 256 ^ (l.size - l.i)) × (l.bytes ≡ written l.initial.bytes l.at l.size l.number l.i)
