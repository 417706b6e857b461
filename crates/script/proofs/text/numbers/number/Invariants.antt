use Rattle.std.proofs.Common.{◌<◌, ◌^◌}
use Rattle.script.proofs.Digits.{ReadsTo}
use Rattle.script.proofs.text.numbers.number.Given as goal

abbrev pub invariant-loop-byte : goal.invariant-loop-byte
invariant-loop-byte l = (l.number < 2 ^ 64) × ReadsTo l.base l.digits l.byte-index l.number
