-- `c_numbers::parked_call::phase_of` meets its contract: a number above the last is past the list. With this as a law named on the function the search gives
-- up at one of its limits.
use Prim.Native.Nat.{◌≤◌}
use mathlib.Core.Path.{sym}
use native.Mathlib.Omega.{arith}
use lib.ListN.{get_or-eq_default}
use Rattle.c_numbers.specs.ParkedCall.{phases}
use Rattle.c_numbers.proofs.parked_call.phase_of.Goals as goal

pub returns-in_default : goal.returns-in_default
returns-in_default c = let past : 30 ≤ c.args.number = omega arith in sym (get_or-eq_default (phases c.args.word) _ past)
