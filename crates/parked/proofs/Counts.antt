-- A count that rises stays below the length, which fits.
use Prim.Native.Nat.{ℕ, ◌+◌, ◌<◌}
use mathlib.Core.Path.{◌≡◌}
use mathlib.Core.Bool.{Bool, true, false, cond}
use native.Mathlib.Omega.{arith}
use borrow.Author.Tests.{ltb-true}
use lib.Dec.{ltb}
use Rattle.parked.specs.declared.phases.CountEffect.{CountEffect}
use Rattle.parked.specs.declared.phases.CountEffect.TheVariants.{Byte, SecondHalf, Unchanged, NoAccess}
use Rattle.parked.specs.declared.Parked.{Parked}
use Rattle.parked.specs.Kinds.{incoming}
use Rattle.parked.specs.NextAccess.{span, more}
use Rattle.parked.specs.After.{moves_as, byte_moves}
use Rattle.parked.specs.Phases.{count_effect}

moved : (r : CountEffect) (t : Bool) → moves_as r t ≡ true → t ≡ true
moved Byte t e = e
moved SecondHalf t e = cc
moved Unchanged t e = cc
moved NoAccess t e = cc

pub moves_below : (p : Parked) → byte_moves p ≡ true → p.count < span p
unfolding byte_moves more
moves_below p e = ltb-true _ _ (moved (count_effect p.phase) (ltb p.count (span p)) e)

either : (t : Bool) (a b n : ℕ) → a < n → b < n → cond t a b < n
either true a b n h k = h
either false a b n h k = k

pub more_fits : (p : Parked) (n : ℕ) → p.receive < n → p.send < n → more p ≡ true → p.count + 1 < n
unfolding more span
more_fits p n h k e = omega (arith, ltb-true _ _ e, either (incoming p.kind) p.receive p.send n h k)

pub moves_fits : (p : Parked) (n : ℕ) → p.receive < n → p.send < n → byte_moves p ≡ true → p.count + 1 < n
unfolding byte_moves
moves_fits p n h k e = more_fits p n h k (moved (count_effect p.phase) (more p) e)
