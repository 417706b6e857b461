-- `blocking::transfer::transfer` meets its contract: the run goes on from where a round begins, and the room that is left is the measure.
use Prim.Native.Nat.{ℕ, ◌-◌, ◌≤◌}
use mathlib.Core.List.{List}
use lib.ListN.{length}
use Rattle.parked.specs.declared.Parked.{Parked}
use Rattle.blocking.specs.Steps.{Going}
use Rattle.blocking.proofs.transfer.transfer.Given as goal

abbrev pub invariant-loop-p : goal.invariant-loop-p
invariant-loop-p l = (l.initial.p.logged ≤ l.p.logged)
    × ((start : List ℕ) (p₀ : Parked) (b₀ : List ℕ) → Going l.send l.words start p₀ b₀ l.initial.p l.initial.log l.initial.receive
    → Going l.send l.words start p₀ b₀ l.p l.log l.receive)

abbrev pub decreases-loop-p : goal.decreases-loop-p
decreases-loop-p l = length l.initial.log - l.p.logged

abbrev pub invariant-transfer : goal.invariant-transfer
invariant-transfer l = Going l.send l.words l.initial.log l.initial.p.parked l.initial.receive l.p l.log l.receive

abbrev pub decreases-transfer : goal.decreases-transfer
decreases-transfer l = length l.initial.log - l.p.logged
