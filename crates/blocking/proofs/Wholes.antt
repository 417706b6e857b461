-- The whole outcome of a call that is begun.
use mathlib.Core.Path.{◌≡◌}
use mathlib.Core.Bool.{true, false}
use mathlib.Core.List.{List, []}
use Prim.Native.Nat.{ℕ}
use lib.ListN.{length}
use Rattle.registers.specs.Answers.{says}
use Rattle.parked.specs.declared.kinds.Kind.{Kind}
use Rattle.parked.specs.Kinds.{lengths}
use Rattle.parked.specs.Refusals.{begun, refused_at_begin}
use Rattle.blocking_meaning.specs.Run.{without_access, run_outcome, called}

module _ (k : Kind) (address : ℕ) (s b ws : List ℕ) (n : ℕ) where
  pub call_good : lengths k (length s) (length b) ≡ true → called k address s n b ws ≡ run_outcome s n (begun k address (length s) (length b)) b ws
  unfolding called
  call_good e = rw e

  pub call_bad : lengths k (length s) (length b) ≡ false → called k address s n b ws ≡ without_access (says 6 []) (refused_at_begin k address (length s) (length b)) b
  unfolding called
  call_bad e = rw e
