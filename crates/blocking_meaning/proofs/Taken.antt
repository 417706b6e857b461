-- A run takes no more words than there are.
use Prim.Native.Nat.{ℕ, zero, suc, ◌≤◌, zero-le}
use mathlib.Core.Path.{◌≡◌, refl}
use mathlib.Core.Bool.{Bool, true, false}
use mathlib.Core.List.{List, [], ◌∷◌}
use native.Mathlib.Omega.{arith}
use lib.ListN.{length}
use Rattle.std.specs.Prelude.{Result, Ok, Err}
use Rattle.parked.specs.declared.phases.End.{End}
use Rattle.parked.specs.declared.next_access.Next.{Next}
use Rattle.parked.specs.declared.next_access.Next.TheVariants.{Read, Write}
use Rattle.parked.specs.declared.Parked.{Parked}
use Rattle.parked.specs.After.{after}
use Rattle.parked.specs.Refusals.{wrong}
use Rattle.blocking_meaning.specs.Run.{with_byte, step, full, next, runs, run_outcome}
use Rattle.blocking_meaning.proofs.OneAccess.{outcome_wrong, outcome_right}

taken_full : (m : Result Next End) (ws : List ℕ) (p : Parked) (b : List ℕ) → (full m ws p b).taken ≤ length ws
taken_full (Err e) ws p b = zero-le
taken_full (Ok (Read o k)) [] p b = zero-le
taken_full (Ok (Read o k)) (w ∷ ws) p b = zero-le
taken_full (Ok (Write o w)) ws p b = zero-le

module _ (s : List ℕ) where
  taken_step : (n : ℕ) → ((p : Parked) (b ws : List ℕ) → (runs s n p b ws).taken ≤ length ws)
      → (m : Result Next End) (ws : List ℕ) (p : Parked) (b : List ℕ) → (step m ws p b (runs s n)).taken ≤ length ws
  taken_step n ih (Err e) ws p b = zero-le
  taken_step n ih (Ok (Read o k)) [] p b = zero-le
  taken_step n ih (Ok (Read o k)) (w ∷ ws) p b = omega (arith, ih (after p w) (with_byte k p.count w b) ws)
  taken_step n ih (Ok (Write o w)) ws p b = omega (arith, ih (after p 0) b ws)

  taken_run : (n : ℕ) (p : Parked) (b ws : List ℕ) → (runs s n p b ws).taken ≤ length ws
  unfolding runs
  taken_run zero p b ws = taken_full (next s p) ws p b
  taken_run (suc n) p b ws = taken_step n (taken_run n) (next s p) ws p b

  either : (n : ℕ) (p : Parked) (b ws : List ℕ) (t : Bool) → wrong p (length s) (length b) ≡ t → (run_outcome s n p b ws).taken ≤ length ws
  either n p b ws true e = rw (outcome_wrong s p b ws n e) zero-le
  either n p b ws false e = rw (outcome_right s p b ws n e) (taken_run n p b ws)

  pub taken_within : (n : ℕ) (p : Parked) (b ws : List ℕ) → (run_outcome s n p b ws).taken ≤ length ws
  taken_within n p b ws = either n p b ws (wrong p (length s) (length b)) refl
