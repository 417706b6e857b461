-- Laws of a run: one access of it, how runs join, and a call that is wrong or right.
use mathlib.Core.Path.{◌≡◌, refl}
use mathlib.Core.Bool.{Bool, true, false}
use mathlib.Core.List.{List, [], ◌∷◌, ◌++◌, append_assoc}
use Prim.Native.Nat.{ℕ, zero, suc, ◌+◌}
use native.Mathlib.Nat.{zero-add, add_assoc}
use native.Mathlib.Omega.{arith}
use lib.ListN.{length, get_or, drop}
use Rattle.std.specs.Prelude.{Ok, Err}
use Rattle.registers.specs.Answers.{says}
use Rattle.parked.specs.declared.phases.End.{End}
use Rattle.parked.specs.declared.next_access.Next.TheVariants.{Read, Write}
use Rattle.parked.specs.declared.Parked.{Parked}
use Rattle.parked.specs.BusyWait.{answer}
use Rattle.parked.specs.After.{after}
use Rattle.parked.specs.Refusals.{wrong}
use Rattle.blocking_meaning.specs.Run.{RunOutcome, without_access, joined, with_byte, next, runs, run_outcome}

pub joined-none : (q : RunOutcome) → q ≡ joined 0 [] q
joined-none q = rw zero-add

pub joined_joined : (t u : ℕ) (l m : List ℕ) (q : RunOutcome) → joined t l (joined u m q) ≡ joined (t + u) (l ++ m) q
joined_joined t u l m q = rw (add_assoc, append_assoc)

-- a list with a word is not empty
pub some : (w : ℕ) (ws : List ℕ) → length (w ∷ ws) ≡ 0 → ⊥
some w ws e = omega arith

module _ (s : List ℕ) (p : Parked) (b : List ℕ) where
  pub run_over : (n : ℕ) (ws : List ℕ) (e : End) → next s p ≡ Err e → runs s n p b ws ≡ without_access (answer e p) p b
  unfolding runs
  run_over zero ws e h = rw h
  run_over (suc n) ws e h = rw h

  pub run_out : (n : ℕ) (ws : List ℕ) (o : ℕ) (k : Bool) → next s p ≡ Ok (Read o k) → length ws ≡ 0 → runs s n p b ws ≡ without_access (says 9 []) p b
  unfolding runs
  run_out zero [] o k e h = rw e
  run_out (suc n) [] o k e h = rw e
  run_out n (w ∷ ws) o k e h = absurd (omega arith)

  pub full_read : (ws : List ℕ) (o : ℕ) (k : Bool) → next s p ≡ Ok (Read o k) → (length ws ≡ 0 → ⊥) → runs s 0 p b ws ≡ without_access (says 10 []) p b
  unfolding runs
  full_read [] o k e h = absurd (h refl)
  full_read (w ∷ ws) o k e h = rw e

  pub full_write : (ws : List ℕ) (o w : ℕ) → next s p ≡ Ok (Write o w) → runs s 0 p b ws ≡ without_access (says 10 []) p b
  unfolding runs
  full_write ws o w e = rw e

  pub run_read : (n : ℕ) (ws : List ℕ) (o : ℕ) (k : Bool) → next s p ≡ Ok (Read o k) → (length ws ≡ 0 → ⊥)
      → runs s (suc n) p b ws ≡ joined 1 (o ∷ get_or ws 0 0 ∷ []) (runs s n (after p (get_or ws 0 0)) (with_byte k p.count (get_or ws 0 0) b) (drop 1 ws))
  unfolding runs
  run_read n [] o k e h = absurd (h refl)
  run_read n (w ∷ ws) o k e h = rw e

  pub run_write : (n : ℕ) (ws : List ℕ) (o w : ℕ) → next s p ≡ Ok (Write o w)
      → runs s (suc n) p b ws ≡ joined 0 (o ∷ w ∷ []) (runs s n (after p 0) b ws)
  unfolding runs
  run_write n ws o w e = rw e

module _ (s : List ℕ) (p : Parked) (b ws : List ℕ) (n : ℕ) where
  pub outcome_wrong : wrong p (length s) (length b) ≡ true → run_outcome s n p b ws ≡ without_access (says 11 []) p b
  unfolding run_outcome
  outcome_wrong e = rw e

  pub outcome_right : wrong p (length s) (length b) ≡ false → run_outcome s n p b ws ≡ runs s n p b ws
  unfolding run_outcome
  outcome_right e = rw e
