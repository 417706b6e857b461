-- The wait's read that finds the flag of a byte.
use Prim.Native.Nat.{ℕ, ◌+◌, ◌<◌}
use mathlib.Core.Path.{◌≡◌, refl, ap, ◌∙◌, subst}
use mathlib.Core.Bool.{Bool, true, false, cond}
use mathlib.Core.List.{List, [], ◌∷◌}
use native.Mathlib.Omega.{arith}
use lib.ListN.{length, get_or}
use Rattle.registers.specs.Layout.{ISR, RXNE, TXIS, offset, field_of, ◌has◌}
use Rattle.parked.specs.declared.Parked.{Parked}
use Rattle.parked.specs.declared.busy_wait.Wanted.{Wanted}
use Rattle.parked.specs.declared.busy_wait.Wanted.TheVariants.{Txis, Rxne}
use Rattle.parked.specs.declared.phases.Phase.{Phase}
use Rattle.parked.specs.declared.phases.Phase.TheVariants.{Transfer}
use Rattle.parked.specs.Kinds.{incoming}
use Rattle.parked.specs.NextAccess.{span, more}
use Rattle.parked.specs.BusyWait.{wanted, wanted_name}
use Rattle.parked.proofs.HandedOn.{at_phase, after_wait}
use Rattle.blocking_meaning.proofs.HandedOn.{next_wait, wanted_in, wanted_out, found_byte, met}
use Rattle.blocking.specs.declared.progress.Progress.{Progress}
use Rattle.blocking.specs.Steps.{Flagged, Due, Onward, over_from}
use Rattle.blocking.proofs.Goes.{at, reads}

module _ (ws log : List ℕ) (p : Progress) (d : Due p ws log) where
  abbrev isr : ℕ
  isr = get_or ws p.taken 0

  abbrev log₁ : List ℕ
  log₁ = over_from p.logged (offset ISR ∷ isr ∷ []) log

  abbrev after_flag : Progress
  after_flag = at (at_phase p.parked Transfer p.parked.count) (p.taken + 1) (p.logged + 2)

  read : (s b : List ℕ) (f : Wanted) → wanted p.parked ≡ f → isr has wanted_name f ≡ true → more p.parked ≡ true → p.taken < length ws → Onward s ws p log b after_flag log₁ b
  read s b f e h m k =
      subst (λ (q : Parked). Onward s ws p log b (at q (p.taken + 1) (p.logged + 2)) log₁ b)
      (after_wait p.parked isr d.waits ∙ ap (λ (g : Phase). at_phase p.parked g p.parked.count) (found_byte p.parked isr f e (met isr f h) m))
      (reads s ws log b p (offset ISR) false (next_wait s p.parked d.waits) k (omega (arith, d.room)))

  by : (s b : List ℕ) (t : Bool) → incoming p.parked.kind ≡ t → cond t (Flagged p (field_of RXNE) 2 ws) (Flagged p (field_of TXIS) 1 ws) → Onward s ws p log b after_flag log₁ b
  by s b true i f = read s b Rxne (wanted_in p.parked i) f.set f.left (omega (arith, f.words))
  by s b false i f = read s b Txis (wanted_out p.parked i f.left) f.set f.left (omega (arith, f.words))

  pub flag_carries : (s b : List ℕ) → Onward s ws p log b after_flag log₁ b
  flag_carries s b = by s b (incoming p.parked.kind) refl d.flagged

  all_left : (t : Bool) → cond t (Flagged p (field_of RXNE) 2 ws) (Flagged p (field_of TXIS) 1 ws) → more p.parked ≡ true
  all_left true f = f.left
  all_left false f = f.left

  pub left : more after_flag.parked ≡ true
  unfolding more span
  left = all_left (incoming p.parked.kind) d.flagged
