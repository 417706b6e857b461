-- The tables of a parked call at a known phase.
use Prim.Native.Nat.{ℕ, ◌+◌}
use mathlib.Core.Path.{◌≡◌, ap}
use mathlib.Core.Bool.{cond}
use Rattle.parked.specs.declared.phases.Phase.{Phase}
use Rattle.parked.specs.declared.phases.Phase.TheVariants.{Wait, Transfer}
use Rattle.parked.specs.declared.Parked.{Parked}
use Rattle.parked.specs.BusyWait.{found_in}
use Rattle.parked.specs.NextAccess.{more, next_access, access_at}
use Rattle.parked.specs.BusyWait.{after_found, wanted}
use Rattle.parked.specs.After.{second_half_begins, byte_moves, after}

pub access_at_lem : (p : Parked) (byte : ℕ) (f : Phase) → p.phase ≡ f → next_access p byte ≡ access_at f p byte
unfolding next_access
access_at_lem p byte f e = ap (λ (g : Phase). access_at g p byte) e

-- the call after its access at the two phases of a transfer
abbrev pub at_phase : Parked → Phase → ℕ → Parked
at_phase p f n = record { kind = p.kind; address = p.address; send = p.send; receive = p.receive; phase = f; count = n }

pub after_wait : (p : Parked) (w : ℕ) → p.phase ≡ Wait → after p w ≡ at_phase p (after_found (found_in w (wanted p)) p) p.count
unfolding after second_half_begins byte_moves
after_wait p w e = rw e

pub after_byte : (p : Parked) (w : ℕ) → p.phase ≡ Transfer → after p w ≡ at_phase p Wait (cond (more p) (p.count + 1) p.count)
unfolding after second_half_begins byte_moves
after_byte p w e = rw e
