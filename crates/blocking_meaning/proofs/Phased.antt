-- The access that a call wants at the two phases of a transfer, and the length that its count counts to.
use Prim.Native.Nat.{ℕ, ◌+◌}
use mathlib.Core.Path.{◌≡◌, refl, ◌∙◌}
use mathlib.Core.Bool.{Bool, true, false, cond}
use mathlib.Core.List.{List}
use lib.ListN.{get_or}
use Rattle.std.specs.Prelude.{Ok, Some}
use Rattle.parked.specs.declared.busy_wait.Wanted.{Wanted}
use Rattle.parked.specs.declared.busy_wait.Wanted.TheVariants.{Txis, Rxne}
use Rattle.parked.specs.declared.busy_wait.Found.TheVariants.{Wanted as Met}
use Rattle.registers.specs.Layout.{ISR, RXDR, TXDR, offset, ◌has◌}
use Rattle.registers.specs.Words.{sent}
use Rattle.parked.specs.BusyWait.{wanted_name, found_in}
use Rattle.parked.specs.declared.phases.Phase.{Phase}
use Rattle.parked.specs.declared.phases.Phase.TheVariants.{Wait, Transfer}
use Rattle.parked.specs.declared.next_access.Next.TheVariants.{Read, Write}
use Rattle.parked.specs.declared.Parked.{Parked}
use Rattle.parked.specs.Kinds.{incoming, pads}
use Rattle.parked.specs.NextAccess.{more}
use Rattle.parked.specs.BusyWait.{wanted, after_found}
use Rattle.parked.proofs.HandedOn.{access_at_lem}
use Rattle.blocking_meaning.specs.Run.{next}

module _ (s : List ℕ) (p : Parked) where
  pub next_wait : p.phase ≡ Wait → next s p ≡ Ok (Read (offset ISR) false)
  next_wait e = access_at_lem p _ Wait e

  pub next_in : p.phase ≡ Transfer → incoming p.kind ≡ true → next s p ≡ Ok (Read (offset RXDR) (more p))
  next_in e i = access_at_lem p _ Transfer e ∙ rw i

  pub next_out : p.phase ≡ Transfer → incoming p.kind ≡ false → next s p ≡ Ok (Write (offset TXDR + 0x100) (sent (get_or s p.count 0x21)))
  next_out e i = access_at_lem p _ Transfer e ∙ rw i

module _ (p : Parked) where
  pub wanted_in : incoming p.kind ≡ true → wanted p ≡ Rxne
  unfolding wanted
  wanted_in i = rw i

  pub wanted_out : incoming p.kind ≡ false → more p ≡ true → wanted p ≡ Txis
  unfolding wanted
  wanted_out i m = rw (i, m)

same : (t : Bool) (f : Phase) → cond t f f ≡ f
same true f = refl
same false f = refl

found_more : (p : Parked) → more p ≡ true → after_found (Some Met) p ≡ Transfer
found_more p m = rw m (same (pads p.kind) Transfer)

pub met : (w : ℕ) (f : Wanted) → w has wanted_name f ≡ true → found_in w f ≡ Some Met
unfolding found_in
met w f e = rw e

-- the wanted flag is found while a byte is left
pub found_byte : (p : Parked) (w : ℕ) (f : Wanted) → wanted p ≡ f → found_in w f ≡ Some Met → more p ≡ true → after_found (found_in w (wanted p)) p ≡ Transfer
found_byte p w f e h m = rw (e, h) (found_more p m)
