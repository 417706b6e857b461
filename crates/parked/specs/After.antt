-- Document 01, blocking.rs: '`slave_addressed` takes code and direction from a second ISR read', as `slave_wait_addressed` does, and `flush_txdr`. The parked call
-- after its access; `w` is the word that the access read, which after a write does not matter.
use Rattle.std.specs.Prelude.{ℕ, ◌+◌, Bool, false, cond}
use Rattle.registers.specs.Layout.{TXE, TXIS, ADDR, ◌has◌}
use Rattle.parked.specs.declared.kinds.Kind.TheVariants.{ReadBack}
use Rattle.parked.specs.declared.phases.End.TheVariants.{Berr, Arlo, Stopf, Addressed}
use Rattle.parked.specs.declared.phases.CountEffect.{CountEffect}
use Rattle.parked.specs.declared.phases.CountEffect.TheVariants.{Byte, SecondHalf, Unchanged, NoAccess}
use Rattle.parked.specs.declared.phases.Phase.{Phase}
use Rattle.parked.specs.declared.phases.Phase.TheVariants.{Open, Wait, Transfer, Restart, TcrFound, NackNextByte, ClearBerr, ClearArlo, ClearNackf, ClearStopf, FlushTxis, FlushDummy, FlushTxe, FlushEmpty, Listen, Code, Ended}
use Rattle.parked.specs.declared.Parked.{Parked}
use Rattle.parked.specs.Kinds.{restarts}
use Rattle.parked.specs.Phases.{count_effect}
use Rattle.parked.specs.Opening.{after_opening}
use Rattle.parked.specs.NextAccess.{more}
use Rattle.parked.specs.BusyWait.{found_in, wanted, after_found}

-- the phase after the access
abbrev pub phase_at : Phase → Parked → ℕ → Phase
phase_at (Open step) p w = after_opening step p.kind w
phase_at Wait p w = after_found (found_in w (wanted p)) p
phase_at Transfer p w = Wait
phase_at Restart p w = Wait
phase_at TcrFound p w = NackNextByte w
phase_at (NackNextByte cr2) p w = Wait
phase_at ClearBerr p w = Ended Berr
phase_at ClearArlo p w = Ended Arlo
phase_at ClearNackf p w = Wait
phase_at ClearStopf p w = Ended Stopf
phase_at FlushTxis p w = cond (w has TXIS) FlushDummy FlushTxe
phase_at FlushDummy p w = FlushTxe
phase_at FlushTxe p w = cond (w has TXE) FlushEmpty ClearStopf
phase_at FlushEmpty p w = ClearStopf
phase_at Listen p w = cond (w has ADDR) Code Listen
phase_at Code p w = Ended (Addressed w)
phase_at (Ended end) p w = Ended end

abbrev pub begins_as : CountEffect → Bool → Bool
begins_as Byte t = false
begins_as SecondHalf t = t
begins_as Unchanged t = false
begins_as NoAccess t = false

abbrev pub moves_as : CountEffect → Bool → Bool
moves_as Byte t = t
moves_as SecondHalf t = false
moves_as Unchanged t = false
moves_as NoAccess t = false

-- the second half of a `write_read` begins, and counts from 0
unfoldable pub second_half_begins : Parked → Bool
second_half_begins p = begins_as (count_effect p.phase) (restarts p.kind)

-- a byte went out or came in
unfoldable pub byte_moves : Parked → Bool
byte_moves p = moves_as (count_effect p.phase) (more p)

-- the parked call after its access: its phase, and its count; from its second START on a `write_read` is a read
unfoldable pub after : Parked → ℕ → Parked
after p w = record {
  kind = cond (second_half_begins p) ReadBack p.kind;
  address = p.address;
  send = p.send;
  receive = p.receive;
  phase = phase_at p.phase p w;
  count = cond (second_half_begins p) 0 (cond (byte_moves p) (p.count + 1) p.count);
}
