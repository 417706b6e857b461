-- Document 01, blocking.rs: 'An address is 8 bits and is shifted in 8', 'At STOPF it also reads ISR twice for `flush_txdr`'. The access that a parked call wants
-- next, by the first number of its log entry; or why none follows.
use Rattle.std.specs.Prelude.{ℕ, Bool, true, false, cond, ltb, Result, Ok, Err}
use Rattle.registers.specs.Layout.{CR2, ISR, ICR, RXDR, TXDR, offset, BERR, ARLO, NACKF, STOPF}
use Rattle.registers.specs.Words.{started, nack_next_byte, sadd8, flushed, cleared, sent}
use Rattle.parked.specs.declared.phases.End.{End}
use Rattle.parked.specs.declared.phases.Phase.{Phase}
use Rattle.parked.specs.declared.phases.Phase.TheVariants.{Open, Wait, Transfer, Restart, TcrFound, NackNextByte, ClearBerr, ClearArlo, ClearNackf, ClearStopf, FlushTxis, FlushDummy, FlushTxe, FlushEmpty, Listen, Code, Ended}
use Rattle.parked.specs.declared.next_access.Next.{Next}
use Rattle.parked.specs.declared.next_access.Next.TheVariants.{Read}
use Rattle.parked.specs.declared.Parked.{Parked}
use Rattle.parked.specs.Kinds.{incoming}
use Rattle.parked.specs.Opening.{read_of, write_of, opening_access}

-- the length that the count counts to
unfoldable pub span : Parked → ℕ
span p = cond (incoming p.kind) p.receive p.send

-- a byte is left to send, or a place to fill
unfoldable pub more : Parked → Bool
more p = ltb p.count (span p)

-- a byte comes in, and goes to the buffer while a place is left; or it goes out
abbrev pub byte_access : Bool → Bool → ℕ → Next
byte_access true keep byte = Read (offset RXDR) keep
byte_access false keep byte = write_of TXDR (sent byte)

abbrev pub access_at : Phase → Parked → ℕ → Result Next End
access_at (Open step) p byte = Ok (opening_access step p)
access_at Wait p byte = Ok (read_of ISR)
access_at Transfer p byte = Ok (byte_access (incoming p.kind) (more p) byte)
access_at Restart p byte = Ok (write_of CR2 (started 0 (sadd8 p.address) p.receive true true))
access_at TcrFound p byte = Ok (read_of CR2)
access_at (NackNextByte cr2) p byte = Ok (write_of CR2 (nack_next_byte cr2))
access_at ClearBerr p byte = Ok (write_of ICR (cleared BERR))
access_at ClearArlo p byte = Ok (write_of ICR (cleared ARLO))
access_at ClearNackf p byte = Ok (write_of ICR (cleared NACKF))
access_at ClearStopf p byte = Ok (write_of ICR (cleared STOPF))
-- `flush_txdr`: two reads of ISR, each with its write
access_at FlushTxis p byte = Ok (read_of ISR)
access_at FlushDummy p byte = Ok (write_of TXDR (sent 0))
access_at FlushTxe p byte = Ok (read_of ISR)
access_at FlushEmpty p byte = Ok (write_of ISR flushed)
access_at Listen p byte = Ok (read_of ISR)
access_at Code p byte = Ok (read_of ISR)
access_at (Ended end) p byte = Err end

-- `byte` is the one to send at the count
unfoldable pub next_access : Parked → ℕ → Result Next End
next_access p byte = access_at p.phase p byte
