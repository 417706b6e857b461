-- Document 01, blocking.rs, which leaves the accesses before the first wait to the original: a master looks at START, `read` drops RXDR, `write_read` empties TXDR,
-- a slave sets its length. How each kind of call opens, which access each step wants, and the phase after it.
use Rattle.std.specs.Prelude.{ℕ, ◌+◌, true, false, cond}
use Rattle.registers.specs.Layout.{Register, CR2, ISR, ICR, RXDR, offset, ADDR, RXNE, ◌has◌}
use Rattle.registers.specs.Words.{started, sized, starting, sadd8, flushed, cleared}
use Rattle.parked.specs.declared.kinds.Kind.{Kind}
use Rattle.parked.specs.declared.kinds.Kind.TheVariants.{Write, Read, WriteRead, ReadBack, SlaveWrite, SlaveRead, SlaveWaitAddressed}
use Rattle.parked.specs.declared.phases.Opening.{Opening}
use Rattle.parked.specs.declared.phases.Opening.TheVariants.{Start, Drain, Modify, Setup, Flush, Release, Probe, Drop}
use Rattle.parked.specs.declared.phases.Phase.{Phase}
use Rattle.parked.specs.declared.phases.Phase.TheVariants.{Open, Wait, Listen}
use Rattle.parked.specs.declared.next_access.Next.{Next}
use Rattle.parked.specs.declared.next_access.Next.TheVariants.{Read as ReadNext, Write as WriteNext}
use Rattle.parked.specs.declared.Parked.{Parked}

abbrev pub read_of : Register → Next
read_of r = ReadNext (offset r) false

abbrev pub write_of : Register → ℕ → Next
write_of r word = WriteNext (offset r + 0x100) word

-- the first access: a master looks at START, a slave sets its length, `slave_wait_addressed` looks for ADDR
abbrev pub opening : Kind → Phase
opening Write = Open Start
opening Read = Open Start
opening WriteRead = Open Start
opening ReadBack = Open Start
opening SlaveWrite = Open Modify
opening SlaveRead = Open Modify
opening SlaveWaitAddressed = Listen

-- START is clear: a read drops what RXDR holds, a write_read empties TXDR
abbrev pub after_start : Kind → Opening
after_start Write = Modify
after_start Read = Drain
after_start WriteRead = Flush
after_start ReadBack = Modify
after_start SlaveWrite = Modify
after_start SlaveRead = Modify
after_start SlaveWaitAddressed = Modify

-- CR2 of the set-up, in the word that the `modify` read; a write_read writes it, from 0
abbrev pub setup_word : Kind → ℕ → ℕ → ℕ → ℕ → ℕ
setup_word Write cr2 sadd n m = started cr2 sadd n false true
setup_word Read cr2 sadd n m = started cr2 sadd m true true
setup_word WriteRead cr2 sadd n m = started cr2 sadd n false false
setup_word ReadBack cr2 sadd n m = started cr2 sadd m true true
setup_word SlaveWrite cr2 sadd n m = sized cr2 n false
setup_word SlaveRead cr2 sadd n m = sized cr2 m true
setup_word SlaveWaitAddressed cr2 sadd n m = cr2

-- a master waits; a slave that sends empties TXDR; then it releases the clock
abbrev pub after_setup : Kind → Phase
after_setup Write = Wait
after_setup Read = Wait
after_setup WriteRead = Wait
after_setup ReadBack = Wait
after_setup SlaveWrite = Open Flush
after_setup SlaveRead = Open Release
after_setup SlaveWaitAddressed = Wait

abbrev pub after_flush : Kind → Opening
after_flush Write = Release
after_flush Read = Release
after_flush WriteRead = Setup 0
after_flush ReadBack = Release
after_flush SlaveWrite = Release
after_flush SlaveRead = Release
after_flush SlaveWaitAddressed = Release

-- `flush_rxdr` in `slave_read`
abbrev pub after_release : Kind → Phase
after_release Write = Wait
after_release Read = Wait
after_release WriteRead = Wait
after_release ReadBack = Wait
after_release SlaveWrite = Wait
after_release SlaveRead = Open Probe
after_release SlaveWaitAddressed = Wait

abbrev pub opening_access : Opening → Parked → Next
opening_access Start p = read_of CR2
opening_access Drain p = read_of RXDR
opening_access Modify p = read_of CR2
opening_access (Setup cr2) p = write_of CR2 (setup_word p.kind cr2 (sadd8 p.address) p.send p.receive)
opening_access Flush p = write_of ISR flushed
opening_access Release p = write_of ICR (cleared ADDR)
opening_access Probe p = read_of ISR
opening_access Drop p = read_of RXDR

abbrev pub after_opening : Opening → Kind → ℕ → Phase
after_opening Start k w = cond (starting w) (Open Start) (Open (after_start k))
after_opening Drain k w = Open Modify
after_opening Modify k w = Open (Setup w)
after_opening (Setup cr2) k w = after_setup k
after_opening Flush k w = Open (after_flush k)
after_opening Release k w = after_release k
after_opening Probe k w = cond (w has RXNE) (Open Drop) Wait
after_opening Drop k w = Wait
