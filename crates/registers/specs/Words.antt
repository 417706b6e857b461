-- Document 01, 'Register words': 'A `modify` is a read, then a write. A `write` starts from 0, for ISR from 1.' And of the drivers: 'An address is 8 bits
-- and is shifted in 8', '16 leaves 0 in DNF', 'OA1 7..1 holds the low 7 bits'. These are the words that the drivers form; a `modify` puts fields into the word read.
use Rattle.std.specs.Prelude.{ℕ, ◌*◌, ◌%◌, Bool, not, ◌&&◌, ltb, leb}
use Rattle.registers.specs.Field.{digit}
use Rattle.registers.specs.Layout.{PE, TXIE, RXIE, ADDRIE, NACKIE, STOPIE, TCIE, ERRIE, DNF, ANFOFF, SBC, SADD, RD-WRN, START, STOP, NACK, NBYTES, RELOAD, AUTOEND, OA1, OA1-7-1, OA1MODE, OA1EN, OA2, OA2MSK, OA2EN, TXE, RXDATA, TXDATA, Name, ◌⟨◌≔◌⟩, ◌⟨◌⟩, ◌has◌}

-- CR1: PE, at construction and by the watchdog
abbrev pub powered : ℕ → Bool → ℕ
powered cr1 on = cr1 ⟨ PE ≔ digit on ⟩

-- CR1 of construction: DNF keeps the low four bits of the filter
unfoldable pub configured : ℕ → ℕ → Bool → ℕ
configured cr1 digital analog = cr1 ⟨ PE ≔ 1 ⟩ ⟨ DNF ≔ digital ⟩ ⟨ ANFOFF ≔ digit (not analog) ⟩

-- CR1 of the non-blocking `listen` and `unlisten`
unfoldable pub interrupts : ℕ → Bool → ℕ
interrupts cr1 on =
    cr1 ⟨ TXIE ≔ digit on ⟩ ⟨ RXIE ≔ digit on ⟩ ⟨ ADDRIE ≔ digit on ⟩ ⟨ NACKIE ≔ digit on ⟩ ⟨ STOPIE ≔ digit on ⟩ ⟨ TCIE ≔ digit on ⟩ ⟨ ERRIE ≔ digit on ⟩

-- CR1 of the blocking `listen` and `unlisten`, by event
abbrev pub address_interrupt : ℕ → Bool → ℕ
address_interrupt cr1 on = cr1 ⟨ ADDRIE ≔ digit on ⟩

abbrev pub receive_interrupt : ℕ → Bool → ℕ
receive_interrupt cr1 on = cr1 ⟨ RXIE ≔ digit on ⟩

-- CR1 of `slave_sbc` and of construction with an own address
abbrev pub byte_control : ℕ → Bool → ℕ
byte_control cr1 on = cr1 ⟨ SBC ≔ digit on ⟩

-- SADD: the address one place up. The non-blocking driver has 16 bits for it, the blocking one 8, so that 0x80 gives 0
abbrev pub sadd16 : ℕ → ℕ
sadd16 address = 2 * address

abbrev pub sadd8 : ℕ → ℕ
sadd8 address = 2 * address % 256

-- CR2: an address sequence has not ended yet
abbrev pub starting : ℕ → Bool
starting cr2 = cr2 has START

-- CR2 of a start, in the word read; the second half of a `write_read` is a read put into 0
unfoldable pub started : ℕ → ℕ → ℕ → Bool → Bool → ℕ
started cr2 sadd nbytes read autoend =
    cr2 ⟨ START ≔ 1 ⟩ ⟨ NBYTES ≔ nbytes ⟩ ⟨ SADD ≔ sadd ⟩ ⟨ RD-WRN ≔ digit read ⟩ ⟨ AUTOEND ≔ digit autoend ⟩ ⟨ RELOAD ≔ 0 ⟩

-- the bytes of a call that sends or receives are 1 to 255
abbrev pub length_allowed : ℕ → Bool
length_allowed n = ltb 0 n && leb n 255

-- CR2 of a slave's transfer: RELOAD while it receives
unfoldable pub sized : ℕ → ℕ → Bool → ℕ
sized cr2 nbytes reload = cr2 ⟨ NBYTES ≔ nbytes ⟩ ⟨ RELOAD ≔ digit reload ⟩

-- CR2 at TCR: the next byte is not acknowledged
unfoldable pub nack_next_byte : ℕ → ℕ
nack_next_byte cr2 = cr2 ⟨ NACK ≔ 1 ⟩ ⟨ NBYTES ≔ 1 ⟩

-- CR2 at a short TC
abbrev pub with_stop : ℕ → ℕ
with_stop cr2 = cr2 ⟨ STOP ≔ 1 ⟩

-- OAR1 with an address of seven bits; the blocking driver also writes it with OA1MODE set, and `set_address` first with OA1EN clear
unfoldable pub own_seven : ℕ → Bool → Bool → ℕ
own_seven address mode enabled = 0 ⟨ OA1-7-1 ≔ address ⟩ ⟨ OA1MODE ≔ digit mode ⟩ ⟨ OA1EN ≔ digit enabled ⟩

-- OAR1 with ten bits, of the non-blocking driver
unfoldable pub own_ten : ℕ → ℕ
own_ten address = 0 ⟨ OA1 ≔ address ⟩ ⟨ OA1MODE ≔ 1 ⟩ ⟨ OA1EN ≔ 1 ⟩

-- OAR2
unfoldable pub own_second : ℕ → ℕ → ℕ
own_second address mask = 0 ⟨ OA2MSK ≔ mask ⟩ ⟨ OA2 ≔ address ⟩ ⟨ OA2EN ≔ 1 ⟩

-- ISR: the write that empties TXDR
abbrev pub flushed : ℕ
flushed = 1 ⟨ TXE ≔ 1 ⟩

-- ICR: the flag at this place is cleared
abbrev pub cleared : Name → ℕ
cleared flag = 0 ⟨ flag ≔ 1 ⟩

-- TXDR with a byte, and the byte of an RXDR word
abbrev pub sent : ℕ → ℕ
sent byte = 0 ⟨ TXDATA ≔ byte ⟩

abbrev pub received : ℕ → ℕ
received rxdr = rxdr ⟨ RXDATA ⟩
