-- Document 01, 'Register words': its list of registers, with the byte offset of each and the first and last bit of each field. The list names RM0444
-- as its source.
use Rattle.std.specs.Prelude.{ℕ, ◌+◌, ◌-◌, Bool, List, [], ◌∷◌, map}
use Rattle.registers.specs.declared.field.Field.{Field}
use Rattle.registers.specs.Field.{get, put, is_set}

pub data Register : Type 0 where
  CR1 CR2 OAR1 OAR2 TIMINGR ISR ICR RXDR TXDR : Register

abbrev pub offset : Register → ℕ
offset CR1 = 0x00
offset CR2 = 0x04
offset OAR1 = 0x08
offset OAR2 = 0x0C
offset TIMINGR = 0x10
offset ISR = 0x18
offset ICR = 0x1C
offset RXDR = 0x24
offset TXDR = 0x28

abbrev pub offsets : List ℕ
offsets = map offset (CR1 ∷ CR2 ∷ OAR1 ∷ OAR2 ∷ TIMINGR ∷ ISR ∷ ICR ∷ RXDR ∷ TXDR ∷ [])

pub data Name : Type 0 where
  PE TXIE RXIE ADDRIE NACKIE STOPIE TCIE ERRIE DNF ANFOFF SBC : Name
  SADD RD-WRN ADD10 START STOP NACK NBYTES RELOAD AUTOEND : Name
  OA1 OA1-7-1 OA1MODE OA1EN : Name
  OA2 OA2MSK OA2EN : Name
  SCLL SCLH SDADEL SCLDEL PRESC : Name
  TXE TXIS RXNE ADDR NACKF STOPF TC TCR BERR ARLO DIR ADDCODE : Name
  RXDATA TXDATA : Name

-- the bits from the first to the last
abbrev pub bits : ℕ → ℕ → Field
bits first last = record { place = first; width = last - first + 1 }

abbrev pub bit : ℕ → Field
bit place = bits place place

abbrev pub field_of : Name → Field
-- CR1
field_of PE = bit 0
field_of TXIE = bit 1
field_of RXIE = bit 2
field_of ADDRIE = bit 3
field_of NACKIE = bit 4
field_of STOPIE = bit 5
field_of TCIE = bit 6
field_of ERRIE = bit 7
field_of DNF = bits 8 11
field_of ANFOFF = bit 12
field_of SBC = bit 16
-- CR2
field_of SADD = bits 0 9
field_of RD-WRN = bit 10
field_of ADD10 = bit 11
field_of START = bit 13
field_of STOP = bit 14
field_of NACK = bit 15
field_of NBYTES = bits 16 23
field_of RELOAD = bit 24
field_of AUTOEND = bit 25
-- OAR1; OA1-7-1 is the part of OA1 that holds an address of seven bits
field_of OA1 = bits 0 9
field_of OA1-7-1 = bits 1 7
field_of OA1MODE = bit 10
field_of OA1EN = bit 15
-- OAR2
field_of OA2 = bits 1 7
field_of OA2MSK = bits 8 10
field_of OA2EN = bit 15
-- TIMINGR
field_of SCLL = bits 0 7
field_of SCLH = bits 8 15
field_of SDADEL = bits 16 19
field_of SCLDEL = bits 20 23
field_of PRESC = bits 28 31
-- ISR; ICR clears a flag at the same place
field_of TXE = bit 0
field_of TXIS = bit 1
field_of RXNE = bit 2
field_of ADDR = bit 3
field_of NACKF = bit 4
field_of STOPF = bit 5
field_of TC = bit 6
field_of TCR = bit 7
field_of BERR = bit 8
field_of ARLO = bit 9
field_of DIR = bit 16
field_of ADDCODE = bits 17 23
-- RXDR and TXDR
field_of RXDATA = bits 0 7
field_of TXDATA = bits 0 7

infixl 80 ◌⟨◌≔◌⟩
infixl 80 ◌⟨◌⟩
infixl 80 ◌has◌
-- the word with a field put: `cr2 ⟨ START ≔ 1 ⟩ ⟨ STOP ≔ 0 ⟩`
abbrev pub ◌⟨◌≔◌⟩ : ℕ → Name → ℕ → ℕ
word ⟨ name ≔ value ⟩ = put word (field_of name) value

-- the field's value: `isr ⟨ ADDCODE ⟩`
abbrev pub ◌⟨◌⟩ : ℕ → Name → ℕ
word ⟨ name ⟩ = get word (field_of name)

-- the bit is set: `isr has BERR`
abbrev pub ◌has◌ : ℕ → Name → Bool
word has name = is_set word (field_of name)
