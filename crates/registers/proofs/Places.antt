-- Document 01's list of fields once more: the first bit and the width of each, register by register. ADD10, with which no word is formed, stands in
-- no contract, so its constant is held here.
use Prim.Native.Nat.{ℕ}
use mathlib.Core.Path.{◌≡◌, refl}
use mathlib.Core.List.{[], ◌∷◌, map}
use Rattle.registers.specs.declared.cr2.TheConstants.Cr2
use Rattle.registers.specs.Layout.{Name, field_of}
use Rattle.registers.specs.Layout.{PE, TXIE, RXIE, ADDRIE, NACKIE, STOPIE, TCIE, ERRIE, DNF, ANFOFF, SBC}
use Rattle.registers.specs.Layout.{SADD, RD-WRN, ADD10, START, STOP, NACK, NBYTES, RELOAD, AUTOEND}
use Rattle.registers.specs.Layout.{OA1, OA1-7-1, OA1MODE, OA1EN, OA2, OA2MSK, OA2EN, SCLL, SCLH, SDADEL, SCLDEL, PRESC}
use Rattle.registers.specs.Layout.{TXE, TXIS, RXNE, ADDR, NACKF, STOPF, TC, TCR, BERR, ARLO, DIR, ADDCODE, RXDATA, TXDATA}

abbrev at : Name → ℕ × ℕ
at name = ((field_of name).place, (field_of name).width)

cr1 : map at (PE ∷ TXIE ∷ RXIE ∷ ADDRIE ∷ NACKIE ∷ STOPIE ∷ TCIE ∷ ERRIE ∷ DNF ∷ ANFOFF ∷ SBC ∷ [])
    ≡ (0, 1) ∷ (1, 1) ∷ (2, 1) ∷ (3, 1) ∷ (4, 1) ∷ (5, 1) ∷ (6, 1) ∷ (7, 1) ∷ (8, 4) ∷ (12, 1) ∷ (16, 1) ∷ []
cr1 = refl

cr2 : map at (SADD ∷ RD-WRN ∷ ADD10 ∷ START ∷ STOP ∷ NACK ∷ NBYTES ∷ RELOAD ∷ AUTOEND ∷ [])
    ≡ (0, 10) ∷ (10, 1) ∷ (11, 1) ∷ (13, 1) ∷ (14, 1) ∷ (15, 1) ∷ (16, 8) ∷ (24, 1) ∷ (25, 1) ∷ []
cr2 = refl

own_addresses_lem : map at (OA1 ∷ OA1-7-1 ∷ OA1MODE ∷ OA1EN ∷ OA2 ∷ OA2MSK ∷ OA2EN ∷ []) ≡ (0, 10) ∷ (1, 7) ∷ (10, 1) ∷ (15, 1) ∷ (1, 7) ∷ (8, 3) ∷ (15, 1) ∷ []
own_addresses_lem = refl

timingr : map at (SCLL ∷ SCLH ∷ SDADEL ∷ SCLDEL ∷ PRESC ∷ []) ≡ (0, 8) ∷ (8, 8) ∷ (16, 4) ∷ (20, 4) ∷ (28, 4) ∷ []
timingr = refl

isr : map at (TXE ∷ TXIS ∷ RXNE ∷ ADDR ∷ NACKF ∷ STOPF ∷ TC ∷ TCR ∷ BERR ∷ ARLO ∷ DIR ∷ ADDCODE ∷ [])
    ≡ (0, 1) ∷ (1, 1) ∷ (2, 1) ∷ (3, 1) ∷ (4, 1) ∷ (5, 1) ∷ (6, 1) ∷ (7, 1) ∷ (8, 1) ∷ (9, 1) ∷ (16, 1) ∷ (17, 7) ∷ []
isr = refl

bytes : map at (RXDATA ∷ TXDATA ∷ []) ≡ (0, 8) ∷ (0, 8) ∷ []
bytes = refl

-- the code's own ADD10
add10_lem : Cr2.ADD10 ≡ field_of ADD10
add10_lem = refl
