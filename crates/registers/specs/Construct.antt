-- Construction, as both files of the original have it, but for the OAR1 word: 'With `address_11bits` OA1 7..1 holds the low 7 bits' in the blocking driver, ten
-- bits in the other (document 01, blocking.rs and the bench table). '7 goes before 9.'
use Rattle.std.specs.Prelude.{ℕ, Bool, true, false, List, cond, [], ◌∷◌, ◌++◌, ltb, length, get_or}
use Rattle.registers.specs.declared.config.Config.{Config}
use Rattle.registers.specs.CallLog.{CallOutcome, Access, read, write, refused_call, tried_accesses}
use Rattle.registers.specs.Words.{own_seven, own_ten, powered, configured, byte_control, own_second}
use Rattle.registers.specs.Layout.{Register, CR1, OAR1, OAR2, TIMINGR}
use Rattle.registers.specs.Answers.{says}
use Rattle.registers.specs.Config.{mask_number}
use Rattle.registers.specs.Timing.{timing_bits}

-- an own address above 0: its register, then slave byte control
abbrev pub own_address : Bool → Register → ℕ → ℕ → List Access
own_address false r word cr1 = []
own_address true r word cr1 = write r word ∷ read CR1 cr1 ∷ write CR1 (byte_control cr1 true) ∷ []

-- the addresses are tested before their fields mask them
abbrev pub own_addresses : Bool → Bool → ℕ → ℕ → List ℕ → List Access
own_addresses first second oar1 oar2 words =
    own_address first OAR1 oar1 (get_or words 2 0) ++ own_address second OAR2 oar2 (get_or words (cond first 3 2) 0)

-- the unit off, its timing, the unit on with its filters, and the own addresses
abbrev pub set_up_accesses : Config → ℕ → ℕ → List ℕ → List Access
set_up_accesses c timing oar1 words =
    read CR1 (get_or words 0 0)
    ∷ write CR1 (powered (get_or words 0 0) false)
    ∷ write TIMINGR timing
    ∷ read CR1 (get_or words 1 0)
    ∷ write CR1 (configured (get_or words 1 0) c.digital_filter c.analog_filter)
    ∷ own_addresses (ltb 0 c.slave_address_1) (ltb 0 c.slave_address_2) oar1 (own_second c.slave_address_2 (mask_number c.slave_address_mask)) words

-- 7 goes before 9, with no access
abbrev pub with_timing : List ℕ → Config → ℕ → List ℕ → ℕ → CallOutcome
with_timing [] c oar1 words places = refused_call 7
with_timing (timing ∷ _) c oar1 words places = tried_accesses (says 0 []) (set_up_accesses c timing oar1 words) (length words) places

unfoldable pub set_up : Config → ℕ → ℕ → List ℕ → ℕ → CallOutcome
set_up c clock oar1 words places = with_timing (timing_bits c clock).values c oar1 words places

-- OAR1 of the non-blocking driver: ten bits of an address of eleven, else seven
abbrev pub own_ten_or_seven : Bool → ℕ → ℕ
own_ten_or_seven true address = own_ten address
own_ten_or_seven false address = own_seven address false true

abbrev pub non_blocking_construction : Config → ℕ → List ℕ → ℕ → CallOutcome
non_blocking_construction c clock words places = set_up c clock (own_ten_or_seven c.address_11bits c.slave_address_1) words places

-- OAR1 of the blocking driver: the low seven bits of the own address, in ten-bit mode too
abbrev pub blocking_construction : Config → ℕ → List ℕ → ℕ → CallOutcome
blocking_construction c clock words places = set_up c clock (own_seven c.slave_address_1 c.address_11bits true) words places
