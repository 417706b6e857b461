-- Document 01: 'Calls of the blocking driver that never wait follow the non-blocking rule for 9 and 10', '`slave_addressed` takes code and direction from a second
-- ISR read'. A missing word reads as 0.
use Rattle.std.specs.Prelude.{ℕ, cond, List, [], ◌∷◌, length, get_or, Bool}
use Rattle.registers.specs.Answers.{says}
use Rattle.registers.specs.CallLog.{read, CallOutcome, tried_accesses, Access, write}
use Rattle.registers.specs.Layout.{ISR, ADDR, ◌has◌, CR1, ICR}
use Rattle.registers.specs.Isr.{address_code, direction_of}
use Rattle.registers.specs.Words.{byte_control, address_interrupt, receive_interrupt, cleared}
use Rattle.registers.specs.declared.isr.Event.{Event}
use Rattle.registers.specs.declared.isr.Event.TheVariants.{AddressMatch, Rxne}

-- ADDR in the first read: code and direction are those of the second; else pending
abbrev pub slave_addressed : List ℕ → ℕ → CallOutcome
slave_addressed words places =
    let w : ℕ = get_or words 0 0 in
    let v : ℕ = get_or words 1 0 in
    cond (w has ADDR)
    (tried_accesses (says 0x41 (address_code v ∷ direction_of v ∷ [])) (read ISR w ∷ read ISR v ∷ []) (length words) places)
    (tried_accesses (says 1 []) (read ISR w ∷ []) (length words) places)

-- a `modify` of CR1
abbrev pub modified : (ℕ → ℕ) → List ℕ → ℕ → CallOutcome
modified word words places =
    let w : ℕ = get_or words 0 0 in tried_accesses (says 0 []) (read CR1 w ∷ write CR1 (word w) ∷ []) (length words) places

abbrev pub slave_sbc : Bool → List ℕ → ℕ → CallOutcome
slave_sbc on words places = modified (λ w. byte_control w on) words places

abbrev pub interrupt_word : Event → ℕ → Bool → ℕ
interrupt_word AddressMatch cr1 on = address_interrupt cr1 on
interrupt_word Rxne cr1 on = receive_interrupt cr1 on

-- `listen` and `unlisten`
abbrev pub interrupt : Event → Bool → List ℕ → ℕ → CallOutcome
interrupt event on words places = modified (λ w. interrupt_word event w on) words places

-- nothing is done for Rxne
abbrev pub clear_accesses : Event → List Access
clear_accesses AddressMatch = write ICR (cleared ADDR) ∷ []
clear_accesses Rxne = []

abbrev pub clear_irq : Event → ℕ → CallOutcome
clear_irq event places = tried_accesses (says 0 []) (clear_accesses event) 0 places
