-- Document 01: ISR's DIR and ADDCODE, with 'direction (0 when DIR is set, else 1)'; and the events of the blocking `listen`, by number. The order of the
-- flags is in `FlagOrder`.
use Rattle.std.specs.Prelude.{ℕ, cond, ltb}
use Rattle.registers.specs.Layout.{DIR, ADDCODE, ◌⟨◌⟩, ◌has◌}
use Rattle.registers.specs.declared.isr.Event.{Event}
use Rattle.registers.specs.declared.isr.Event.TheVariants.{AddressMatch, Rxne}

-- 0 when DIR is set, where the master that addressed this slave reads; else 1
unfoldable pub direction_of : ℕ → ℕ
direction_of isr = cond (isr has DIR) 0 1

-- the address that the master sent
abbrev pub address_code : ℕ → ℕ
address_code isr = isr ⟨ ADDCODE ⟩

-- 0: an address match; every other number: a byte received
abbrev pub event_of : ℕ → Event
event_of n = cond (ltb 0 n) Rxne AddressMatch
