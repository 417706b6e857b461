-- Document 01, row 12. No link that calls leave is impossible: after any history from a link as constructed, with arguments that the code's types
-- can hold, no call answers 12. So 12 tells of a link that somebody else wrote.
use Rattle.std.specs.Prelude.{◌≤◌, ◌≡◌, false, List, [], ◌∷◌}
use Rattle.registers.specs.Answers.{says}
use Rattle.nonblocking_meaning.specs.Link.{fresh, impossible}
use Rattle.nonblocking_meaning.specs.Call.{Call, Step, master_write, master_write_read, master_read, slave_write, check_isr_flags, execute_watchdog, get_errors_reset, master_get_data, slave_get_data, get_address, listen, unlisten, slave_sbc, set_address}
use Rattle.nonblocking_meaning.specs.Outcome.{outcome}
use Rattle.nonblocking_meaning.specs.EqualEnding.{ran}

-- the code has a read length in eight bits; any address and any bytes will do
abbrev pub Fits : Call → Type 0
Fits (master_write address bytes) = Unit {0}
Fits (master_write_read address bytes n) = n ≤ 255
Fits (master_read address n) = n ≤ 255
Fits (slave_write bytes) = Unit {0}
Fits check_isr_flags = Unit {0}
Fits execute_watchdog = Unit {0}
Fits get_errors_reset = Unit {0}
Fits master_get_data = Unit {0}
Fits slave_get_data = Unit {0}
Fits get_address = Unit {0}
Fits listen = Unit {0}
Fits unlisten = Unit {0}
Fits (slave_sbc on) = Unit {0}
Fits (set_address address) = Unit {0}

unfoldable pub AllFit : List Step → Type 0
AllFit [] = Unit {0}
AllFit (s ∷ ss) = Fits s.call × AllFit ss

pub record NeverImpossible : Type 0 where
  pub possible : (history : List Step) → AllFit history → impossible (ran fresh history) ≡ false
  pub answers : (history : List Step) (s : Step) → AllFit history → Fits s.call → (outcome s (ran fresh history)).answer ≡ says 12 [] → ⊥
