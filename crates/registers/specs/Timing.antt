-- Document 01, config.rs: '`timing_bits` returns an explicit timing as given. Otherwise q = ((clock/2)/(PRESC+1))/speed, each division rounded down', to 'q at
-- least 7'; answer 7; and 'Added: the SCL period of a timing word'.
use Rattle.std.specs.Prelude.{ℕ, cond, leb, ◌+◌, ◌-◌, ◌*◌, ◌/◌, min, Option, None, Some, Result, Ok, Err, [], ◌∷◌, eqb, ltb}
use Rattle.registers.specs.declared.timing.Mode.{Mode}
use Rattle.registers.specs.declared.config.Config.{Config}
use Rattle.registers.specs.Layout.{SCLL, SCLH, SDADEL, SCLDEL, PRESC, ◌⟨◌≔◌⟩, ◌⟨◌⟩}
use Rattle.registers.specs.declared.answers.Refusal.{Refusal}
use Rattle.registers.specs.Answers.{Said, says, said, answer_of}

-- up to 100,000, and above
abbrev pub mode_of : ℕ → Mode
mode_of speed =
    cond (leb speed 100000)
    (record { presc = 3; least = 5; shorter = 4; sdadel = 2; scldel = 4 })
    (record { presc = 1; least = 7; shorter = 6; sdadel = 1; scldel = 3 })

-- each division rounded down
abbrev pub quotient : ℕ → ℕ → ℕ → ℕ
quotient clock presc speed = clock / 2 / (presc + 1) / speed

abbrev pub timing_word : ℕ → ℕ → ℕ → ℕ → ℕ → ℕ
timing_word presc scldel sdadel sclh scll =
    0 ⟨ PRESC ≔ presc ⟩ ⟨ SCLDEL ≔ scldel ⟩ ⟨ SDADEL ≔ sdadel ⟩ ⟨ SCLH ≔ sclh ⟩ ⟨ SCLL ≔ scll ⟩

abbrev pub mode_word : Mode → ℕ → ℕ
mode_word m scll = timing_word m.presc m.scldel m.sdadel (scll - m.shorter) scll

-- answer 7 where the quotient is too small
abbrev pub at_quotient : Mode → ℕ → Said
at_quotient m q = cond (ltb q m.least) (says 7 []) (says 0 (mode_word m (min (q - 1) 255) ∷ []))

abbrev pub at_speed : ℕ → ℕ → Said
at_speed clock speed = cond (eqb speed 0) (says 7 []) (at_quotient (mode_of speed) (quotient clock (mode_of speed).presc speed))

abbrev pub from_speed : Option ℕ → ℕ → Said
from_speed None clock = says 7 []
from_speed (Some speed) clock = at_speed clock speed

abbrev pub from_timing : Option ℕ → Option ℕ → ℕ → Said
from_timing (Some word) speed clock = says 0 (word ∷ [])
from_timing None speed clock = from_speed speed clock

-- `timing_bits`: an explicit timing as given, else the word for the speed
unfoldable pub timing_bits : Config → ℕ → Said
timing_bits c clock = from_timing c.timing c.speed clock

abbrev pub said_timing : Result ℕ Refusal → Said
said_timing (Ok word) = says 0 (word ∷ [])
said_timing (Err refusal) = said (answer_of refusal)

-- the SCL period of a timing word, in clock cycles
unfoldable pub period : ℕ → ℕ
period word = (word ⟨ PRESC ⟩ + 1) * (word ⟨ SCLL ⟩ + word ⟨ SCLH ⟩ + 2)
