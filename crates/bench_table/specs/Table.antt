-- Document 01's bench table: one list of cases, with the numbers that each must give.
use Rattle.std.specs.Prelude.{ℕ, ◌+◌, Bool, true, false, cond, Some, None, List, [], ◌∷◌, eqb, replicate}
use Rattle.registers.specs.declared.config.Config.{Config}
use Rattle.registers.specs.declared.config.SlaveAddressMask.TheVariants.{MaskOneBit}
use Rattle.registers.specs.Layout.{Register, offset, OAR1, OAR2}
use Rattle.registers.specs.CallLog.{CallOutcome, entries}
use Rattle.registers.specs.Answers.{Said}
use Rattle.registers.specs.Config.{plain, with_own_address, with_second_address}
use Rattle.registers.specs.Timing.{timing_bits, period}
use Rattle.nonblocking_meaning.specs.Link.{fresh}
use Rattle.nonblocking_meaning.specs.Call.{Step, master_write, check_isr_flags, get_errors_reset}
use Rattle.nonblocking_meaning.specs.Outcome.{outcome}
use Rattle.nonblocking_meaning.specs.EqualEnding.{ran, step_of}
use Rattle.registers.specs.Construct.{non_blocking_construction, blocking_construction}

pub data Driver : Type 0 where
  non_blocking blocking : Driver

-- what a row speaks of
pub data Case : Type 0 where
  -- `timing_bits` at a speed and a clock, in hertz: its answer, and the word where the answer is 0
  timing : ℕ → ℕ → Case
  -- the SCL period of a timing word
  scl_period : ℕ → Case
  -- what a driver writes to a register as it is constructed with a configuration
  constructed : Driver → Config → Register → Case
  -- a non-blocking call after others on a fresh link: its answer with its values
  answer : List Step → Step → Case
  -- and its log: for each access the register's offset, plus 0x100 for a write, then the word
  log : List Step → Step → Case

-- an answer in numbers: its own, or the code of its letter, and its values
abbrev pub in_numbers : Said → List ℕ
in_numbers said = said.number ∷ said.values

-- the words that a log has beside this number
abbrev pub beside : ℕ → List ℕ → List ℕ
beside number [] = []
beside number (n ∷ []) = []
beside number (n ∷ word ∷ rest) = cond (eqb n number) (word ∷ beside number rest) (beside number rest)

abbrev pub construction : Driver → Config → ℕ → List ℕ → ℕ → CallOutcome
construction non_blocking = non_blocking_construction
construction blocking = blocking_construction

-- each register word that construction reads is 0, the clock is 16 MHz, and the log is long enough
abbrev pub construction_log : Driver → Config → List ℕ
construction_log driver config = (construction driver config 16_000_000 (0 ∷ 0 ∷ 0 ∷ 0 ∷ []) 100).numbers

-- what the definitions say of a case
abbrev pub gives : Case → List ℕ
gives (timing speed clock) = in_numbers (timing_bits (plain (Some speed) None) clock)
gives (scl_period word) = period word ∷ []
gives (constructed driver config register) = beside (offset register + 0x100) (construction_log driver config)
gives (answer before call) = in_numbers (outcome call (ran fresh before)).answer
gives (log before call) = entries (outcome call (ran fresh before)).accesses

-- a configuration that has an own address, in ten bits or not; one that has a second address with one bit masked
abbrev pub own : ℕ → Bool → Config
own address ten_bits = with_own_address address ten_bits (plain (Some 100_000) None)

abbrev pub second : ℕ → Config
second address = with_second_address address MaskOneBit (plain (Some 100_000) None)

-- `master_write` to 0x50, where CR2 reads as this word; a check, where ISR reads as this word; `get_errors_reset`
abbrev pub write : List ℕ → ℕ → Step
write bytes cr2 = step_of (master_write 0x50 bytes) (cr2 ∷ cr2 ∷ []) 100

abbrev pub check : ℕ → Step
check isr = step_of check_isr_flags (isr ∷ []) 100

abbrev pub errors : Step
errors = step_of get_errors_reset [] 100

pub record Row : Type 0 where
  pub case : Case
  pub must : List ℕ

infixl 20 ◌⇒◌
abbrev pub ◌⇒◌ : Case → List ℕ → Row
case ⇒ must = record { case = case; must = must }

-- The rows, each under document 01's words; ◆ as there.
unfoldable pub table : List Row
table =
    -- ◆ 100,000 at 16,000,000: 0x30420F13; period 144
    (timing 100_000 16_000_000 ⇒ 0 ∷ 0x30420F13 ∷ [])
    ∷ (scl_period 0x30420F13 ⇒ 144 ∷ [])
    -- ◆ 100,000 at 4,000,000: 0x30420004; at 3,999,999: 7
    ∷ (timing 100_000 4_000_000 ⇒ 0 ∷ 0x30420004 ∷ [])
    ∷ (timing 100_000 3_999_999 ⇒ 7 ∷ [])
    -- ◆ 400,000 at 64,000,000: 0x10312127
    ∷ (timing 400_000 64_000_000 ⇒ 0 ∷ 0x10312127 ∷ [])
    -- ◆ 400,000 at 11,200,000: 0x10310006; at 11,199,999: 7
    ∷ (timing 400_000 11_200_000 ⇒ 0 ∷ 0x10310006 ∷ [])
    ∷ (timing 400_000 11_199_999 ⇒ 7 ∷ [])
    -- ◆ own address 0x2A: OAR1 0x8054
    ∷ (constructed non_blocking (own 0x2A false) OAR1 ⇒ 0x8054 ∷ [])
    ∷ (constructed blocking (own 0x2A false) OAR1 ⇒ 0x8054 ∷ [])
    -- ◆ 0x123 in ten bits: non-blocking 0x8523, blocking 0x8446
    ∷ (constructed non_blocking (own 0x123 true) OAR1 ⇒ 0x8523 ∷ [])
    ∷ (constructed blocking (own 0x123 true) OAR1 ⇒ 0x8446 ∷ [])
    -- ◆ second address 0x30, one bit masked: OAR2 0x8160
    ∷ (constructed non_blocking (second 0x30) OAR2 ⇒ 0x8160 ∷ [])
    ∷ (constructed blocking (second 0x30) OAR2 ⇒ 0x8160 ∷ [])
    -- ◆ `master_write` to 0x50, 2 bytes, CR2 0: 0x020220A0
    ∷ (log [] (write (1 ∷ 2 ∷ []) 0) ⇒ 0x004 ∷ 0 ∷ 0x004 ∷ 0 ∷ 0x104 ∷ 0x020220A0 ∷ [])
    -- ◆ `master_write` of 0 bytes: 6; with START set: 1
    ∷ (answer [] (write [] 0) ⇒ 6 ∷ [])
    ∷ (answer [] (write [] 0x2000) ⇒ 1 ∷ [])
    -- ◆ STOPF on a fresh link: 2, errors 1
    ∷ (answer [] (check 0x20) ⇒ 2 ∷ [])
    ∷ (answer (check 0x20 ∷ []) errors ⇒ 0x45 ∷ 1 ∷ [])
    -- `master_write` of 255 bytes: accepted; of 256: 6
    ∷ (answer [] (write (replicate 255 1) 0) ⇒ 0 ∷ [])
    ∷ (answer [] (write (replicate 256 1) 0) ⇒ 6 ∷ [])
    ∷ []
