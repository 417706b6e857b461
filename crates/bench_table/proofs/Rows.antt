-- The rows once more, in numbers alone: what goes in, and what must come out; and what each kind of row is of. The statement holds of every true
-- row, so a row that is changed on both sides, or left out, would be proved as well; here it is refused.
use Prim.Native.Nat.{ℕ, ◌+◌}
use mathlib.Core.Path.{◌≡◌, refl}
use mathlib.Core.List.{List, [], ◌∷◌, ◌++◌, map}
use lib.ListN.{length, get_or}
use Rattle.registers.specs.Field.{digit}
use Rattle.registers.specs.declared.config.Config.{Config}
use Rattle.std.specs.Prelude.{Some, None, unwrap_or}
use Rattle.registers.specs.Layout.{Register, offset}
use Rattle.registers.specs.Config.{mask_number, plain}
use Rattle.registers.specs.Timing.{timing_bits, period}
use Rattle.registers.specs.CallLog.{entries}
use Rattle.nonblocking_meaning.specs.Link.{fresh}
use Rattle.nonblocking_meaning.specs.Outcome.{outcome}
use Rattle.nonblocking_meaning.specs.EqualEnding.{ran}
use Rattle.registers.specs.Construct.{non_blocking_construction, blocking_construction}
use Rattle.nonblocking_meaning.specs.Call.{Call, Step, master_write, master_write_read, master_read, slave_write, check_isr_flags, execute_watchdog, get_errors_reset, master_get_data, slave_get_data, get_address, listen, unlisten, slave_sbc, set_address}
use Rattle.bench_table.specs.Table.{Driver, non_blocking, blocking, Case, timing, scl_period, constructed, answer, log, beside, gives, Row, table}

-- the non-blocking driver is 0, the blocking one 1
abbrev driver_number : Driver → ℕ
driver_number non_blocking = 0
driver_number blocking = 1

-- the speed, the own address and whether it has ten bits, the second address and how many of its bits are masked
abbrev config_numbers : Config → List ℕ
config_numbers c = unwrap_or c.speed 0 ∷ c.slave_address_1 ∷ digit c.address_11bits ∷ c.slave_address_2 ∷ mask_number c.slave_address_mask ∷ []

-- 1: `master_write`, with the address, the number of bytes and the first two of them; 2: a check; 3: `get_errors_reset`; the table has no other
abbrev call_numbers : Call → List ℕ
call_numbers (master_write address bytes) = 1 ∷ address ∷ length bytes ∷ get_or bytes 0 0 ∷ get_or bytes 1 0 ∷ []
call_numbers (master_write_read address bytes n) = []
call_numbers (master_read address n) = []
call_numbers (slave_write bytes) = []
call_numbers check_isr_flags = 2 ∷ []
call_numbers execute_watchdog = []
call_numbers get_errors_reset = 3 ∷ []
call_numbers master_get_data = []
call_numbers slave_get_data = []
call_numbers get_address = []
call_numbers listen = []
call_numbers unlisten = []
call_numbers (slave_sbc on) = []
call_numbers (set_address address) = []

-- a call, then the words that it reads, and the places of its log
abbrev step_numbers : Step → List ℕ
step_numbers s = call_numbers s.call ++ s.words ++ s.places ∷ []

abbrev steps_numbers : List Step → List ℕ
steps_numbers [] = []
steps_numbers (s ∷ ss) = step_numbers s ++ steps_numbers ss

-- 1: a timing, at this speed and clock; 2: the period of this word; 3: what a driver writes to this register; 4: an answer; 5: a log
abbrev case_numbers : Case → List ℕ
case_numbers (timing speed clock) = 1 ∷ speed ∷ clock ∷ []
case_numbers (scl_period word) = 2 ∷ word ∷ []
case_numbers (constructed driver config register) = 3 ∷ driver_number driver ∷ config_numbers config ++ offset register ∷ []
case_numbers (answer before call) = 4 ∷ steps_numbers before ++ step_numbers call
case_numbers (log before call) = 5 ∷ steps_numbers before ++ step_numbers call

abbrev numbers_of : Row → List ℕ × List ℕ
numbers_of row = (case_numbers row.case, row.must)

rows : map numbers_of table
    ≡ (1 ∷ 100_000 ∷ 16_000_000 ∷ [], 0 ∷ 0x30420F13 ∷ [])
    ∷ (2 ∷ 0x30420F13 ∷ [], 144 ∷ [])
    ∷ (1 ∷ 100_000 ∷ 4_000_000 ∷ [], 0 ∷ 0x30420004 ∷ [])
    ∷ (1 ∷ 100_000 ∷ 3_999_999 ∷ [], 7 ∷ [])
    ∷ (1 ∷ 400_000 ∷ 64_000_000 ∷ [], 0 ∷ 0x10312127 ∷ [])
    ∷ (1 ∷ 400_000 ∷ 11_200_000 ∷ [], 0 ∷ 0x10310006 ∷ [])
    ∷ (1 ∷ 400_000 ∷ 11_199_999 ∷ [], 7 ∷ [])
    ∷ (3 ∷ 0 ∷ 100_000 ∷ 0x2A ∷ 0 ∷ 0 ∷ 0 ∷ 0x08 ∷ [], 0x8054 ∷ [])
    ∷ (3 ∷ 1 ∷ 100_000 ∷ 0x2A ∷ 0 ∷ 0 ∷ 0 ∷ 0x08 ∷ [], 0x8054 ∷ [])
    ∷ (3 ∷ 0 ∷ 100_000 ∷ 0x123 ∷ 1 ∷ 0 ∷ 0 ∷ 0x08 ∷ [], 0x8523 ∷ [])
    ∷ (3 ∷ 1 ∷ 100_000 ∷ 0x123 ∷ 1 ∷ 0 ∷ 0 ∷ 0x08 ∷ [], 0x8446 ∷ [])
    ∷ (3 ∷ 0 ∷ 100_000 ∷ 0 ∷ 0 ∷ 0x30 ∷ 1 ∷ 0x0C ∷ [], 0x8160 ∷ [])
    ∷ (3 ∷ 1 ∷ 100_000 ∷ 0 ∷ 0 ∷ 0x30 ∷ 1 ∷ 0x0C ∷ [], 0x8160 ∷ [])
    ∷ (5 ∷ 1 ∷ 0x50 ∷ 2 ∷ 1 ∷ 2 ∷ 0 ∷ 0 ∷ 100 ∷ [], 0x004 ∷ 0 ∷ 0x004 ∷ 0 ∷ 0x104 ∷ 0x020220A0 ∷ [])
    ∷ (4 ∷ 1 ∷ 0x50 ∷ 0 ∷ 0 ∷ 0 ∷ 0 ∷ 0 ∷ 100 ∷ [], 6 ∷ [])
    ∷ (4 ∷ 1 ∷ 0x50 ∷ 0 ∷ 0 ∷ 0 ∷ 0x2000 ∷ 0x2000 ∷ 100 ∷ [], 1 ∷ [])
    ∷ (4 ∷ 2 ∷ 0x20 ∷ 100 ∷ [], 2 ∷ [])
    ∷ (4 ∷ 2 ∷ 0x20 ∷ 100 ∷ 3 ∷ 100 ∷ [], 0x45 ∷ 1 ∷ [])
    ∷ (4 ∷ 1 ∷ 0x50 ∷ 255 ∷ 1 ∷ 1 ∷ 0 ∷ 0 ∷ 100 ∷ [], 0 ∷ [])
    ∷ (4 ∷ 1 ∷ 0x50 ∷ 256 ∷ 1 ∷ 1 ∷ 0 ∷ 0 ∷ 100 ∷ [], 6 ∷ [])
    ∷ []
unfolding table
rows = refl

-- What each kind of row is of: the timing word, the period, what construction writes to a register, and the answer or the log of a call.
timing_row : (speed clock : ℕ) → gives (timing speed clock) ≡ (timing_bits (plain (Some speed) None) clock).number ∷ (timing_bits (plain (Some speed) None) clock).values
timing_row speed clock = refl

period_row : (word : ℕ) → gives (scl_period word) ≡ period word ∷ []
period_row word = refl

-- the clock is 16 MHz, each word read is 0, and the log has 100 places
written_row : (config : Config) (register : Register) →
    (gives (constructed non_blocking config register) ≡ beside (offset register + 0x100) (non_blocking_construction config 16_000_000 (0 ∷ 0 ∷ 0 ∷ 0 ∷ []) 100).numbers)
    × (gives (constructed blocking config register) ≡ beside (offset register + 0x100) (blocking_construction config 16_000_000 (0 ∷ 0 ∷ 0 ∷ 0 ∷ []) 100).numbers)
written_row config register = (refl, refl)

words_beside : (a b c : ℕ) → beside 0x108 (0x108 ∷ a ∷ 0x100 ∷ b ∷ 0x108 ∷ c ∷ 0x108 ∷ []) ≡ a ∷ c ∷ []
words_beside a b c = refl

answer_row : (before : List Step) (call : Step) → gives (answer before call) ≡ (outcome call (ran fresh before)).answer.number ∷ (outcome call (ran fresh before)).answer.values
answer_row before call = refl

log_row : (before : List Step) (call : Step) → gives (log before call) ≡ entries (outcome call (ran fresh before)).accesses
log_row before call = refl
