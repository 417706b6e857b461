-- The calls of the non-blocking driver: which call of the definitions a line's call is, and what the others do to the link.
use Rattle.std.specs.Prelude.{ℕ, ◌≡◌, cond, eqb, List, [], ◌∷◌, length as size, take, Option, Some, None, Result, unwrap_or, codes, decimal}
use Rattle.registers.specs.declared.call_log.Report.{Report}
use Rattle.registers.specs.declared.answers.Refusal.{Refusal}
use Rattle.registers.specs.Answers.{says}
use Rattle.registers.specs.CallLog.{CallOutcome, Reported, over}
use Rattle.registers.specs.declared.config.Config.{Config}
use Rattle.registers.specs.Construct.{non_blocking_construction}
use Rattle.nonblocking_meaning.specs.Call.{Call, master_write, master_write_read, master_read, slave_write, check_isr_flags, execute_watchdog, get_errors_reset, master_get_data, slave_get_data, get_address, listen, unlisten, slave_sbc, set_address}
use Rattle.nonblocking_meaning.specs.Link.{Link, link_at, fresh}
use Rattle.nonblocking_meaning.specs.Outcome.{outcome, Matches}
use Rattle.script.specs.PrintedLines.{hex_digits, bytes_text, spaced}
use Rattle.script.specs.Settings.{configuration_of}
use Rattle.script.specs.declared.calls.LinkValues.{LinkValues}
use Rattle.script.specs.declared.calls.LinkCall.{LinkCall}
use Rattle.script.specs.declared.calls.LinkCall.TheVariants.{Reset, Set, New, MasterWrite, MasterWriteRead, MasterRead, SlaveWrite, Check, Watchdog, Errors, MasterData, SlaveData, Address, Listen, Unlisten, SlaveSbc, SetAddress}
use Rattle.script.specs.Bytes.{bytes_of}
use Rattle.script.specs.declared.text.bytes.Bytes.{Bytes}
use Rattle.play.specs.Unwaited.{constructed}

-- the bytes that a line gives, at most as many as BYTES may give
abbrev pub given : Bytes → List ℕ
given bytes = take 16384 (bytes_of bytes)

-- `nb set`: bytes go over the front of the link's, as many as have room
abbrev pub with_data : Option Bytes → List ℕ → List ℕ
with_data None before = before
with_data (Some bytes) before = over (given bytes) before

abbrev pub with_values : LinkValues → Link → Link
with_values v l = link_at
    (unwrap_or v.address l.address)
    (unwrap_or v.watchdog l.watchdog)
    (unwrap_or v.index l.index)
    (unwrap_or v.length l.length)
    (unwrap_or v.errors l.errors)
    l.marks
    (unwrap_or v.length_write_read l.length_write_read)
    (with_data v.«data» l.«data»)

-- `nb new`: the set-up, or what the filter's setter refuses
abbrev pub set_up_of : Result Config Refusal → ℕ → List ℕ → ℕ → CallOutcome
set_up_of c clock words places = constructed non_blocking_construction c clock words places

-- the link is a fresh one where the set-up was done, and as it was where it was refused, which logs nothing
pub record SetUp (s : CallOutcome) (l : Link) (r : Report) (l' : Link) (before after : List ℕ) : Type 0 where
  pub report : Reported s before r after
  pub link : l' ≡ cond (eqb (size s.numbers) 0) l fresh

-- the words, the link before, the report, the link after, and the log before and after
module _ (words : List ℕ) (l : Link) (r : Report) (l' : Link) (before after : List ℕ) where
  -- no call of the driver: no access, the answer 0, and this link is left
  abbrev pub Left : Link → Type 0
  Left left = Matches (record { accesses = []; answer = says 0 []; link = left; shown = []; taken = 0 }) r l' before after

  -- a call of the driver
  abbrev pub Calls : Call → Type 0
  Calls call = Matches (outcome (record { call = call; words = words; places = size before }) l) r l' before after

  -- the report of a line's call, and the link and the log after it
  abbrev pub Played : LinkCall → Type 0
  Played Reset = Left fresh
  Played (Set values) = Left (with_values values l)
  Played (New c) = SetUp (set_up_of (configuration_of c.settings) c.clock words (size before)) l r l' before after
  Played (MasterWrite address bytes) = Calls (master_write address (given bytes))
  Played (MasterWriteRead address bytes n) = Calls (master_write_read address (given bytes) n)
  Played (MasterRead address n) = Calls (master_read address n)
  Played (SlaveWrite bytes) = Calls (slave_write (given bytes))
  Played Check = Calls check_isr_flags
  Played Watchdog = Calls execute_watchdog
  Played Errors = Calls get_errors_reset
  Played MasterData = Calls master_get_data
  Played SlaveData = Calls slave_get_data
  Played Address = Calls get_address
  Played Listen = Calls listen
  Played Unlisten = Calls unlisten
  Played (SlaveSbc on) = Calls (slave_sbc on)
  Played (SetAddress address) = Calls (set_address address)

-- a link as it is told: the address in four hex digits, the numbers in decimal, and the bytes
abbrev pub kept_text : Link → List ℕ
kept_text l = spaced (codes "S") (hex_digits 4 l.address ∷ decimal l.watchdog ∷ decimal l.index ∷ decimal l.length ∷ decimal l.errors ∷ decimal l.length_write_read ∷ bytes_text l.«data» ∷ [])
