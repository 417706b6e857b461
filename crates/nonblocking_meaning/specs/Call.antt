-- Document 01, nonblocking.rs: 'For the mission's third point the calls are ..', 'A start is a `master_write`, `master_write_read` or `master_read`'. The calls that
-- take a link, each with its arguments, and a step: a call with its words and the size of its log.
use Rattle.std.specs.Prelude.{ℕ, Bool, true, false, List}

pub data Call : Type 0 where
  -- an address and the bytes; the read length
  master_write : ℕ → List ℕ → Call
  master_write_read : ℕ → List ℕ → ℕ → Call
  master_read : ℕ → ℕ → Call
  slave_write : List ℕ → Call
  check_isr_flags execute_watchdog get_errors_reset : Call
  master_get_data slave_get_data get_address : Call
  listen unlisten : Call
  slave_sbc : Bool → Call
  set_address : ℕ → Call

pub record Step : Type 0 where
  pub call : Call
  -- the words that its reads give, and how many places its log has
  pub words : List ℕ
  pub places : ℕ

-- what a call is to somebody who sees calls, answers and accesses only
pub data Role : Type 0 where
  master_writes slave_writes : List ℕ → Role
  master_reads checks reads_errors shows_master other : Role

abbrev pub role_of : Call → Role
role_of (master_write address bytes) = master_writes bytes
role_of (master_write_read address bytes n) = master_writes bytes
role_of (master_read address n) = master_reads
role_of (slave_write bytes) = slave_writes bytes
role_of check_isr_flags = checks
role_of execute_watchdog = other
role_of get_errors_reset = reads_errors
role_of master_get_data = shows_master
role_of slave_get_data = other
role_of get_address = other
role_of listen = other
role_of unlisten = other
role_of (slave_sbc on) = other
role_of (set_address address) = other

-- a 'start' is a call of this kind that is accepted
abbrev pub is_start : Role → Bool
is_start (master_writes bytes) = true
is_start (slave_writes bytes) = false
is_start master_reads = true
is_start checks = false
is_start reads_errors = false
is_start shows_master = false
is_start other = false
