-- Nothing more is left out of the comparison, and nothing more is kept out, than document 01 says.
-- The equal-ending theorem would hold as well if more were blanked or more lists were kept out, so these facts stand beside it.
use Prim.Native.Nat.{ℕ}
use mathlib.Core.Path.{◌≡◌, refl}
use mathlib.Core.Logic.{◌⊎◌, inl, inr}
use mathlib.Core.Bool.{Bool, true, false, ◌&&◌, not}
use mathlib.Core.List.{List, [], ◌∷◌}
use Rattle.registers.specs.declared.flag_order.Flag.{Flag}
use Rattle.registers.specs.declared.flag_order.Flag.TheVariants.{Berr, Arlo, Nackf, Txis, Rxne, Stopf, Tc, Tcr, Addr, Nothing}
use Rattle.registers.specs.Layout.{Register}
use Rattle.registers.specs.FlagOrder.{taken_as}
use Rattle.registers.specs.CallLog.{Access, read, write}
use Rattle.registers.specs.Answers.{says}
use Rattle.nonblocking_meaning.specs.Call.{Call, master_write, master_write_read, master_read, slave_write, check_isr_flags, execute_watchdog, get_errors_reset, master_get_data, slave_get_data, get_address, listen, unlisten, slave_sbc, set_address, role_of}
use Rattle.nonblocking_meaning.specs.Book.{Book, Observed, Receiving, closed, by_read, by_bus, is_open, clean_flag, clean_check, clean_role, clean}
use Rattle.nonblocking_meaning.specs.EqualEnding.{hide_shown, hide_error_count, hide_role, hide}

-- What is compared of an event is the whole event; or all but the answer of the first `get_errors_reset`; or all but the answer and the
-- bytes of the master's `get_data` while receiving that ADDR or TC opened.
data Compared (b : Book) (e : Observed) (call : Call) (seen : Observed) : Type 0 where
  whole : seen ≡ e → Compared b e call seen
  first_errors : call ≡ get_errors_reset → b.errors_read ≡ false → seen ≡ record { call = e.call; answer = says 0 []; accesses = e.accesses; shown = e.shown } → Compared b e call seen
  data_of_bus : call ≡ master_get_data → b.receiving ≡ by_bus → seen ≡ record { call = e.call; answer = says 0 []; accesses = e.accesses; shown = [] } → Compared b e call seen

errors_compared : (t : Bool) (b : Book) (e : Observed) → b.errors_read ≡ t → Compared b e get_errors_reset (hide_error_count t e)
errors_compared true b e q = whole refl
errors_compared false b e q = first_errors refl q refl

data_compared : (r : Receiving) (b : Book) (e : Observed) → b.receiving ≡ r → Compared b e master_get_data (hide_shown r e)
data_compared closed b e q = whole refl
data_compared by_read b e q = whole refl
data_compared by_bus b e q = data_of_bus refl q refl

call_compared : (call : Call) (b : Book) (e : Observed) → Compared b e call (hide_role (role_of call) e b)
call_compared (master_write address bytes) b e = whole refl
call_compared (master_write_read address bytes n) b e = whole refl
call_compared (master_read address n) b e = whole refl
call_compared (slave_write bytes) b e = whole refl
call_compared check_isr_flags b e = whole refl
call_compared execute_watchdog b e = whole refl
call_compared get_errors_reset b e = errors_compared b.errors_read b e refl
call_compared master_get_data b e = data_compared b.receiving b e refl
call_compared slave_get_data b e = whole refl
call_compared get_address b e = whole refl
call_compared listen b e = whole refl
call_compared unlisten b e = whole refl
call_compared (slave_sbc on) b e = whole refl
call_compared (set_address address) b e = whole refl

-- nothing else is blanked
all_compared : (b : Book) (e : Observed) → Compared b e e.call (hide e b)
all_compared b e = call_compared e.call b e

-- A word is let in (true), or it is taken as TXIS or TC while receiving, or as TC after an accepted `master_read` and before the next accepted
-- write of a master.
data FlagRule (b : Book) : Flag → Bool → Type 0 where
  let_in_lem : {f : Flag} → FlagRule b f true
  txis_while_receiving : (b.receiving ≡ by_read) ⊎ (b.receiving ≡ by_bus) → FlagRule b Txis false
  tc_while_receiving : (b.receiving ≡ by_read) ⊎ (b.receiving ≡ by_bus) → FlagRule b Tc false
  tc_after_read : b.receiving ≡ closed → b.after_read ≡ true → FlagRule b Tc false

txis_rule : (r : Receiving) (b : Book) → b.receiving ≡ r → FlagRule b Txis (not (is_open r))
txis_rule closed b q = let_in_lem
txis_rule by_read b q = txis_while_receiving (inl q)
txis_rule by_bus b q = txis_while_receiving (inr q)

tc_rule : (r : Receiving) (t : Bool) (b : Book) → b.receiving ≡ r → b.after_read ≡ t → FlagRule b Tc (not (is_open r) && not t)
tc_rule closed true b q p = tc_after_read q p
tc_rule closed false b q p = let_in_lem
tc_rule by_read t b q p = tc_while_receiving (inl q)
tc_rule by_bus t b q p = tc_while_receiving (inr q)

flag_rule : (f : Flag) (b : Book) → FlagRule b f (clean_flag f b)
flag_rule Berr b = let_in_lem
flag_rule Arlo b = let_in_lem
flag_rule Nackf b = let_in_lem
flag_rule Txis b = txis_rule b.receiving b refl
flag_rule Rxne b = let_in_lem
flag_rule Stopf b = let_in_lem
flag_rule Tc b = tc_rule b.receiving b.after_read b refl refl
flag_rule Tcr b = let_in_lem
flag_rule Addr b = let_in_lem
flag_rule Nothing b = let_in_lem

-- An event is let in, but for a check whose first access reads a word that is kept out.
data EventRule (b : Book) : Call → List Access → Bool → Type 0 where
  no_word : {call : Call} {accesses : List Access} → EventRule b call accesses true
  word : {r : Register} {isr : ℕ} {rest : List Access} {t : Bool} → FlagRule b (taken_as isr) t → EventRule b check_isr_flags (read r isr ∷ rest) t

check_rule : (accesses : List Access) (b : Book) → EventRule b check_isr_flags accesses (clean_check accesses b)
check_rule [] b = no_word
check_rule (read r isr ∷ rest) b = word (flag_rule (taken_as isr) b)
check_rule (write r w ∷ rest) b = no_word

call_rule : (call : Call) (accesses : List Access) (b : Book) → EventRule b call accesses (clean_role (role_of call) accesses b)
call_rule (master_write address bytes) accesses b = no_word
call_rule (master_write_read address bytes n) accesses b = no_word
call_rule (master_read address n) accesses b = no_word
call_rule (slave_write bytes) accesses b = no_word
call_rule check_isr_flags accesses b = check_rule accesses b
call_rule execute_watchdog accesses b = no_word
call_rule get_errors_reset accesses b = no_word
call_rule master_get_data accesses b = no_word
call_rule slave_get_data accesses b = no_word
call_rule get_address accesses b = no_word
call_rule listen accesses b = no_word
call_rule unlisten accesses b = no_word
call_rule (slave_sbc on) accesses b = no_word
call_rule (set_address address) accesses b = no_word

-- nothing else is kept out
all_let_in : (b : Book) (e : Observed) → EventRule b e.call e.accesses (clean e b)
all_let_in b e = call_rule e.call e.accesses b
