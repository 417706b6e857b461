-- Document 01, nonblocking.rs, its first paragraph: 'Errors rise by 1 at ..' to '`master_read` keeps the second-half length', and of the answers 'START set (1)
-- goes before 6'. What each call does where it is not refused: its accesses, its answer, the link after it, and the bytes shown.
use Rattle.std.specs.Prelude.{ℕ, ◌+◌, ◌-◌, Bool, true, false, List, [], ◌∷◌, length, get_or, take, set, replicate, eqb, ltb}
use Rattle.registers.specs.declared.flag_order.Flag.{Flag}
use Rattle.registers.specs.declared.flag_order.Flag.TheVariants.{Berr, Arlo, Nackf, Txis, Rxne, Stopf, Tc, Tcr, Addr, Nothing}
use Rattle.registers.specs.Layout.{CR1, CR2, OAR1, ISR, ICR, RXDR, TXDR, RXNE, ADDR, NACKF, STOPF, BERR, ARLO, DIR, ◌has◌}
use Rattle.registers.specs.Words.{powered, interrupts, byte_control, sadd16, starting, started, sized, nack_next_byte, with_stop, own_seven, flushed, cleared, sent, received, length_allowed}
use Rattle.registers.specs.FlagOrder.{taken_as}
use Rattle.registers.specs.Isr.{direction_of, address_code}
use Rattle.registers.specs.CallLog.{Access, read, write, word_at, over}
use Rattle.registers.specs.Answers.{Said, says}
use Rattle.nonblocking_meaning.specs.Link.{Link, one_more, Common, common, link_of, new_transfer, no_marks, same_transfer, at_index, with_watchdog, addressed}
use Rattle.nonblocking_meaning.specs.Call.{Call, master_write, master_write_read, master_read, slave_write, check_isr_flags, execute_watchdog, get_errors_reset, master_get_data, slave_get_data, get_address, listen, unlisten, slave_sbc, set_address}

pub record Plan : Type 0 where
  pub accesses : List Access
  pub answer : Said
  pub link : Link
  pub shown : List ℕ

-- a plan that shows no bytes, by the number of its answer
abbrev pub plan : List Access → ℕ → Link → Plan
plan accesses number l = record { accesses = accesses; answer = says number []; link = l; shown = [] }

-- the common part changed, or one more error counted, or both
abbrev pub changed : Common → Link → Link
changed c l = link_of c l.errors l.length_write_read l.«data»

abbrev pub changed_with_error : Common → Link → Link
changed_with_error c l = link_of c (one_more l.errors) l.length_write_read l.«data»

-- `check_isr_flags`: what follows the ISR read. The result of a test is handed in.
-- TXIS: is the index below the length?
abbrev pub on_txis : Bool → Link → Plan
on_txis true l = plan (write TXDR (sent (get_or l.«data» l.index 0)) ∷ []) 1 (changed (at_index (l.index + 1) (common l)) l)
on_txis false l = plan [] 1 l

-- RXNE with a full index: ISR is read again, then RXDR if RXNE is still set
abbrev pub on_full : Bool → ℕ → ℕ → Link → Plan
on_full true v u l = plan (read ISR v ∷ read RXDR u ∷ []) 1 l
on_full false v u l = plan (read ISR v ∷ []) 1 l

abbrev pub on_rxne : Bool → ℕ → ℕ → Link → Plan
on_rxne true v u l =
    plan (read RXDR v ∷ []) 1 (link_of (at_index (l.index + 1) (common l)) l.errors l.length_write_read (set l.«data» l.index (received v)))
on_rxne false v u l = on_full (v has RXNE) v u l

-- STOPF: is the index 0? The index stays
abbrev pub on_stopf : Bool → ℕ → Link → Plan
on_stopf true isr l = plan (write ICR (cleared STOPF) ∷ []) 2 (changed_with_error (with_watchdog 0 (common l)) l)
on_stopf false isr l = record {
  accesses = write ICR (cleared STOPF) ∷ [];
  answer = says 0x44 (l.address ∷ direction_of isr ∷ l.index ∷ []);
  link = changed (with_watchdog 0 (common l)) l;
  shown = take l.index l.«data»;
}

-- TC: an index below the length is raised by 1 before it is compared
abbrev pub raised : Bool → ℕ → ℕ
raised true i = i + 1
raised false i = i

-- the second half begins, or the frame is short
abbrev pub on_tc_at : Bool → ℕ → ℕ → Link → Plan
on_tc_at true i v l =
    plan (write CR2 (started 0 (sadd16 l.address) l.length_write_read true true) ∷ []) 1
    (link_of (same_transfer l.length_write_read (common l)) l.errors 0 l.«data»)
on_tc_at false i v l = record {
  accesses = read CR2 v ∷ write CR2 (with_stop v) ∷ [];
  answer = says 5 (i ∷ []);
  link = changed_with_error (at_index i (common l)) l;
  shown = [];
}

abbrev pub on_tc : ℕ → ℕ → Link → Plan
on_tc i v l = on_tc_at (eqb i l.length) i v l

-- ADDR: is DIR set? Then only address and watchdog change; else the buffer is opened to receive
abbrev pub on_addr : Bool → ℕ → ℕ → Link → Plan
on_addr true isr v l = record {
  accesses = [];
  answer = says 0x41 (address_code isr ∷ direction_of isr ∷ []);
  link = changed (addressed (address_code isr) (common l)) l;
  shown = [];
}
on_addr false isr v l = record {
  accesses = read CR2 v ∷ write CR2 (sized v 255 true) ∷ write ICR (cleared ADDR) ∷ [];
  answer = says 0x41 (address_code isr ∷ direction_of isr ∷ []);
  link = changed (new_transfer (address_code isr) 255 l.marks) l;
  shown = [];
}

-- by the flag that the ISR word is taken as; v and u are the words after it
abbrev pub on_flag : Flag → ℕ → ℕ → ℕ → Link → Plan
on_flag Berr isr v u l = plan (write ICR (cleared BERR) ∷ []) 3 (changed_with_error (common l) l)
on_flag Arlo isr v u l = plan (write ICR (cleared ARLO) ∷ []) 4 l
on_flag Nackf isr v u l = plan (write ICR (cleared NACKF) ∷ []) 1 l
on_flag Txis isr v u l = on_txis (ltb l.index l.length) l
on_flag Rxne isr v u l = on_rxne (ltb l.index l.length) v u l
on_flag Stopf isr v u l = on_stopf (eqb l.index 0) isr l
on_flag Tc isr v u l = on_tc (raised (ltb l.index l.length) l.index) v l
on_flag Tcr isr v u l = plan (read CR2 v ∷ write CR2 (nack_next_byte v) ∷ []) 1 l
on_flag Addr isr v u l = on_addr (isr has DIR) isr v l
on_flag Nothing isr v u l = plan [] 1 l

abbrev pub with_first : Access → Plan → Plan
with_first access p = record { accesses = access ∷ p.accesses; answer = p.answer; link = p.link; shown = p.shown }

-- a check whose ISR word is taken as this flag
abbrev pub flag_plan : Flag → List ℕ → Link → Plan
flag_plan f words l = with_first (read ISR (word_at words 0)) (on_flag f (word_at words 0) (word_at words 1) (word_at words 2) l)

-- a start reads CR2 first. Is START set? Is the length good? `rest` are the accesses after that read, `l'` the link after an accepted start
abbrev pub on_start : Bool → Bool → ℕ → List Access → Link → Link → Plan
on_start true good w rest l l' = plan (read CR2 w ∷ []) 1 l
on_start false false w rest l l' = plan (read CR2 w ∷ []) 6 l
on_start false true w rest l l' = plan (read CR2 w ∷ rest) 0 l'

-- a byte slice of 1 to 255
abbrev pub good_length : List ℕ → Bool
good_length bytes = length_allowed (length bytes)

-- what follows the START read of an accepted write, and of an accepted read, which flushes RXDR
abbrev pub write_accesses : ℕ → ℕ → ℕ → Bool → List Access
write_accesses v address n autoend = read CR2 v ∷ write CR2 (started v (sadd16 address) n false autoend) ∷ []

abbrev pub read_accesses : ℕ → ℕ → ℕ → ℕ → List Access
read_accesses v u address n = read RXDR v ∷ read CR2 u ∷ write CR2 (started u (sadd16 address) n true true) ∷ []

-- a write, with the length of the read that follows it; a read clears its part of the buffer
abbrev pub write_start : ℕ → List ℕ → ℕ → Bool → ℕ → ℕ → Link → Plan
write_start address bytes second autoend w v l =
    on_start (starting w) (good_length bytes) w (write_accesses v address (length bytes) autoend) l
    (link_of (new_transfer address (length bytes) no_marks) l.errors second (over bytes l.«data»))

abbrev pub read_start : ℕ → ℕ → ℕ → ℕ → ℕ → Link → Plan
read_start address n w v u l =
    on_start (starting w) true w (read_accesses v u address n) l
    (link_of (new_transfer address n no_marks) l.errors l.length_write_read (over (replicate n 0) l.«data»))

-- `slave_write` sets the length, empties TXDR and clears ADDR
abbrev pub slave_write_accesses : ℕ → ℕ → List Access
slave_write_accesses w n = read CR2 w ∷ write CR2 (sized w n false) ∷ write ISR flushed ∷ write ICR (cleared ADDR) ∷ []

abbrev pub on_slave_write : Bool → List ℕ → ℕ → Link → Plan
on_slave_write false bytes w l = plan [] 6 l
on_slave_write true bytes w l =
    plan (slave_write_accesses w (length bytes)) 0
    (link_of (same_transfer (length bytes) (common l)) l.errors l.length_write_read (over bytes l.«data»))

-- the unit switched off and on, with a read between that forces the wait
abbrev pub reset_accesses : ℕ → ℕ → ℕ → List Access
reset_accesses w v u = read CR1 w ∷ write CR1 (powered w false) ∷ read CR1 v ∷ read CR1 u ∷ write CR1 (powered u true) ∷ []

-- the watchdog at 0, at 1, or above: at 1 the unit is reset
abbrev pub on_watchdog : Bool → Bool → ℕ → ℕ → ℕ → Link → Plan
on_watchdog true one w v u l = plan [] 0 l
on_watchdog false true w v u l =
    plan (reset_accesses w v u) 0
    (changed_with_error (with_watchdog 0 (common l)) l)
on_watchdog false false w v u l = plan [] 0 (changed (with_watchdog (l.watchdog - 1) (common l)) l)

-- what a getter answers, under its letter
abbrev pub value_plan : ℕ → ℕ → Link → Plan
value_plan letter value l = record { accesses = []; answer = says letter (value ∷ []); link = l; shown = [] }

abbrev pub shows : ℕ → Link → Plan
shows n l = record { accesses = []; answer = says 0x47 (n ∷ []); link = l; shown = take n l.«data» }

-- `listen` and `unlisten`
abbrev pub interrupt_plan : Bool → ℕ → Link → Plan
interrupt_plan on w l = plan (read CR1 w ∷ write CR1 (interrupts w on) ∷ []) 0 l

-- w, v and u are the words that the call meets, in order
abbrev pub plan_of : Call → ℕ → ℕ → ℕ → Link → Plan
plan_of (master_write address bytes) w v u l = write_start address bytes 0 true w v l
plan_of (master_write_read address bytes n) w v u l = write_start address bytes n false w v l
plan_of (master_read address n) w v u l = read_start address n w v u l
plan_of (slave_write bytes) w v u l = on_slave_write (good_length bytes) bytes w l
plan_of check_isr_flags w v u l = with_first (read ISR w) (on_flag (taken_as w) w v u l)
plan_of execute_watchdog w v u l = on_watchdog (eqb l.watchdog 0) (eqb l.watchdog 1) w v u l
plan_of get_errors_reset w v u l = value_plan 0x45 l.errors (link_of (common l) 0 l.length_write_read l.«data»)
plan_of master_get_data w v u l = shows l.length l
plan_of slave_get_data w v u l = shows l.index l
plan_of get_address w v u l = value_plan 0x4E l.address l
plan_of listen w v u l = interrupt_plan true w l
plan_of unlisten w v u l = interrupt_plan false w l
plan_of (slave_sbc on) w v u l = plan (read CR1 w ∷ write CR1 (byte_control w on) ∷ []) 0 l
plan_of (set_address address) w v u l = plan (write OAR1 (own_seven address false false) ∷ write OAR1 (own_seven address false true) ∷ []) 0 l
