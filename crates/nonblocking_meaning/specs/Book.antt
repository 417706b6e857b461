-- Document 01, nonblocking.rs: 'Receiving opens ..', 'Kept out are ..', and the book's rules, 'The book says where a byte came from' to 'leave the book as it is'.
-- The book is fed what is observed, never a link: a call with its arguments, its answer, its accesses and the bytes shown.
use Rattle.std.specs.Prelude.{ℕ, ◌+◌, Bool, true, false, ◌&&◌, ◌||◌, not, cond, List, [], ◌∷◌, length, eqb, leb, ltb}
use Rattle.std.proofs.Math.Option.{Option, none, some}
use Rattle.std.proofs.Math.ListN.{get_elem?}
use Rattle.registers.specs.declared.flag_order.Flag.{Flag}
use Rattle.registers.specs.declared.flag_order.Flag.TheVariants.{Berr, Arlo, Nackf, Txis, Rxne, Stopf, Tc, Tcr, Addr, Nothing}
use Rattle.registers.specs.Layout.{Register, offset, CR2, RXDR, DIR, ◌has◌}
use Rattle.registers.specs.Words.{starting, received}
use Rattle.registers.specs.FlagOrder.{taken_as}
use Rattle.registers.specs.CallLog.{Access, read, write}
use Rattle.registers.specs.Answers.{Said}
use Rattle.nonblocking_meaning.specs.Call.{Call, Role, master_writes, slave_writes, master_reads, checks, reads_errors, shows_master, other, role_of}
use Rattle.nonblocking_meaning.specs.Outcome.{Outcome}

pub record Observed : Type 0 where
  pub call : Call
  pub answer : Said
  pub accesses : List Access
  pub shown : List ℕ

abbrev pub observed : Call → Outcome → Observed
observed call o = record { call = call; answer = o.answer; accesses = o.accesses; shown = o.shown }

-- 'receiving': closed, opened by a `master_read`, or opened by ADDR or TC
pub data Receiving : Type 0 where
  closed by_read by_bus : Receiving

abbrev pub is_open : Receiving → Bool
is_open closed = false
is_open by_read = true
is_open by_bus = true

pub record Book : Type 0 where
  -- the places, each empty or with a byte, and the next place
  pub place : ℕ → Option ℕ
  pub next : ℕ
  -- n of the last accepted write
  pub count : ℕ
  pub receiving : Receiving
  -- after an accepted `master_read` and before the next accepted write of a master
  pub after_read : Bool
  -- a `get_errors_reset` was answered since the start
  pub errors_read : Bool

-- 'kept out': a word taken as TXIS or TC while receiving, or as TC after a `master_read` and before the next accepted write of a master
abbrev pub clean_flag : Flag → Book → Bool
clean_flag Berr b = true
clean_flag Arlo b = true
clean_flag Nackf b = true
clean_flag Txis b = not (is_open b.receiving)
clean_flag Rxne b = true
clean_flag Stopf b = true
clean_flag Tc b = not (is_open b.receiving) && not b.after_read
clean_flag Tcr b = true
clean_flag Addr b = true
clean_flag Nothing b = true

-- a refused check has no access, and so no word that it takes
abbrev pub clean_check : List Access → Book → Bool
clean_check [] b = true
clean_check (read r isr ∷ rest) b = clean_flag (taken_as isr) b
clean_check (write r v ∷ rest) b = true

abbrev pub clean_role : Role → List Access → Book → Bool
clean_role (master_writes bytes) accesses b = true
clean_role (slave_writes bytes) accesses b = true
clean_role master_reads accesses b = true
clean_role checks accesses b = clean_check accesses b
clean_role reads_errors accesses b = true
clean_role shows_master accesses b = true
clean_role other accesses b = true

abbrev pub clean : Observed → Book → Bool
clean e b = clean_role (role_of e.call) e.accesses b

abbrev pub empty : ℕ → Option ℕ
empty j = none

-- the book before a start
abbrev pub blank : Book
blank = record { place = empty; next = 0; count = 0; receiving = closed; after_read = false; errors_read = false }

-- an accepted write: all places are emptied, its n bytes are put at 0 to n−1
abbrev pub written : List ℕ → Bool → Book → Book
written bytes after_read b =
    record { place = get_elem? bytes; next = 0; count = length bytes; receiving = closed; after_read = after_read; errors_read = b.errors_read }

-- receiving opens: all places are emptied
abbrev pub opened : Receiving → Bool → Book → Book
opened r after_read b = record { place = empty; next = 0; count = b.count; receiving = r; after_read = after_read; errors_read = b.errors_read }

-- a byte goes to the next place
abbrev pub put_at : ℕ → ℕ → (ℕ → Option ℕ) → ℕ → Option ℕ
put_at i byte place j = cond (eqb j i) (some byte) (place j)

abbrev pub filled : ℕ → Book → Book
filled byte b = record {
  place = put_at b.next byte b.place;
  next = b.next + 1;
  count = b.count;
  receiving = b.receiving;
  after_read = b.after_read;
  errors_read = b.errors_read;
}

abbrev pub next_at : ℕ → Book → Book
next_at i b = record { place = b.place; next = i; count = b.count; receiving = b.receiving; after_read = b.after_read; errors_read = b.errors_read }

abbrev pub with_errors_read : Book → Book
with_errors_read b = record { place = b.place; next = b.next; count = b.count; receiving = b.receiving; after_read = b.after_read; errors_read = true }

-- TXIS and TC while not receiving: next rises by 1 if it is below n
abbrev pub one_up : Bool → ℕ → ℕ
one_up true i = i + 1
one_up false i = i

abbrev pub risen : Receiving → Book → Book
risen closed b = next_at (one_up (ltb b.next b.count) b.next) b
risen by_read b = b
risen by_bus b = b

abbrev pub is_register : Register → Register → Bool
is_register r s = eqb (offset r) (offset s)

-- RXNE: where RXDR is read straight after ISR, its byte is put; where ISR is read again first, nothing changes
abbrev pub after_rxne : List Access → Book → Book
after_rxne [] b = b
after_rxne (read r v ∷ rest) b = cond (is_register r RXDR) (filled (received v) b) b
after_rxne (write r v ∷ rest) b = b

-- TC opens receiving where the access straight after the ISR read is a write of CR2 with START set
abbrev pub after_tc : List Access → Book → Book
after_tc [] b = b
after_tc (read r v ∷ rest) b = b
after_tc (write r v ∷ rest) b = cond (is_register r CR2 && starting v) (opened by_bus b.after_read b) b

-- by the flag that the ISR word is taken as, and what follows the ISR read
abbrev pub by_flag : Flag → ℕ → List Access → Book → Book
by_flag Berr isr rest b = b
by_flag Arlo isr rest b = b
by_flag Nackf isr rest b = b
by_flag Txis isr rest b = risen b.receiving b
by_flag Rxne isr rest b = after_rxne rest b
by_flag Stopf isr rest b = b
by_flag Tc isr rest b = after_tc rest (risen b.receiving b)
by_flag Tcr isr rest b = b
by_flag Addr isr rest b = cond (isr has DIR) b (opened by_bus b.after_read b)
by_flag Nothing isr rest b = b

abbrev pub by_check : List Access → Book → Book
by_check [] b = b
by_check (read r isr ∷ rest) b = by_flag (taken_as isr) isr rest b
by_check (write r v ∷ rest) b = b

-- answered 0; answered 6 or 9 to 12; a Data answer
abbrev pub is_done : Said → Bool
is_done a = eqb a.number 0

abbrev pub is_refused : Said → Bool
is_refused a = eqb a.number 6 || leb 9 a.number && leb a.number 12

abbrev pub is_data : Said → Bool
is_data a = eqb a.number 0x44

-- a call that is not refused, by its role; `done` says that it was answered 0
abbrev pub by_role : Role → Bool → List Access → Book → Book
by_role (master_writes bytes) done accesses b = cond done (written bytes false b) b
by_role (slave_writes bytes) done accesses b = cond done (written bytes b.after_read b) b
by_role master_reads done accesses b = cond done (opened by_read true b) b
by_role checks done accesses b = by_check accesses b
by_role reads_errors done accesses b = with_errors_read b
by_role shows_master done accesses b = b
by_role other done accesses b = b

abbrev pub feed : Observed → Book → Book
feed e b = cond (is_refused e.answer) b (by_role (role_of e.call) (is_done e.answer) e.accesses b)
