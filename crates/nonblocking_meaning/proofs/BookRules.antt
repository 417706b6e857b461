-- Document 01's rules of the book, one fact a rule and in its order. A book that told less, or opened more, could serve the theorem as well,
-- so each rule is stated here by itself.
use Prim.Native.Nat.{ℕ, ◌+◌}
use mathlib.Core.Path.{◌≡◌, refl}
use mathlib.Core.Bool.{Bool, true, false, cond}
use mathlib.Core.Option.{Option, none, some}
use mathlib.Core.List.{List, [], ◌∷◌, map}
use lib.ListN.{length, get_elem?, replicate}
use lib.Dec.{eqb, ltb}
use Rattle.registers.specs.declared.flag_order.Flag.{Flag}
use Rattle.registers.specs.declared.flag_order.Flag.TheVariants.{Berr, Arlo, Nackf, Txis, Rxne, Stopf, Tc, Tcr, Addr, Nothing}
use Rattle.registers.specs.Layout.{Register, CR1, CR2, OAR1, OAR2, TIMINGR, ISR, ICR, RXDR, TXDR, DIR, START, RXDATA, ◌⟨◌⟩, ◌has◌}
use Rattle.registers.specs.FlagOrder.{taken_as}
use Rattle.registers.specs.CallLog.{Access, read, write}
use Rattle.registers.specs.Answers.{Said, says}
use Rattle.nonblocking_meaning.specs.Call.{master_writes, slave_writes, master_reads, checks, reads_errors, shows_master, other, role_of, is_start}
use Rattle.nonblocking_meaning.specs.Call.{Call, master_write, master_write_read, master_read, slave_write, check_isr_flags, execute_watchdog, get_errors_reset, master_get_data, slave_get_data, get_address, listen, unlisten, slave_sbc, set_address}
use Rattle.nonblocking_meaning.specs.Outcome.{Outcome}
use Rattle.nonblocking_meaning.specs.Book.{Book, Observed, observed, Receiving, closed, by_read, by_bus, blank, by_flag, is_done, is_refused, is_data, feed}

-- a book by its parts; what a rule does not name is kept
abbrev book : (ℕ → Option ℕ) → ℕ → ℕ → Receiving → Bool → Bool → Book
book place next count receiving after_read errors_read =
    record { place = place; next = next; count = count; receiving = receiving; after_read = after_read; errors_read = errors_read }

abbrev nothing : ℕ → Option ℕ
nothing j = none

-- before the start it has no byte, and nothing was told
at_first : blank ≡ book nothing 0 0 closed false false
at_first = refl

-- it is fed the call, its answer and its accesses
event_of_lem : (call : Call) (o : Outcome) → observed call o ≡ record { call = call; answer = o.answer; accesses = o.accesses; shown = o.shown }
event_of_lem call o = refl

module _ (b : Book) (a : Said) (accesses : List Access) (shown : List ℕ) where
  -- an event of a call, answered with this number
  abbrev answered : Call → ℕ → Observed
  answered call n = record { call = call; answer = says n a.values; accesses = accesses; shown = shown }

  -- An accepted `master_write`, `master_write_read` or `slave_write` puts its n bytes at 0 to n−1; next is 0, and receiving closes. Only the
  -- first two end 'after a `master_read`'.
  write_rule : (address : ℕ) (bytes : List ℕ) → feed (answered (master_write address bytes) 0) b ≡ book (get_elem? bytes) 0 (length bytes) closed false b.errors_read
  write_rule address bytes = refl

  write_read_rule : (address n : ℕ) (bytes : List ℕ) → feed (answered (master_write_read address bytes n) 0) b ≡ book (get_elem? bytes) 0 (length bytes) closed false b.errors_read
  write_read_rule address n bytes = refl

  slave_write_rule : (bytes : List ℕ) → feed (answered (slave_write bytes) 0) b ≡ book (get_elem? bytes) 0 (length bytes) closed b.after_read b.errors_read
  slave_write_rule bytes = refl

  -- an accepted `master_read` opens receiving: all places are emptied, and next is 0
  read_rule : (address n : ℕ) → feed (answered (master_read address n) 0) b ≡ book nothing 0 b.count by_read true b.errors_read
  read_rule address n = refl

  -- a call answered 6 or 9 to 12 leaves the book as it is
  refused_rule : (call : Call) → map (λ (n : ℕ). feed (answered call n) b) (6 ∷ 9 ∷ 10 ∷ 11 ∷ 12 ∷ []) ≡ b ∷ b ∷ b ∷ b ∷ b ∷ []
  refused_rule call = refl

  -- and so do a start call or a `slave_write` that is not answered 0, and every call that is not named
  either_way : (t : Bool) → cond t b b ≡ b
  either_way true = refl
  either_way false = refl

  not_accepted_rule : (n address k : ℕ) (bytes : List ℕ) → eqb n 0 ≡ false →
      (feed (answered (master_write address bytes) n) b ≡ b)
      × (feed (answered (master_write_read address bytes k) n) b ≡ b)
      × (feed (answered (master_read address k) n) b ≡ b)
      × (feed (answered (slave_write bytes) n) b ≡ b)
  not_accepted_rule n address k bytes q =
      let same : cond (is_refused (says n a.values)) b b ≡ b = either_way (is_refused (says n a.values)) in
      (rw q same, rw q same, rw q same, rw q same)

  other_rule : (call : Call) (n : ℕ) → role_of call ≡ other → feed (answered call n) b ≡ b
  other_rule call n q = rw q (either_way (is_refused (says n a.values)))

  -- a `get_errors_reset` that is not refused is remembered
  errors_read_rule : is_refused a ≡ false → feed (record { call = get_errors_reset; answer = a; accesses = accesses; shown = shown }) b ≡ book b.place b.next b.count b.receiving b.after_read true
  errors_read_rule q = rw q refl

  -- a check feeds the word that it read first, by the flag that the word is taken as
  check_rule : (isr : ℕ) (rest : List Access) → is_refused a ≡ false →
      feed (record { call = check_isr_flags; answer = a; accesses = read ISR isr ∷ rest; shown = shown }) b ≡ by_flag (taken_as isr) isr rest b
  check_rule isr rest q = rw q refl

  -- one that read none leaves the book
  wordless_rule : (r : Register) (v : ℕ) (rest : List Access) →
      (feed (record { call = check_isr_flags; answer = a; accesses = []; shown = shown }) b ≡ b)
      × (feed (record { call = check_isr_flags; answer = a; accesses = write r v ∷ rest; shown = shown }) b ≡ b)
  wordless_rule r v rest = (either_way (is_refused a), either_way (is_refused a))

-- BERR, ARLO, NACKF, STOPF, TCR and a word without a flag leave the book
idle_flags : (isr : ℕ) (rest : List Access) (b : Book) →
    map (λ (f : Flag). by_flag f isr rest b) (Berr ∷ Arlo ∷ Nackf ∷ Stopf ∷ Tcr ∷ Nothing ∷ []) ≡ b ∷ b ∷ b ∷ b ∷ b ∷ b ∷ []
idle_flags isr rest b = refl

-- the book with receiving opened by the bus: all places are emptied, and next is 0
abbrev by_the_bus : Book → Book
by_the_bus b = book nothing 0 b.count by_bus b.after_read b.errors_read

-- ADDR opens receiving where DIR is clear
addr_rule : (isr : ℕ) (rest : List Access) (b : Book) → by_flag Addr isr rest b ≡ cond (isr has DIR) b (by_the_bus b)
addr_rule isr rest b = refl

-- RXNE, with RXDR read straight after ISR: the low 8 bits go to the next place, and next rises by 1
rxne_rule : (isr v : ℕ) (rest : List Access) (b : Book) →
    by_flag Rxne isr (read RXDR v ∷ rest) b
    ≡ book (λ j. cond (eqb j b.next) (some (v ⟨ RXDATA ⟩)) (b.place j)) (b.next + 1) b.count b.receiving b.after_read b.errors_read
rxne_rule isr v rest b = refl

-- where ISR is read again first, or anything else or nothing follows, nothing changes
rxne_else_rule : (isr v : ℕ) (r : Register) (rest : List Access) (b : Book) →
    (map (λ (s : Register). by_flag Rxne isr (read s v ∷ rest) b) (ISR ∷ CR1 ∷ CR2 ∷ OAR1 ∷ OAR2 ∷ TIMINGR ∷ ICR ∷ TXDR ∷ []) ≡ replicate 8 b)
    × (by_flag Rxne isr (write r v ∷ rest) b ≡ b)
    × (by_flag Rxne isr [] b ≡ b)
rxne_else_rule isr v r rest b = (refl, refl, refl)

-- While not receiving, TXIS and TC raise next by 1 if it is below n; while receiving they leave the book.
module _ (isr i n : ℕ) (place : ℕ → Option ℕ) (after_read errors_read : Bool) where
  abbrev at : ℕ → Receiving → Book
  at next r = book place next n r after_read errors_read

  txis_rule : (rest : List Access) →
      (ltb i n ≡ true → by_flag Txis isr rest (at i closed) ≡ at (i + 1) closed)
      × (ltb i n ≡ false → by_flag Txis isr rest (at i closed) ≡ at i closed)
      × (by_flag Txis isr rest (at i by_read) ≡ at i by_read)
      × (by_flag Txis isr rest (at i by_bus) ≡ at i by_bus)
  txis_rule rest = (λ q. rw q refl, λ q. rw q refl, refl, refl)

-- TC does as TXIS does, and opens receiving where it starts the second half: CR2 is written straight after the ISR read, with START set
tc_rule : (isr v : ℕ) (rest : List Access) (b : Book) → by_flag Tc isr (write CR2 v ∷ rest) b ≡ cond (v has START) (by_the_bus (by_flag Txis isr rest b)) (by_flag Txis isr rest b)
tc_rule isr v rest b = refl

tc_else_rule : (isr v : ℕ) (r : Register) (rest : List Access) (b : Book) →
    (map (λ (s : Register). by_flag Tc isr (write s v ∷ rest) b) (ISR ∷ CR1 ∷ OAR1 ∷ OAR2 ∷ TIMINGR ∷ ICR ∷ RXDR ∷ TXDR ∷ []) ≡ replicate 8 (by_flag Txis isr rest b))
    × (by_flag Tc isr (read r v ∷ rest) b ≡ by_flag Txis isr rest b)
    × (by_flag Tc isr [] b ≡ by_flag Txis isr [] b)
tc_else_rule isr v r rest b = (refl, refl, refl)

-- the calls by their roles: which calls write and how many bytes, which call reads, and which ones the book does not know
roles : (address n : ℕ) (bytes : List ℕ) (on : Bool) →
    (map role_of (master_write address bytes ∷ master_write_read address bytes n ∷ slave_write bytes ∷ []) ≡ master_writes bytes ∷ master_writes bytes ∷ slave_writes bytes ∷ [])
    × (map role_of (master_read address n ∷ check_isr_flags ∷ get_errors_reset ∷ master_get_data ∷ []) ≡ master_reads ∷ checks ∷ reads_errors ∷ shows_master ∷ [])
    × (map role_of (execute_watchdog ∷ slave_get_data ∷ get_address ∷ listen ∷ unlisten ∷ slave_sbc on ∷ set_address address ∷ []) ≡ replicate 7 other)
roles address n bytes on = (refl, refl, refl)

-- and which of them a start may be
starts : (bytes : List ℕ) →
    (map is_start (master_writes bytes ∷ master_reads ∷ []) ≡ true ∷ true ∷ []) × (map is_start (slave_writes bytes ∷ checks ∷ reads_errors ∷ shows_master ∷ other ∷ []) ≡ replicate 5 false)
starts bytes = (refl, refl)

-- The numbers of answers: 0 to 13, and the letters A, D, E, G and N; and those of them that pass a test.
abbrev numbers : List ℕ
numbers = 0 ∷ 1 ∷ 2 ∷ 3 ∷ 4 ∷ 5 ∷ 6 ∷ 7 ∷ 8 ∷ 9 ∷ 10 ∷ 11 ∷ 12 ∷ 13 ∷ 0x41 ∷ 0x44 ∷ 0x45 ∷ 0x47 ∷ 0x4E ∷ []

abbrev those : (Said → Bool) → List ℕ → List ℕ
those test [] = []
those test (n ∷ ns) = cond (test (says n [])) (n ∷ those test ns) (those test ns)

-- answered 0; answered 6 or 9 to 12; a Data answer
answer_numbers : (those is_done numbers ≡ 0 ∷ []) × (those is_refused numbers ≡ 6 ∷ 9 ∷ 10 ∷ 11 ∷ 12 ∷ []) × (those is_data numbers ≡ 0x44 ∷ [])
answer_numbers = (refl, refl, refl)
