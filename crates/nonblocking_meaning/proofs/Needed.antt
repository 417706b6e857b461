-- Why each exception and each kept-out rule is there: two runs that are seen differently without it, or a byte of Data that has no source.
-- `LetIn` says of both runs which calls after the start are let in. A run that shows an exception needed is let in whole; one that shows a
-- kept-out rule needed is kept out by the words in question and by nothing else.
use mathlib.Core.Path.{◌≡◌, refl}
use mathlib.Core.Bool.{Bool, true, false, ◌&&◌, ◌||◌}
use mathlib.Core.Option.{none, some}
use mathlib.Core.List.{List, [], ◌∷◌}
use lib.ListN.{take}
use Rattle.registers.specs.Field.{get, put, is_set}
use Rattle.registers.specs.Layout.{CR2, ISR, TXDR}
use Rattle.registers.specs.Words.{starting, sized}
use Rattle.registers.specs.Words.{started as start_word}
use Rattle.registers.specs.FlagOrder.{taken_as}
use Rattle.registers.specs.Isr.{direction_of}
use Rattle.registers.specs.CallLog.{Access, read, write}
use Rattle.registers.specs.Answers.{says}
use Rattle.nonblocking_meaning.specs.Link.{one_more}
use Rattle.nonblocking_meaning.specs.Link.{impossible}
use Rattle.nonblocking_meaning.specs.Call.{Call, Step, master_write, master_write_read, master_read, slave_write, check_isr_flags, get_errors_reset, master_get_data}
use Rattle.nonblocking_meaning.specs.Outcome.{outcome}
use Rattle.nonblocking_meaning.specs.Book.{by_bus, opened, is_register}
use Rattle.nonblocking_meaning.specs.EqualEnding.{step_of, ran, seen, compared}
use Rattle.nonblocking_meaning.proofs.Runs.{go, flag, book_of, events_of, let_in, fed, last_of}

-- ISR words: TXIS, ADDR with DIR clear, STOPF, TC
abbrev txis : Step
txis = flag 0x02

abbrev addr : Step
addr = flag 0x08

abbrev stopf : Step
stopf = flag 0x20

abbrev tc : Step
tc = flag 0x40

-- a history that leaves the bytes 8 and 9, and one that leaves a second-half length of 5
abbrev wrote_bytes : List Step
wrote_bytes = go (master_write 1 (8 ∷ 9 ∷ [])) ∷ []

abbrev asked_five : List Step
asked_five = go (master_write_read 1 (1 ∷ []) 5) ∷ []

-- after this history and after none
abbrev LetIn : List Step → Call → List Step → List Bool → Type 0
LetIn history start steps bs = (let_in (book_of history start) (events_of history start steps) ≡ bs) × (let_in (book_of [] start) (events_of [] start steps) ≡ bs)

-- with what is not compared blanked, both are seen the same
abbrev Same : List Step → Call → List Step → Type 0
Same history start steps = compared (book_of history start) (events_of history start steps) ≡ compared (book_of [] start) (events_of [] start steps)

-- Exception: the first `get_errors_reset`. One history has an error, a STOPF with index 0; the other has none.
first_errors :
    ((last_of (stopf ∷ []) (master_read 1 0) [] (go get_errors_reset)).answer ≡ says 0x45 (1 ∷ []))
    × ((last_of [] (master_read 1 0) [] (go get_errors_reset)).answer ≡ says 0x45 (0 ∷ []))
    × LetIn (stopf ∷ []) (master_read 1 0) (go get_errors_reset ∷ []) (true ∷ [])
    × Same (stopf ∷ []) (master_read 1 0) (go get_errors_reset ∷ [])
unfolding ran seen compared let_in outcome impossible one_more start_word get put is_set taken_as
first_errors = (refl, refl, (refl, refl), refl)

-- Exception: the master's `get_data` while receiving that ADDR opened. It shows 255 bytes, and the first of them are the history's.
data_after_addr :
    (take 2 (last_of wrote_bytes (master_read 1 0) (addr ∷ []) (go master_get_data)).shown ≡ 8 ∷ 9 ∷ [])
    × (take 2 (last_of [] (master_read 1 0) (addr ∷ []) (go master_get_data)).shown ≡ 0 ∷ 0 ∷ [])
    × LetIn wrote_bytes (master_read 1 0) (addr ∷ go master_get_data ∷ []) (true ∷ true ∷ [])
    × Same wrote_bytes (master_read 1 0) (addr ∷ go master_get_data ∷ [])
unfolding ran seen compared let_in outcome impossible start_word sized get put is_set taken_as direction_of
data_after_addr = (refl, refl, (refl, refl), refl)

-- The same, while receiving that TC opened: the byte past the one that was written is the history's.
data_after_tc :
    ((last_of wrote_bytes (master_write_read 1 (7 ∷ []) 2) (txis ∷ tc ∷ []) (go master_get_data)).shown ≡ 7 ∷ 9 ∷ [])
    × ((last_of [] (master_write_read 1 (7 ∷ []) 2) (txis ∷ tc ∷ []) (go master_get_data)).shown ≡ 7 ∷ 0 ∷ [])
    × LetIn wrote_bytes (master_write_read 1 (7 ∷ []) 2) (txis ∷ tc ∷ go master_get_data ∷ []) (true ∷ true ∷ true ∷ [])
    × Same wrote_bytes (master_write_read 1 (7 ∷ []) 2) (txis ∷ tc ∷ go master_get_data ∷ [])
unfolding ran seen compared let_in outcome impossible start_word get put is_set taken_as
data_after_tc = (refl, refl, (refl, refl), refl)

-- Kept out: TXIS while receiving that ADDR opened. A byte of the history is sent.
txis_after_addr :
    ((last_of wrote_bytes (master_read 1 0) (addr ∷ []) txis).accesses ≡ read ISR 0x02 ∷ write TXDR 8 ∷ [])
    × ((last_of [] (master_read 1 0) (addr ∷ []) txis).accesses ≡ read ISR 0x02 ∷ write TXDR 0 ∷ [])
    × LetIn wrote_bytes (master_read 1 0) (addr ∷ txis ∷ []) (true ∷ false ∷ [])
unfolding ran seen let_in outcome impossible start_word sized get put is_set taken_as direction_of
txis_after_addr = (refl, refl, (refl, refl))

-- The same while receiving that a `master_read` opened: it counts a byte that nobody read, and Data then shows it without a source.
txis_after_read :
    ((last_of [] (master_read 1 1) (txis ∷ []) stopf).shown ≡ 0 ∷ [])
    × ((fed (book_of [] (master_read 1 1)) (events_of [] (master_read 1 1) (txis ∷ []))).place 0 ≡ none)
    × LetIn wrote_bytes (master_read 1 1) (txis ∷ stopf ∷ []) (false ∷ true ∷ [])
unfolding ran seen let_in fed outcome impossible start_word get put is_set taken_as direction_of
txis_after_read = (refl, refl, (refl, refl))

-- Kept out: TC while receiving that ADDR opened. Each one raises the index, and Data then shows bytes of the history.
tc_after_addr :
    ((last_of wrote_bytes (master_write 1 (7 ∷ [])) (addr ∷ tc ∷ tc ∷ []) stopf).shown ≡ 7 ∷ 9 ∷ [])
    × ((last_of [] (master_write 1 (7 ∷ [])) (addr ∷ tc ∷ tc ∷ []) stopf).shown ≡ 7 ∷ 0 ∷ [])
    × LetIn wrote_bytes (master_write 1 (7 ∷ [])) (addr ∷ tc ∷ tc ∷ stopf ∷ []) (true ∷ false ∷ false ∷ true ∷ [])
unfolding ran seen let_in outcome impossible one_more start_word sized get put is_set taken_as direction_of
tc_after_addr = (refl, refl, (refl, refl))

-- Kept out: TC after a `master_read` and before the next accepted write of a master. An accepted `slave_write` ends receiving, but not this: the
-- second half that TC then starts has the length that the history left.
tc_after_read :
    ((last_of asked_five (master_read 1 1) (go (slave_write (1 ∷ [])) ∷ []) tc).accesses ≡ read ISR 0x40 ∷ write CR2 0x02052402 ∷ [])
    × ((last_of [] (master_read 1 1) (go (slave_write (1 ∷ [])) ∷ []) tc).accesses ≡ read ISR 0x40 ∷ write CR2 0x02002402 ∷ [])
    × LetIn asked_five (master_read 1 1) (go (slave_write (1 ∷ [])) ∷ tc ∷ []) (true ∷ false ∷ [])
unfolding ran seen let_in outcome impossible start_word sized get put is_set taken_as
tc_after_read = (refl, refl, (refl, refl))

-- Opening at TC is read as: the access straight after the ISR read is a write of CR2 with START set. To the letter, 'its check writes CR2 with
-- START set' also fits a short TC that found START set in CR2 and put STOP into that word.
abbrev any_start : List Access → Bool
any_start [] = false
any_start (read r v ∷ rest) = any_start rest
any_start (write r v ∷ rest) = is_register r CR2 && starting v || any_start rest

abbrev short_tc : Step
short_tc = step_of check_isr_flags (0x40 ∷ 0x2000 ∷ []) 10

-- Here Data shows the byte 1 after it, and the book holds it. Under the other reading the places would be emptied, and the byte have no source.
short_tc_opens_nothing :
    (any_start (last_of [] (master_write_read 0x50 (1 ∷ 2 ∷ []) 1) [] short_tc).accesses ≡ true)
    × ((last_of [] (master_write_read 0x50 (1 ∷ 2 ∷ []) 1) (short_tc ∷ []) stopf).answer ≡ says 0x44 (0x50 ∷ 1 ∷ 1 ∷ []))
    × ((last_of [] (master_write_read 0x50 (1 ∷ 2 ∷ []) 1) (short_tc ∷ []) stopf).shown ≡ 1 ∷ [])
    × ((fed (book_of [] (master_write_read 0x50 (1 ∷ 2 ∷ []) 1)) (events_of [] (master_write_read 0x50 (1 ∷ 2 ∷ []) 1) (short_tc ∷ []))).place 0 ≡ some 1)
    × ((opened by_bus false (book_of [] (master_write_read 0x50 (1 ∷ 2 ∷ []) 1))).place 0 ≡ none)
unfolding ran seen fed outcome impossible one_more start_word get put is_set taken_as direction_of
short_tc_opens_nothing = (refl, refl, refl, refl, refl)
