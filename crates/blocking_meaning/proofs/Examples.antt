-- Small scripts, computed from the definitions.
use Prim.Native.Nat.{ℕ}
use mathlib.Core.Path.{◌≡◌, refl}
use mathlib.Core.List.{List, [], ◌∷◌}
use lib.ListN.{replicate}
use Rattle.registers.specs.Field.{get, put, is_set}
use Rattle.registers.specs.Words.{started, sized, nack_next_byte}
use Rattle.registers.specs.Isr.{direction_of}
use Rattle.parked.specs.BusyWait.{found_in}
use Rattle.registers.specs.Answers.{Said, says}
use Rattle.parked.specs.declared.kinds.Kind.{Kind}
use Rattle.parked.specs.declared.kinds.Kind.TheVariants.{Write, Read, WriteRead, SlaveWrite, SlaveWaitAddressed}
use Rattle.parked.specs.declared.phases.Opening.TheVariants.{Setup}
use Rattle.parked.specs.declared.phases.Phase.{Phase}
use Rattle.parked.specs.declared.phases.Phase.TheVariants.{Open, Wait, Ended}
use Rattle.parked.specs.declared.phases.End.TheVariants.{Stopf}
use Rattle.parked.specs.declared.Parked.{Parked}
use Rattle.parked.specs.NextAccess.{span, more, next_access}
use Rattle.parked.specs.BusyWait.{wanted, compared_length, full_frame, addr_answer, stop_answer}
use Rattle.parked.specs.After.{second_half_begins, byte_moves, after}
use Rattle.parked.specs.Refusals.{wrong}
use Rattle.parked.specs.Kinds.{fits, lengths}
use Rattle.blocking_meaning.specs.Run.{RunOutcome, runs, run_outcome, called, resumed}

abbrev shown : RunOutcome → Said × List ℕ × List ℕ × ℕ
shown q = (q.answer, q.numbers, q.buffer, q.taken)

-- a write of two bytes that completes: START is looked at, CR2 modified, a byte goes out for each TXIS; at STOPF TXDR is flushed
write_completes : shown (called Write 0x50 (0x01 ∷ 0x40 ∷ []) 20 [] (0x2000 ∷ 0 ∷ 0 ∷ 2 ∷ 0 ∷ 2 ∷ 0x20 ∷ 0 ∷ 0 ∷ []))
    ≡ (
      says 0 [],
      0x04 ∷ 0x2000 ∷ 0x04 ∷ 0 ∷ 0x04 ∷ 0 ∷ 0x104 ∷ 0x020220A0 ∷ 0x18 ∷ 2 ∷ 0x128 ∷ 0x01 ∷ 0x18 ∷ 0 ∷ 0x18 ∷ 2 ∷ 0x128 ∷ 0x40
          ∷ 0x18 ∷ 0x20 ∷ 0x18 ∷ 0 ∷ 0x18 ∷ 0 ∷ 0x11C ∷ 0x20 ∷ [],
      [],
      9,
    )
unfolding called run_outcome runs wrong lengths fits next_access after span more wanted compared_length full_frame addr_answer stop_answer second_half_begins byte_moves found_in direction_of started sized nack_next_byte get put is_set
write_completes = refl

-- a read with a log of three accesses parks between the two accesses of its modify, and remembers the word that it read
begun_read : RunOutcome
begun_read = called Read 0x50 [] 3 (9 ∷ 9 ∷ []) (0 ∷ 0xAA ∷ 0x03000000 ∷ 4 ∷ 0x13C ∷ 0x20 ∷ 2 ∷ 1 ∷ [])

read_parks : shown begun_read ≡ (says 10 [], 0x04 ∷ 0 ∷ 0x24 ∷ 0xAA ∷ 0x04 ∷ 0x03000000 ∷ [], 9 ∷ 9 ∷ [], 3)
unfolding begun_read called run_outcome runs wrong lengths fits next_access after span more wanted compared_length full_frame addr_answer stop_answer second_half_begins byte_moves found_in direction_of started sized nack_next_byte get put is_set
read_parks = refl

read_remembers : begun_read.parked.phase ≡ Open (Setup 0x03000000)
unfolding begun_read called run_outcome runs wrong lengths fits next_access after span more wanted compared_length full_frame addr_answer stop_answer second_half_begins byte_moves found_in direction_of started sized nack_next_byte get put is_set
read_remembers = refl

-- resumed with the whole list, three of its words taken, it gets one byte, and STOPF makes it a short frame of one; all eight words are taken
read_resumed : shown (resumed [] 20 begun_read.parked 3 (9 ∷ 9 ∷ []) (0 ∷ 0xAA ∷ 0x03000000 ∷ 4 ∷ 0x13C ∷ 0x20 ∷ 2 ∷ 1 ∷ []))
    ≡ (
      says 5 (1 ∷ []),
      0x104 ∷ 0x020224A0 ∷ 0x18 ∷ 4 ∷ 0x24 ∷ 0x13C ∷ 0x18 ∷ 0x20 ∷ 0x18 ∷ 2 ∷ 0x128 ∷ 0 ∷ 0x18 ∷ 1 ∷ 0x118 ∷ 1 ∷ 0x11C ∷ 0x20 ∷ [],
      0x3C ∷ 9 ∷ [],
      8,
    )
unfolding begun_read called run_outcome runs wrong lengths fits next_access after span more wanted compared_length full_frame addr_answer stop_answer second_half_begins byte_moves found_in direction_of started sized nack_next_byte get put is_set
read_resumed = refl

-- an address is shifted in 8 bits: 0x80 gives SADD 0
address_shifted : (called Write 0x80 (1 ∷ []) 4 [] (0 ∷ 0 ∷ [])).numbers ≡ 0x04 ∷ 0 ∷ 0x04 ∷ 0 ∷ 0x104 ∷ 0x02012000 ∷ []
unfolding called run_outcome runs wrong lengths fits next_access after span more wanted compared_length full_frame addr_answer stop_answer second_half_begins byte_moves found_in direction_of started sized nack_next_byte get put is_set
address_shifted = refl

-- `slave_write` sends 0x21 for each TXIS after its last byte
slave_pads : (called SlaveWrite 0 (5 ∷ []) 20 [] (0 ∷ 2 ∷ 2 ∷ 2 ∷ [])).numbers
    ≡ 0x04 ∷ 0 ∷ 0x104 ∷ 0x10000 ∷ 0x118 ∷ 1 ∷ 0x11C ∷ 8 ∷ 0x18 ∷ 2 ∷ 0x128 ∷ 5 ∷ 0x18 ∷ 2 ∷ 0x128 ∷ 0x21 ∷ 0x18 ∷ 2 ∷ 0x128 ∷ 0x21 ∷ []
unfolding called run_outcome runs wrong lengths fits next_access after span more wanted compared_length full_frame addr_answer stop_answer second_half_begins byte_moves found_in direction_of started sized nack_next_byte get put is_set
slave_pads = refl

parked_at : Kind → Phase → ℕ → ℕ → ℕ → Parked
parked_at k f n m i = record { kind = k; address = 0; send = n; receive = m; phase = f; count = i }

-- STOPF in the wait for TC, after 254 bytes and after 255: done with nothing received, and a short frame
stop_after : ℕ → RunOutcome
stop_after n = run_outcome (replicate n 7) 5 (parked_at WriteRead Wait n 2 n) (9 ∷ 9 ∷ []) (0x20 ∷ 0 ∷ 0 ∷ [])

dummy_length : ((stop_after 254).answer ≡ says 0 []) × ((stop_after 254).buffer ≡ 9 ∷ 9 ∷ []) × ((stop_after 255).answer ≡ says 5 (255 ∷ []))
unfolding parked_at stop_after called run_outcome runs wrong lengths fits next_access after span more wanted compared_length full_frame addr_answer stop_answer second_half_begins byte_moves found_in direction_of started sized nack_next_byte get put is_set
dummy_length = (refl, refl, refl)

-- 11: after the end, a count above its length, other slices than at the begin, a slice lent to a call that has none
wrong_calls : ((run_outcome [] 4 (parked_at Read (Ended Stopf) 0 1 1) (9 ∷ []) []).answer ≡ says 11 [])
    × ((run_outcome [] 4 (parked_at Read Wait 0 1 2) (9 ∷ []) []).answer ≡ says 11 [])
    × ((run_outcome (1 ∷ []) 4 (parked_at WriteRead Wait 1 3 2) (9 ∷ 9 ∷ 9 ∷ []) []).answer ≡ says 11 [])
    × ((run_outcome [] 4 (parked_at Read Wait 0 0 0) [] []).answer ≡ says 11 [])
    × ((run_outcome [] 4 (parked_at Read Wait 0 2 0) (9 ∷ []) []).answer ≡ says 11 [])
    × ((run_outcome (1 ∷ []) 4 (parked_at Read Wait 1 1 0) (9 ∷ []) []).answer ≡ says 11 [])
    × ((run_outcome [] 4 (parked_at SlaveWaitAddressed Wait 0 0 1) [] []).answer ≡ says 11 [])
    × ((run_outcome [] 0 (parked_at Read Wait 0 1 0) (9 ∷ []) []).answer ≡ says 9 [])
    × ((run_outcome [] 0 (parked_at Read Wait 0 1 0) (9 ∷ []) (8 ∷ [])).answer ≡ says 10 [])
unfolding parked_at run_outcome runs wrong lengths fits next_access after span more wanted compared_length full_frame addr_answer stop_answer second_half_begins byte_moves found_in direction_of started sized nack_next_byte get put is_set
wrong_calls = (refl, refl, refl, refl, refl, refl, refl, refl, refl)
