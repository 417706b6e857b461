-- Document 01's walk, and a lost bus, by computation.
use mathlib.Core.Path.{◌≡◌, refl}
use mathlib.Core.List.{List, [], ◌∷◌, map}
use Prim.Native.Nat.{ℕ}
use Rattle.registers.specs.Field.{get, put, is_set}
use Rattle.registers.specs.Layout.{CR2, ISR, ICR, TXDR, RXDR}
use Rattle.registers.specs.Words.{started}
use Rattle.registers.specs.FlagOrder.{taken_as}
use Rattle.registers.specs.Isr.{direction_of}
use Rattle.registers.specs.CallLog.{Access, read, write}
use Rattle.registers.specs.Answers.{Said, says}
use Rattle.nonblocking_meaning.specs.Link.{fresh, impossible}
use Rattle.nonblocking_meaning.specs.Call.{Step, master_write_read, check_isr_flags, get_errors_reset}
use Rattle.nonblocking_meaning.specs.Outcome.{outcome}
use Rattle.nonblocking_meaning.specs.Book.{Observed}
use Rattle.nonblocking_meaning.specs.EqualEnding.{step_of, seen}

-- the answers, the accesses and the bytes shown of steps on a fresh link
abbrev answers : List Step → List Said
answers steps = map (λ (e : Observed). e.answer) (seen fresh steps)

abbrev accesses : List Step → List (List Access)
accesses steps = map (λ (e : Observed). e.accesses) (seen fresh steps)

abbrev shown : List Step → List (List ℕ)
shown steps = map (λ (e : Observed). e.shown) (seen fresh steps)

abbrev check : List ℕ → Step
check words = step_of check_isr_flags words 10

-- a lost bus is answered 4, and is not counted as an error
lost_bus : answers (check (0x200 ∷ []) ∷ step_of get_errors_reset [] 0 ∷ []) ≡ says 4 [] ∷ says 0x45 (0 ∷ []) ∷ []
unfolding seen outcome impossible taken_as is_set get
lost_bus = refl

-- document 01's walk: its words, accesses, answers and bytes
walk : List Step
walk =
    step_of (master_write_read 0x50 (0x01 ∷ 0x40 ∷ []) 2) (0 ∷ 0 ∷ []) 10
    ∷ check (0x02 ∷ [])
    ∷ check (0x02 ∷ [])
    ∷ check (0x40 ∷ [])
    ∷ check (0x04 ∷ 0x3C ∷ [])
    ∷ check (0x04 ∷ 0x7E ∷ [])
    ∷ check (0x20 ∷ [])
    ∷ []

walk_accesses :
    accesses walk
    ≡ (read CR2 0 ∷ read CR2 0 ∷ write CR2 0x000220A0 ∷ [])
    ∷ (read ISR 0x02 ∷ write TXDR 0x01 ∷ [])
    ∷ (read ISR 0x02 ∷ write TXDR 0x40 ∷ [])
    ∷ (read ISR 0x40 ∷ write CR2 0x020224A0 ∷ [])
    ∷ (read ISR 0x04 ∷ read RXDR 0x3C ∷ [])
    ∷ (read ISR 0x04 ∷ read RXDR 0x7E ∷ [])
    ∷ (read ISR 0x20 ∷ write ICR 0x20 ∷ [])
    ∷ []
unfolding walk seen outcome impossible started taken_as is_set get put
walk_accesses = refl

walk_answers :
    answers walk ≡ says 0 [] ∷ says 1 [] ∷ says 1 [] ∷ says 1 [] ∷ says 1 [] ∷ says 1 [] ∷ says 0x44 (0x50 ∷ 1 ∷ 2 ∷ []) ∷ []
unfolding walk seen outcome impossible started taken_as direction_of is_set get put
walk_answers = refl

walk_bytes : shown walk ≡ [] ∷ [] ∷ [] ∷ [] ∷ [] ∷ [] ∷ (0x3C ∷ 0x7E ∷ []) ∷ []
unfolding walk seen outcome impossible started taken_as direction_of is_set get put
walk_bytes = refl
