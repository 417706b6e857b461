-- The premises of the equal-ending statement can be met, with bytes shown in Data and two histories that leave different links.
use Prim.Native.Nat.{ℕ}
use mathlib.Core.Path.{◌≡◌, refl}
use mathlib.Core.Option.{Option, none, some}
use mathlib.Core.List.{List, [], ◌∷◌, map}
use lib.ListN.{take}
use lib.Dec.{T}
use Rattle.registers.specs.Field.{get, put, is_set}
use Rattle.registers.specs.Words.{sized}
use Rattle.registers.specs.Words.{started as start_word}
use Rattle.registers.specs.FlagOrder.{taken_as}
use Rattle.registers.specs.Isr.{direction_of}
use Rattle.registers.specs.Answers.{says}
use Rattle.nonblocking_meaning.specs.Link.{one_more}
use Rattle.nonblocking_meaning.specs.Link.{fresh, impossible}
use Rattle.nonblocking_meaning.specs.Call.{Call, Step, master_write, master_write_read, master_read, check_isr_flags, master_get_data, role_of, is_start}
use Rattle.nonblocking_meaning.specs.Outcome.{outcome}
use Rattle.nonblocking_meaning.specs.Book.{Observed}
use Rattle.nonblocking_meaning.specs.EqualEnding.{step_of, ran, seen, Clean}
use Rattle.nonblocking_meaning.proofs.Runs.{go, flag, started, book_of, events_of, fed}

-- a history with an error, a second-half length of 5, and the bytes 8 and 9; the other history is empty
abbrev busy : List Step
busy = flag 0x20 ∷ go (master_write_read 1 (8 ∷ 9 ∷ []) 5) ∷ []

-- what it leaves is not what a link has as constructed
busy_differs :
    ((ran fresh busy).errors ≡ 1) × ((ran fresh busy).length_write_read ≡ 5) × (take 2 (ran fresh busy).«data» ≡ 8 ∷ 9 ∷ [])
unfolding ran outcome impossible one_more start_word get put is_set taken_as
busy_differs = (refl, refl, refl)

-- The premises, after the busy history and after none; the bytes that each call then shows, and the first two places of the book at the end.
record Met (start : Call) (steps : List Step) (bytes : List (List ℕ)) (places : List (Option ℕ)) : Type 0 where
  starts : T (is_start (role_of start))
  accepted₁ : (started busy start).answer ≡ says 0 []
  accepted₂ : (started [] start).answer ≡ says 0 []
  clean₁ : Clean (book_of busy start) (events_of busy start steps)
  clean₂ : Clean (book_of [] start) (events_of [] start steps)
  shown₁ : map (λ (e : Observed). e.shown) (events_of busy start steps) ≡ bytes
  shown₂ : map (λ (e : Observed). e.shown) (events_of [] start steps) ≡ bytes
  book₁ : map (fed (book_of busy start) (events_of busy start steps)).place (0 ∷ 1 ∷ []) ≡ places
  book₂ : map (fed (book_of [] start) (events_of [] start steps)).place (0 ∷ 1 ∷ []) ≡ places

-- a check with RXNE that reads this byte
abbrev rxne : ℕ → Step
rxne byte = step_of check_isr_flags (0x04 ∷ byte ∷ []) 4

-- two bytes are sent, and STOPF shows them
sends : Met (master_write 0x50 (1 ∷ 2 ∷ [])) (flag 0x02 ∷ flag 0x02 ∷ flag 0x20 ∷ []) ([] ∷ [] ∷ (1 ∷ 2 ∷ []) ∷ []) (some 1 ∷ some 2 ∷ [])
unfolding ran seen Clean fed outcome impossible one_more start_word get put is_set taken_as direction_of
sends =
    record {
      starts = tt;
      accepted₁ = refl;
      accepted₂ = refl;
      clean₁ = (tt, (tt, (tt, tt)));
      clean₂ = (tt, (tt, (tt, tt)));
      shown₁ = refl;
      shown₂ = refl;
      book₁ = refl;
      book₂ = refl;
    }

-- two bytes are read, and STOPF shows them; before that `get_data` shows zeros
receives : Met (master_read 0x50 2) (go master_get_data ∷ rxne 0x3C ∷ rxne 0x7E ∷ flag 0x20 ∷ []) ((0 ∷ 0 ∷ []) ∷ [] ∷ [] ∷ (0x3C ∷ 0x7E ∷ []) ∷ []) (some 0x3C ∷ some 0x7E ∷ [])
unfolding ran seen Clean fed outcome impossible one_more start_word get put is_set taken_as direction_of
receives =
    record {
      starts = tt;
      accepted₁ = refl;
      accepted₂ = refl;
      clean₁ = (tt, (tt, (tt, (tt, tt))));
      clean₂ = (tt, (tt, (tt, (tt, tt))));
      shown₁ = refl;
      shown₂ = refl;
      book₁ = refl;
      book₂ = refl;
    }

-- two bytes are sent, TC opens the second half and empties the book, and the byte that is then read is shown
sends_and_receives : Met (master_write_read 0x50 (1 ∷ 2 ∷ []) 1) (flag 0x02 ∷ flag 0x02 ∷ flag 0x40 ∷ rxne 0x3C ∷ flag 0x20 ∷ []) ([] ∷ [] ∷ [] ∷ [] ∷ (0x3C ∷ []) ∷ []) (some 0x3C ∷ none ∷ [])
unfolding ran seen Clean fed outcome impossible one_more start_word get put is_set taken_as direction_of
sends_and_receives =
    record {
      starts = tt;
      accepted₁ = refl;
      accepted₂ = refl;
      clean₁ = (tt, (tt, (tt, (tt, (tt, tt)))));
      clean₂ = (tt, (tt, (tt, (tt, (tt, tt)))));
      shown₁ = refl;
      shown₂ = refl;
      book₁ = refl;
      book₂ = refl;
    }

-- after a write ADDR opens receiving and empties the book, and the byte that is then read is shown
is_addressed : Met (master_write 0x50 (1 ∷ 2 ∷ [])) (flag 0x08 ∷ rxne 0x3C ∷ flag 0x20 ∷ []) ([] ∷ [] ∷ (0x3C ∷ []) ∷ []) (some 0x3C ∷ none ∷ [])
unfolding ran seen Clean fed outcome impossible one_more start_word sized get put is_set taken_as direction_of
is_addressed =
    record {
      starts = tt;
      accepted₁ = refl;
      accepted₂ = refl;
      clean₁ = (tt, (tt, (tt, tt)));
      clean₂ = (tt, (tt, (tt, tt)));
      shown₁ = refl;
      shown₂ = refl;
      book₁ = refl;
      book₂ = refl;
    }
