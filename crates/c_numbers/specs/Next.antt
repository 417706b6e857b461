-- The access that a parked call wants next, as three numbers: none, a read or a write; the register's offset; the word of a write.
use Rattle.std.specs.Prelude.{ℕ, suc, ◌+◌, ◌%◌, ◌≡◌, false, cond, eqb, List, [], ◌∷◌, length, get_or, take, drop, Result, Ok, Err}
use Rattle.parked.specs.declared.phases.End.{End}
use Rattle.parked.specs.declared.next_access.Next.{Next}
use Rattle.parked.specs.declared.next_access.Next.TheVariants.{Read, Write}
use Rattle.parked.specs.Refusals.{wrong}
use Rattle.blocking_meaning.specs.Run.{next, resumed}
use Rattle.c_numbers.specs.ParkedCall.{loaded}

-- 0 where none follows, 1 for a read, 2 for a write; the first number of a log entry without the 0x100 of a write; 0 where there is no word
abbrev pub next_numbers : Result Next End → List ℕ
next_numbers (Err end) = 0 ∷ 0 ∷ 0 ∷ []
next_numbers (Ok (Read number keep)) = 1 ∷ number % 0x100 ∷ 0 ∷ []
next_numbers (Ok (Write number word)) = 2 ∷ number % 0x100 ∷ word ∷ []

-- its entry in the log: a read takes the first word and without one is not made; a write has 0x100 more and its own word; none has no entry
abbrev pub read_entry : ℕ → List ℕ → List ℕ
read_entry register [] = []
read_entry register (word ∷ words) = register ∷ word ∷ []

abbrev pub entry : List ℕ → List ℕ → List ℕ
entry access words =
    cond (eqb (get_or access 0 0) 1) (read_entry (get_or access 1 0) words)
    (cond (eqb (get_or access 0 0) 2) ((get_or access 1 0 + 0x100) ∷ get_or access 2 0 ∷ []) [])

-- a call that seven numbers hold, resumed with room and not answered 11, makes first the access that was named
abbrev pub NamesFirst : Type 0
NamesFirst =
    (s xs : List ℕ) (n taken : ℕ) (b words : List ℕ) → wrong (loaded xs) (length s) (length b) ≡ false →
    take 2 (resumed s (suc n) (loaded xs) taken b words).numbers ≡ entry (next_numbers (next s (loaded xs))) (drop taken words)
