-- Small runs, to be computed: a history from a link as constructed, a start, and calls after it.
use Prim.Native.Nat.{ℕ}
use mathlib.Core.Bool.{Bool}
use mathlib.Core.List.{List, [], ◌∷◌}
use Rattle.nonblocking_meaning.specs.Link.{fresh}
use Rattle.nonblocking_meaning.specs.Call.{Call, Step, check_isr_flags}
use Rattle.nonblocking_meaning.specs.Outcome.{Outcome, outcome}
use Rattle.nonblocking_meaning.specs.Book.{Book, Observed, observed, blank, feed, clean}
use Rattle.nonblocking_meaning.specs.EqualEnding.{step_of, ran, seen}

-- a call that reads zeros, and a check that reads this ISR word and then zeros; the log has room
abbrev pub go : Call → Step
go call = step_of call (0 ∷ 0 ∷ 0 ∷ []) 10

abbrev pub flag : ℕ → Step
flag isr = step_of check_isr_flags (isr ∷ 0 ∷ 0 ∷ []) 10

-- the outcome of a start after a history
abbrev pub started : List Step → Call → Outcome
started history start = outcome (go start) (ran fresh history)

-- the book that the start leaves, and what is seen of the calls after it
abbrev pub book_of : List Step → Call → Book
book_of history start = feed (observed start (started history start)) blank

abbrev pub events_of : List Step → Call → List Step → List Observed
events_of history start steps = seen (started history start).link steps

-- which events of a list are let in, and the book after it
unfoldable pub let_in : Book → List Observed → List Bool
let_in b [] = []
let_in b (e ∷ es) = clean e b ∷ let_in (feed e b) es

unfoldable pub fed : Book → List Observed → Book
fed b [] = b
fed b (e ∷ es) = fed (feed e b) es

-- one more call after them, as it is seen
abbrev pub last_of : List Step → Call → List Step → Step → Observed
last_of history start steps s = observed s.call (outcome s (ran (started history start).link steps))
