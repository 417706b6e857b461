-- Document 01, blocking.rs: 'However the words are cut, accesses, received bytes and answer equal one uncut run.' For a caller that keeps numbers.
--
-- The cut law over numbers. A caller keeps a parked call as seven numbers, one list of words, which each cut makes longer, and one count of words
-- taken. However the words are cut, its runs joined are one uncut run over all the words, of the call that the first seven numbers load, whatever
-- numbers they are: the same accesses, received bytes, last answer and count, and the numbers that it keeps in the end load the call that the uncut
-- run leaves.
use Rattle.std.specs.Prelude.{ℕ, ◌+◌, ◌<◌, ◌≡◌, true, All, List, [], ◌∷◌, ◌++◌, length}
use Rattle.parked.specs.declared.kinds.Kind.{Kind}
use Rattle.parked.specs.Kinds.{lengths}
use Rattle.parked.specs.Refusals.{begun, ended}
use Rattle.blocking_meaning.specs.Run.{RunOutcome, run_outcome, called, resumed}
use Rattle.blocking_meaning.specs.CutLaw.{Cut, accesses, grown_unless_ended, all_words, Spare}
use Rattle.c_numbers.specs.ParkedCall.{stored, loaded, kept}

-- the seven numbers after a run of this outcome
abbrev pub numbers_after : List ℕ → RunOutcome → List ℕ
numbers_after xs q = kept xs q.answer q.parked

-- what a run comes to for a caller that keeps numbers: its parked call is the one that these load
abbrev pub in_numbers : List ℕ → RunOutcome → RunOutcome
in_numbers xs q = record { answer = q.answer; parked = loaded (numbers_after xs q); taken = q.taken; numbers = q.numbers; buffer = q.buffer }

-- the runs of such a caller over a list that grows cut by cut, joined; `xs` are the seven numbers, `ws` is the list before this cut
unfoldable pub number_runs : List ℕ → List ℕ → ℕ → List ℕ → List ℕ → Cut → List Cut → RunOutcome
number_runs s xs taken b ws c [] = in_numbers xs (resumed s c.room (loaded xs) taken b (ws ++ c.words))
number_runs s xs taken b ws c (d ∷ cs) =
    let q : RunOutcome = resumed s c.room (loaded xs) taken b (ws ++ c.words) in
    grown_unless_ended (ended q.parked) (in_numbers xs q) (number_runs s (numbers_after xs q) q.taken q.buffer (ws ++ c.words) d cs)

-- each has 32 bits
abbrev pub AreWords : List ℕ → Type 0
AreWords ws = All (λ w. w < 4294967296) ws

pub record CutNumbers : Type 0 where
  -- the numbers that are kept after a run load the call that it leaves
  pub keeps : (s : List ℕ) (n : ℕ) (xs b ws : List ℕ) → AreWords ws
      → loaded (numbers_after xs (run_outcome s n (loaded xs) b ws)) ≡ (run_outcome s n (loaded xs) b ws).parked
  -- of any seven numbers, and of those of a call that is begun
  pub joins : (s xs b : List ℕ) (c : Cut) (cs : List Cut) (m : ℕ) → AreWords (all_words c cs) → Spare m (number_runs s xs 0 b [] c cs)
      → number_runs s xs 0 b [] c cs ≡ run_outcome s (accesses (number_runs s xs 0 b [] c cs).numbers + m) (loaded xs) b (all_words c cs)
  pub begins : (k : Kind) (address : ℕ) (s b : List ℕ) (c : Cut) (cs : List Cut) (m : ℕ) → address < 256 → lengths k (length s) (length b) ≡ true
      → AreWords (all_words c cs) → Spare m (number_runs s (stored (begun k address (length s) (length b))) 0 b [] c cs)
      → number_runs s (stored (begun k address (length s) (length b))) 0 b [] c cs
      ≡ called k address s (accesses (number_runs s (stored (begun k address (length s) (length b))) 0 b [] c cs).numbers + m) b (all_words c cs)
