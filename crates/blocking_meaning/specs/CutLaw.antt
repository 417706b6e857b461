-- Document 01, blocking.rs: 'However the words are cut, accesses, received bytes and answer equal one uncut run.'
--
-- The cut law. However the words of a call are cut, and whatever log each run gets, the runs joined are one uncut run over all the
-- words: the same accesses in order, received bytes, last answer and parked call. The uncut run's log has room for those accesses and,
-- unless the last run's log was full (answer 10), for any number more. This holds of a call that is parked and of one that is begun. The same
-- holds of a caller that keeps one list, which each cut makes longer, and one count of words taken, which it hands on from run to run. And a
-- run that parks and is given nothing new changes nothing.
use Rattle.std.specs.Prelude.{ℕ, suc, ◌+◌, ◌≡◌, Bool, true, false, List, [], ◌∷◌, ◌++◌, length, drop}
use Rattle.registers.specs.Answers.{says}
use Rattle.parked.specs.declared.Parked.{Parked}
use Rattle.parked.specs.Refusals.{begun, ended}
use Rattle.parked.specs.declared.kinds.Kind.{Kind}
use Rattle.parked.specs.Kinds.{lengths}
use Rattle.blocking_meaning.specs.Run.{RunOutcome, without_access, joined, run_outcome, called, resumed}

-- a cut: the words that newly arrived, and for how many accesses the log of that run has room
pub record Cut : Type 0 where
  pub words : List ℕ
  pub room : ℕ

-- how many accesses a log shows
abbrev pub accesses : List ℕ → ℕ
accesses [] = 0
accesses (number ∷ []) = 0
accesses (number ∷ word ∷ numbers) = suc (accesses numbers)

-- a call is resumed with the next cut while it has not ended
abbrev pub unless_ended : Bool → RunOutcome → RunOutcome → RunOutcome
unless_ended true q rest = q
unless_ended false q rest = joined q.taken q.numbers rest

-- the runs of a call over its cuts, joined; `us` are the words that came before and are not taken yet
unfoldable pub cut_runs : List ℕ → Parked → List ℕ → List ℕ → Cut → List Cut → RunOutcome
cut_runs s p b us c [] = run_outcome s c.room p b (us ++ c.words)
cut_runs s p b us c (d ∷ cs) =
    let q : RunOutcome = run_outcome s c.room p b (us ++ c.words) in
    unless_ended (ended q.parked) q (cut_runs s q.parked q.buffer (drop q.taken (us ++ c.words)) d cs)

-- the same over a list that grows: the next run's count is of the whole list already
abbrev pub grown_unless_ended : Bool → RunOutcome → RunOutcome → RunOutcome
grown_unless_ended true q rest = q
grown_unless_ended false q rest = joined 0 q.numbers rest

-- the runs of a call over a list that grows cut by cut, joined: each is resumed over the whole list so far, with the count that the run before it
-- reported; `ws` is the list before this cut, of which `taken` words are taken
unfoldable pub growing_runs : List ℕ → Parked → ℕ → List ℕ → List ℕ → Cut → List Cut → RunOutcome
growing_runs s p taken b ws c [] = resumed s c.room p taken b (ws ++ c.words)
growing_runs s p taken b ws c (d ∷ cs) =
    let q : RunOutcome = resumed s c.room p taken b (ws ++ c.words) in
    grown_unless_ended (ended q.parked) q (growing_runs s q.parked q.taken q.buffer (ws ++ c.words) d cs)

-- all the words of the cuts
unfoldable pub all_words : Cut → List Cut → List ℕ
all_words c [] = c.words
all_words c (d ∷ cs) = c.words ++ all_words d cs

-- room for `m` more accesses makes no difference to an outcome
abbrev pub Spare : ℕ → RunOutcome → Type 0
Spare m q = q.answer ≡ says 10 [] → m ≡ 0

pub record CutLaw : Type 0 where
  pub joins : (s : List ℕ) (p : Parked) (b : List ℕ) (c : Cut) (cs : List Cut) (m : ℕ) → Spare m (cut_runs s p b [] c cs)
      → cut_runs s p b [] c cs ≡ run_outcome s (accesses (cut_runs s p b [] c cs).numbers + m) p b (all_words c cs)
  pub begins : (k : Kind) (address : ℕ) (s b : List ℕ) (c : Cut) (cs : List Cut) (m : ℕ) → lengths k (length s) (length b) ≡ true
      → Spare m (cut_runs s (begun k address (length s) (length b)) b [] c cs)
      → cut_runs s (begun k address (length s) (length b)) b [] c cs
      ≡ called k address s (accesses (cut_runs s (begun k address (length s) (length b)) b [] c cs).numbers + m) b (all_words c cs)
  pub grows : (s : List ℕ) (p : Parked) (b : List ℕ) (c : Cut) (cs : List Cut) (m : ℕ) → Spare m (growing_runs s p 0 b [] c cs)
      → growing_runs s p 0 b [] c cs ≡ run_outcome s (accesses (growing_runs s p 0 b [] c cs).numbers + m) p b (all_words c cs)
  pub begins_grows : (k : Kind) (address : ℕ) (s b : List ℕ) (c : Cut) (cs : List Cut) (m : ℕ) → lengths k (length s) (length b) ≡ true
      → Spare m (growing_runs s (begun k address (length s) (length b)) 0 b [] c cs)
      → growing_runs s (begun k address (length s) (length b)) 0 b [] c cs
      ≡ called k address s (accesses (growing_runs s (begun k address (length s) (length b)) 0 b [] c cs).numbers + m) b (all_words c cs)
  pub nothing_new : (s : List ℕ) (n : ℕ) (p : Parked) (b ws : List ℕ) (m : ℕ) → Spare m (run_outcome s n p b ws) → ended (run_outcome s n p b ws).parked ≡ false
      → run_outcome s m (run_outcome s n p b ws).parked (run_outcome s n p b ws).buffer (drop (run_outcome s n p b ws).taken ws)
      ≡ without_access (run_outcome s n p b ws).answer (run_outcome s n p b ws).parked (run_outcome s n p b ws).buffer
