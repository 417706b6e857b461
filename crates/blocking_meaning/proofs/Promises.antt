-- What a contract promises where it cites `RunMatches`, and what the laws say, once more and in document 01's words. Only contracts cite these
-- definitions, so a weaker one would be proved as well.
use Prim.Native.Nat.{ℕ, suc, ◌+◌, ◌≤◌}
use mathlib.Core.Path.{◌≡◌, refl, sym, ap, ◌∙◌, subst}
use mathlib.Core.Bool.{Bool, true, false}
use mathlib.Core.List.{List, [], ◌∷◌, ◌++◌}
use native.Mathlib.Nat.{zero-add}
use lib.ListN.{length, take, drop}
use lib.Seq.{sets}
use Rattle.std.specs.Prelude.{Ok}
use Rattle.registers.specs.Answers.{said, says}
use Rattle.registers.specs.CallLog.{over}
use Rattle.parked.specs.declared.Parked.{Parked}
use Rattle.parked.specs.declared.next_access.Next.TheVariants.{Read, Write}
use Rattle.parked.specs.Refusals.{begun, ended, wrong}
use Rattle.parked.specs.declared.kinds.Kind.{Kind}
use Rattle.parked.specs.Kinds.{lengths}
use Rattle.blocking_meaning.specs.declared.Ran.{Ran}
use Rattle.blocking_meaning.specs.Run.{RunOutcome, joined, next, run_outcome, called, resumed, RunMatches}
use Rattle.blocking_meaning.specs.CutLaw.{accesses, unless_ended, cut_runs, grown_unless_ended, growing_runs, all_words, CutLaw}
use Rattle.blocking_meaning.specs.BufferLaw.{received_bytes, next_place, BufferLaw}
use Rattle.blocking_meaning.specs.NextLaw.{NextLaw}
use Rattle.blocking_meaning.proofs.OneAccess.{joined-none}

-- the answer, the parked call, the words taken and the places logged are the outcome's; so are the log from its first place on, and the buffer
promised : (q : RunOutcome) (log : List ℕ) (r : Ran) (log' b' : List ℕ) → RunMatches q log r log' b' →
    (said r.report.answer ≡ q.answer)
    × (r.parked ≡ q.parked)
    × (r.report.taken ≡ q.taken)
    × (r.report.logged ≡ length q.numbers)
    × (log' ≡ over q.numbers log)
    × (b' ≡ q.buffer)
promised q log r log' b' w = (w.answer, w.parked, w.taken, w.logged, w.entries, w.buffer)

-- A call runs over some words and has not ended; it continues with the rest of them, from the first one not taken, and with new ones. Both runs
-- joined are one uncut run, with room for their accesses and for any number more, unless the second run's log was full.
module _ (s : List ℕ) (p : Parked) (b ws vs : List ℕ) (n k m : ℕ) where
  abbrev before : RunOutcome
  before = run_outcome s n p b ws

  abbrev later : RunOutcome
  later = run_outcome s k before.parked before.buffer (drop before.taken ws ++ vs)

  cut_once : CutLaw → ended before.parked ≡ false → (later.answer ≡ says 10 [] → m ≡ 0) →
      joined before.taken before.numbers later ≡ run_outcome s (accesses (before.numbers ++ later.numbers) + m) p b (ws ++ vs)
  unfolding cut_runs all_words
  cut_once L e h =
      subst (λ (t : Bool). ((unless_ended t before later).answer ≡ says 10 [] → m ≡ 0) → unless_ended t before later ≡ run_outcome s (accesses (unless_ended t before later).numbers + m) p b (ws ++ vs)) e
      (L.joins s p b (record { words = ws; room = n }) (record { words = vs; room = k } ∷ []) m) h

-- The same of the calls that a host makes: one is begun with good lengths over some words, has not ended, and is resumed over these and new ones in one
-- list, with the count of words taken that the first call reported. Both are one call begun over all the words: the second's answer, parked call,
-- count and buffer, and the accesses of the first and then of the second.
module _ (kind : Kind) (address : ℕ) (s b ws vs : List ℕ) (n k m : ℕ) where
  abbrev second : RunOutcome → RunOutcome
  second first = resumed s k first.parked first.taken first.buffer (ws ++ vs)

  abbrev OneCall : RunOutcome → Type 0
  OneCall first =
      let q : RunOutcome = second first in
      ended first.parked ≡ false → (q.answer ≡ says 10 [] → m ≡ 0) →
      record { answer = q.answer; parked = q.parked; taken = q.taken; numbers = first.numbers ++ q.numbers; buffer = q.buffer }
      ≡ called kind address s (accesses (first.numbers ++ q.numbers) + m) b (ws ++ vs)

  abbrev both : Bool → RunOutcome → RunOutcome
  both t first = grown_unless_ended t first (second first)

  abbrev Joined : RunOutcome → Bool → Type 0
  Joined first t = ((both t first).answer ≡ says 10 [] → m ≡ 0) → both t first ≡ called kind address s (accesses (both t first).numbers + m) b (ws ++ vs)

  one_call : (first : RunOutcome) → Joined first (ended first.parked) → OneCall first
  one_call first f e h =
      let q : RunOutcome = second first in
      ap (λ (t : ℕ). record { answer = q.answer; parked = q.parked; taken = t; numbers = first.numbers ++ q.numbers; buffer = q.buffer })
      (sym (zero-add q.taken))
      ∙ subst (Joined first) e f h

  abbrev call : Parked
  call = begun kind address (length s) (length b)

  from_first : lengths kind (length s) (length b) ≡ true → resumed s n call 0 b ws ≡ called kind address s n b ws
  unfolding called
  from_first g = rw g (sym (joined-none (run_outcome s n call b ws)))

  call_cut_once : CutLaw → lengths kind (length s) (length b) ≡ true → OneCall (called kind address s n b ws)
  unfolding growing_runs all_words
  call_cut_once L g =
      subst OneCall (from_first g)
      (one_call (resumed s n call 0 b ws) (L.begins_grows kind address s b (record { words = ws; room = n }) (record { words = vs; room = k } ∷ []) m g))

-- what a host that asks `next` relies on: with room, the log begins with that access, its word the first of the words or the one that is written
first_logged : NextLaw → (s : List ℕ) (n : ℕ) (p : Parked) (b : List ℕ) (w : ℕ) (ws : List ℕ) (number word : ℕ) (keep : Bool) → wrong p (length s) (length b) ≡ false →
    (next s p ≡ Ok (Read number keep) → take 2 (run_outcome s (suc n) p b (w ∷ ws)).numbers ≡ number ∷ w ∷ [])
    × (next s p ≡ Ok (Write number word) → take 2 (run_outcome s (suc n) p b ws).numbers ≡ number ∷ word ∷ [])
first_logged L s n p b w ws number word keep r = (
  λ e. ap (λ (q : RunOutcome). take 2 q.numbers) (L.read s n p b w ws number keep r e),
  λ e. ap (λ (q : RunOutcome). take 2 q.numbers) (L.write s n p b ws number word r e),
)

-- an access has two numbers in the log
two_numbers : (a v b w : ℕ) → (accesses (a ∷ v ∷ b ∷ w ∷ []) ≡ 2) × (accesses (a ∷ []) ≡ 0)
two_numbers a v b w = (refl, refl)

-- a run changes no place of the buffer but those of the bytes that came in, one after the other, all inside it; the count says the next place
bytes_kept : BufferLaw → (s : List ℕ) (n : ℕ) (p : Parked) (b ws : List ℕ) →
    ((run_outcome s n p b ws).buffer ≡ sets b (next_place p) (received_bytes s n p b ws))
    × (wrong p (length s) (length b) ≡ false → next_place p + length (received_bytes s n p b ws) ≤ length b)
    × (next_place (run_outcome s n p b ws).parked ≡ next_place p + length (received_bytes s n p b ws))
    × ((x : ℕ) → (run_outcome s n p b ws).answer ≡ says 5 (x ∷ []) → x ≡ (run_outcome s n p b ws).parked.count)
bytes_kept L s n p b ws = (L.filled s n p b ws, L.inside s n p b ws, L.counted s n p b ws, L.frame_count s n p b ws)
