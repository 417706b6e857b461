-- What a contract promises where it cites `Out` or `StoredRun`, item by item; the cut law over numbers at one cut; and the access that is named.
-- Only contracts and these laws cite the definitions, and code that does more than a weaker item asks would be proved as well; so each is said here
-- once more.
use Prim.Native.Nat.{ℕ, suc, ◌+◌, ◌<◌}
use mathlib.Core.Path.{◌≡◌, sym, ap, ap₂, ◌∙◌, subst}
use mathlib.Core.Bool.{Bool, true, false, cond, ◌||◌}
use mathlib.Core.List.{List, [], ◌∷◌, ◌++◌}
use native.Mathlib.Nat.{zero-add}
use lib.Dec.{eqb}
use lib.ListN.{length, get_or, take, drop}
use Rattle.registers.specs.declared.call_log.Report.{Report}
use Rattle.registers.specs.Answers.{said, says}
use Rattle.c_numbers.specs.Answer.{Out}
use Rattle.blocking_meaning.specs.declared.Ran.{Ran}
use Rattle.parked.specs.declared.Parked.{Parked}
use Rattle.parked.specs.declared.kinds.Kind.{Kind}
use Rattle.parked.specs.Kinds.{lengths}
use Rattle.parked.specs.Refusals.{begun, ended, wrong}
use Rattle.blocking_meaning.specs.Run.{RunOutcome, next, run_outcome, called, resumed, RunMatches}
use Rattle.blocking_meaning.specs.CutLaw.{Cut, accesses, grown_unless_ended, all_words}
use Rattle.blocking_meaning.proofs.HandedOn.{joined-none}
use Rattle.c_numbers.specs.CutNumbers.{numbers_after, in_numbers, number_runs, AreWords, CutNumbers}
use Rattle.c_numbers.proofs.CutsInNumbers.{opening_small}
use Rattle.c_numbers.specs.Next.{next_numbers, entry, NamesFirst}
use Rattle.c_numbers.specs.ParkedCall.{kind_number, phase_number, phase_word, stored, loaded, LoadsStored, refused, kept, StoredRun}

-- a report of which the contract holds, and its numbers: the answer's, the words taken, the places logged, and the answer's values
out_promised : (holds : Report → Type 0) (out : List ℕ) → Out holds out →
    (r : Report) × holds r
    × (out ≡ (said r.answer).number ∷ r.taken ∷ r.logged ∷ get_or (said r.answer).values 0 0 ∷ get_or (said r.answer).values 1 0 ∷ get_or (said r.answer).values 2 0 ∷ [])
out_promised holds out o = (o.report, o.held, o.numbers)

-- a run of which the contract holds; the numbers of the call as they were where the answer is 6 or 11, else its parked call stored; and its numbers, as above
stored_promised : (holds : Ran → Type 0) (before after out : List ℕ) → StoredRun holds before after out →
    (r : Ran) × holds r
    × (after ≡ cond (eqb (said r.report.answer).number 6 || eqb (said r.report.answer).number 11) before (stored r.parked))
    × (out ≡ (said r.report.answer).number ∷ r.report.taken ∷ r.report.logged ∷ get_or (said r.report.answer).values 0 0 ∷ get_or (said r.report.answer).values 1 0 ∷ get_or (said r.report.answer).values 2 0 ∷ [])
stored_promised holds before after out l = (l.ran, l.held, l.leaves.0, l.leaves.1)

-- what a run of the code leaves where it matches an outcome is what the cut law over numbers hands on: the numbers after that outcome, and its count
handed_on : (q : RunOutcome) (log log' b' before after out : List ℕ) → StoredRun (λ r. RunMatches q log r log' b') before after out →
    (after ≡ numbers_after before q) × (get_or out 1 0 ≡ q.taken)
handed_on q log log' b' before after out l = (
  l.leaves.0 ∙ ap₂ (kept before) l.held.answer l.held.parked,
  ap (λ (six : List ℕ). get_or six 1 0) l.leaves.1 ∙ l.held.taken,
)

-- a call that is stored as seven numbers and loaded again is the same call
same_call : LoadsStored → (p : Parked) → p.address < 256 → phase_word p.phase < 4294967296 →
    loaded (kind_number p.kind ∷ p.address ∷ p.send ∷ p.receive ∷ phase_number p.phase ∷ phase_word p.phase ∷ p.count ∷ []) ≡ p
same_call kept p = kept p

-- A call is run over some words and has not ended. It is resumed with the seven numbers that it left, over these words and new ones in one list, with the
-- count of words taken that the first run reported. Both are one uncut run over all the words, with room for their accesses and for any number more, unless
-- the second run's log was full: the second's answer, count and buffer, the accesses of the first and then of the second, and the call that the numbers
-- load in the end.
module _ (s b ws vs : List ℕ) (n k m : ℕ) where
  abbrev second : List ℕ → RunOutcome → RunOutcome
  second xs first = resumed s k (loaded xs) first.taken first.buffer (ws ++ vs)

  abbrev OneRun : (ℕ → RunOutcome) → List ℕ → RunOutcome → Type 0
  OneRun uncut xs first =
      let q : RunOutcome = second xs first in
      ended first.parked ≡ false → (q.answer ≡ says 10 [] → m ≡ 0) →
      record { answer = q.answer; parked = loaded (numbers_after xs q); taken = q.taken; numbers = first.numbers ++ q.numbers; buffer = q.buffer }
      ≡ uncut (accesses (first.numbers ++ q.numbers) + m)

  abbrev both : List ℕ → RunOutcome → Bool → RunOutcome
  both xs first t = grown_unless_ended t (in_numbers xs first) (in_numbers (numbers_after xs first) (second (numbers_after xs first) first))

  abbrev Joined : (ℕ → RunOutcome) → List ℕ → RunOutcome → Bool → Type 0
  Joined uncut xs first t = ((both xs first t).answer ≡ says 10 [] → m ≡ 0) → both xs first t ≡ uncut (accesses (both xs first t).numbers + m)

  one_run : (uncut : ℕ → RunOutcome) (xs : List ℕ) (first : RunOutcome) → Joined uncut xs first (ended first.parked) → OneRun uncut (numbers_after xs first) first
  one_run uncut xs first f e h =
      let q : RunOutcome = in_numbers (numbers_after xs first) (second (numbers_after xs first) first) in
      ap (λ (t : ℕ). record { answer = q.answer; parked = q.parked; taken = t; numbers = first.numbers ++ q.numbers; buffer = q.buffer })
      (sym (zero-add q.taken))
      ∙ subst (Joined uncut xs first) e f h

  abbrev cut : List ℕ → ℕ → Cut
  cut us r = record { words = us; room = r }

  -- of any seven numbers, with no word taken yet
  cut_once : CutNumbers → (xs : List ℕ) → AreWords (ws ++ vs) →
      OneRun (λ j. run_outcome s j (loaded xs) b (ws ++ vs)) (numbers_after xs (resumed s n (loaded xs) 0 b ws)) (resumed s n (loaded xs) 0 b ws)
  unfolding number_runs all_words
  cut_once L xs h =
      one_run (λ j. run_outcome s j (loaded xs) b (ws ++ vs)) xs (resumed s n (loaded xs) 0 b ws)
      (L.joins s xs b (cut ws n) (cut vs k ∷ []) m h)

  -- of a call that is begun with good lengths and stored
  module _ (kind : Kind) (address : ℕ) where
    abbrev call : Parked
    call = begun kind address (length s) (length b)

    abbrev begins : RunOutcome
    begins = called kind address s n b ws

    from_first : lengths kind (length s) (length b) ≡ true → loaded (stored call) ≡ call → resumed s n (loaded (stored call)) 0 b ws ≡ begins
    unfolding called
    from_first g e = rw (g, e) (sym (joined-none (run_outcome s n call b ws)))

    as_stored : (uncut : ℕ → RunOutcome) → refused begins.answer ≡ false → OneRun uncut (numbers_after (stored call) begins) begins → OneRun uncut (stored begins.parked) begins
    as_stored uncut r f = subst (λ (t : Bool). OneRun uncut (cond t (stored call) (stored begins.parked)) begins) r f

    abbrev uncut_call : ℕ → RunOutcome
    uncut_call j = called kind address s j b (ws ++ vs)

    begun_cut_once : CutNumbers → LoadsStored → address < 256 → lengths kind (length s) (length b) ≡ true → AreWords (ws ++ vs) → refused begins.answer ≡ false →
        OneRun uncut_call (stored begins.parked) begins
    unfolding number_runs all_words
    begun_cut_once L K a g h r =
        as_stored uncut_call r
        (subst (λ (q : RunOutcome). OneRun uncut_call (numbers_after (stored call) q) q) (from_first g (K call a (opening_small kind)))
        (one_run uncut_call (stored call) (resumed s n (loaded (stored call)) 0 b ws) (L.begins kind address s b (cut ws n) (cut vs k ∷ []) m a g h)))

-- three numbers are named of a call that seven numbers hold; resumed with room, it logs first that register with the first word that is not taken, or
-- that register plus 0x100 with the word named
first_named : NamesFirst → (s xs b words ws : List ℕ) (n taken register w word : ℕ) → wrong (loaded xs) (length s) (length b) ≡ false →
    (next_numbers (next s (loaded xs)) ≡ 1 ∷ register ∷ 0 ∷ [] → drop taken words ≡ w ∷ ws → take 2 (resumed s (suc n) (loaded xs) taken b words).numbers ≡ register ∷ w ∷ [])
    × (next_numbers (next s (loaded xs)) ≡ 2 ∷ register ∷ word ∷ [] → take 2 (resumed s (suc n) (loaded xs) taken b words).numbers ≡ (register + 0x100) ∷ word ∷ [])
first_named F s xs b words ws n taken register w word r = (
  λ e d. F s xs n taken b words r ∙ ap₂ entry e d,
  λ e. F s xs n taken b words r ∙ ap (λ (access : List ℕ). entry access (drop taken words)) e,
)
