-- Document 01, blocking.rs: 'here a call is begun, runs over the words, and parks when they end. A parked call continues with the rest of the words, from the first
-- one not taken.' And of the answers: 'For one access 9 goes before 10', 'parked before that access'.
use Rattle.std.specs.Prelude.{ℕ, zero, suc, ◌+◌, ◌/◌, ◌≡◌, Bool, cond, List, [], ◌∷◌, ◌++◌, length, get_or, drop, set, Result, Ok, Err}
use Rattle.registers.specs.Answers.{Said, says, said}
use Rattle.registers.specs.CallLog.{over}
use Rattle.registers.specs.Words.{received}
use Rattle.parked.specs.declared.kinds.Kind.{Kind}
use Rattle.parked.specs.declared.phases.End.{End}
use Rattle.parked.specs.declared.next_access.Next.{Next}
use Rattle.parked.specs.declared.next_access.Next.TheVariants.{Read, Write}
use Rattle.parked.specs.declared.Parked.{Parked}
use Rattle.blocking_meaning.specs.declared.Ran.{Ran}
use Rattle.parked.specs.NextAccess.{next_access}
use Rattle.parked.specs.BusyWait.{answer}
use Rattle.parked.specs.After.{after}
use Rattle.parked.specs.Refusals.{begun, refused_at_begin, wrong}
use Rattle.parked.specs.Kinds.{lengths}

-- what a run comes to
pub record RunOutcome : Type 0 where
  pub answer : Said
  -- 'parked': the call where it stands, before the access that has no word or no room; or the call that has ended
  pub parked : Parked
  -- how many words it took
  pub taken : ℕ
  -- what it wrote to the log
  pub numbers : List ℕ
  pub buffer : List ℕ

-- no access is made
abbrev pub without_access : Said → Parked → List ℕ → RunOutcome
without_access a p b = record { answer = a; parked = p; taken = 0; numbers = []; buffer = b }

-- a run, with words taken and accesses logged before it
abbrev pub joined : ℕ → List ℕ → RunOutcome → RunOutcome
joined t l q = record { answer = q.answer; parked = q.parked; taken = t + q.taken; numbers = l ++ q.numbers; buffer = q.buffer }

-- the byte that came in goes to the place of the count
abbrev pub with_byte : Bool → ℕ → ℕ → List ℕ → List ℕ
with_byte keep count word b = cond keep (set b count (received word)) b

-- the next access; after the last byte of the slice 0x21 is sent
abbrev pub next : List ℕ → Parked → Result Next End
next s p = next_access p (get_or s p.count 0x21)

-- one access of a run that goes on by `k`; 9 where its read has no word
abbrev pub step : Result Next End → List ℕ → Parked → List ℕ → (Parked → List ℕ → List ℕ → RunOutcome) → RunOutcome
step (Err end) ws p b k = without_access (answer end p) p b
step (Ok (Read number keep)) [] p b k = without_access (says 9 []) p b
step (Ok (Read number keep)) (w ∷ ws) p b k = joined 1 (number ∷ w ∷ []) (k (after p w) (with_byte keep p.count w b) ws)
step (Ok (Write number word)) ws p b k = joined 0 (number ∷ word ∷ []) (k (after p 0) b ws)

-- no room for an access: 9 goes before 10, and a call that has ended makes none
abbrev pub full : Result Next End → List ℕ → Parked → List ℕ → RunOutcome
full (Err end) ws p b = without_access (answer end p) p b
full (Ok (Read number keep)) [] p b = without_access (says 9 []) p b
full (Ok (Read number keep)) (w ∷ ws) p b = without_access (says 10 []) p b
full (Ok (Write number word)) ws p b = without_access (says 10 []) p b

-- the bytes to send, the room, the call, the buffer, the words
unfoldable pub runs : List ℕ → ℕ → Parked → List ℕ → List ℕ → RunOutcome
runs s zero p b ws = full (next s p) ws p b
runs s (suc n) p b ws = step (next s p) ws p b (runs s n)

-- a call that is run or resumed: 11 is tested first, once
unfoldable pub run_outcome : List ℕ → ℕ → Parked → List ℕ → List ℕ → RunOutcome
run_outcome s n p b ws = cond (wrong p (length s) (length b)) (without_access (says 11 []) p b) (runs s n p b ws)

-- a call that is begun and run: 6 is tested before any access
unfoldable pub called : Kind → ℕ → List ℕ → ℕ → List ℕ → List ℕ → RunOutcome
called k address s n b ws =
    cond (lengths k (length s) (length b))
    (run_outcome s n (begun k address (length s) (length b)) b ws)
    (without_access (says 6 []) (refused_at_begin k address (length s) (length b)) b)

-- a parked call continues with the rest of the words, from the first one not taken; `taken` counts from the first word of the list, before the
-- run and after it
abbrev pub resumed : List ℕ → ℕ → Parked → ℕ → List ℕ → List ℕ → RunOutcome
resumed s n p taken b ws = joined taken [] (run_outcome s n p b (drop taken ws))

-- an access takes two places of the log
abbrev pub room : List ℕ → ℕ
room log = length log / 2

-- what a call returned, the log and the buffer after it are an outcome
pub record RunMatches (q : RunOutcome) (log : List ℕ) (r : Ran) (log' b' : List ℕ) : Type 0 where
  pub answer : said r.report.answer ≡ q.answer
  pub parked : r.parked ≡ q.parked
  pub taken : r.report.taken ≡ q.taken
  pub logged : r.report.logged ≡ length q.numbers
  pub entries : log' ≡ over q.numbers log
  pub buffer : b' ≡ q.buffer
