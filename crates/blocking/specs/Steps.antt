-- How one access carries a run on, and what is returned where none follows.
use Rattle.std.specs.Prelude.{ℕ, ◌+◌, ◌-◌, ◌/◌, ◌≤◌, ◌<◌, ◌≡◌, Bool, true, cond, List, [], ◌∷◌, ◌++◌, length, get_or, take, drop, Result, Ok, Err}
use Rattle.registers.specs.Answers.{said}
use Rattle.registers.specs.declared.field.Field.{Field}
use Rattle.registers.specs.Field.{is_set}
use Rattle.registers.specs.Layout.{RXNE, TXIS, field_of}
use Rattle.registers.specs.CallLog.{over}
use Rattle.parked.specs.declared.phases.End.{End}
use Rattle.parked.specs.declared.phases.End.TheVariants.{LogFull}
use Rattle.parked.specs.declared.next_access.Next.TheVariants.{Read}
use Rattle.parked.specs.declared.phases.Phase.TheVariants.{Wait, Transfer}
use Rattle.parked.specs.After.{after}
use Rattle.parked.specs.declared.Parked.{Parked}
use Rattle.parked.specs.BusyWait.{answer}
use Rattle.parked.specs.Kinds.{incoming}
use Rattle.parked.specs.NextAccess.{more}
use Rattle.blocking_meaning.specs.declared.Ran.{Ran}
use Rattle.blocking_meaning.specs.Run.{without_access, joined, with_byte, next, runs}
use Rattle.blocking.specs.declared.progress.Progress.{Progress}

-- no further than the words and the log go
abbrev pub Within : Progress → List ℕ → List ℕ → Type 0
Within p ws log = (p.taken ≤ length ws) × (p.logged ≤ length log)

-- a run from the call `p₀`, the buffer `b₀` and the log `start` came to `p`, with this log and buffer, and goes on from there
pub record Going (s ws start : List ℕ) (p₀ : Parked) (b₀ : List ℕ) (p : Progress) (log b : List ℕ) : Type 0 where
  pub numbers : List ℕ
  pub entries : log ≡ over numbers start
  pub logged : p.logged ≡ length numbers
  pub room : p.logged ≤ length start
  pub words : p.taken ≤ length ws
  pub run : runs s (length start / 2) p₀ b₀ ws ≡ joined p.taken numbers (runs s ((length start - p.logged) / 2) p.parked b (drop p.taken ws))

-- one access was made: from wherever the run came to `p`, it goes on from `r`
pub record Onward (s ws : List ℕ) (p : Progress) (log b : List ℕ) (r : Progress) (log' b' : List ℕ) : Type 0 where
  pub one : r.logged ≡ p.logged + 2
  pub going : (start : List ℕ) (p₀ : Parked) (b₀ : List ℕ) → Going s ws start p₀ b₀ p log b → Going s ws start p₀ b₀ r log' b'

-- no access follows
abbrev pub Stops : List ℕ → List ℕ → Progress → List ℕ → List ℕ → End → Type 0
Stops s ws p log b e = runs s ((length log - p.logged) / 2) p.parked b (drop p.taken ws) ≡ without_access (answer e p.parked) p.parked b

-- an access was made, or none follows and nothing is done
abbrev pub Step : List ℕ → List ℕ → Progress → List ℕ → List ℕ → Result Progress End → List ℕ → List ℕ → Type 0
Step s ws p log b (Ok r) log' b' = Onward s ws p log b r log' b'
Step s ws p log b (Err e) log' b' = (log' ≡ log) × (b' ≡ b) × Stops s ws p log b e

-- a byte is left, and the first of the words that it needs has its flag
pub record Flagged (p : Progress) (flag : Field) (needed : ℕ) (ws : List ℕ) : Type 0 where
  pub left : more p.parked ≡ true
  pub words : p.taken + needed ≤ length ws
  pub set : is_set (get_or ws p.taken 0) flag ≡ true

-- a wait finds the flag of a byte, and both accesses, the wait's and the byte's, have their words and room
pub record Due (p : Progress) (ws log : List ℕ) : Type 0 where
  pub waits : p.parked.phase ≡ Wait
  pub room : p.logged + 4 ≤ length log
  pub flagged : cond (incoming p.parked.kind) (Flagged p (field_of RXNE) 2 ws) (Flagged p (field_of TXIS) 1 ws)

-- the flag of a byte is found: by the last word of ISR, or in the next one
abbrev pub FlagFound : Progress → List ℕ → List ℕ → Type 0
FlagFound p ws log = (p.parked.phase ≡ Transfer → ⊥) → Due p ws log

-- the byte of a call whose flag was found has its word and room
pub record Movable (p : Progress) (ws log : List ℕ) : Type 0 where
  pub found : p.parked.phase ≡ Transfer
  pub words : p.taken + cond (incoming p.parked.kind) 1 0 ≤ length ws
  pub room : p.logged + 2 ≤ length log

-- numbers laid over a log from a place on
abbrev pub over_from : ℕ → List ℕ → List ℕ → List ℕ
over_from place numbers log = take place log ++ over numbers (drop place log)

-- the two numbers of an access are in the log, or have no room there
abbrev pub Entered : Progress → ℕ → ℕ → List ℕ → Result Progress End → List ℕ → Type 0
Entered p number word log (Ok r) log' =
    (p.logged + 2 ≤ length log) × (r ≡ record { parked = p.parked; taken = p.taken; logged = p.logged + 2 })
    × (log' ≡ over_from p.logged (number ∷ word ∷ []) log)
Entered p number word log (Err e) log' = (length log < p.logged + 2) × (e ≡ LogFull) × (log' ≡ log)

-- a read that the call wants was made, or the run stops before it
abbrev pub WordRead : Progress → ℕ → List ℕ → List ℕ → Result (ℕ × Progress) End → List ℕ → Type 0
WordRead p number ws log (Ok (w, r)) log' =
    (r ≡ record { parked = p.parked; taken = p.taken + 1; logged = p.logged + 2 })
    × ((s b : List ℕ) (keep : Bool) → next s p.parked ≡ Ok (Read number keep)
    → Onward s ws p log b (record { parked = after p.parked w; taken = p.taken + 1; logged = p.logged + 2 }) log' (with_byte keep p.parked.count w b))
WordRead p number ws log (Err e) log' =
    (log' ≡ log) × ((s b : List ℕ) (keep : Bool) → next s p.parked ≡ Ok (Read number keep) → Stops s ws p log b e)

-- what is returned where no access follows
pub record Answered (p : Progress) (e : End) (r : Ran) : Type 0 where
  pub answer : said r.report.answer ≡ answer e p.parked
  pub parked : r.parked ≡ p.parked
  pub taken : r.report.taken ≡ p.taken
  pub logged : r.report.logged ≡ p.logged
