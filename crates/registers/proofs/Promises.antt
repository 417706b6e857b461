-- What a contract promises where it cites `Logged` or `Reported`, item by item. Only contracts cite these records, and code that does more than
-- a weaker item asks would be proved as well; so each item is said here once more.
use Prim.Native.Nat.{ℕ}
use mathlib.Core.Path.{◌≡◌}
use mathlib.Core.Bool.{Bool, cond}
use mathlib.Core.List.{List}
use lib.ListN.{length}
use lib.Dec.{leb}
use Rattle.registers.specs.declared.call_log.Report.{Report}
use Rattle.registers.specs.Answers.{said}
use Rattle.registers.specs.CallLog.{over, Logged, CallOutcome, Reported}

-- the numbers fit if there is a place for each; then they stand in the log from its first place on, else the log is as it was
logged_promised : (numbers before : List ℕ) (fits : Bool) (after : List ℕ) → Logged numbers before fits after →
    (fits ≡ leb (length numbers) (length before)) × (after ≡ cond fits (over numbers before) before)
logged_promised numbers before fits after l = (l.room, l.log)

-- the answer, the words taken and the places logged are those of the outcome, and the numbers stand in the log from its first place on
reported_promised : (s : CallOutcome) (before : List ℕ) (r : Report) (after : List ℕ) → Reported s before r after →
    (said r.answer ≡ s.answer) × (r.taken ≡ s.taken) × (r.logged ≡ length s.numbers) × (after ≡ over s.numbers before)
reported_promised s before r after p = (p.answer, p.taken, p.logged, p.log)
