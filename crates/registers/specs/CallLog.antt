-- Document 01, 'Register words': 'A call takes its read words (32 bits each) from a lent list and writes each access to a lent log, from its first place on. A log entry is
-- two 32-bit numbers: the register's byte offset, plus 0x100 for a write; then the word.' And 'Answers of a call': 'first tried for 9 over all its reads,
-- then for 10 over all its accesses'.
use Rattle.std.specs.Prelude.{ℕ, suc, ◌+◌, ◌≡◌, Bool, cond, List, [], ◌∷◌, length, leb, get_or, Result, Ok, Err}
use Rattle.registers.specs.declared.call_log.Report.{Report}
use Rattle.registers.specs.Layout.{Register, offset}
use Rattle.registers.specs.Answers.{Said, says, said, answer_of}
use Rattle.registers.specs.declared.answers.Answer.{Answer}
use Rattle.registers.specs.declared.answers.Refusal.{Refusal}

-- a register is read or written, with the word
pub data Access : Type 0 where
  read write : Register → ℕ → Access

-- the log has two numbers for an access: the register's offset, plus 0x100 for a write; then the word
abbrev pub entries : List Access → List ℕ
entries [] = []
entries (read r word ∷ accesses) = offset r ∷ word ∷ entries accesses
entries (write r word ∷ accesses) = (offset r + 0x100) ∷ word ∷ entries accesses

-- the word at a place of the list; a missing word reads as 0
abbrev pub word_at : List ℕ → ℕ → ℕ
word_at words place = get_or words place 0

-- how many words a list of accesses takes
abbrev pub reads : List Access → ℕ
reads [] = 0
reads (read r word ∷ accesses) = suc (reads accesses)
reads (write r word ∷ accesses) = reads accesses

-- a list laid over the front of another, which keeps its length
abbrev pub over : List ℕ → List ℕ → List ℕ
over [] ys = ys
over (x ∷ xs) [] = []
over (x ∷ xs) (y ∷ ys) = x ∷ over xs ys

-- the log after numbers were to be written from its first place on: all of them, or none where they do not fit
pub record Logged (numbers before : List ℕ) (fits : Bool) (after : List ℕ) : Type 0 where
  pub room : fits ≡ leb (length numbers) (length before)
  pub log : after ≡ cond fits (over numbers before) before

-- what comes of a call that never waits, where its accesses are known
pub record CallOutcome : Type 0 where
  pub answer : Said
  -- how many words it takes
  pub taken : ℕ
  -- what it writes to the log
  pub numbers : List ℕ

abbrev pub refused_call : ℕ → CallOutcome
refused_call number = record { answer = says number []; taken = 0; numbers = [] }

-- it is tried for 9 over all its reads, then for 10 over all its accesses; a refusal takes and writes nothing
abbrev pub tried : Said → ℕ → List ℕ → ℕ → ℕ → CallOutcome
tried answer needed numbers words places =
    cond (leb needed words)
    (cond (leb (length numbers) places) (record { answer = answer; taken = needed; numbers = numbers }) (refused_call 10))
    (refused_call 9)

abbrev pub tried_accesses : Said → List Access → ℕ → ℕ → CallOutcome
tried_accesses answer accesses words places = tried answer (reads accesses) (entries accesses) words places

-- a report and the log after the call are this outcome
pub record Reported (s : CallOutcome) (before : List ℕ) (r : Report) (after : List ℕ) : Type 0 where
  pub answer : said r.answer ≡ s.answer
  pub taken : r.taken ≡ s.taken
  pub logged : r.logged ≡ length s.numbers
  pub log : after ≡ over s.numbers before

abbrev pub report_of_answer : Answer → Report
report_of_answer answer = record { answer = answer; taken = 0; logged = 0 }

-- a refusal takes no words and logs nothing
abbrev pub report_of_refusal : Refusal → Report
report_of_refusal refusal = report_of_answer (answer_of refusal)

abbrev pub report_of : Result Report Refusal → Report
report_of (Ok report) = report
report_of (Err refusal) = report_of_refusal refusal
