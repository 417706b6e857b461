-- What the parts of a call promise: accesses that are logged, and a plan that is followed. A refusal is told as its report.
use Rattle.std.specs.Prelude.{ℕ, ◌≤◌, ◌↔◌, Bool, false, List, [], length, take, Result, IsOk}
use Rattle.registers.specs.declared.call_log.Report.{Report}
use Rattle.registers.specs.declared.answers.Answer.{Answer}
use Rattle.registers.specs.declared.answers.Refusal.{Refusal}
use Rattle.registers.specs.declared.flag_order.Flag.{Flag}
use Rattle.registers.specs.Answers.{Said, said}
use Rattle.registers.specs.CallLog.{Access, reads, entries, tried, Reported, report_of}
use Rattle.nonblocking_meaning.specs.Link.{Link, impossible}
use Rattle.nonblocking_meaning.specs.Plan.{Plan, flag_plan}
use Rattle.nonblocking_meaning.specs.Outcome.{plan_outcome, count_shown, Matches}

-- so many words were to be taken, and these numbers to be logged: the report and the log, and when there was no refusal
pub record LogsNumbers (answer : Said) (needed : ℕ) (numbers words before : List ℕ) (result : Result Report Refusal) (after : List ℕ) : Type 0 where
  pub report : Reported (tried answer needed numbers (length words) (length before)) before (report_of result) after
  pub accepted : IsOk result ↔ (needed ≤ length words) × (length numbers ≤ length before)

abbrev pub Logs : Said → List Access → List ℕ → List ℕ → Result Report Refusal → List ℕ → Type 0
Logs answer accesses words before result after = LogsNumbers answer (reads accesses) (entries accesses) words before result after

-- a plan was tried, with the test for 12, or on a link that is known to be possible: the link before and after, and the log before and after
abbrev pub FollowsIf : Bool → Plan → List ℕ → Link → Result Report Refusal → Link → List ℕ → List ℕ → Type 0
FollowsIf impossible p words l result l' before after = Matches (plan_outcome impossible p words (length before) l) (report_of result) l' before after

abbrev pub Follows : Plan → List ℕ → Link → Result Report Refusal → Link → List ℕ → List ℕ → Type 0
Follows p words l result l' before after = FollowsIf (impossible l) p words l result l' before after

abbrev pub FollowsPossible : Plan → List ℕ → Link → Result Report Refusal → Link → List ℕ → List ℕ → Type 0
FollowsPossible p words l result l' before after = FollowsIf false p words l result l' before after

-- a check whose ISR word is taken as this flag
abbrev pub FlagStep : Flag → List ℕ → Link → Result Report Refusal → Link → List ℕ → List ℕ → Type 0
FlagStep f words l result l' before after = FollowsPossible (flag_plan f words l) words l result l' before after

-- a getter: an answer with no access, and as many bytes as it counts
abbrev pub getter_plan : Answer → Link → Plan
getter_plan answer l = record { accesses = []; answer = said answer; link = l; shown = take (count_shown (said answer)) l.«data» }
