-- Document 01, 'Answers of a call': '12 comes first', 'A non-blocking call is first tried for 9 over all its reads, then for 10 over all its accesses', and the rows
-- 9, 10 and 12: nothing changed. The whole outcome of a step is one of these refusals, or the plan.
use Rattle.std.specs.Prelude.{ℕ, ◌≡◌, Bool, true, false, cond, List, [], length, get_or, take, leb, eqb}
use Rattle.registers.specs.declared.call_log.Report.{Report}
use Rattle.registers.specs.CallLog.{Access, reads, entries, over}
use Rattle.registers.specs.Answers.{Said, says, said}
use Rattle.nonblocking_meaning.specs.Link.{Link, impossible}
use Rattle.nonblocking_meaning.specs.Call.{Step}
use Rattle.nonblocking_meaning.specs.Plan.{Plan, plan_of}

pub record Outcome : Type 0 where
  pub accesses : List Access
  pub answer : Said
  pub link : Link
  pub shown : List ℕ
  -- how many words it took
  pub taken : ℕ

-- a refusal makes no access, takes no word, shows nothing and leaves the link
abbrev pub refuse : ℕ → Link → Outcome
refuse number l = record { accesses = []; answer = says number []; link = l; shown = []; taken = 0 }

-- Is the link impossible? Are there words for all reads? Are there two places for each access?
abbrev pub unless_refused : Bool → Bool → Bool → Plan → Link → Outcome
unless_refused true enough fits p l = refuse 12 l
unless_refused false false fits p l = refuse 9 l
unless_refused false true false p l = refuse 10 l
unless_refused false true true p l = record { accesses = p.accesses; answer = p.answer; link = p.link; shown = p.shown; taken = reads p.accesses }

abbrev pub plan_outcome : Bool → Plan → List ℕ → ℕ → Link → Outcome
plan_outcome impossible p words places l = unless_refused impossible (leb (reads p.accesses) (length words)) (leb (length (entries p.accesses)) places) p l

-- a missing word reads as 0, so that the plan's reads say how many words it needs
abbrev pub plan_at : Step → Link → Plan
plan_at s l = plan_of s.call (get_or s.words 0 0) (get_or s.words 1 0) (get_or s.words 2 0) l

unfoldable pub outcome : Step → Link → Outcome
outcome s l = plan_outcome (impossible l) (plan_at s l) s.words s.places l

-- how many bytes an answer shows, from the front of the link's buffer: the count of Data and of `get_data`
abbrev pub count_shown : Said → ℕ
count_shown a = cond (eqb a.number 0x44) (get_or a.values 2 0) (cond (eqb a.number 0x47) (get_or a.values 0 0) 0)

-- the report of a call, the link after it, the bytes shown and the log are what the outcome says
pub record Matches (o : Outcome) (r : Report) (l : Link) (before after : List ℕ) : Type 0 where
  pub answer : said r.answer ≡ o.answer
  pub taken : r.taken ≡ o.taken
  pub logged : r.logged ≡ length (entries o.accesses)
  pub link : l ≡ o.link
  pub shown : take (count_shown o.answer) l.«data» ≡ o.shown
  pub log : after ≡ over (entries o.accesses) before
