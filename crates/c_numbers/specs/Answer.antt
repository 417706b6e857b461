-- What the six numbers of `out` say.
use Rattle.std.specs.Prelude.{ℕ, ◌≡◌, List, [], ◌∷◌, get_or}
use Rattle.registers.specs.declared.call_log.Report.{Report}
use Rattle.registers.specs.Answers.{Said, said}

-- the answer's number, the words taken, the places of the log filled, and the answer's values, 0 where it has fewer than three
abbrev pub six : Said → ℕ → ℕ → List ℕ
six a taken logged = a.number ∷ taken ∷ logged ∷ get_or a.values 0 0 ∷ get_or a.values 1 0 ∷ get_or a.values 2 0 ∷ []

abbrev pub answer_numbers : Report → List ℕ
answer_numbers r = six (said r.answer) r.taken r.logged

-- the numbers are those of a report of which the call's contract holds
pub record Out (holds : Report → Type 0) (out : List ℕ) : Type 0 where
  pub report : Report
  pub held : holds report
  pub numbers : out ≡ answer_numbers report
