-- Document 01, 'Contracts and proved cases': 'The contract of a public call has one outcome for each input'. What a call on a link of the code promises:
-- its whole outcome, which is that of the call's definition.
use Rattle.std.specs.Prelude.{ℕ, List, length}
use Rattle.registers.specs.declared.call_log.Report.{Report}
use Rattle.nonblocking_meaning.specs.Call.{Call}
use Rattle.nonblocking_meaning.specs.Outcome.{outcome, Matches}
use Rattle.nonblocking.specs.declared.link.Link.{Link}
use Rattle.nonblocking.specs.Model.{model}

-- the link before the call, its report, the link after it, and the log before and after
abbrev pub Meets : Call → List ℕ → Link → Report → Link → List ℕ → List ℕ → Type 0
Meets call words l r l' before after = Matches (outcome (record { call = call; words = words; places = length before }) (model l)) r (model l') before after
