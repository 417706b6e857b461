-- The blocking calls that never wait: which call of the definitions a line's call is.
use Rattle.std.specs.Prelude.{ℕ, true, false, List, [], Result, Ok, Err}
use Rattle.registers.specs.declared.answers.Refusal.{Refusal}
use Rattle.registers.specs.Answers.{said, answer_of}
use Rattle.registers.specs.CallLog.{CallOutcome}
use Rattle.registers.specs.declared.config.Config.{Config}
use Rattle.blocking.specs.Immediate.{slave_addressed, slave_sbc, interrupt, clear_irq}
use Rattle.registers.specs.Construct.{blocking_construction}
use Rattle.script.specs.Settings.{configuration_of}
use Rattle.script.specs.declared.calls.UnwaitedCall.{UnwaitedCall}
use Rattle.script.specs.declared.calls.UnwaitedCall.TheVariants.{New, SlaveAddressed, SlaveSbc, Listen, Unlisten, ClearIrq}

-- what the filter's setter refuses comes to no construction: no word is taken, and nothing is written
abbrev pub refused_outcome : Refusal → CallOutcome
refused_outcome refusal = record { answer = said (answer_of refusal); taken = 0; numbers = [] }

-- a driver's construction, or what the filter's setter refuses
abbrev pub constructed : (Config → ℕ → List ℕ → ℕ → CallOutcome) → Result Config Refusal → ℕ → List ℕ → ℕ → CallOutcome
constructed construction (Ok c) clock words places = construction c clock words places
constructed construction (Err refusal) clock words places = refused_outcome refusal

abbrev pub unwaited : UnwaitedCall → List ℕ → ℕ → CallOutcome
unwaited (New c) words places = constructed blocking_construction (configuration_of c.settings) c.clock words places
unwaited SlaveAddressed words places = slave_addressed words places
unwaited (SlaveSbc on) words places = slave_sbc on words places
unwaited (Listen event) words places = interrupt event true words places
unwaited (Unlisten event) words places = interrupt event false words places
unwaited (ClearIrq event) words places = clear_irq event places
