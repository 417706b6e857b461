-- `write_log`: after so many turns the first so many entries are laid over the log.
use Rattle.std.proofs.Common.{◌≡◌, take}
use Rattle.registers.specs.CallLog.{over}
use Rattle.registers.proofs.call_log.write_log.Given as goal

abbrev pub invariant-loop-place : goal.invariant-loop-place
invariant-loop-place l = record {
  laid : l.log ≡ over (take l.place l.entries) l.initial.log;
}
