use Rattle.script.specs.InputLines.{left}
use Rattle.script.proofs.SoFar.{SoFar}
use Rattle.script.proofs.text.lines.Lines.read_line.Given as goal

abbrev pub invariant-loop : goal.invariant-loop
invariant-loop g l = SoFar l.counter (left g.R.Read.remaining l.initial.self) l.read l.self.line.items (left g.R.Read.remaining l.self)
