use Rattle.std.proofs.Common.{List, ℕ, ◌++◌, ap, ◌∙◌, rules}
use Rattle.std.proofs.Output.{has_written_append, has_written_of_eq}
use Rattle.script.specs.PrintedLines.{accesses_text, answer_line}
use Rattle.script.proofs.Accesses.{all_pairs}
use Rattle.script.proofs.print.lines.ReportedDisplay.fmt.Goals as goal

pub returns-clause-writes : goal.returns-clause-writes
returns-clause-writes g c = λ plain ok.
    let accesses = all_pairs c.front.result.now _ c.loop-number.number-index c.as_chunks.ensures.front (search rules) in
    let answer = answer_line c.args.self.now.report.answer c.args.self.now.data.now in
    has_written_of_eq _ _ _ _ _ (ap (λ (l : List ℕ). l ++ answer) (accesses ∙ ap accesses_text c.front.ensures))
    (has_written_append _ _ _ _ _ _ (c.loop-number.invariant plain) (search rules))
