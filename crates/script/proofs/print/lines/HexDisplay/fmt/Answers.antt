use Rattle.std.proofs.Common.{◌≡◌, ◌∙◌, rules}
use Rattle.std.proofs.Output.{has_written_append, has_written_of_eq}
use Rattle.hex.specs.Hex.{encode_upper}
use Rattle.script.specs.PrintedLines.{bytes_text}
use Rattle.script.proofs.Pairs.{whole}
use Rattle.script.proofs.print.lines.HexDisplay.fmt.Goals as goal

pub returns-clause-writes : goal.returns-clause-writes
returns-clause-writes g c = λ plain ok.
    let bytes = c.args.self.now.0.now in
    let all = whole bytes _ _ c.loop-part.part-index c.as_chunks.ensures.front (search rules) c.as_chunks.ensures.back in
    let text : encode_upper bytes ≡ bytes_text bytes = search rules in
    has_written_of_eq _ _ _ _ _ (all ∙ text) (has_written_append _ _ _ _ _ _ (c.loop-part.invariant plain) (search rules))
