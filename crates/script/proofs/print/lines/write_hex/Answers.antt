use Rattle.std.proofs.Common.{arith}
use Rattle.std.proofs.lemmas.Grind.{common_steps}
use Rattle.script.proofs.Pairs.{capitals, pairs_are_text}
use Rattle.script.proofs.print.lines.write_hex.Goals as goal

pub returns : goal.returns
returns g c =
    let capital = capitals c.args.bytes.now in
    let text = pairs_are_text c.args.bytes.now in
    grind (arith, common_steps)
