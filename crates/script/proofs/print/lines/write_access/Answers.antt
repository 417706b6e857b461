use Rattle.std.proofs.Common.{◌≡◌, nat_lt, true, false, rules, tests, arith}
use Rattle.script.proofs.Padded.{access_in_characters, characters_are_text}
use Rattle.script.proofs.print.lines.write_access.Goals as goal
use Rattle.script.proofs.print.lines.write_access.Goals.{then-number-lt256, else-number-lt256}

pub returns : goal.returns
returns g c =
    let characters = access_in_characters c.args.number c.args.word c.ranges.word.fits in
    elim c.if-number-lt256.branch [
      | then-number-lt256 w ↦
          let below : nat_lt c.args.number 256 ≡ true = search (rules, tests) in
          let text = characters_are_text 82 c.args.number c.args.word (omega arith) in
          search (rules, characters, text, w.line-is, below)
      | else-number-lt256 w ↦
          let above : nat_lt c.args.number 256 ≡ false = search (rules, tests) in
          let text = characters_are_text 87 c.args.number c.args.word (omega arith) in
          search (rules, characters, text, w.line-is, above)
    ]
