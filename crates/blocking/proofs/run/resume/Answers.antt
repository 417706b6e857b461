-- `blocking::run::resume` meets its contract: what is taken in all is no more than the words, or than was taken before.
use Prim.Native.Nat.{◌-◌}
use mathlib.Core.Path.{ap, ◌∙◌, ◌≡◌}
use native.Mathlib.Omega.{arith}
use borrow.Author.Rules.{part_to_end}
use lib.ListN.{length, take, drop, length-drop}
use Rattle.blocking_meaning.specs.Run.{room}
use Rattle.blocking_meaning.proofs.HandedOn.{taken_within}
use Rattle.blocking.proofs.run.resume.Goals as goal

pub overflow_add-result : goal.overflow_add-result
overflow_add-result c = let ws = c.args.words.now in
    let first = c.min-first.result in
    let rest = take (length ws - first) (drop first ws) in
    let most = taken_within c.args.send.now (room c.args.log.now) c.args.call c.args.receive.now rest in
    let left : length rest ≡ length ws - first = ap length (part_to_end ws first) ∙ length-drop first ws in
    record { fits = omega (arith, c.run-ran.ensures.taken, most, left, c.min-first.ensures, c.ranges.taken.fits) }
