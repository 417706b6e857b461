-- `blocking::run::begin` meets its contract.
use mathlib.Core.Path.{◌≡◌, refl}
use mathlib.Core.Bool.{true, false}
use lib.ListN.{length}
use Prim.Native.Nat.{◌/◌}
use Rattle.blocking.proofs.Wholes.{call_good, call_bad}
use Rattle.blocking_meaning.proofs.HandedOn.{outcome_right}
use Rattle.blocking_meaning.proofs.HandedOn.{right_begun}
use Rattle.parked.specs.Kinds.{lengths}
use Rattle.parked.specs.Refusals.{begun}
use Rattle.std.proofs.Common.{rules}
use Rattle.blocking.proofs.run.begin.Goals as goal

pub returns : goal.returns
returns c =
    let n = length c.args.send.now in
    let m = length c.args.receive.now in
    let good : lengths c.args.kind n m ≡ true = search rules in
    rw (
      call_good c.args.kind c.args.address c.args.send.now c.args.receive.now c.args.words.now (length c.args.log.now / 2) good,
      outcome_right c.args.send.now (begun c.args.kind c.args.address n m) c.args.receive.now c.args.words.now (length c.args.log.now / 2) (right_begun c.args.kind c.args.address n m good),
      ← c.opening.ensures,
    )
    c.transfer.ensures

pub returns-then-not-lengths : goal.returns-then-not-lengths
returns-then-not-lengths c =
    let bad : lengths c.args.kind (length c.args.send.now) (length c.args.receive.now) ≡ false = search rules in
    rw (call_bad c.args.kind c.args.address c.args.send.now c.args.receive.now c.args.words.now (length c.args.log.now / 2) bad, c.ends_at_once.ensures)
    (record { answer = refl; parked = refl; taken = refl; logged = refl; entries = refl; buffer = refl })
