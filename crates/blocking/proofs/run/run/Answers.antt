-- `blocking::run::run` meets its contract.
use mathlib.Core.Path.{refl, sym, ◌∙◌}
use lib.ListN.{length}
use Prim.Native.Nat.{◌/◌}
use Rattle.blocking_meaning.proofs.HandedOn.{outcome_wrong, outcome_right}
use Rattle.blocking.proofs.run.run.Goals as goal

pub returns-then-wrong : goal.returns-then-wrong
returns-then-wrong c = rw (outcome_wrong c.args.send.now c.args.call c.args.receive.now c.args.words.now (length c.args.log.now / 2) (sym c.wrong.ensures ∙ c.if-wrong.true), c.ends_at_once.ensures)
    (record { answer = refl; parked = refl; taken = refl; logged = refl; entries = refl; buffer = refl })

pub returns : goal.returns
returns c = rw (outcome_right c.args.send.now c.args.call c.args.receive.now c.args.words.now (length c.args.log.now / 2) (sym c.wrong.ensures ∙ c.if-wrong.false)) c.transfer.ensures
