-- `blocking::transfer::flag_read` meets its contract.
use Rattle.blocking.proofs.Bytes.{flag_carries, left}
use Rattle.blocking.proofs.transfer.flag_read.Goals as goal

pub returns-clause-carries : goal.returns-clause-carries
returns-clause-carries c = λ s b. rw c.store.ensures (flag_carries c.args.words.now c.args.log.now c.args.p c.requires s b)

pub returns-clause-left : goal.returns-clause-left
returns-clause-left c = left c.args.words.now c.args.log.now c.args.p c.requires
