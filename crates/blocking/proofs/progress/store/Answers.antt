-- `blocking::progress::store` meets its contract.
use Rattle.blocking.proofs.Goes.{stored_two}
use Rattle.blocking.proofs.progress.store.Goals as goal

pub returns : goal.returns
returns c = stored_two c.args.place c.args.log.now c.args.number c.args.word c.requires
