-- Document 01, nonblocking.rs: 'at construction all are 0', and row 7: 'nothing changed'. Construction: the registers' set-up, and a fresh link.
use Rattle.std.specs.Prelude.{ℕ, ◌≡◌, cond, List, length, eqb}
use Rattle.registers.specs.declared.call_log.Report.{Report}
use Rattle.registers.specs.declared.config.Config.{Config}
use Rattle.registers.specs.CallLog.{Reported}
use Rattle.registers.specs.Construct.{non_blocking_construction}
use Rattle.nonblocking.specs.declared.link.Link.{Link}
use Rattle.nonblocking.specs.Model.{model}
use Rattle.nonblocking_meaning.specs.Link.{fresh}

pub record Constructed (c : Config) (clock : ℕ) (words before : List ℕ) (r : Report) (l : Link) (after : List ℕ) : Type 0 where
  pub link : model l ≡ fresh
  pub report : Reported (non_blocking_construction c clock words (length before)) before r after

-- on a link that is there already: what is refused logs nothing, and leaves the link
pub record Renewed (c : Config) (clock : ℕ) (words before : List ℕ) (r : Report) (l l' : Link) (after : List ℕ) : Type 0 where
  pub link : model l' ≡ cond (eqb r.logged 0) (model l) fresh
  pub report : Reported (non_blocking_construction c clock words (length before)) before r after
