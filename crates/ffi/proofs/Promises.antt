-- What a contract promises where it cites `Renewed`. Only contracts cite it, and a record that asked less would be proved as well; so each part
-- is said here once more.
use Prim.Native.Nat.{ℕ}
use mathlib.Core.Path.{◌≡◌}
use mathlib.Core.Bool.{true, false}
use mathlib.Core.List.{List}
use lib.ListN.{length, replicate}
use lib.Dec.{eqb}
use Rattle.registers.specs.declared.call_log.Report.{Report}
use Rattle.registers.specs.CallLog.{Reported}
use Rattle.registers.specs.declared.config.Config.{Config}
use Rattle.nonblocking_meaning.specs.Link.{fresh}
use Rattle.nonblocking.specs.declared.link.Link.{Link}
use Rattle.nonblocking.specs.Model.{model}
use Rattle.registers.specs.Construct.{non_blocking_construction}
use Rattle.nonblocking.specs.Construct.{Renewed}

-- where nothing is logged, each part of the link stays
refusal_leaves : (c : Config) (clock : ℕ) (words before : List ℕ) (r : Report) (l l' : Link) (after : List ℕ) → Renewed c clock words before r l l' after → eqb r.logged 0 ≡ true →
    (l'.address ≡ l.address)
    × (l'.watchdog ≡ l.watchdog)
    × (l'.index ≡ l.index)
    × (l'.length ≡ l.length)
    × (l'.errors ≡ l.errors)
    × (l'.marks ≡ l.marks)
    × (l'.length_write_read ≡ l.length_write_read)
    × (l'.«data» ≡ l.«data»)
refusal_leaves c clock words before r l l' after p e =
    let same : model l' ≡ model l = rw e at p.link in (
      λ i. (same i).address,
      λ i. (same i).watchdog,
      λ i. (same i).index,
      λ i. (same i).length,
      λ i. (same i).errors,
      λ i. (same i).marks,
      λ i. (same i).length_write_read,
      λ i. (same i).«data»,
    )

-- else all numbers are 0, and so are the 255 bytes; the report is that of the construction in either case
renewed_promised : (c : Config) (clock : ℕ) (words before : List ℕ) (r : Report) (l l' : Link) (after : List ℕ) → Renewed c clock words before r l l' after → eqb r.logged 0 ≡ false →
    (l'.address ≡ 0)
    × (l'.watchdog ≡ 0)
    × (l'.index ≡ 0)
    × (l'.length ≡ 0)
    × (l'.errors ≡ 0)
    × (l'.marks ≡ 0)
    × (l'.length_write_read ≡ 0)
    × (l'.«data» ≡ replicate 255 0)
    × Reported (non_blocking_construction c clock words (length before)) before r after
renewed_promised c clock words before r l l' after p e =
    let new : model l' ≡ fresh = rw e at p.link in (
      λ i. (new i).address,
      λ i. (new i).watchdog,
      λ i. (new i).index,
      λ i. (new i).length,
      λ i. (new i).errors,
      λ i. (new i).marks,
      λ i. (new i).length_write_read,
      λ i. (new i).«data»,
      p.report,
    )
