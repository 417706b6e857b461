-- What a contract promises where it cites `model` or `Constructed`. Only contracts cite them, and a link seen without one of its parts would be
-- proved as well; so each part is said here once more.
use Prim.Native.Nat.{ℕ}
use mathlib.Core.Path.{◌≡◌, refl}
use mathlib.Core.List.{List}
use lib.ListN.{length, replicate}
use Rattle.registers.specs.declared.call_log.Report.{Report}
use Rattle.registers.specs.declared.config.Config.{Config}
use Rattle.registers.specs.CallLog.{Reported}
use Rattle.nonblocking.specs.declared.link.Link.{Link}
use Rattle.nonblocking.specs.Model.{model}
use Rattle.registers.specs.Construct.{non_blocking_construction}
use Rattle.nonblocking.specs.Construct.{Constructed}

-- the definitions see each part of a link, in its place
whole_link : (l : Link) →
    ((model l).address ≡ l.address)
    × ((model l).watchdog ≡ l.watchdog)
    × ((model l).index ≡ l.index)
    × ((model l).length ≡ l.length)
    × ((model l).errors ≡ l.errors)
    × ((model l).marks ≡ l.marks)
    × ((model l).length_write_read ≡ l.length_write_read)
    × ((model l).«data» ≡ l.«data»)
whole_link l = (refl, refl, refl, refl, refl, refl, refl, refl)

-- a link as constructed: all numbers are 0, and so are its 255 bytes
all_zero : (c : Config) (clock : ℕ) (words before : List ℕ) (r : Report) (l : Link) (after : List ℕ) → Constructed c clock words before r l after →
    (l.address ≡ 0)
    × (l.watchdog ≡ 0)
    × (l.index ≡ 0)
    × (l.length ≡ 0)
    × (l.errors ≡ 0)
    × (l.marks ≡ 0)
    × (l.length_write_read ≡ 0)
    × (l.«data» ≡ replicate 255 0)
    × Reported (non_blocking_construction c clock words (length before)) before r after
all_zero c clock words before r l after p = (
  λ i. (p.link i).address,
  λ i. (p.link i).watchdog,
  λ i. (p.link i).index,
  λ i. (p.link i).length,
  λ i. (p.link i).errors,
  λ i. (p.link i).marks,
  λ i. (p.link i).length_write_read,
  λ i. (p.link i).«data»,
  p.report,
)
