-- Document 01, rows 6 and 11: 'resumed after its end, count above its length, a begun slice length of 0 or over 255, or slices of other lengths than at the
-- begin'. Where a call begins, and what is refused there and at a resume.
use Rattle.std.specs.Prelude.{ℕ, Bool, true, false, cond, eqb, ltb}
use Rattle.parked.specs.declared.kinds.Kind.{Kind}
use Rattle.parked.specs.declared.phases.Phase.TheVariants.{Ended}
use Rattle.parked.specs.declared.phases.End.TheVariants.{BadLength}
use Rattle.parked.specs.declared.phases.CountEffect.{CountEffect}
use Rattle.parked.specs.declared.phases.CountEffect.TheVariants.{Byte, SecondHalf, Unchanged, NoAccess}
use Rattle.parked.specs.declared.Parked.{Parked}
use Rattle.parked.specs.Kinds.{lengths}
use Rattle.parked.specs.Opening.{opening}
use Rattle.parked.specs.NextAccess.{span}
use Rattle.parked.specs.Phases.{count_effect}

-- 'begun': with the lengths of its slices, and no access made yet
abbrev pub begun : Kind → ℕ → ℕ → ℕ → Parked
begun k address n m = record { kind = k; address = address; send = n; receive = m; phase = opening k; count = 0 }

-- a call refused with 6 has ended
abbrev pub refused_at_begin : Kind → ℕ → ℕ → ℕ → Parked
refused_at_begin k address n m = record { kind = k; address = address; send = n; receive = m; phase = Ended BadLength; count = 0 }

abbrev pub is_nothing : CountEffect → Bool
is_nothing Byte = false
is_nothing SecondHalf = false
is_nothing Unchanged = false
is_nothing NoAccess = true

-- no access follows
abbrev pub ended : Parked → Bool
ended p = is_nothing (count_effect p.phase)

-- answer 11: after its end, with slices of other lengths than at the begin, with lengths that no call begins with, or with a count above its length
unfoldable pub wrong : Parked → ℕ → ℕ → Bool
wrong p n m =
    cond (ended p) true
    (cond (eqb p.send n)
    (cond (eqb p.receive m)
    (cond (lengths p.kind n m) (ltb (span p) p.count) true) true) true)
