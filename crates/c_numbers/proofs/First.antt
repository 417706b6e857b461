-- The access that is named is the first that a resume makes: the law of the next access, and at each phase the number in the log is told by the three
-- that are named.
use Prim.Native.Nat.{ℕ, suc, ◌+◌, ◌%◌}
use mathlib.Core.Path.{◌≡◌, refl, sym, ap, ◌∙◌}
use mathlib.Core.Bool.{Bool, true, false, false≢true}
use mathlib.Core.List.{List, [], ◌∷◌}
use Rattle.std.specs.Prelude.{Result, Ok, Err, is_err}
use lib.ListN.{length, get_or, take, drop}
use Rattle.parked.specs.declared.phases.Opening.TheVariants.{Start, Drain, Modify, Setup, Flush, Release, Probe, Drop}
use Rattle.parked.specs.declared.phases.End.{End}
use Rattle.parked.specs.declared.phases.Phase.{Phase}
use Rattle.parked.specs.declared.phases.Phase.TheVariants.{Open, Wait, Transfer, Restart, TcrFound, NackNextByte, ClearBerr, ClearArlo, ClearNackf, ClearStopf, FlushTxis, FlushDummy, FlushTxe, FlushEmpty, Listen, Code, Ended}
use Rattle.parked.specs.declared.next_access.Next.{Next}
use Rattle.parked.specs.declared.next_access.Next.TheVariants.{Read, Write}
use Rattle.parked.specs.declared.Parked.{Parked}
use Rattle.parked.specs.Kinds.{incoming}
use Rattle.parked.specs.NextAccess.{more, access_at, byte_access, next_access}
use Rattle.parked.specs.Refusals.{wrong}
use Rattle.blocking_meaning.specs.Run.{RunOutcome, next, run_outcome}
use Rattle.blocking_meaning.proofs.NextAccesses.{next_law}
use Rattle.c_numbers.specs.Next.{next_numbers, entry, NamesFirst}
use Rattle.c_numbers.specs.ParkedCall.{loaded}
use Rattle.c_numbers.proofs.RunKeeps.{unended}

-- the number in the log is told by the offset and the way
abbrev told : Result Next End → Type 0
told (Ok (Read number keep)) = number % 0x100 ≡ number
told (Ok (Write number word)) = number % 0x100 + 0x100 ≡ number
told (Err end) = end ≡ end

byte_told : (incomes keep : Bool) (byte : ℕ) → told (Ok (byte_access incomes keep byte))
byte_told true keep byte = refl
byte_told false keep byte = refl

told_at : (f : Phase) (p : Parked) (byte : ℕ) → told (access_at f p byte)
told_at (Open Start) p byte = refl
told_at (Open Drain) p byte = refl
told_at (Open Modify) p byte = refl
told_at (Open (Setup cr2)) p byte = refl
told_at (Open Flush) p byte = refl
told_at (Open Release) p byte = refl
told_at (Open Probe) p byte = refl
told_at (Open Drop) p byte = refl
told_at Wait p byte = refl
told_at Transfer p byte = byte_told (incoming p.kind) (more p) byte
told_at Restart p byte = refl
told_at TcrFound p byte = refl
told_at (NackNextByte cr2) p byte = refl
told_at ClearBerr p byte = refl
told_at ClearArlo p byte = refl
told_at ClearNackf p byte = refl
told_at ClearStopf p byte = refl
told_at FlushTxis p byte = refl
told_at FlushDummy p byte = refl
told_at FlushTxe p byte = refl
told_at FlushEmpty p byte = refl
told_at Listen p byte = refl
told_at Code p byte = refl
told_at (Ended end) p byte = refl

next_told : (s : List ℕ) (p : Parked) → told (next s p)
unfolding next_access
next_told s p = told_at p.phase p (get_or s p.count 0x21)

module _ (s : List ℕ) (n : ℕ) (p : Parked) (b : List ℕ) (right : wrong p (length s) (length b) ≡ false) where
  abbrev front : RunOutcome → List ℕ
  front q = take 2 q.numbers

  first : (x : Result Next End) → next s p ≡ x → told x → (ws : List ℕ) → front (run_outcome s (suc n) p b ws) ≡ entry (next_numbers x) ws
  first (Ok (Read number keep)) e t [] = ap front (next_law.read_without_word s (suc n) p b number keep right e)
  first (Ok (Read number keep)) e t (w ∷ ws) = ap front (next_law.read s n p b w ws number keep right e) ∙ ap (λ (o : ℕ). o ∷ w ∷ []) (sym t)
  first (Ok (Write number word)) e t ws = ap front (next_law.write s n p b ws number word right e) ∙ ap (λ (o : ℕ). o ∷ word ∷ []) (sym t)
  first (Err end) e t ws = absurd (false≢true (sym (unended p (length s) (length b) right) ∙ sym (next_law.end s p) ∙ ap is_err e))

pub names_first : NamesFirst
names_first s xs n taken b words right = first s n (loaded xs) b right (next s (loaded xs)) refl (next_told s (loaded xs)) (drop taken words)
