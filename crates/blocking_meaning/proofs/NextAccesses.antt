-- The law of the next access.
use Prim.Native.Nat.{ℕ}
use mathlib.Core.Path.{◌≡◌, refl, ◌∙◌}
use mathlib.Core.Bool.{true}
use mathlib.Core.List.{List, ◌∷◌}
use lib.ListN.{length, get_or}
use Rattle.std.specs.Prelude.{is_err}
use Rattle.parked.specs.declared.phases.Phase.{Phase}
use Rattle.parked.specs.declared.phases.Phase.TheVariants.{Open, Wait, Transfer, Restart, TcrFound, NackNextByte, ClearBerr, ClearArlo, ClearNackf, ClearStopf, FlushTxis, FlushDummy, FlushTxe, FlushEmpty, Listen, Code, Ended}
use Rattle.parked.specs.declared.Parked.{Parked}
use Rattle.parked.specs.Phases.{count_effect}
use Rattle.parked.specs.NextAccess.{access_at, next_access}
use Rattle.parked.specs.Refusals.{is_nothing, ended, wrong}
use Rattle.blocking_meaning.specs.Run.{next}
use Rattle.blocking_meaning.specs.NextLaw.{NextLaw}
use Rattle.blocking_meaning.proofs.OneAccess.{some, run_out, full_read, full_write, run_read, run_write, outcome_wrong, outcome_right}

-- an end is named exactly at the phase of a call that has ended
end_at : (f : Phase) (p : Parked) (byte : ℕ) → is_err (access_at f p byte) ≡ is_nothing (count_effect f)
end_at (Open o) p byte = refl
end_at Wait p byte = refl
end_at Transfer p byte = refl
end_at Restart p byte = refl
end_at TcrFound p byte = refl
end_at (NackNextByte w) p byte = refl
end_at ClearBerr p byte = refl
end_at ClearArlo p byte = refl
end_at ClearNackf p byte = refl
end_at ClearStopf p byte = refl
end_at FlushTxis p byte = refl
end_at FlushDummy p byte = refl
end_at FlushTxe p byte = refl
end_at FlushEmpty p byte = refl
end_at Listen p byte = refl
end_at Code p byte = refl
end_at (Ended end) p byte = refl

named : (s : List ℕ) (p : Parked) → is_err (next s p) ≡ ended p
unfolding next_access
named s p = end_at p.phase p (get_or s p.count 0x21)

wrong_after : (p : Parked) (n m : ℕ) → ended p ≡ true → wrong p n m ≡ true
unfolding wrong
wrong_after p n m e = rw e

pub next_law : NextLaw
next_law = record {
  read_without_word = λ s n p b o k r e. outcome_right s p b _ n r ∙ run_out s p b n _ o k e refl;
  read_without_room = λ s p b w ws o k r e. outcome_right s p b _ _ r ∙ full_read s p b (w ∷ ws) o k e (some w ws);
  read = λ s n p b w ws o k r e. outcome_right s p b _ _ r ∙ run_read s p b n (w ∷ ws) o k e (some w ws);
  write_without_room = λ s p b ws o w r e. outcome_right s p b ws _ r ∙ full_write s p b ws o w e;
  write = λ s n p b ws o w r e. outcome_right s p b ws _ r ∙ run_write s p b n ws o w e;
  end = named;
  after_end = λ s n p b ws e. outcome_wrong s p b ws n (wrong_after p (length s) (length b) e);
}
