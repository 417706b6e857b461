-- Document 01, row 9: 'the next read has no word', 'parked before that access'.
--
-- The law of the next access. What `next` names is what a run does next, for every call that is not wrong for the slices. Where it names a read,
-- a run with no word answers 9 and makes no access; with a word and no room it answers 10 and makes none; with a word and room for an access the
-- run takes that word, logs it after the read's number, and goes on from the call after it. Where it names a write, a run with no room answers 10
-- and makes no access, whatever words there are; with room it logs the write's number and its word, takes none of the words for it, and goes on.
-- And `next` names an end exactly where the call has ended, after which every run answers 11.
use Rattle.std.specs.Prelude.{ℕ, suc, ◌≡◌, Bool, true, false, List, [], ◌∷◌, length, Ok, is_err}
use Rattle.registers.specs.Answers.{says}
use Rattle.parked.specs.declared.next_access.Next.TheVariants.{Read, Write}
use Rattle.parked.specs.declared.Parked.{Parked}
use Rattle.parked.specs.After.{after}
use Rattle.parked.specs.Refusals.{ended, wrong}
use Rattle.blocking_meaning.specs.Run.{without_access, joined, with_byte, next, runs, run_outcome}

pub record NextLaw : Type 0 where
  pub read_without_word : (s : List ℕ) (n : ℕ) (p : Parked) (b : List ℕ) (number : ℕ) (keep : Bool) → wrong p (length s) (length b) ≡ false
      → next s p ≡ Ok (Read number keep)
      → run_outcome s n p b [] ≡ without_access (says 9 []) p b
  pub read_without_room : (s : List ℕ) (p : Parked) (b : List ℕ) (w : ℕ) (ws : List ℕ) (number : ℕ) (keep : Bool)
      → wrong p (length s) (length b) ≡ false
      → next s p ≡ Ok (Read number keep)
      → run_outcome s 0 p b (w ∷ ws) ≡ without_access (says 10 []) p b
  pub read : (s : List ℕ) (n : ℕ) (p : Parked) (b : List ℕ) (w : ℕ) (ws : List ℕ) (number : ℕ) (keep : Bool)
      → wrong p (length s) (length b) ≡ false
      → next s p ≡ Ok (Read number keep)
      → run_outcome s (suc n) p b (w ∷ ws) ≡ joined 1 (number ∷ w ∷ []) (runs s n (after p w) (with_byte keep p.count w b) ws)
  pub write_without_room : (s : List ℕ) (p : Parked) (b ws : List ℕ) (number word : ℕ) → wrong p (length s) (length b) ≡ false
      → next s p ≡ Ok (Write number word)
      → run_outcome s 0 p b ws ≡ without_access (says 10 []) p b
  pub write : (s : List ℕ) (n : ℕ) (p : Parked) (b ws : List ℕ) (number word : ℕ) → wrong p (length s) (length b) ≡ false
      → next s p ≡ Ok (Write number word)
      → run_outcome s (suc n) p b ws ≡ joined 0 (number ∷ word ∷ []) (runs s n (after p 0) b ws)
  pub end : (s : List ℕ) (p : Parked) → is_err (next s p) ≡ ended p
  pub after_end : (s : List ℕ) (n : ℕ) (p : Parked) (b ws : List ℕ) → ended p ≡ true → run_outcome s n p b ws ≡ without_access (says 11 []) p b
