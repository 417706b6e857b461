-- Document 01, blocking.rs: 'accesses, received bytes and answer equal one uncut run', and row 5: 'short frame, with the count'.
--
-- The buffer law. After a run the receive buffer is the one before it, with the bytes that came in stored one after the other from the
-- place that the count says, and nothing else changed; each of them has its place in the buffer. The count then says the next place: a short
-- frame's count says which bytes are new.
use Rattle.std.specs.Prelude.{ℕ, zero, suc, ◌+◌, ◌≤◌, ◌≡◌, false, cond, List, [], ◌∷◌, length, Result, Ok, Err}
use Rattle.std.proofs.lemmas.List.Edits.{sets}
use Rattle.registers.specs.Answers.{says}
use Rattle.registers.specs.Words.{received}
use Rattle.parked.specs.declared.phases.End.{End}
use Rattle.parked.specs.declared.next_access.Next.{Next}
use Rattle.parked.specs.declared.next_access.Next.TheVariants.{Read, Write}
use Rattle.parked.specs.declared.Parked.{Parked}
use Rattle.parked.specs.Kinds.{incoming}
use Rattle.parked.specs.After.{after}
use Rattle.parked.specs.Refusals.{wrong}
use Rattle.blocking_meaning.specs.Run.{next, run_outcome}

-- the bytes that come in, in order: the low 8 bits of each RXDR read that is kept
abbrev pub receiving : Result Next End → List ℕ → Parked → (Parked → List ℕ → List ℕ) → List ℕ
receiving (Err end) ws p k = []
receiving (Ok (Read number keep)) [] p k = []
receiving (Ok (Read number keep)) (w ∷ ws) p k = cond keep (received w ∷ k (after p w) ws) (k (after p w) ws)
receiving (Ok (Write number word)) ws p k = k (after p 0) ws

unfoldable pub received_in : List ℕ → ℕ → Parked → List ℕ → List ℕ
received_in s zero p ws = []
received_in s (suc n) p ws = receiving (next s p) ws p (received_in s n)

-- a wrong call receives nothing
unfoldable pub received_bytes : List ℕ → ℕ → Parked → List ℕ → List ℕ → List ℕ
received_bytes s n p b ws = cond (wrong p (length s) (length b)) [] (received_in s n p ws)

-- the place of the next byte: the count, where it is of bytes that came in; the second half of a `write_read` begins at 0
unfoldable pub next_place : Parked → ℕ
next_place p = cond (incoming p.kind) p.count 0

pub record BufferLaw : Type 0 where
  pub filled : (s : List ℕ) (n : ℕ) (p : Parked) (b ws : List ℕ) → (run_outcome s n p b ws).buffer ≡ sets b (next_place p) (received_bytes s n p b ws)
  pub inside : (s : List ℕ) (n : ℕ) (p : Parked) (b ws : List ℕ) → wrong p (length s) (length b) ≡ false → next_place p + length (received_bytes s n p b ws) ≤ length b
  pub counted : (s : List ℕ) (n : ℕ) (p : Parked) (b ws : List ℕ) → next_place (run_outcome s n p b ws).parked ≡ next_place p + length (received_bytes s n p b ws)
  pub frame_count : (s : List ℕ) (n : ℕ) (p : Parked) (b ws : List ℕ) (x : ℕ) → (run_outcome s n p b ws).answer ≡ says 5 (x ∷ []) → x ≡ (run_outcome s n p b ws).parked.count
