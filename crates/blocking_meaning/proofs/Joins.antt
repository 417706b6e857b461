-- A run over some words, and then one over more words, join to one run over all of them.
use Prim.Native.Nat.{ℕ, zero, suc, ◌+◌}
use mathlib.Core.Path.{◌≡◌, refl, sym, ap, ◌∙◌}
use mathlib.Core.List.{List, [], ◌∷◌, ◌++◌}
use native.Mathlib.Nat.{zero-add, suc-add}
use native.Mathlib.Numerals.{one-add}
use lib.ListN.{drop}
use Rattle.std.specs.Prelude.{Result, Ok, Err}
use Rattle.registers.specs.Answers.{Said, says}
use Rattle.parked.specs.declared.phases.End.{End}
use Rattle.parked.specs.declared.next_access.Next.{Next}
use Rattle.parked.specs.declared.next_access.Next.TheVariants.{Read, Write}
use Rattle.parked.specs.declared.Parked.{Parked}
use Rattle.parked.specs.BusyWait.{answer}
use Rattle.parked.specs.After.{after}
use Rattle.blocking_meaning.specs.Run.{RunOutcome, without_access, joined, with_byte, step, full, next, runs}
use Rattle.blocking_meaning.specs.CutLaw.{accesses}
use Rattle.blocking_meaning.proofs.OneAccess.{some, joined-none, joined_joined, run_read, run_write}

-- `q` is the run over `ws`. The run over those words and more, with room for k accesses more, is `q` and then the run from where it parked
abbrev pub Joins : List ℕ → ℕ → Parked → List ℕ → List ℕ → List ℕ → RunOutcome → Type 0
Joins s k p b ws us q = runs s (accesses q.numbers + k) p b (ws ++ us) ≡ joined q.taken q.numbers (runs s k q.parked q.buffer (drop q.taken ws ++ us))

stops : (s : List ℕ) (k : ℕ) (p : Parked) (b ws us : List ℕ) (a : Said) → Joins s k p b ws us (without_access a p b)
stops s k p b ws us a = ap (λ (n : ℕ). runs s n p b (ws ++ us)) (zero-add k) ∙ joined-none (runs s k p b (ws ++ us))

fully : (s : List ℕ) (k : ℕ) (p : Parked) (b : List ℕ) (m : Result Next End) (ws us : List ℕ) → Joins s k p b ws us (full m ws p b)
fully s k p b (Err a) ws us = stops s k p b ws us (answer a p)
fully s k p b (Ok (Read o e)) [] us = stops s k p b [] us (says 9 [])
fully s k p b (Ok (Read o e)) (w ∷ ws) us = stops s k p b (w ∷ ws) us (says 10 [])
fully s k p b (Ok (Write o w)) ws us = stops s k p b ws us (says 10 [])

steps : (s : List ℕ) (n k : ℕ) (us : List ℕ) → ((p : Parked) (b ws : List ℕ) → Joins s k p b ws us (runs s n p b ws))
    → (p : Parked) (b : List ℕ) (m : Result Next End) → next s p ≡ m → (ws : List ℕ) → Joins s k p b ws us (step m ws p b (runs s n))
steps s n k us ih p b (Err a) e ws = stops s k p b ws us (answer a p)
steps s n k us ih p b (Ok (Read o keep)) e [] = stops s k p b [] us (says 9 [])
steps s n k us ih p b (Ok (Read o keep)) e (w ∷ ws) =
    let q : RunOutcome = runs s n (after p w) (with_byte keep p.count w b) ws in
    ap (λ (j : ℕ). runs s j p b (w ∷ (ws ++ us))) (suc-add (accesses q.numbers) k)
    ∙ run_read s p b (accesses q.numbers + k) (w ∷ (ws ++ us)) o keep e (some w (ws ++ us))
    ∙ ap (joined 1 (o ∷ w ∷ [])) (ih (after p w) (with_byte keep p.count w b) ws)
    ∙ joined_joined 1 q.taken (o ∷ w ∷ []) q.numbers (runs s k q.parked q.buffer (drop q.taken ws ++ us))
    ∙ ap (λ (x : List ℕ). joined (1 + q.taken) (o ∷ w ∷ q.numbers) (runs s k q.parked q.buffer (x ++ us))) (sym (ap (λ (j : ℕ). drop j (w ∷ ws)) (one-add q.taken)))
steps s n k us ih p b (Ok (Write o w)) e ws =
    let q : RunOutcome = runs s n (after p 0) b ws in
    ap (λ (j : ℕ). runs s j p b (ws ++ us)) (suc-add (accesses q.numbers) k)
    ∙ run_write s p b (accesses q.numbers + k) (ws ++ us) o w e
    ∙ ap (joined 0 (o ∷ w ∷ [])) (ih (after p 0) b ws)
    ∙ joined_joined 0 q.taken (o ∷ w ∷ []) q.numbers (runs s k q.parked q.buffer (drop q.taken ws ++ us))
    ∙ ap (λ (x : List ℕ). joined (0 + q.taken) (o ∷ w ∷ q.numbers) (runs s k q.parked q.buffer (x ++ us))) (sym (ap (λ (j : ℕ). drop j ws) (zero-add q.taken)))

pub cut : (s : List ℕ) (n k : ℕ) (us : List ℕ) (p : Parked) (b ws : List ℕ) → Joins s k p b ws us (runs s n p b ws)
unfolding runs
cut s zero k us p b ws = fully s k p b (next s p) ws us
cut s (suc n) k us p b ws = steps s n k us (cut s n k us) p b (next s p) refl ws
