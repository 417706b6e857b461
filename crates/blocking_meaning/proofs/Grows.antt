-- The runs over a list that grows, and one count carried on, are the runs over what is not taken yet.
use Prim.Native.Nat.{ℕ, ◌+◌, ◌≤◌, zero-le}
use mathlib.Core.Path.{◌≡◌, refl, sym, ap, ap₂, ◌∙◌}
use mathlib.Core.Bool.{Bool, true, false}
use mathlib.Core.List.{List, [], ◌∷◌, ◌++◌, append-nil}
use native.Mathlib.Nat.{zero-add}
use native.Mathlib.Omega.{arith}
use lib.ListN.{length, drop, length-append, length-drop}
use lib.Seq.{drop-append-le, drop-drop}
use Rattle.parked.specs.declared.Parked.{Parked}
use Rattle.parked.specs.Refusals.{ended}
use Rattle.blocking_meaning.specs.Run.{RunOutcome, joined, run_outcome}
use Rattle.blocking_meaning.specs.CutLaw.{Cut, unless_ended, cut_runs, grown_unless_ended, growing_runs}
use Rattle.blocking_meaning.proofs.OneAccess.{joined-none, joined_joined}
use Rattle.blocking_meaning.proofs.Taken.{taken_within}

-- the rest of the list with new words, and the rest of that after a run
module _ (t : ℕ) (us vs : List ℕ) (within : t ≤ length us) where
  rest_on : drop t (us ++ vs) ≡ drop t us ++ vs
  rest_on = drop-append-le t us vs within

  rest_after : (k : ℕ) → drop (t + k) (us ++ vs) ≡ drop k (drop t us ++ vs)
  rest_after k = sym (drop-drop k t (us ++ vs)) ∙ ap (drop k) rest_on

  within_after : (k : ℕ) → k ≤ length (drop t us ++ vs) → t + k ≤ length (us ++ vs)
  within_after k h = omega (arith, h, within, length-append (drop t us) vs, length-append us vs, length-drop t us)

-- a run that is not the first: its outcome counts from the first word
counted_on : (t : ℕ) (e : Bool) (q rest : RunOutcome) →
    grown_unless_ended e (joined t [] q) (joined (t + q.taken) [] rest) ≡ joined t [] (unless_ended e q rest)
counted_on t true q rest = refl
counted_on t false q rest =
    joined_joined 0 (t + q.taken) q.numbers [] rest
    ∙ ap₂ (λ (k : ℕ) (l : List ℕ). joined k l rest) (zero-add (t + q.taken)) (append-nil q.numbers)
    ∙ sym (joined_joined t q.taken [] q.numbers rest)

pub grown : (s : List ℕ) (p : Parked) (t : ℕ) (b us : List ℕ) (c : Cut) (cs : List Cut) → t ≤ length us →
    growing_runs s p t b us c cs ≡ joined t [] (cut_runs s p b (drop t us) c cs)
unfolding growing_runs cut_runs
grown s p t b us c [] h = ap (λ (x : List ℕ). joined t [] (run_outcome s c.room p b x)) (rest_on t us c.words h)
grown s p t b us c (d ∷ cs) h =
    let q : RunOutcome = run_outcome s c.room p b (drop t us ++ c.words) in
    rw (rest_on t us c.words h)
    (ap (grown_unless_ended (ended q.parked) (joined t [] q))
    (grown s q.parked (t + q.taken) q.buffer (us ++ c.words) d cs (within_after t us c.words h q.taken (taken_within s c.room p b (drop t us ++ c.words)))
    ∙ ap (λ (x : List ℕ). joined (t + q.taken) [] (cut_runs s q.parked q.buffer x d cs)) (rest_after t us c.words h q.taken))
    ∙ counted_on t (ended q.parked) q (cut_runs s q.parked q.buffer (drop q.taken (drop t us ++ c.words)) d cs))

-- from the first word on
pub grown_from_first : (s : List ℕ) (p : Parked) (b : List ℕ) (c : Cut) (cs : List Cut) → growing_runs s p 0 b [] c cs ≡ cut_runs s p b [] c cs
grown_from_first s p b c cs = grown s p 0 b [] c cs zero-le ∙ sym (joined-none (cut_runs s p b [] c cs))
