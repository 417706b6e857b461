-- A list laid over the front of another: as much of it as has room takes the place of the front.
use native.Mathlib.Numerals.{unary_clauses}
use Rattle.std.proofs.Common.{◌≡◌, ℕ, List, [], ◌∷◌, ◌++◌, length, take, drop, min, ap}
use Rattle.registers.specs.CallLog.{over}

pub over_cut : (xs ys : List ℕ) → over xs ys ≡ take (min (length xs) (length ys)) xs ++ drop (min (length xs) (length ys)) ys
over_cut [] ys = simp unary_clauses
over_cut (x ∷ xs) [] = simp unary_clauses
over_cut (x ∷ xs) (y ∷ ys) = simp unary_clauses (ap {B = List ℕ} (λ r. x ∷ r) (over_cut xs ys))
