-- A list laid over the front of another: stored place by place, its length, and what it is where the list fits.
use Prim.Native.Nat.{ℕ, zero, suc, ◌≤◌, ◌<◌}
use mathlib.Core.Path.{◌≡◌, refl, ap}
use mathlib.Core.List.{List, [], ◌∷◌, ◌++◌}
use native.Mathlib.Nat.{not-suc-le-zero, le_of_suc-le-suc}
use lib.ListN.{length, drop, get_or, take, set}
use Rattle.registers.specs.CallLog.{over}

-- one more element is a store at the next place
pub over_suc : (xs ys : List ℕ) (i : ℕ) → i < length xs → over (take (suc i) xs) ys ≡ set (over (take i xs) ys) i (get_or xs i 0)
over_suc [] ys i h = absurd (not-suc-le-zero h)
over_suc (x ∷ xs) [] zero h = refl
over_suc (x ∷ xs) (y ∷ ys) zero h = refl
over_suc (x ∷ xs) [] (suc i) h = refl
over_suc (x ∷ xs) (y ∷ ys) (suc i) h = ap {B = List ℕ} (λ r. x ∷ r) (over_suc xs ys i (le_of_suc-le-suc h))

-- it keeps its length
pub over_length : (xs ys : List ℕ) → length (over xs ys) ≡ length ys
over_length [] ys = refl
over_length (x ∷ xs) [] = refl
over_length (x ∷ xs) (y ∷ ys) = ap suc (over_length xs ys)

-- where it fits, it takes the place of the front
pub over_front : (xs ys : List ℕ) → length xs ≤ length ys → over xs ys ≡ xs ++ drop (length xs) ys
over_front [] ys h = refl
over_front (x ∷ xs) [] h = absurd (not-suc-le-zero h)
over_front (x ∷ xs) (y ∷ ys) h = ap {B = List ℕ} (λ r. x ∷ r) (over_front xs ys (le_of_suc-le-suc h))
