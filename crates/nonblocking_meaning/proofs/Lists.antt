-- Lists laid over one another, and front parts of them.
use Prim.Native.Nat.{ℕ, zero, suc, ◌≤◌, ◌<◌}
use mathlib.Core.Path.{◌≡◌, refl, sym, ◌∙◌}
use mathlib.Core.Bool.{Bool, true, false}
use mathlib.Core.Option.{none, some}
use mathlib.Core.List.{List, [], ◌∷◌}
use native.Mathlib.Nat.{not-suc-le-zero, le_of_suc-le-suc}
use native.Mathlib.Omega.{arith}
use lib.ListN.{length, get_or, take, set, get_elem?, replicate, length-take, length-replicate}
use lib.Seq.{get_or-take, get_or-set_same, get_or-set_other}
use lib.Dec.{eqb}
use borrow.Author.Tests.{eqb-true, eqb-false}
use Rattle.registers.specs.CallLog.{over}

-- an empty place is no filled one
pub none-some {ℓ} : {X : Type ℓ} {A : Type 0} {v : A} → none ≡ some v → X
none-some p = let z : ◌≡◌ {A = ℕ} 0 1 = cc in absurd (omega arith)

-- one list laid over two of one length: the same at each place that it reaches
pub over_same : (xs d₁ d₂ : List ℕ) (j : ℕ) → length d₁ ≡ length d₂ → j < length xs → get_or (over xs d₁) j 0 ≡ get_or (over xs d₂) j 0
over_same [] d₁ d₂ j e h = absurd (not-suc-le-zero h)
over_same (x ∷ xs) [] [] j e h = refl
over_same (x ∷ xs) [] (y ∷ ys) j e h = absurd (omega arith)
over_same (x ∷ xs) (z ∷ zs) [] j e h = absurd (omega arith)
over_same (x ∷ xs) (z ∷ zs) (y ∷ ys) zero e h = refl
over_same (x ∷ xs) (z ∷ zs) (y ∷ ys) (suc j) e h = over_same xs zs ys j (omega arith) (le_of_suc-le-suc h)

-- zeros laid over two lists of one length
pub zeros_same : (n : ℕ) (d₁ d₂ : List ℕ) → length d₁ ≡ length d₂ → (j : ℕ) → j < n → get_or (over (replicate n 0) d₁) j 0 ≡ get_or (over (replicate n 0) d₂) j 0
zeros_same n d₁ d₂ e j h = over_same (replicate n 0) d₁ d₂ j e (rw (length-replicate {A = ℕ} n 0) h)

-- a list that fits, laid over another, is found there
pub over_put : (xs d : List ℕ) (j v : ℕ) → length xs ≤ length d → get_elem? xs j ≡ some v → get_or (over xs d) j 0 ≡ v
over_put [] d j v h e = none-some e
over_put (x ∷ xs) [] j v h e = absurd (not-suc-le-zero h)
over_put (x ∷ xs) (y ∷ ys) zero v h e = cc
over_put (x ∷ xs) (y ∷ ys) (suc j) v h e = over_put xs ys j v (le_of_suc-le-suc h) e

-- a list has an element at each place below its length
pub element : (xs : List ℕ) (j : ℕ) → j < length xs → (v : ℕ) × (get_elem? xs j ≡ some v)
element [] j h = absurd (not-suc-le-zero h)
element (x ∷ xs) zero h = (x, refl)
element (x ∷ xs) (suc j) h = element xs j (le_of_suc-le-suc h)

-- two lists of one length that are the same below i have the same front part of i
pub take_same : (i : ℕ) (d₁ d₂ : List ℕ) → length d₁ ≡ length d₂ → ((j : ℕ) → j < i → get_or d₁ j 0 ≡ get_or d₂ j 0) → take i d₁ ≡ take i d₂
take_same zero d₁ d₂ e h = refl
take_same (suc i) [] [] e h = refl
take_same (suc i) [] (y ∷ ys) e h = absurd (omega arith)
take_same (suc i) (x ∷ xs) [] e h = absurd (omega arith)
take_same (suc i) (x ∷ xs) (y ∷ ys) e h =
    let t : take i xs ≡ take i ys = take_same i xs ys (omega arith) (λ j k. h (suc j) (omega arith)) in
    let u : x ≡ y = h 0 (omega arith) in
    cc

-- a place of the front part of i is below i, and holds what the list holds there
pub in_front : (i : ℕ) (d : List ℕ) (j : ℕ) → j < length (take i d) → j < i
in_front i d j h = let k : j < length (take i d) = h in omega (arith, length-take i d)

pub front_at : (i : ℕ) (d : List ℕ) (j : ℕ) → j < length (take i d) → get_or (take i d) j 0 ≡ get_or d j 0
front_at i d j h = get_or-take i d j 0 (in_front i d j h)

-- the same byte put at place i of two lists: they are the same at each place where they were
pub set_same : (d₁ d₂ : List ℕ) (i v j : ℕ) (t : Bool) → eqb j i ≡ t → i < length d₁ → i < length d₂ → get_or d₁ j 0 ≡ get_or d₂ j 0 →
    get_or (set d₁ i v) j 0 ≡ get_or (set d₂ i v) j 0
set_same d₁ d₂ i v j true q l₁ l₂ e = rw (eqb-true j i q) (get_or-set_same d₁ i v 0 l₁ ∙ sym (get_or-set_same d₂ i v 0 l₂))
set_same d₁ d₂ i v j false q l₁ l₂ e = get_or-set_other d₁ i j v 0 (eqb-false j i q) ∙ e ∙ sym (get_or-set_other d₂ i j v 0 (eqb-false j i q))
