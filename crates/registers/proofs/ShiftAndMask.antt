-- A field by shift and mask is the field by arithmetic, once over place and width.
use mathlib.Core.Path.{◌≡◌, refl, sym, ap, ap₂, ◌∙◌, subst}
use Prim.Native.Nat.{ℕ, suc, ◌+◌, ◌-◌, ◌*◌, ◌/◌, ◌%◌, ◌^◌, ◌≤◌, ◌<◌, min}
use native.Mathlib.Nat.{add-zero, add_assoc, add_comm, mod-lt, mod-eq_of_lt, lt_of_lt_of_le, add-mul, suc-mul, mul-le-mul_right, mul_assoc, add-mul-mod_self_right, zero-mod, div-eq_of_lt, min-eq_left, min-eq_right, le_of_lt, zero-mul, sub-zero, min-le_right}
use mathlib.Core.Bool.{Bool, true, false}
use lib.Dec.{leb}
use borrow.Author.Tests.{leb-true, leb-false}
use native.Mathlib.Omega.{arith}
use lib.Pow.{pow_pos, pow_mono, pow-add, split, high, shr_lt, shl_exact, shr-shr, ones_lt, ones_split, mod-mod-pow}
use lib.Bits.{bit_and, bit_or, and_mask, and_block, or_block, and_zero_r, or_zero_r, or_shifted}
use Rattle.registers.specs.declared.field.Field.{Field}
use Rattle.registers.specs.Field.{get, put}

abbrev at : ℕ → ℕ → Field
at p n = record { place = p; width = n }

-- all ones from bit `p` on, shifted down
pub ones_above : (p : ℕ) → p < 32 → (2 ^ 32 - 1) / 2 ^ p ≡ 2 ^ (32 - p) - 1
ones_above p h =
    let e : 32 - p + p ≡ 32 = omega arith in
    subst (λ (n : ℕ). (2 ^ n - 1) / 2 ^ p ≡ 2 ^ (32 - p) - 1) e (rw (ones_split (32 - p) p) (high (2 ^ (32 - p) - 1) p (ones_lt p)))

-- two runs of digits, one after the other
join_lt : (j k : ℕ) {hi lo : ℕ} → hi < 2 ^ j → lo < 2 ^ k → hi * 2 ^ k + lo < 2 ^ (j + k)
join_lt j k {hi} {lo} h l =
    let a : suc hi * 2 ^ k ≤ 2 ^ j * 2 ^ k = mul-le-mul_right (2 ^ k) h in
    omega (arith, a, suc-mul hi (2 ^ k), pow-add 2 j k)

-- a word in three runs of digits: above the field, the field, below it
runs : (w k p : ℕ) → (w / 2 ^ (k + p) * 2 ^ k + w / 2 ^ p % 2 ^ k) * 2 ^ p + w % 2 ^ p ≡ w
runs w k p =
    ap (λ (x : ℕ). x * 2 ^ p + w % 2 ^ p)
    (ap (λ (n : ℕ). n * 2 ^ k + w / 2 ^ p % 2 ^ k) (ap (λ (n : ℕ). w / 2 ^ n) (add_comm k p) ∙ sym (shr-shr w p k)) ∙ split (w / 2 ^ p) k)
    ∙ split w p

-- the same with another value's low bits in the field
abbrev pub with_field : ℕ → ℕ → ℕ → ℕ → ℕ
with_field w k p v = (w / 2 ^ (k + p) * 2 ^ k + v % 2 ^ k) * 2 ^ p + w % 2 ^ p

with_field_lt : (w k p v : ℕ) → k + p ≤ 32 → w < 2 ^ 32 → with_field w k p v < 2 ^ 32
with_field_lt w k p v h l =
    let e : 32 - (k + p) + (k + p) ≡ 32 = omega arith in
    let hi : w / 2 ^ (k + p) < 2 ^ (32 - (k + p)) = shr_lt (32 - (k + p)) (k + p) (subst (λ (n : ℕ). w < 2 ^ n) (sym e) l) in
    subst (λ (n : ℕ). with_field w k p v < 2 ^ n) (add_assoc (32 - (k + p)) k p ∙ e)
    (join_lt (32 - (k + p) + k) p (join_lt (32 - (k + p)) k hi (mod-lt v (pow_pos k))) (mod-lt w (pow_pos p)))

-- a field in the word: the old value taken away and the new one added
pub put_runs : (w p k v : ℕ) → k + p ≤ 32 → w < 2 ^ 32 → put w (at p k) v ≡ with_field w k p v
unfolding put get
put_runs w p k v h l =
    let a : (w / 2 ^ (k + p) * 2 ^ k + v % 2 ^ k) * 2 ^ p ≡ w / 2 ^ (k + p) * 2 ^ k * 2 ^ p + v % 2 ^ k * 2 ^ p = add-mul _ _ _ in
    let b : (w / 2 ^ (k + p) * 2 ^ k + w / 2 ^ p % 2 ^ k) * 2 ^ p ≡ w / 2 ^ (k + p) * 2 ^ k * 2 ^ p + w / 2 ^ p % 2 ^ k * 2 ^ p = add-mul _ _ _ in
    let e : w - w / 2 ^ p % 2 ^ k * 2 ^ p + v % 2 ^ k * 2 ^ p ≡ with_field w k p v = omega (arith, a, b, runs w k p) in
    rw e (mod-eq_of_lt (with_field_lt w k p v h l))

-- a field that begins past the word
pub put_past : (w : ℕ) (f : Field) (v : ℕ) → 32 ≤ f.place → w < 2 ^ 32 → put w f v ≡ w
unfolding put get
put_past w f v h l =
    let e : f.place - 32 + 32 ≡ f.place = omega arith in
    let z : w / 2 ^ f.place ≡ 0 = div-eq_of_lt (lt_of_lt_of_le l (pow_mono h)) in
    rw (z, zero-mod (2 ^ f.width), zero-mul, sub-zero, sym e, pow-add 2 (f.place - 32) 32, sym (mul_assoc (v % 2 ^ f.width) (2 ^ (f.place - 32)) (2 ^ 32)))
    (add-mul-mod_self_right w (v % 2 ^ f.width * 2 ^ (f.place - 32)) (2 ^ 32) ∙ mod-eq_of_lt l)

-- a field that runs past the word's end is the part of it that lies in the word
module _ (w p n : ℕ) (starts : p < 32) (past : 32 ≤ n + p) (fits : w < 2 ^ 32) where
  reaches : (32 - p) + p ≡ 32
  reaches = omega arith

  wide : n - (32 - p) + (32 - p) ≡ n
  wide = omega arith

  high_lt : w / 2 ^ p < 2 ^ (32 - p)
  high_lt = shr_lt (32 - p) p (subst (λ (m : ℕ). w < 2 ^ m) (sym reaches) fits)

  get_end : w / 2 ^ p % 2 ^ n ≡ w / 2 ^ p % 2 ^ (32 - p)
  get_end =
      mod-eq_of_lt (lt_of_lt_of_le high_lt (pow_mono (subst (λ (m : ℕ). (32 - p) ≤ m) wide (omega arith)))) ∙ sym (mod-eq_of_lt high_lt)

  -- what the value has past the word's end is a multiple of 2 ^ 32
  shifted_end : (v a : ℕ) → (a + v % 2 ^ n * 2 ^ p) % 2 ^ 32 ≡ (a + v % 2 ^ (32 - p) * 2 ^ p) % 2 ^ 32
  shifted_end v a =
      let x = v % 2 ^ n in
      let s : x / 2 ^ (32 - p) * 2 ^ (32 - p) + x % 2 ^ (32 - p) ≡ x = split x (32 - p) in
      let m : x % 2 ^ (32 - p) ≡ v % 2 ^ (32 - p) = subst (λ (i : ℕ). v % 2 ^ i % 2 ^ (32 - p) ≡ v % 2 ^ (32 - p)) wide (mod-mod-pow v (n - (32 - p)) (32 - p)) in
      let d : (x / 2 ^ (32 - p) * 2 ^ (32 - p) + x % 2 ^ (32 - p)) * 2 ^ p ≡ x / 2 ^ (32 - p) * 2 ^ (32 - p) * 2 ^ p + x % 2 ^ (32 - p) * 2 ^ p = add-mul _ _ _ in
      let q : x / 2 ^ (32 - p) * 2 ^ (32 - p) * 2 ^ p ≡ x / 2 ^ (32 - p) * 2 ^ 32 =
      mul_assoc (x / 2 ^ (32 - p)) (2 ^ (32 - p)) (2 ^ p) ∙ ap (λ (i : ℕ). x / 2 ^ (32 - p) * i) (sym (pow-add 2 (32 - p) p) ∙ ap (λ (i : ℕ). 2 ^ i) reaches) in
      let e : a + x * 2 ^ p ≡ a + v % 2 ^ (32 - p) * 2 ^ p + x / 2 ^ (32 - p) * 2 ^ 32 = omega (arith, ap (λ (i : ℕ). i * 2 ^ p) s, ap (λ (i : ℕ). i * 2 ^ p) m, d, q) in
      rw e (add-mul-mod_self_right (a + v % 2 ^ (32 - p) * 2 ^ p) (x / 2 ^ (32 - p)) (2 ^ 32))

  put_end : (v : ℕ) → put w (at p n) v ≡ put w (at p (32 - p)) v
  unfolding put get
  put_end v = rw get_end (shifted_end v (w - w / 2 ^ p % 2 ^ (32 - p) * 2 ^ p))

-- the code's mask: the field's ones, in their place
module _ (w p k : ℕ) (inside : k + p ≤ 32) (fits : w < 2 ^ 32) where
  -- the bits above the field are 32 - (k + p)
  whole : 32 - (k + p) + k + p ≡ 32
  whole = omega arith

  placed : {v : ℕ} → v < 2 ^ k → v * 2 ^ p % 2 ^ 32 ≡ v * 2 ^ p
  placed h = shl_exact k p 32 h inside

  -- all 32 ones less the field's, in three runs of digits
  holes : 2 ^ 32 - 1 - (2 ^ k - 1) * 2 ^ p ≡ ((2 ^ (32 - (k + p)) - 1) * 2 ^ k + 0) * 2 ^ p + (2 ^ p - 1)
  holes =
      let d : ((2 ^ (32 - (k + p)) - 1) * 2 ^ k + (2 ^ k - 1)) * 2 ^ p ≡ (2 ^ (32 - (k + p)) - 1) * 2 ^ k * 2 ^ p + (2 ^ k - 1) * 2 ^ p = add-mul _ _ _ in
      let a : 2 ^ (32 - (k + p) + k + p) - 1 ≡ ((2 ^ (32 - (k + p)) - 1) * 2 ^ k + (2 ^ k - 1)) * 2 ^ p + (2 ^ p - 1) =
      ones_split (32 - (k + p) + k) p ∙ ap (λ (x : ℕ). x * 2 ^ p + (2 ^ p - 1)) (ones_split (32 - (k + p)) k) in
      let b : 2 ^ 32 - 1 ≡ ((2 ^ (32 - (k + p)) - 1) * 2 ^ k + (2 ^ k - 1)) * 2 ^ p + (2 ^ p - 1) = ap (λ (m : ℕ). 2 ^ m - 1) (sym whole) ∙ a in
      rw add-zero (omega (arith, b, d))

  -- `word & !(mask << place)`
  cleared : bit_and w (2 ^ 32 - 1 - (2 ^ k - 1) * 2 ^ p % 2 ^ 32) ≡ (w / 2 ^ (k + p) * 2 ^ k + 0) * 2 ^ p + w % 2 ^ p
  cleared =
      let high_lt : w / 2 ^ (k + p) < 2 ^ (32 - (k + p)) =
      shr_lt (32 - (k + p)) (k + p) (subst (λ (m : ℕ). w < 2 ^ m) (sym whole ∙ add_assoc (32 - (k + p)) k p) fits) in
      ap₂ bit_and (sym (runs w k p)) (ap (λ (x : ℕ). 2 ^ 32 - 1 - x) (placed (ones_lt k)) ∙ holes)
      ∙ and_block p (w / 2 ^ (k + p) * 2 ^ k + w / 2 ^ p % 2 ^ k) ((2 ^ (32 - (k + p)) - 1) * 2 ^ k + 0) (w % 2 ^ p) (2 ^ p - 1) (mod-lt w (pow_pos p)) (ones_lt p)
      ∙ ap₂ (λ (a b : ℕ). a * 2 ^ p + b)
      (and_block k (w / 2 ^ (k + p)) (2 ^ (32 - (k + p)) - 1) (w / 2 ^ p % 2 ^ k) 0 (mod-lt (w / 2 ^ p) (pow_pos k)) (pow_pos k)
      ∙ ap₂ (λ (a b : ℕ). a * 2 ^ k + b) (and_mask (w / 2 ^ (k + p)) (32 - (k + p)) ∙ mod-eq_of_lt high_lt) (and_zero_r (w / 2 ^ p % 2 ^ k)))
      (and_mask (w % 2 ^ p) p ∙ mod-eq_of_lt (mod-lt w (pow_pos p)))

  clear_inside : bit_and w (2 ^ 32 - 1 - (2 ^ k - 1) * 2 ^ p % 2 ^ 32) ≡ put w (at p k) 0
  clear_inside = cleared ∙ ap (λ (x : ℕ). (w / 2 ^ (k + p) * 2 ^ k + x) * 2 ^ p + w % 2 ^ p) (sym (zero-mod (2 ^ k))) ∙ sym (put_runs w p k 0 inside fits)

  -- `.. | ((value & mask) << place)`
  put_inside : (v : ℕ) → bit_or (bit_and w (2 ^ 32 - 1 - (2 ^ k - 1) * 2 ^ p % 2 ^ 32)) (bit_and v (2 ^ k - 1) * 2 ^ p % 2 ^ 32) ≡ put w (at p k) v
  put_inside v =
      let x = v % 2 ^ k in
      let hi = w / 2 ^ (k + p) in
      let x_lt : x < 2 ^ k = mod-lt v (pow_pos k) in
      ap₂ bit_or cleared (ap (λ (y : ℕ). y * 2 ^ p % 2 ^ 32) (and_mask v k) ∙ placed x_lt ∙ sym (add-zero (x * 2 ^ p)))
      ∙ or_block p (hi * 2 ^ k + 0) x (w % 2 ^ p) 0 (mod-lt w (pow_pos p)) (pow_pos p)
      ∙ ap₂ (λ (a b : ℕ). a * 2 ^ p + b) (ap (λ (y : ℕ). bit_or y x) (add-zero (hi * 2 ^ k)) ∙ or_shifted hi k x x_lt) (or_zero_r (w % 2 ^ p))
      ∙ sym (put_runs w p k v inside fits)

-- what holds of either number holds of the smaller one
min_cases : (a b : ℕ) (P : ℕ → Type 0) → (a ≤ b → P a) → (b ≤ a → P b) → P (min a b)
min_cases a b P f g = by (leb a b) refl
  where
    by : (t : Bool) → leb a b ≡ t → P (min a b)
    by true e = rw (min-eq_left (leb-true a b e)) (f (leb-true a b e))
    by false e = rw (min-eq_right (le_of_lt (leb-false a b e))) (g (le_of_lt (leb-false a b e)))

-- the code of `get`, `put` and `clear`: a field that begins in the word, with the bits of it that lie in the word
module _ (w p n : ℕ) (starts : p < 32) (fits : w < 2 ^ 32) where
  inner_inside : min n (32 - p) + p ≤ 32
  inner_inside = omega (arith, min-le_right n (32 - p))

  get_inner : w / 2 ^ p % 2 ^ min n (32 - p) ≡ get w (at p n)
  unfolding get
  get_inner =
      min_cases n (32 - p) (λ (k : ℕ). w / 2 ^ p % 2 ^ k ≡ w / 2 ^ p % 2 ^ n) (λ h. refl) (λ h. sym (get_end w p n starts (omega arith) fits))

  put_inner : (v : ℕ) → put w (at p (min n (32 - p))) v ≡ put w (at p n) v
  put_inner v =
      min_cases n (32 - p) (λ (k : ℕ). put w (at p k) v ≡ put w (at p n) v) (λ h. refl) (λ h. sym (put_end w p n starts (omega arith) fits v))

  pub get_code : bit_and (w / 2 ^ p) (2 ^ min n (32 - p) - 1) ≡ get w (at p n)
  get_code = and_mask (w / 2 ^ p) (min n (32 - p)) ∙ get_inner

  pub clear_code : bit_and w (2 ^ 32 - 1 - (2 ^ min n (32 - p) - 1) * 2 ^ p % 2 ^ 32) ≡ put w (at p n) 0
  clear_code = clear_inside w p (min n (32 - p)) inner_inside fits ∙ put_inner 0

  pub put_code : (v : ℕ) → bit_or (bit_and w (2 ^ 32 - 1 - (2 ^ min n (32 - p) - 1) * 2 ^ p % 2 ^ 32)) (bit_and v (2 ^ min n (32 - p) - 1) * 2 ^ p % 2 ^ 32) ≡ put w (at p n) v
  put_code v = put_inside w p (min n (32 - p)) inner_inside fits v ∙ put_inner v

-- a field that begins past the word reads as 0
pub get_past : (w : ℕ) (f : Field) → 32 ≤ f.place → w < 2 ^ 32 → get w f ≡ 0
unfolding get
get_past w f h l = rw (div-eq_of_lt (lt_of_lt_of_le l (pow_mono h))) (zero-mod (2 ^ f.width))
