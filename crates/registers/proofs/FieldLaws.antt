-- What a driver needs to know of fields, over place and width: a field get back, other fields untouched, words that stay below 2 ^ 32.
use mathlib.Core.Path.{◌≡◌, sym, ap, ◌∙◌}
use mathlib.Core.Logic.{◌⊎◌, ⊎_elim}
use Prim.Native.Nat.{ℕ, ◌+◌, ◌-◌, ◌*◌, ◌/◌, ◌%◌, ◌^◌, ◌≤◌, ◌<◌}
use native.Mathlib.Nat.{mod-lt, mod-mod, add_comm}
use native.Mathlib.Omega.{arith}
use lib.Pow.{pow_pos, high, low, shr-shr, field, mod-mod-pow}
use Rattle.registers.specs.declared.field.Field.{Field}
use Rattle.registers.specs.Field.{get, put}
use Rattle.registers.proofs.ShiftAndMask.{with_field, put_runs}

-- the field lies in the word
abbrev pub InWord : Field → Type 0
InWord f = f.place + f.width ≤ 32

-- two fields have no bit in common
abbrev pub Apart : Field → Field → Type 0
Apart f g = (f.place + f.width ≤ g.place) ⊎ (g.place + g.width ≤ f.place)

-- a word with a field put is a word
pub put_lt : (w : ℕ) (f : Field) (v : ℕ) → put w f v < 2 ^ 32
unfolding put
put_lt w f v = mod-lt (w - get w f * 2 ^ f.place + v % 2 ^ f.width * 2 ^ f.place) (pow_pos 32)

-- a field keeps the low bits that it has
pub put_low : (w : ℕ) (f : Field) (v : ℕ) → put w f (v % 2 ^ f.width) ≡ put w f v
unfolding put
put_low w f v = rw mod-mod

-- a field's value has no more bits than the field
pub get_lt : (w : ℕ) (f : Field) → get w f < 2 ^ f.width
unfolding get
get_lt w f = mod-lt (w / 2 ^ f.place) (pow_pos f.width)

-- a field below bit p is a part of the low p bits
low_part : (x p : ℕ) (g : Field) → g.width + g.place ≤ p → get x g ≡ x % 2 ^ p % 2 ^ (g.width + g.place) / 2 ^ g.place
unfolding get
low_part x p g h =
    let e : p - (g.width + g.place) + (g.width + g.place) ≡ p = omega arith in
    sym (field x g.width g.place)
    ∙ ap (λ (n : ℕ). n / 2 ^ g.place)
    (sym (mod-mod-pow x (p - (g.width + g.place)) (g.width + g.place)) ∙ ap (λ (m : ℕ). x % 2 ^ m % 2 ^ (g.width + g.place)) e)

-- what stands from bit j on, past the field
high_part : (x : ℕ) (f : Field) (j : ℕ) → f.width + f.place ≤ j → x / 2 ^ j ≡ x / 2 ^ f.place / 2 ^ f.width / 2 ^ (j - (f.width + f.place))
high_part x f j h =
    let e : f.place + f.width + (j - (f.width + f.place)) ≡ j = omega arith in
    sym
    (ap (λ (n : ℕ). n / 2 ^ (j - (f.width + f.place))) (shr-shr x f.place f.width)
    ∙ shr-shr x (f.place + f.width) (j - (f.width + f.place))
    ∙ ap (λ (m : ℕ). x / 2 ^ m) e)

module _ (w : ℕ) (f : Field) (v : ℕ) (inside : InWord f) (fits : w < 2 ^ 32) where
  as_runs : put w f v ≡ with_field w f.width f.place v
  as_runs = put_runs w f.place f.width v (omega arith) fits

  -- a field get back: the value's low bits
  pub get-put : get (put w f v) f ≡ v % 2 ^ f.width
  unfolding get
  get-put =
      rw (as_runs, high (w / 2 ^ (f.width + f.place) * 2 ^ f.width + v % 2 ^ f.width) f.place (mod-lt w (pow_pos f.place)))
      (low (w / 2 ^ (f.width + f.place)) f.width (mod-lt v (pow_pos f.width)))

  -- a field that ends where this one begins, or before
  get_lower : (g : Field) → g.width + g.place ≤ f.place → get (put w f v) g ≡ get w g
  get_lower g h =
      rw as_runs
      (low_part (with_field w f.width f.place v) f.place g h
      ∙ ap (λ (n : ℕ). n % 2 ^ (g.width + g.place) / 2 ^ g.place)
      (low (w / 2 ^ (f.width + f.place) * 2 ^ f.width + v % 2 ^ f.width) f.place (mod-lt w (pow_pos f.place)))
      ∙ sym (low_part w f.place g h))

  -- a field that begins where this one ends, or past it
  get_upper : (g : Field) → f.width + f.place ≤ g.place → get (put w f v) g ≡ get w g
  unfolding get
  get_upper g h =
      rw as_runs
      (ap (λ (n : ℕ). n % 2 ^ g.width)
      (high_part (with_field w f.width f.place v) f g.place h
      ∙ ap (λ (n : ℕ). n / 2 ^ f.width / 2 ^ (g.place - (f.width + f.place)))
      (high (w / 2 ^ (f.width + f.place) * 2 ^ f.width + v % 2 ^ f.width) f.place (mod-lt w (pow_pos f.place)))
      ∙ ap (λ (n : ℕ). n / 2 ^ (g.place - (f.width + f.place)))
      (high (w / 2 ^ (f.width + f.place)) f.width (mod-lt v (pow_pos f.width)) ∙ ap (λ (m : ℕ). w / 2 ^ m) (add_comm f.width f.place) ∙ sym (shr-shr w f.place f.width))
      ∙ sym (high_part w f g.place h)))

  -- other fields are untouched
  pub get_other : (g : Field) → Apart f g → get (put w f v) g ≡ get w g
  get_other g = ⊎_elim (λ h. get_upper g (omega arith)) (λ h. get_lower g (omega arith))

-- The laws above are of every field that ends with the word's last bit or before it, and of every two fields with no bit in common.
every_field : (f : Field) → f.place + f.width ≤ 32 → InWord f
every_field f inside = inside

every_two : (f g : Field) → (f.place + f.width ≤ g.place) ⊎ (g.place + g.width ≤ f.place) → Apart f g
every_two f g apart = apart
