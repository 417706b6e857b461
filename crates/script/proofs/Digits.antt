-- A number that is read digit by digit.
use Rattle.std.proofs.Common.{◌≡◌, refl, ℕ, zero, suc, ◌+◌, ◌*◌, ◌^◌, ◌<◌, ◌≤◌, List, [], ◌∷◌, length, take, get_or, arith, sym, subst, take_all}
use Rattle.std.proofs.lemmas.Int.Digits.{digits_more, digits_value_more}
use Rattle.std.proofs.lemmas.Str.Parse.{digits_value-take-le}
use Rattle.std.specs.Char.{digit_value}
use Rattle.std.specs.Str.Parse.{AllDigits, IsNumeral, digits_value}

-- the digits before a place give n
abbrev pub ReadsTo : ℕ → List ℕ → ℕ → ℕ → Type 0
ReadsTo base ds i n = AllDigits base (take i ds) × (n ≡ digits_value base (take i ds))

digit_at : (base : ℕ) (ds : List ℕ) (i : ℕ) → AllDigits base ds → i < length ds → digit_value (get_or ds i 0) < base
digit_at base [] i h less = absurd (omega (arith, less))
digit_at base (c ∷ ds) zero h less = h.0
digit_at base (c ∷ ds) (suc i) h less = digit_at base ds i h.1 (omega (arith, less))

module _ (base : ℕ) (ds : List ℕ) (i n : ℕ) (read : ReadsTo base ds i n) (less : i < length ds) where
  pub one_more : (m : ℕ) → digit_value (get_or ds i 0) < base → m ≡ n * base + digit_value (get_or ds i 0) → ReadsTo base ds (i + 1) m
  one_more m digit is = (digits_more base ds i less read.0 digit, (let more = digits_value_more base ds i less in rw more (rw (sym read.1) is)))

  pub no_digit : ¬ (digit_value (get_or ds i 0) < base) → ¬ (IsNumeral base ds × (digits_value base ds < 2 ^ 64))
  no_digit none h = none (digit_at base ds i h.0.1 less)

  pub too_large : 1 ≤ base → 2 ^ 64 ≤ n * base + digit_value (get_or ds i 0) → ¬ (IsNumeral base ds × (digits_value base ds < 2 ^ 64))
  too_large some large h =
      let more = digits_value_more base ds i less in
      let most = digits_value-take-le base ds (i + 1) some in
      let same : digits_value base (take (i + 1) ds) ≡ n * base + digit_value (get_or ds i 0) = rw more (rw (sym read.1) refl) in
      omega (arith, same, most, large, h.1)

pub all_read : (base : ℕ) (ds : List ℕ) (i n : ℕ) → ReadsTo base ds i n → length ds ≤ i → AllDigits base ds × (n ≡ digits_value base ds)
all_read base ds i n read end = subst (λ l. AllDigits base l × (n ≡ digits_value base l)) (take_all i ds end) read
