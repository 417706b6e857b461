-- What a hole such as `{:04X}` writes, and the characters of an access.
use Rattle.std.proofs.Common.{◌≡◌, ℕ, zero, suc, ◌+◌, ◌-◌, ◌/◌, ◌%◌, ◌^◌, ◌<◌, ◌==◌, true, false, if◌then◌else◌, nat_lt, Bool, codes, List, [], ◌∷◌, ◌++◌, length, replicate, append-nil, arith, refl, sym, ap, subst, ◌∙◌}
use Rattle.std.proofs.Math.Nat.{not-suc-le-zero, div-lt_iff_lt-mul, pow-suc}
use Rattle.std.specs.Str.{IsUtf8, IsAscii}
use Rattle.std.proofs.lemmas.Str.{IsUtf8-from_ascii}
use Rattle.std.proofs.lemmas.Str.Ascii.{IsAscii-nil, IsAscii-cons}
use Rattle.std.proofs.lemmas.Bool.{eqb-true, eq-eqb, false≢true}
use Rattle.script.specs.PrintedLines.{hex_digits, access_line}
use Rattle.std.specs.Fmt.{padded_integral, format_spec, char_count, digit_glyph, digits_onto, digits}

-- zeros stand before the digits
pub zeros_first : (count : ℕ) (numeral : List ℕ) → padded_integral (format_spec 32 0 4 count (2 ^ 64 - 1)) false [] numeral ≡ replicate (count - length numeral) 48 ++ numeral
unfolding padded_integral char_count
zeros_first count numeral =
    let short : count - length numeral - 0 - 0 ≡ count - length numeral = omega arith in
    rw (short, append-nil numeral)

-- the last so many digits of a number, before those that are there
abbrev pub last_digits : ℕ → ℕ → List ℕ → List ℕ
last_digits zero n text = text
last_digits (suc k) n text = last_digits k (n / 16) (digit_glyph true (n % 16) ∷ text)

zero_before : (k : ℕ) (text : List ℕ) → replicate k 48 ++ (48 ∷ text) ≡ 48 ∷ (replicate k 48 ++ text)
zero_before zero text = refl
zero_before (suc k) text = ap (λ l. 48 ∷ l) (zero_before k text)

zeros_alone : (k : ℕ) (text : List ℕ) → last_digits k 0 text ≡ replicate k 48 ++ text
zeros_alone zero text = refl
zeros_alone (suc k) text = zeros_alone k (48 ∷ text) ∙ zero_before k text

abbrev pub glyph : ℕ → ℕ
glyph n = digit_glyph true (n % 16)

abbrev with_zeros : ℕ → List ℕ → List ℕ
with_zeros count text = replicate (count - length text) 48 ++ text

-- at a digit: it is the first one that is written, or more stand before it
at_digit : (k m n : ℕ) (text : List ℕ) → n < 16 ^ suc k → k < suc m
    → ((j : ℕ) → n / 16 < 16 ^ suc j → j < m → with_zeros (suc j + suc (length text)) (digits_onto m 16 true (n / 16) (glyph n ∷ text)) ≡ last_digits (suc j) (n / 16) (glyph n ∷ text))
    → (t : Bool) → (n / 16 == 0) ≡ t → with_zeros (suc k + length text) (if t then glyph n ∷ text else digits_onto m 16 true (n / 16) (glyph n ∷ text)) ≡ last_digits (suc k) n text
at_digit k m n text small more hyp true first =
    let none : n / 16 ≡ 0 = eqb-true _ _ first in
    let zeros : suc k + length text - suc (length text) ≡ k = omega arith in
    rw (zeros, none) (sym (zeros_alone k (glyph n ∷ text)))
at_digit zero m n text small more hyp false first =
    let none : n / 16 ≡ 0 = omega arith in
    absurd (false≢true (sym first ∙ eq-eqb _ _ none))
at_digit (suc j) m n text small more hyp false first =
    let same : suc (suc j) + length text ≡ suc j + suc (length text) = omega arith in
    let less : n / 16 < 16 ^ suc j = (div-lt_iff_lt-mul (omega arith)).1 (rw (pow-suc 16 (suc j)) at small) in
    rw same (hyp j less (omega arith))

-- zeros up to so many digits, and the digits: the last so many
filled : (k m n : ℕ) (text : List ℕ) → n < 16 ^ suc k → k < m → with_zeros (suc k + length text) (digits_onto m 16 true n text) ≡ last_digits (suc k) n text
filled k zero n text small more = absurd (not-suc-le-zero more)
filled k (suc m) n text small more = at_digit k m n text small more (λ j less left. filled j m (n / 16) (glyph n ∷ text) less left) (n / 16 == 0) refl

two_digits : (n : ℕ) → n < 256 → hex_digits 2 n ≡ glyph (n / 16) ∷ glyph n ∷ []
unfolding digits
two_digits n small = filled 1 64 n [] small (omega arith)

eight_digits : (n : ℕ) → n < 2 ^ 32 → hex_digits 8 n ≡ last_digits 8 n []
unfolding digits
eight_digits n small = filled 7 64 n [] small (omega arith)

-- the characters of an access
abbrev pub access_characters : ℕ → ℕ → ℕ → List ℕ
access_characters kind number word =
    kind ∷ 32 ∷ glyph (number / 2 ^ 4) ∷ glyph number ∷ 32 ∷ glyph (word / 2 ^ 28) ∷ glyph (word / 2 ^ 24) ∷ glyph (word / 2 ^ 20) ∷ glyph (word / 2 ^ 16)
    ∷ glyph (word / 2 ^ 12) ∷ glyph (word / 2 ^ 8) ∷ glyph (word / 2 ^ 4) ∷ glyph word ∷ 10 ∷ []

-- a word divided again and again by 16
in_powers : (kind number word : ℕ) → kind ∷ 32 ∷ last_digits 2 number (32 ∷ last_digits 8 word (10 ∷ [])) ≡ access_characters kind number word
in_powers kind number word =
    let at_8 : word / 16 / 16 ≡ word / 2 ^ 8 = omega arith in
    let at_12 : word / 2 ^ 8 / 16 ≡ word / 2 ^ 12 = omega arith in
    let at_16 : word / 2 ^ 12 / 16 ≡ word / 2 ^ 16 = omega arith in
    let at_20 : word / 2 ^ 16 / 16 ≡ word / 2 ^ 20 = omega arith in
    let at_24 : word / 2 ^ 20 / 16 ≡ word / 2 ^ 24 = omega arith in
    let at_28 : word / 2 ^ 24 / 16 ≡ word / 2 ^ 28 = omega arith in
    rw (at_8, at_12, at_16, at_20, at_24, at_28) refl

letter : (t : Bool) → (if t then codes "R" else codes "W") ≡ (if t then 82 else 87) ∷ []
letter true = refl
letter false = refl

pub access_in_characters : (number word : ℕ) → word < 2 ^ 32 → access_line number word ≡ access_characters (if nat_lt number 256 then 82 else 87) number word
access_in_characters number word small =
    let high : number % 256 / 16 % 16 ≡ number / 16 % 16 = omega arith in
    let low : number % 256 % 16 ≡ number % 16 = omega arith in
    rw (two_digits (number % 256) (omega arith), eight_digits word small, letter (nat_lt number 256), high, low) (in_powers _ number word)

digit_small : (d : ℕ) (t : Bool) → d < 16 → (if t then 48 + d else 55 + d) < 128
digit_small d true h = omega arith
digit_small d false h = omega arith

ascii_digits : (k n : ℕ) (text : List ℕ) → IsAscii text → IsAscii (last_digits k n text)
ascii_digits zero n text h = h
ascii_digits (suc k) n text h = ascii_digits k (n / 16) (glyph n ∷ text) (IsAscii-cons (glyph n) text (digit_small (n % 16) (nat_lt (n % 16) 10) (omega arith)) h)

pub characters_are_text : (kind number word : ℕ) → kind < 128 → IsUtf8 (access_characters kind number word)
characters_are_text kind number word h =
    let words : List ℕ = last_digits 8 word (10 ∷ []) in
    let text : List ℕ = last_digits 2 number (32 ∷ words) in
    let words_are : IsAscii words = ascii_digits 8 word (10 ∷ []) (IsAscii-cons 10 [] (omega arith) IsAscii-nil) in
    let text_is : IsAscii text = ascii_digits 2 number (32 ∷ words) (IsAscii-cons 32 words (omega arith) words_are) in
    let line : IsUtf8 (kind ∷ 32 ∷ text) = IsUtf8-from_ascii (kind ∷ 32 ∷ text) (IsAscii-cons kind (32 ∷ text) h (IsAscii-cons 32 text (omega arith) text_is)) in
    subst (λ l. IsUtf8 l) (in_powers kind number word) line
