-- The tokens of a text, as they are cut off it.
use Rattle.std.proofs.Common.{◌≡◌, ◌≢◌, ℕ, zero, suc, ◌+◌, ◌<◌, ◌≤◌, false, not, ◌==◌, cond, List, [], ◌∷◌, ◌++◌, length, take, drop, get_or, filter, All, Some, None, IsUtf8, IsCharBoundary, refl, sym, ap, ◌∙◌, subst, arith, ⊎_elim, take_all, length-take-le, length-drop, take-append-drop, drop-cons, drop_of_length-le, get_or-take, get_or-drop, ◌⊎◌, ne_eqb}
use mathlib.Core.Logic.{inl, inr}
use Rattle.std.proofs.lemmas.Bool.{cases_lt}
use Rattle.std.proofs.lemmas.List.Elements.{All-head, All-tail}
use Rattle.std.proofs.lemmas.List.Splits.{slice_split_none, slice_split_at}
use Rattle.std.proofs.lemmas.Str.{IsCharBoundary-start, IsCharBoundary-after_ascii}
use Rattle.std.specs.List.{slice_split}
use Rattle.script.specs.Lines.{tokens_of, StartsToken, EndsToken}

after_spaces : (bs : List ℕ) (i : ℕ) → All (λ b. b ≡ 32) (take i bs) → tokens_of bs ≡ tokens_of (drop i bs)
after_spaces bs zero h = refl
after_spaces [] (suc i) h = refl
after_spaces (b ∷ bs) (suc i) h = ap (λ c. tokens_of (c ∷ bs)) (All-head (λ b. b ≡ 32) b (take i bs) h) ∙ after_spaces bs i (All-tail (λ b. b ≡ 32) b (take i bs) h)

no_space : (xs : List ℕ) → All (λ b. b ≢ 32) xs → All (λ b. (b == 32) ≡ false) xs
no_space xs h k d less = ne_eqb _ 32 (h k d less)

kept : (x : List ℕ) (xs : List (List ℕ)) → 0 < length x → filter (λ token. not (length token == 0)) (x ∷ xs) ≡ x ∷ filter (λ token. not (length token == 0)) xs
kept x xs some = ap (λ b. cond (not b) (x ∷ filter (λ token. not (length token == 0)) xs) (filter (λ token. not (length token == 0)) xs)) (ne_eqb (length x) 0 (λ e. omega (arith, e, some)))

-- a token, and then a space or the end
first_token : (bs : List ℕ) (n : ℕ) → EndsToken bs n → 0 < n → tokens_of bs ≡ take n bs ∷ tokens_of (drop n bs)
first_token bs n ends some = ⊎_elim inner last (cases_lt n (length bs))
  where
    front : All (λ b. (b == 32) ≡ false) (take n bs)
    front = no_space (take n bs) ends.1

    length_is : length (take n bs) ≡ n
    length_is = length-take-le n bs ends.0

    inner : n < length bs → tokens_of bs ≡ take n bs ∷ tokens_of (drop n bs)
    inner less =
        let next : drop n bs ≡ 32 ∷ drop (suc n) bs = drop-cons bs n 32 less ∙ ap (λ b. b ∷ drop (suc n) bs) (ends.2 less) in
        let whole : bs ≡ take n bs ++ 32 ∷ drop (suc n) bs = sym (take-append-drop n bs) ∙ ap (λ l. take n bs ++ l) next in
        ap (λ l. tokens_of l) whole ∙ ap (filter (λ token. not (length token == 0))) (slice_split_at (λ b. b == 32) (take n bs) 32 (drop (suc n) bs) front refl)
        ∙ kept (take n bs) (slice_split (λ b. b == 32) (drop (suc n) bs)) (omega (arith, length_is, some)) ∙ ap (λ l. take n bs ∷ tokens_of l) (sym next)

    last : length bs ≤ n → tokens_of bs ≡ take n bs ∷ tokens_of (drop n bs)
    last over =
        let all = take_all n bs over in
        ap (λ l. filter (λ token. not (length token == 0)) l) (slice_split_none (λ b. b == 32) bs (subst (All (λ b. (b == 32) ≡ false)) all front))
        ∙ kept bs [] (omega (arith, over, ends.0, some)) ∙ ap (λ l. l ∷ []) (sym all) ∙ ap (λ l. take n bs ∷ tokens_of l) (sym (drop_of_length-le bs over))

-- the first token of a text, and the rest
pub cut : (bs : List ℕ) (i n : ℕ) → StartsToken bs (Some i) → EndsToken (drop i bs) n → tokens_of bs ≡ take n (drop i bs) ∷ tokens_of (drop n (drop i bs))
cut bs i n starts ends =
    after_spaces bs i starts.2 ∙ first_token (drop i bs) n ends (some (cases_lt 0 n))
  where
    some : (0 < n) ⊎ (n ≤ 0) → 0 < n
    some (inl less) = less
    some (inr over) =
        let e : n ≡ 0 = omega (arith, over) in
        let place : i + 0 ≡ i = omega arith in
        let at_start : get_or (drop i bs) 0 32 ≡ get_or bs i 32 = get_or-drop i bs 0 32 ∙ ap (λ k. get_or bs k 32) place in
        absurd (starts.1 (sym at_start ∙ ap (λ k. get_or (drop i bs) k 32) (sym e) ∙ ends.2 (omega (arith, length-drop i bs, starts.0, e))))

-- no token
pub none : (bs : List ℕ) → StartsToken bs None → tokens_of bs ≡ []
none bs h = after_spaces bs (length bs) (subst (All (λ b. b ≡ 32)) (sym (take_all (length bs) bs (omega arith))) h) ∙ ap (λ l. tokens_of l) (drop_of_length-le bs (omega arith))

-- a token begins where a character does
pub start_boundary : (bs : List ℕ) (i : ℕ) → IsUtf8 bs → StartsToken bs (Some i) → IsCharBoundary bs i
start_boundary bs zero utf8 starts = IsCharBoundary-start bs utf8
start_boundary bs (suc i) utf8 starts =
    let more : i < length (take (suc i) bs) = omega (arith, length-take-le (suc i) bs (omega (arith, starts.0)), starts.0) in
    let is : get_or bs i 0 ≡ 32 = sym (get_or-take (suc i) bs i 0 (omega arith)) ∙ starts.2 i 0 more in
    let next : i + 1 ≡ suc i = omega arith in
    subst (IsCharBoundary bs) next (IsCharBoundary-after_ascii bs i utf8 (omega (arith, starts.0)) (omega (arith, is)))
