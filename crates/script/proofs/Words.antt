-- The tokens after the bar, and words, one more at a time.
use Rattle.std.proofs.Common.{◌≡◌, ℕ, not, drop, drop-drop, ◌<◌, List, [], ◌∷◌, ◌++◌, Bor, map, length, arith, sym, subst, ap, ◌∙◌, length-append}
use Rattle.std.proofs.lemmas.List.{map-append, length-map}
use Rattle.std.proofs.lemmas.List.Elements.{All-push}
use Rattle.std.specs.List.{prefix_len, after_first}
use Rattle.std.specs.Str.Parse.{digits_value}
use Rattle.script.specs.Lines.{is_bar, IsWord, AreWords, values_of}

-- what follows the first bar, as `skip_while` and `skip` leave it
pub after-bar : (tokens : List (List ℕ)) → drop 1 (drop (prefix_len (λ token. not (is_bar token)) tokens) tokens) ≡ after_first is_bar tokens
after-bar tokens = drop-drop 1 (prefix_len (λ token. not (is_bar token)) tokens) tokens

push : (tokens : List (List ℕ)) (words : List ℕ) (token : List ℕ) → AreWords tokens × (words ≡ values_of tokens) → length words < 4096 → IsWord token
    → AreWords (tokens ++ token ∷ []) × (words ++ digits_value 16 token ∷ [] ≡ values_of (tokens ++ token ∷ []))
push tokens words token so_far room is_word = (
  record {
    at_most = let same = ap length so_far.1 ∙ length-map tokens (digits_value 16) in let more = length-append tokens (token ∷ []) in omega arith;
    digits = All-push IsWord tokens token so_far.0.digits is_word;
  },
  ap (λ ws. ws ++ digits_value 16 token ∷ []) so_far.1 ∙ sym (map-append (digits_value 16) tokens (token ∷ [])),
)

-- the same where the tokens are read off what a loop has been given
pub AreWords-push : (given : List (Bor (List ℕ))) (words : List ℕ) (token : Bor (List ℕ)) → AreWords (map (λ t. t.now) given) × (words ≡ values_of (map (λ t. t.now) given)) → length words < 4096 → IsWord token.now
    → AreWords (map (λ t. t.now) (given ++ token ∷ [])) × (words ++ digits_value 16 token.now ∷ [] ≡ values_of (map (λ t. t.now) (given ++ token ∷ [])))
AreWords-push given words token so_far room is_word =
    subst (λ tokens. AreWords tokens × (words ++ digits_value 16 token.now ∷ [] ≡ values_of tokens)) (sym (map-append (λ t. t.now) given (token ∷ []))) (push _ _ _ so_far room is_word)

pub room_for_more : (given : List (Bor (List ℕ))) (words : List ℕ) (tokens : List (List ℕ)) → AreWords tokens → words ≡ values_of (map (λ t. t.now) given) → length given < length tokens → length words < 4096
room_for_more given words tokens all read more =
    let same : length words ≡ length given = ap length read ∙ length-map (map (λ t. t.now) given) (digits_value 16) ∙ length-map given (λ t. t.now) in
    let most = all.at_most in
    omega arith
