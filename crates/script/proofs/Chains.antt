-- What `take_while` and `skip_while` give, and what `extend` makes of it. The steps are read off the call's clause `runs`.
use Rattle.std.proofs.Common.{◌≡◌, ℕ, ◌<◌, Bool, false, List, [], ◌++◌, Option, Some, Result, Ok, Err, Bor, take, drop, map, length, OnErr, MatchResult, refl, sym, ap, ◌∙◌, arith}
use Rattle.std.specs.Fn.{CalledAt}
use Rattle.arrayvec.specs.ArrayVec.{ArrayVec, array_vec_len, Extends}
use Rattle.std.specs.Iterator.{ExtendsWithItems, YieldsThen}
use Rattle.std.specs.Iterator.Adapters.{take_while_source, take_while_callee, take_while_done, take_while_steps, skip_while_source, skip_while_callee, skip_while_done_skipping, skip_while_steps}
use Rattle.std.specs.Iterator.Runs.{EachRunFrom, SomeRun, IsTakeWhileRun, IsSkipWhileRun}
use Rattle.std.specs.List.{prefix_len}
use Rattle.std.specs.declared.iter.TakeWhile.{TakeWhile}
use Rattle.std.specs.declared.iter.SkipWhile.{SkipWhile}
use Rattle.std.proofs.lemmas.Iterator.{YieldsList}
use Rattle.std.proofs.lemmas.Iterator.Adapters.{YieldsList-from_skip_while, fact_from_extend}
use Rattle.std.proofs.lemmas.Iterator.Consumers.{YieldsList-at, YieldsList-turn}
use Rattle.std.proofs.lemmas.Iterator.Search.{YieldsList-from_take_while}
use denote.Param.Members.{Mut}

-- an empty vector that is extended by a chain has what the chain gives, if there is room for it
pub extended : {S A B E : Type 0} {steps : S → Option A → S → Type 0} {v : A → B} {all : List B} {s : S} (r : Result (Unit {0}) E) (old new : ArrayVec A) (most : ℕ) → YieldsList steps v s all → old.items ≡ []
    → ExtendsWithItems (λ u it. it ≡ u) steps Extends s old new r → OnErr r (array_vec_len new ≡ most)
    → OnErr r ((it : S) × (xs : List A) × (x : A) × (rest : S) × (it ≡ s) × YieldsThen steps it xs (Some x) rest × Extends old xs new)
    → MatchResult r (λ _. map v new.items ≡ all) (λ _. most < length all)
extended {E = E} {v = v} (Ok x) old new most chain empty ran full one_more =
    fact_from_extend {E = E} v (Ok x) ran (λ it b. YieldsList-at b chain) (λ xs e h. ap (map v) (h ∙ ap (λ ys. ys ++ xs) empty) ∙ e)
extended (Err x) old new most chain empty ran full one_more =
    let (it, xs, y, rest, same, yields, extends) = one_more in
    let turn = YieldsList-turn (YieldsList-at same chain) xs yields.0 yields.1 (Some y) rest y refl yields.2 in
    let len : length xs ≡ most = ap length (sym (extends ∙ ap (λ ys. ys ++ xs) empty)) ∙ full in
    let more = turn.0 in
    omega arith

module _ {S A B F : Type 0} {steps : S → Option A → S → Type 0} {v : A → B} {ys : List B} {g : Mut F (Bor A × Unit {0}) Bool} {f : F} {source : S} (test : B → Bool) where
  pub YieldsList-take_while : {s : TakeWhile S F} → EachRunFrom (take_while_steps steps g) s (λ u. SomeRun steps source (λ q. IsTakeWhileRun u q g f)) → YieldsList steps v source ys
      → take_while_source s ≡ source → take_while_callee s ≡ f → take_while_done s ≡ false → ((x : A) (b : Bool) (q : F) → CalledAt g f x b q → (q ≡ f) × (b ≡ test (v x)))
      → YieldsList (take_while_steps steps g) v s (take (prefix_len test ys) ys)
  YieldsList-take_while runs chain from closure done computes = YieldsList-from_take_while g test (YieldsList-at from chain) closure done computes

  pub YieldsList-skip_while : {s : SkipWhile S F} → EachRunFrom (skip_while_steps steps g) s (λ u. SomeRun steps source (λ q. IsSkipWhileRun u q g f)) → YieldsList steps v source ys
      → skip_while_source s ≡ source → skip_while_callee s ≡ f → skip_while_done_skipping s ≡ false → ((x : A) (b : Bool) (q : F) → CalledAt g f x b q → (q ≡ f) × (b ≡ test (v x)))
      → YieldsList (skip_while_steps steps g) v s (drop (prefix_len test ys) ys)
  YieldsList-skip_while runs chain from closure done computes = YieldsList-from_skip_while steps v g test f computes (YieldsList-at from chain) closure done
