-- What `extend` leaves in an empty vector.
use Rattle.std.proofs.Common.{◌≡◌, ℕ, List, [], ◌++◌, take, length, Option, Result, Ok, Err, subst, arith}
use Rattle.std.proofs.lemmas.List.{map-id, take_all}
use Rattle.std.proofs.lemmas.Grind.{common_steps}
use Rattle.std.proofs.lemmas.Iterator.{YieldsList}
use Rattle.std.proofs.lemmas.Iterator.Adapters.{items_from_extend}
use Rattle.std.proofs.lemmas.Iterator.Consumers.{YieldsList-so_far}
use Rattle.std.specs.Prelude.{MatchResult, OnErr}
use Rattle.std.specs.Iterator.{Drains, Yields}

-- what a chain that ends in `take(room)` leaves in a vector of so much room
pub filled : {T E : Type 0} {steps : T → Option ℕ → T → Type 0} {s : T} (room : ℕ) (given all old new : List ℕ) (r : Result (Unit {0}) E) → ((it : T) × (xs : List ℕ) × (it ≡ s) × (new ≡ old ++ xs) × MatchResult r (λ _. Drains steps it xs) (λ _. (t : T) × Yields steps it xs t)) → old ≡ [] → OnErr r (length new ≡ room) → YieldsList steps (λ x. x) s (take room all) → given ≡ all → new ≡ take room given
filled {E} room given all old new (Ok x) ran none full road same_bytes =
    let e : new ≡ old ++ take room all = items_from_extend {E = E} {P = λ xs. new ≡ old ++ xs} (Ok x) ran road in
    grind (arith, common_steps)
filled {T} {steps} {s} room given all old new (Err e) (it, xs, same, is, (t, runs)) none full road same_bytes =
    let begun : Yields steps s xs t = subst (λ i. Yields steps i xs t) same runs in
    let front = YieldsList-so_far road xs t begun in
    grind (arith, common_steps, take_all, map-id xs)
