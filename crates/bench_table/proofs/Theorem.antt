-- The bench-table statement from one test that is computed over the whole table, and one law that turns a passed test into the rows.
use Prim.Native.Nat.{ℕ}
use mathlib.Core.Path.{◌≡◌, refl}
use mathlib.Core.Bool.{Bool, true, false, ◌&&◌, false≢true, and-eq-true_iff}
use mathlib.Core.List.{List, [], ◌∷◌, Memᴰ}
use lib.Dec.{eqb}
use borrow.Author.Tests.{eqb-true}
use Rattle.registers.specs.Field.{get, put, is_set}
use Rattle.registers.specs.Words.{configured, started, own_seven, own_ten, own_second}
use Rattle.registers.specs.FlagOrder.{taken_as}
use Rattle.registers.specs.Timing.{timing_bits, period}
use Rattle.registers.specs.Construct.{set_up}
use Rattle.nonblocking_meaning.specs.Link.{one_more}
use Rattle.nonblocking_meaning.specs.Link.{impossible}
use Rattle.nonblocking_meaning.specs.Outcome.{outcome}
use Rattle.nonblocking_meaning.specs.EqualEnding.{ran}
use Rattle.bench_table.specs.Table.{Row, gives, table}
use Rattle.bench_table.specs.BenchTable.{BenchTable}

-- the test: two lists have the same numbers; each row's case gives the row's numbers
abbrev same : List ℕ → List ℕ → Bool
same [] [] = true
same [] (y ∷ ys) = false
same (x ∷ xs) [] = false
same (x ∷ xs) (y ∷ ys) = eqb x y && same xs ys

abbrev agrees : List Row → Bool
agrees [] = true
agrees (row ∷ rows) = same (gives row.case) row.must && agrees rows

-- lists that the test takes as the same are equal
same_equal : (xs ys : List ℕ) → same xs ys ≡ true → xs ≡ ys
same_equal [] [] t = refl
same_equal [] (y ∷ ys) t = absurd (false≢true t)
same_equal (x ∷ xs) [] t = absurd (false≢true t)
same_equal (x ∷ xs) (y ∷ ys) t =
    let passed = (and-eq-true_iff (eqb x y) (same xs ys)).0 t in
    let head : x ≡ y = eqb-true x y passed.0 in
    let rest : xs ≡ ys = same_equal xs ys passed.1 in
    cc

-- where the test passes over a list of rows, each of them holds
each_row : (rows : List Row) → agrees rows ≡ true → (row : Row) → Memᴰ row rows → gives row.case ≡ row.must
each_row [] t row m = elim m [ ]
each_row (first ∷ rows) t row (Memᴰ.head e) =
    let passed = (and-eq-true_iff (same (gives first.case) first.must) (agrees rows)).0 t in
    let holds : gives first.case ≡ first.must = same_equal _ _ passed.0 in
    cc
each_row (first ∷ rows) t row (Memᴰ.tail m) =
    each_row rows ((and-eq-true_iff (same (gives first.case) first.must) (agrees rows)).0 t).1 row m

-- the test passes over the whole table
computed : agrees table ≡ true
unfolding table timing_bits period set_up configured started own_seven own_ten own_second ran outcome impossible one_more taken_as is_set get put
computed = refl

pub bench_table : BenchTable
bench_table row m = each_row table computed row m
