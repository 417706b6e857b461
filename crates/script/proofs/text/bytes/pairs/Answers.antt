use Rattle.std.proofs.Common.{rules, tests, arith}
use Rattle.std.proofs.lemmas.Iterator.{YieldsList-from_slice}
use Rattle.std.proofs.lemmas.Iterator.Search.{all_from_yields_List}
use Rattle.script.proofs.PairsOf.{is_pair, none-too_few, none-odd, some_pairs_bytes-chunks}
use Rattle.script.proofs.text.bytes.pairs.Goals as goal
use Rattle.script.proofs.text.bytes.pairs.Goals.{then-is_empty-via-then-is_empty, then-is_empty-via-else-is_empty+then-not-is_empty}

pub returns-then-is_empty : goal.returns-then-is_empty
returns-then-is_empty c = elim c.then-is_empty.branch [ then-is_empty-via-then-is_empty w ↦ none-too_few c.args.token.now (grind arith) | then-is_empty-via-else-is_empty+then-not-is_empty w ↦ none-odd c.args.token.now (grind arith) ]

pub returns : goal.returns
returns c =
    let each = all_from_yields_List is_pair _ _ c.all.result c.all.ensures.ran (YieldsList-from_slice c.as_chunks.result.0.now (cc)) (λ x b q k. search (rules, tests)) in
    let whole = some_pairs_bytes-chunks c.args.token.now c.as_chunks.result.0.now (cc) (grind arith) (grind arith) in
    search (rules, tests)
