use Rattle.std.proofs.Common.{◌≡◌, ap, rules, tests, map, replicate, unwrap_or}
use Rattle.std.proofs.lemmas.Iterator.{YieldsList-from_map, YieldsList-from_slice, YieldsList-from_take}
use Rattle.std.proofs.lemmas.Iterator.Adapters.{YieldsList-from_repeat_n}
use Rattle.std.proofs.lemmas.Iterator.Consumers.{YieldsList-at}
use Rattle.script.specs.Bytes.{bytes_of, pair_byte}
use Rattle.script.proofs.Filling.{filled}
use Rattle.script.proofs.text.bytes.Bytes.write_to.Goals as goal

pub returns-in-Pairs : goal.returns-in-Pairs
returns-in-Pairs c = filled 16384 _ (map (λ pair. unwrap_or (pair_byte pair) 0) c.in-Pairs.pairs.now) _ _ c.extend.result c.extend.ensures.ran (cc) c.extend.ensures.full
    (YieldsList-from_take 16384 (YieldsList-at c.take.ensures.source (YieldsList-from_map _ (λ pair. unwrap_or (pair_byte pair) 0) (YieldsList-at c.map.ensures.source (YieldsList-from_slice c.in-Pairs.pairs.now (cc))) c.map.ensures.closure (λ x r q k. search (rules, tests)))) (cc)) (ap bytes_of c.in-Pairs.is)

pub returns-in-Repeated : goal.returns-in-Repeated
returns-in-Repeated c = filled 16384 _ (replicate c.in-Repeated.count c.in-Repeated.byte) _ _ c.extend-in-Repeated.result c.extend-in-Repeated.ensures.ran (cc) c.extend-in-Repeated.ensures.full
    (YieldsList-from_take 16384 (YieldsList-at c.take-in-Repeated.ensures.source (YieldsList-from_repeat_n (λ x y. y ≡ x) c.in-Repeated.count c.in-Repeated.byte (cc) (cc) (λ y e. e))) (cc)) (ap bytes_of c.in-Repeated.is)
