use Rattle.std.proofs.Common.{◌≡◌, option_map, arith, Some, sym, ◌∙◌, ap}
use Rattle.std.proofs.lemmas.Option.{MatchOption-at_some}
use Rattle.script.specs.Bytes.{bytes_of, token_bytes}
use Rattle.script.specs.declared.text.bytes.Bytes.TheVariants.{Pairs}
use Rattle.script.proofs.Tokens.{token_bytes-split, token_bytes-whole, token_bytes-dash, token_bytes-pairs, count_number-of, none-no_pair, none-no_count, none-no_pairs, repeated-split, kept}
use Rattle.script.proofs.text.bytes.Bytes.of.Goals as goal
use Rattle.script.proofs.text.bytes.Bytes.of.Goals.{in-Some+in_ok-one_byte-in-Some+in_ok-decimal-in-Some, in-None, in-None-2+in_ok-pairs-in-None-2}

pub returns-in_err-one_byte-in-Some : goal.returns-in_err-one_byte-in-Some
returns-in_err-one_byte-in-Some c =
    let split = token_bytes-split c.args.token.now c.split_once.result _ c.split_once.ensures.cases c.in-Some.is in
    rw c.from_residual.ensures (sym (none-no_pair c.args.most c.args.token.now c.in-Some.pair.now c.in-Some.count.now split (sym c.one_byte.ensures ∙ c.in_err-one_byte-in-Some.was)))

pub returns-in_err-decimal-in-Some : goal.returns-in_err-decimal-in-Some
returns-in_err-decimal-in-Some c =
    let split = token_bytes-split c.args.token.now c.split_once.result _ c.split_once.ensures.cases c.in-Some.is in
    rw c.from_residual-in_err-decimal-in-Some.ensures (sym (none-no_count _ c.args.most c.args.token.now c.in-Some.pair.now c.in-Some.count.now c.decimal.result split c.decimal.ensures c.in_err-decimal-in-Some.was (omega arith)))

pub returns-in_err-pairs-in-None-2 : goal.returns-in_err-pairs-in-None-2
returns-in_err-pairs-in-None-2 c =
    let whole = token_bytes-whole c.args.token.now c.split_once.result c.split_once.ensures.cases c.in-None.is in
    rw c.from_residual-in_err-pairs-in-None-2.ensures (sym (none-no_pairs c.args.most c.args.token.now c.eq.result whole c.eq.ensures c.if-eq.false (sym c.pairs.ensures ∙ ap (option_map (λ pairs. bytes_of (Pairs pairs))) c.in_err-pairs-in-None-2.was)))

pub returns : goal.returns
returns c = kept c.args.most c.count.result c.args.token.now c.match-split_once.bytes c.then_some.result read c.count.ensures c.then_some.ensures
  where
    read : token_bytes c.args.token.now ≡ Some (bytes_of c.match-split_once.bytes)
    read = elim c.match-split_once.branch [
      | in-Some+in_ok-one_byte-in-Some+in_ok-decimal-in-Some w ↦
          let split = token_bytes-split c.args.token.now c.split_once.result _ c.split_once.ensures.cases w.in-Some.is in
          let number = MatchOption-at_some _ _ w.in_ok-decimal-in-Some.field-0 w.in_ok-decimal-in-Some.was w.decimal.ensures in
          let count = count_number-of w.in-Some.count.now number.0 ∙ ap (λ n. Some n) (sym number.1.1) in
          repeated-split c.args.token.now w.in-Some.pair.now w.in-Some.count.now w.in_ok-one_byte-in-Some.field-0 w.in_ok-decimal-in-Some.field-0 split (sym w.one_byte.ensures ∙ w.in_ok-one_byte-in-Some.was) count ∙ ap (λ bytes. Some (bytes_of bytes)) (sym w.bytes-is)
      | in-None w ↦
          let whole = token_bytes-whole c.args.token.now c.split_once.result c.split_once.ensures.cases w.in-None.is in
          token_bytes-dash c.args.token.now w.eq.result whole w.eq.ensures w.if-eq.true ∙ ap (λ bytes. Some (bytes_of bytes)) (sym w.bytes-is)
      | in-None-2+in_ok-pairs-in-None-2 w ↦
          let whole = token_bytes-whole c.args.token.now c.split_once.result c.split_once.ensures.cases w.in-None.is in
          token_bytes-pairs c.args.token.now w.eq.result whole w.eq.ensures w.if-eq.false ∙ (sym w.pairs.ensures ∙ (ap (option_map (λ pairs. bytes_of (Pairs pairs))) w.in_ok-pairs-in-None-2.was ∙ ap (λ bytes. Some (bytes_of bytes)) (sym w.bytes-is)))
    ]
