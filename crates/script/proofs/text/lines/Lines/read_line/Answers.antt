use Rattle.std.proofs.Common.{arith, sym, ◌∙◌}
use borrow.Author.Tests.{ltb-true}
use Rattle.script.proofs.SoFar.{going_on, ended, appended}
use Rattle.script.proofs.text.lines.Lines.read_line.Goals as goal

pub loop-preserved : goal.loop-preserved
loop-preserved g c =
    rw c.and-read.ensures
    (going_on c.loop.counter _ _ _ _ c.loop.read c.map_err.result c.loop.self.line.items c.bytes-bytes.result.now c.try_extend_from_slice.new.self.items c.newline-newline.result c.loop.invariant
    c.fill.ensures.keeps c.bytes-bytes.ensures.len.1 c.newline-newline.ensures
    (rw (sym c.unwrap_or-length.ensures)
    (appended c.try_extend_from_slice.result _ _ _ _ c.map_err.ensures.variant c.try_extend_from_slice.ensures.variant c.try_extend_from_slice.ensures.ok c.try_extend_from_slice.ensures.err))
    (sym c.is_some.ensures ∙ c.if-is_some.false) (omega (arith, c.bytes-bytes.ensures.len.0, ltb-true _ _ (sym c.fill.ensures.any ∙ c.if-not-fill.false)))
    (rw (sym c.unwrap_or-length.ensures, c.bytes-bytes.ensures.value) c.consume-in-loop.ensures))

pub returns-then-is_some : goal.returns-then-is_some
returns-then-is_some g c =
    rw c.and-read.ensures
    (ended c.loop.counter _ _ _ _ c.loop.read c.map_err.result c.loop.self.line.items c.bytes-bytes.result.now c.try_extend_from_slice.new.self.items c.newline-newline.result c.loop.invariant
    c.fill.ensures.keeps c.bytes-bytes.ensures.len.1 c.newline-newline.ensures
    (rw (sym c.unwrap_or-length.ensures)
    (appended c.try_extend_from_slice.result _ _ _ _ c.map_err.ensures.variant c.try_extend_from_slice.ensures.variant c.try_extend_from_slice.ensures.ok c.try_extend_from_slice.ensures.err))
    (sym c.is_some.ensures ∙ c.if-is_some.true)
    (rw (sym c.unwrap_or-length.ensures, c.bytes-bytes.ensures.value) c.consume.ensures))
