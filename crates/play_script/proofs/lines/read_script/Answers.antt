use Rattle.std.proofs.Common.{arith, sym, ◌∙◌}
use Rattle.play_script.specs.Script.{play_of}
use Rattle.play_script.proofs.LineLemmas.{line_taken, line_broken, line_past, all_read, open_rest, no_bytes, some_bytes}
use Rattle.play_script.proofs.WholeLemmas.{read_is_whole}
use Rattle.play_script.proofs.lines.read_script.Goals as goal

pub loop-line-smaller : goal.loop-line-smaller
loop-line-smaller c = c.in-Some.ensures.1

pub loop-line-preserved : goal.loop-line-preserved
loop-line-preserved c = record {
  within = omega arith;
  so_far = line_taken _ (play_of c.loop-line.script) (play_of c.take_line.new.script) c.loop-line.rest.now c.in-Some.line.now c.in-Some.after.now c.loop-line.number c.loop-line.invariant.so_far c.in-Some.ensures.0 c.if-number-gt-LINE_LIMIT.false c.in-Ok.ensures;
}

pub returns-then-number-gt-LINE_LIMIT-clause-gives : goal.returns-then-number-gt-LINE_LIMIT-clause-gives
returns-then-number-gt-LINE_LIMIT-clause-gives c = line_past _ (play_of c.loop-line.script) c.loop-line.rest.now c.in-Some.line.now c.in-Some.after.now c.loop-line.number c.loop-line.invariant.so_far c.in-Some.ensures.0 c.if-number-gt-LINE_LIMIT.true

pub returns-in-Err-Broken-clause-gives : goal.returns-in-Err-Broken-clause-gives
returns-in-Err-Broken-clause-gives c = line_broken _ (play_of c.loop-line.script) c.loop-line.rest.now c.in-Some.line.now c.in-Some.after.now c.loop-line.number c.loop-line.invariant.so_far c.in-Some.ensures.0 (rw c.in-Err-Broken.field-0-is at c.in-Err-Broken.ensures)

pub returns-then-is_empty-clause-gives : goal.returns-then-is_empty-clause-gives
returns-then-is_empty-clause-gives c = all_read _ (play_of c.loop-line.script) c.loop-line.rest.now c.loop-line.number c.loop-line.invariant.so_far (no_bytes _ (sym c.is_empty.ensures ∙ c.if-is_empty.true))

pub returns-else-is_empty-clause-gives : goal.returns-else-is_empty-clause-gives
returns-else-is_empty-clause-gives c = open_rest _ (play_of c.loop-line.script) c.loop-line.rest.now c.loop-line.number c.loop-line.invariant.so_far c.in_default.ensures (some_bytes _ (sym c.is_empty.ensures ∙ c.if-is_empty.false))

pub returns-then-is_empty-clause-whole : goal.returns-then-is_empty-clause-whole
returns-then-is_empty-clause-whole c = read_is_whole c.args.text.now (play_of c.loop-line.script) (all_read _ (play_of c.loop-line.script) c.loop-line.rest.now c.loop-line.number c.loop-line.invariant.so_far (no_bytes _ (sym c.is_empty.ensures ∙ c.if-is_empty.true)))
