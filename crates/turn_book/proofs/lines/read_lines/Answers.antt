use Rattle.std.proofs.Common.{◌≡◌, ◌≤◌, ◌+◌, ◌∙◌, sym, ap, arith, length, Some, option_map, []}
use Rattle.std.proofs.lemmas.Result.{err_from_is_err_and}
use Rattle.turn_book.specs.Cuts.{parts_of}
use Rattle.turn_book.specs.Reading.{cut, stretch_of, turns_from}
use Rattle.turn_book.proofs.LineLemmas.{lines_on, line_fails, lines_end, rest_shorter, few_more, at_end_more}
use Rattle.turn_book.proofs.lines.read_lines.Goals as goal

pub returns-in_err-take_line : goal.returns-in_err-take_line
returns-in_err-take_line c =
    let p = err_from_is_err_and c.from_residual.result c.from_residual.ensures.1 in
    rw (p.1, p.2) (line_fails c.loop-line.turns.items c.loop-line.rest.now c.in-Some.line.now c.in-Some.after.now c.loop-line.number c.in_err-take_line.field-0.0 _ (ap (option_map parts_of) (sym c.in-Some.is) ∙ c.cut.ensures) c.in_err-take_line.ensures c.loop-line.invariant.so_far)

pub loop-line-smaller : goal.loop-line-smaller
loop-line-smaller c = omega (arith, rest_shorter c.loop-line.rest.now c.in-Some.line.now c.in-Some.after.now (ap (option_map parts_of) (sym c.in-Some.is) ∙ c.cut.ensures))

pub loop-line-preserved : goal.loop-line-preserved
loop-line-preserved c =
    let parts : Some (c.in-Some.line.now, c.in-Some.after.now) ≡ cut 10 c.loop-line.rest.now = ap (option_map parts_of) (sym c.in-Some.is) ∙ c.cut.ensures in
    let shorter : length c.in-Some.after.now + 1 ≤ length c.loop-line.rest.now = rest_shorter c.loop-line.rest.now c.in-Some.line.now c.in-Some.after.now parts in
    let counted : c.loop-line.number + length c.loop-line.rest.now ≤ length c.args.text.now + 2 = c.loop-line.invariant.counted in
    record {
      so_far = lines_on c.loop-line.turns.items c.take_line.new.turns.items c.loop-line.rest.now c.in-Some.line.now c.in-Some.after.now c.loop-line.number (turns_from [] [] c.args.text.now 2) parts c.in_ok-take_line.ensures c.loop-line.invariant.so_far;
      few = few_more c.loop-line.turns.items c.take_line.new.turns.items c.loop-line.number (stretch_of c.in-Some.line.now) c.in_ok-take_line.ensures;
      counted = omega arith;
    }

pub returns-else-is_empty : goal.returns-else-is_empty
returns-else-is_empty c =
    lines_end c.loop-line.turns.items c.loop-line.rest.now c.loop-line.number (turns_from [] [] c.args.text.now 2) (ap (option_map parts_of) (sym c.in_default.is) ∙ c.cut.ensures) c.loop-line.invariant.so_far
    ∙ at_end_more c.loop-line.turns.items c.loop-line.rest.now c.loop-line.number (sym c.is_empty.ensures ∙ c.if-is_empty.false)
