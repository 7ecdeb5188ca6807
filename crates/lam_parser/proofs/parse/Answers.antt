use Rattle.std.proofs.Common.{◌+◌, ◌∙◌, arith}
use Rattle.lam_parser_tokens.specs.declared.marks.Mark.TheVariants.{End}
use Rattle.lam_parser.proofs.Faults.{past_answer, whole_answer}
use Rattle.lam_parser.proofs.Left.{position_left}
use Rattle.lam_parser.proofs.parse.Goals as goal

pub returns-then-end-len : goal.returns-then-end-len
returns-then-end-len c =
    let r = c.in-Ok.ensures.reads in
    let at = rw c.as_slice.ensures.value at c.position.ensures in
    past_answer _ (r.0 + c.in-Ok.end) c.position.result 0 _ End (at ∙ position_left r.1 c.in-Ok.end) r.3 (omega (arith, r.1.count, c.if-end-len.true, c.len.ensures, c.program.new.tokens.ok.0))

pub returns-in-Ok : goal.returns-in-Ok
returns-in-Ok c =
    let r = c.in-Ok.ensures.reads in
    whole_answer _ (r.0 + c.in-Ok.end) 0 r.2 c.in-Ok.program r.3 (omega (arith, r.1.count, c.if-end-len.false, c.len.ensures, c.program.new.tokens.ok.0))
