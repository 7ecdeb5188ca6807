use Rattle.std.proofs.Common.{subst, slice_get, ◌+◌, ◌∙◌}
use Rattle.lam_grammar.specs.Program.{program}
use Rattle.lam_parser_tokens.specs.Reading.{Fails}
use Rattle.lam_parser.specs.Left.{later}
use Rattle.lam_parser.proofs.Faults.{unexpected_answer, too_deep_answer}
use Rattle.lam_parser.proofs.Left.{position_left}
use Rattle.lam_parser.proofs.fault_of.Goals as goal

pub returns-in-Unexpected : goal.returns-in-Unexpected
returns-in-Unexpected c = λ all gone left h.
    let at = c.in-Unexpected.at in
    unexpected_answer all (gone + at) c.position.result c.in-Unexpected.wanted (c.position.ensures ∙ position_left left at) (subst (λ b. Fails (slice_get all) program 0 0 (later gone b)) c.in-Unexpected.is h)

pub returns-in-TooDeep : goal.returns-in-TooDeep
returns-in-TooDeep c = λ all gone left h.
    let at = c.in-TooDeep.at in
    too_deep_answer all (gone + at) c.position-in-TooDeep.result (c.position-in-TooDeep.ensures ∙ position_left left at) (subst (λ b. Fails (slice_get all) program 0 0 (later gone b)) c.in-TooDeep.is h)
