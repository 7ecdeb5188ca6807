use Rattle.std.proofs.Common.{◌∙◌, sym}
use Rattle.code_verify_tables.proofs.Meets.{meet_some, meet_apart, meet_uneven}
use Rattle.code_verify_tables.proofs.description.Description.meet.Goals as goal

pub returns-clause-some : goal.returns-clause-some
returns-clause-some c =
    meet_some c.self.inside.stack.items c.other.inside.stack.items _ _ _ _ _ _ c.self.view_is c.other.view_is c.meet_stacks-stack.ensures.met c.meet_locals-locals.ensures.met

pub returns-then-len-clause-none : goal.returns-then-len-clause-none
returns-then-len-clause-none c =
    meet_apart c.self.inside.stack.items c.other.inside.stack.items _ _ _ _ c.self.view_is c.other.view_is (λ h. c.if-len.true (c.len.ensures ∙ c.self.inside.stack.ok.0 ∙ h ∙ sym (c.len-2.ensures ∙ c.other.inside.stack.ok.0)))

pub returns-then-len-2-clause-none : goal.returns-then-len-2-clause-none
returns-then-len-2-clause-none c =
    meet_uneven c.self.inside.stack.items c.other.inside.stack.items _ _ _ _ c.self.view_is c.other.view_is (λ h. c.if-len-2.true (c.len-3.ensures ∙ c.self.inside.locals.ok.0 ∙ h ∙ sym (c.len-4.ensures ∙ c.other.inside.locals.ok.0)))
