use Rattle.std.proofs.Common.{true, false, refl}
use Rattle.lam_syntax.specs.Tree.{cap_tree}
use Rattle.lam_print.proofs.Steps.{cap_said}
use Rattle.lam_print.proofs.exprs.put_cap.Goals as goal

pub returns-then-cap : goal.returns-then-cap
returns-then-cap c = cap_said (cap_tree c.args.cap.now) _ _ _ _ c.put.result c.in_ok-put_name.ensures true c.if-cap.true refl c.put.ensures

pub returns-else-cap : goal.returns-else-cap
returns-else-cap c = cap_said (cap_tree c.args.cap.now) _ _ _ _ c.put-else-cap.result c.in_ok-put_name.ensures false c.if-cap.false refl c.put-else-cap.ensures
