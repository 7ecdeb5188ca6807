use Rattle.std.proofs.Common.{◌-◌, ap, arith}
use Rattle.lam_resolve_tree.specs.Tree.{function_tree, stmts_tree}
use Rattle.lam_meaning.specs.Means.{first_locals}
use Rattle.source_walk_parts.specs.States.{state_of}
use Rattle.source_walk_go.proofs.Calls.{depth_spent, calls_go, locals_of, call_begins}
use Rattle.source_walk_go.proofs.uses.call_of.Goals as goal

pub returns-then-depth-eq0 : goal.returns-then-depth-eq0
returns-then-depth-eq0 c = λ r f e. depth_spent r (state_of c.args.w.now) c.args.depth c.args.args f (function_tree c.args.callee.now) e c.requires.calls c.requires.units c.if-depth-eq0.true

pub returns : goal.returns
returns c = λ r f e.
    calls_go r (state_of c.args.w.now) c.args.depth c.args.args f (function_tree c.args.callee.now) e (c.args.depth - 1) c.as_slice-rest.result (state_of c.push.new.w) c.requires.calls c.requires.units (omega (arith, c.if-depth-eq0.false)) (ap stmts_tree c.as_slice-rest.ensures.value)
    (call_begins (state_of c.args.w.now) (state_of c.spend.new.w) (state_of c.begin_call-locals.new.w) (state_of c.push.new.w) c.in_ok-locals.locals (first_locals (function_tree c.args.callee.now) c.args.args) c.begin_call-locals.result c.args.w.now.calls (c.args.w.now.units - 1)
    c.spend.ensures (locals_of c.args.callee.now c.args.args c.in_ok-locals.locals c.len.result (omega (arith, c.len.ensures, c.args.callee.now.slots.ok.0)) c.in_ok-locals.ensures) c.begin_call-locals.ensures.outer c.begin_call-locals.ensures.state c.in_ok-push.ensures)
