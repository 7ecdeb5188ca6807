use Rattle.source_walk_parts.proofs.Steps.{if_ok}
use Rattle.source_walk_parts.specs.States.{state_of}
use Rattle.source_walk_go.proofs.Waiting.{by_frame}
use Rattle.source_walk_go.proofs.ValueFrames.{to_nothing, to_return, to_leaving, to_bar}
use Rattle.source_walk_go.proofs.BlockFrames.{branch_by}
use Rattle.source_walk_go.proofs.values.give_to.Goals as goal

pub returns-in-Prefix : goal.returns-in-Prefix
returns-in-Prefix c = if_ok c.to_prefix-control.result _ _ c.to_prefix-control.ensures (λ d h r. by_frame (state_of c.args.w.now) c.in-Prefix.is (h (state_of c.args.w.now) r))

pub returns-in-Operate : goal.returns-in-Operate
returns-in-Operate c = if_ok c.to_operator-control.result _ _ c.to_operator-control.ensures (λ d h r. by_frame (state_of c.args.w.now) c.in-Operate.is (h (state_of c.args.w.now) r))

pub returns-in-Field : goal.returns-in-Field
returns-in-Field c = if_ok c.to_field.result _ _ c.to_field.ensures (λ d h r. by_frame (state_of c.args.w.now) c.in-Field.is (h r))

pub returns-in-Element : goal.returns-in-Element
returns-in-Element c = if_ok c.to_element.result _ _ c.to_element.ensures (λ d h r. by_frame (state_of c.args.w.now) c.in-Element.is (h r))

pub returns-in-Length : goal.returns-in-Length
returns-in-Length c = λ r. by_frame (state_of c.args.w.now) c.in-Length.is (c.to_length-control.ensures (state_of c.args.w.now) r)

pub returns-in-Expr : goal.returns-in-Expr
returns-in-Expr c = if_ok c.to_expr.result _ _ c.to_expr.ensures (λ d h r. by_frame (state_of c.args.w.now) c.in-Expr.is (h r))

pub returns-in-Spawn : goal.returns-in-Spawn
returns-in-Spawn c = λ r. by_frame (state_of c.args.w.now) c.in-Spawn.is (c.to_spawn.ensures (state_of c.args.w.now) r)

pub returns-in-Args : goal.returns-in-Args
returns-in-Args c = if_ok c.to_args.result _ _ c.to_args.ensures (λ d h r. by_frame (state_of c.args.w.now) c.in-Args.is (h (state_of c.args.w.now) r))

pub returns-in-Assign : goal.returns-in-Assign
returns-in-Assign c = λ r. by_frame (state_of c.args.w.now) c.in-Assign.is (c.to_local.ensures r)

pub returns-in-Drop : goal.returns-in-Drop
returns-in-Drop c = λ r. by_frame (state_of c.args.w.now) c.in-Drop.is (to_nothing r (state_of c.args.w.now) c.args.v)

pub returns-in-SetField : goal.returns-in-SetField
returns-in-SetField c = if_ok c.to_set_field.result _ _ c.to_set_field.ensures (λ d h r. by_frame (state_of c.args.w.now) c.in-SetField.is (h r))

pub returns-in-Index : goal.returns-in-Index
returns-in-Index c = if_ok c.to_index.result _ _ c.to_index.ensures (λ d h r. by_frame (state_of c.args.w.now) c.in-Index.is (h r))

pub returns-in-SetElement : goal.returns-in-SetElement
returns-in-SetElement c = if_ok c.to_set_element-control.result _ _ c.to_set_element-control.ensures (λ d h r. by_frame (state_of c.args.w.now) c.in-SetElement.is (h r))

pub returns-in-Return : goal.returns-in-Return
returns-in-Return c = λ r. by_frame (state_of c.args.w.now) c.in-Return.is (to_return r (state_of c.args.w.now) c.args.v)

pub returns-in-Throw : goal.returns-in-Throw
returns-in-Throw c = λ r. by_frame (state_of c.args.w.now) c.in-Throw.is (c.to_throw-control.ensures (state_of c.args.w.now) r)

pub returns-in-Branch : goal.returns-in-Branch
returns-in-Branch c = λ r. by_frame (state_of c.args.w.now) c.in-Branch.is (branch_by r (state_of c.args.w.now) c.args.v c.in-Branch.depth c.in-Branch.first c.in-Branch.other c.branch-control.result c.branch-control.ensures)

pub returns-in-Loop : goal.returns-in-Loop
returns-in-Loop c = if_ok c.loop_on-control.result _ _ c.loop_on-control.ensures (λ d h r. by_frame (state_of c.args.w.now) c.in-Loop.is (h r))

pub returns-in-Block : goal.returns-in-Block
returns-in-Block c = if_ok c.next_block.result _ _ c.next_block.ensures (λ d h r. by_frame (state_of c.args.w.now) c.in-Block.is (h r))

pub returns-in-Held : goal.returns-in-Held
returns-in-Held c = if_ok c.to_held.result _ _ c.to_held.ensures (λ d h r. by_frame (state_of c.args.w.now) c.in-Held.is (h c.args.v r))

pub returns-in-Region : goal.returns-in-Region
returns-in-Region c = if_ok c.region_on.result _ _ c.region_on.ensures (λ d h r. by_frame (state_of c.args.w.now) c.in-Region.is (h r))

pub returns-in-Bar : goal.returns-in-Bar
returns-in-Bar c = λ r. by_frame (state_of c.args.w.now) c.in-Bar.is (to_bar r (state_of c.args.w.now) c.args.v)

pub returns-in-Leaving : goal.returns-in-Leaving
returns-in-Leaving c = λ r. by_frame (state_of c.args.w.now) c.in-Leaving.is (to_leaving r (state_of c.args.w.now) c.args.v c.in-Leaving.value)

pub returns-in-Called : goal.returns-in-Called
returns-in-Called c = λ r. by_frame (state_of c.args.w.now) c.in-Called.is (c.end_call.ensures c.args.v r)

pub returns-in-Catch : goal.returns-in-Catch
returns-in-Catch c = λ r. by_frame (state_of c.args.w.now) c.in-Catch.is (c.end_region.ensures c.args.v r)
