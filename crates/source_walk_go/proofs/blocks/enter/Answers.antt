use Rattle.std.proofs.Common.{ap, sym, ◌∙◌}
use Rattle.lam_value.specs.declared.values.Value.{Value}
use Rattle.source_walk_go.specs.Choices.{enter_control}
use Rattle.source_walk_go.proofs.blocks.enter.Goals as goal

pub returns-in-Nothing : goal.returns-in-Nothing
returns-in-Nothing c = c.enter_nowhere.ensures c.args.depth c.args.region ∙ ap (λ (l : Value). enter_control c.args.depth c.args.region l c.args.c) (sym c.in-Nothing.is)
