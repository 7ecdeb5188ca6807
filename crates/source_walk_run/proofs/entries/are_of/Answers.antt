use Rattle.std.proofs.Common.{sym, ◌∙◌}
use Rattle.std.proofs.lemmas.Bool.{eqb-true}
use Rattle.lam_resolve_tree.specs.Tree.{types_tree}
use Rattle.source_walk_state.proofs.Programs.{types_length}
use Rattle.source_walk_meets.proofs.Began.{as_many}
use Rattle.source_walk_run.proofs.entries.are_of.Goals as goal

pub returns-else-types-args : goal.returns-else-types-args
returns-else-types-args c =
    ((λ t. absurd (c.if-types-args.false (eqb-true _ _ t))), (λ h. absurd (c.if-types-args.false (sym (types_length c.args.types.now) ∙ as_many (types_tree c.args.types.now) c.args.args.now h))))
