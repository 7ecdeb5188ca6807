use Rattle.std.proofs.Common.{ap, ◌∙◌, is_some}
use Rattle.std.specs.Option.{option_map}
use Rattle.lam_syntax.specs.Tree.{vars_tree, function_tree}
use Rattle.lam_resolve_laws.specs.Resolved.{resolve_vars}
use Rattle.lam_resolve_tables.specs.Entries.{entries_of}
use Rattle.lam_resolve_tables.specs.Kinds.{kind_type}
use Rattle.lam_resolve_tables.specs.Tables.{vars}
use Rattle.lam_resolve_tables.proofs.TableSteps.{head_params, head_result, head_done}
use Rattle.lam_resolve_tables.proofs.tables.resolve_head.Goals as goal

pub resolve_vars-requires : goal.resolve_vars-requires
resolve_vars-requires c =
    ap (λ l. is_some (resolve_vars (entries_of c.args.names.now) (vars_tree l))) c.as_slice.ensures.value ∙ head_params (entries_of c.args.names.now) (function_tree c.args.f.now) c.requires

pub resolve_result-requires : goal.resolve_result-requires
resolve_result-requires c =
    head_result (entries_of c.args.names.now) (function_tree c.args.f.now) (vars c.in_ok-params.params.items)
    (c.in_ok-params.ensures ∙ ap (λ l. resolve_vars (entries_of c.args.names.now) (vars_tree l)) c.as_slice.ensures.value) c.requires

pub returns : goal.returns
returns c =
    head_done (entries_of c.args.names.now) (function_tree c.args.f.now) (vars c.in_ok-params.params.items) (option_map kind_type c.in_ok-result.result)
    (c.in_ok-params.ensures ∙ ap (λ l. resolve_vars (entries_of c.args.names.now) (vars_tree l)) c.as_slice.ensures.value) c.in_ok-result.ensures
