use Rattle.std.proofs.Common.{ap, ◌∙◌, is_some}
use Rattle.std.specs.Option.{option_map}
use Rattle.std.specs.Prelude.{string_bytes}
use Rattle.lam_syntax.specs.Tree.{function_tree, vars_tree}
use Rattle.lam_resolve_tree.specs.Tree.{stmts_tree as resolved_stmts, types_tree, option_type_tree}
use Rattle.lam_resolve_laws.specs.Resolved.{resolve_vars, closed_as, locals_from, state_as, types_of}
use Rattle.lam_resolve_tables.specs.Entries.{entries_of}
use Rattle.lam_resolve_tables.specs.Kinds.{kind_type}
use Rattle.lam_resolve_tables.specs.Tables.{tables, vars}
use Rattle.lam_resolve_exprs.specs.Values.{locals}
use Rattle.lam_resolve_stmts.specs.Seen.{state}
use Rattle.lam_resolve.proofs.ProgramSteps.{function_params, function_result, function_body, function_done}
use Rattle.lam_resolve.proofs.programs.resolve_function.Goals as goal

pub resolve_vars-requires : goal.resolve_vars-requires
resolve_vars-requires c =
    ap (λ l. is_some (resolve_vars (entries_of c.args.t.now.names) (vars_tree l))) c.as_slice.ensures.value ∙ function_params (tables c.args.t.now) c.args.regions.now (function_tree c.args.f.now) c.requires

pub resolve_result-requires : goal.resolve_result-requires
resolve_result-requires c = function_result (tables c.args.t.now) c.args.regions.now (function_tree c.args.f.now) (vars c.in_ok-vars.vars.items) (c.in_ok-vars.ensures ∙ ap (λ l. resolve_vars (entries_of c.args.t.now.names) (vars_tree l)) c.as_slice.ensures.value) c.requires

pub resolve_block-requires : goal.resolve_block-requires
resolve_block-requires c = function_body (tables c.args.t.now) c.args.regions.now (function_tree c.args.f.now) (vars c.in_ok-vars.vars.items) (c.in_ok-vars.ensures ∙ ap (λ l. resolve_vars (entries_of c.args.t.now.names) (vars_tree l)) c.as_slice.ensures.value) (option_map kind_type c.in_ok-kind.kind) (locals c.in_ok-unit.unit.scope) (state c.in_ok-unit.unit.state) c.in_ok-kind.ensures (c.in_ok-unit.ensures.scope ∙ ap (λ l. locals_from 0 (vars l)) c.as_slice-2.ensures.value) (c.in_ok-unit.ensures.state ∙ ap (λ l. state_as (types_of (vars l)) c.args.regions.now) c.as_slice-2.ensures.value) c.requires

pub returns : goal.returns
returns c =
    function_done (tables c.args.t.now) c.args.regions.now (function_tree c.args.f.now) (vars c.in_ok-vars.vars.items) (c.in_ok-vars.ensures ∙ ap (λ l. resolve_vars (entries_of c.args.t.now.names) (vars_tree l)) c.as_slice.ensures.value) (option_map kind_type c.in_ok-kind.kind) (locals c.in_ok-unit.unit.scope) (state c.in_ok-unit.unit.state) c.in_ok-kind.ensures (c.in_ok-unit.ensures.scope ∙ ap (λ l. locals_from 0 (vars l)) c.as_slice-2.ensures.value) (c.in_ok-unit.ensures.state ∙ ap (λ l. state_as (types_of (vars l)) c.args.regions.now) c.as_slice-2.ensures.value) (closed_as (resolved_stmts c.in_ok-body.body.items) (state c.resolve_block.new.st)) (string_bytes c.in_ok-name.name) (types_tree c.in_ok-params.params.items) (option_type_tree c.in_ok-result.result)
    c.in_ok-body.ensures.meets c.in_ok-name.ensures.cases (c.in_ok-params.ensures ∙ ap (λ l. types_of (vars l)) c.as_slice-3.ensures.value) c.in_ok-result.ensures
