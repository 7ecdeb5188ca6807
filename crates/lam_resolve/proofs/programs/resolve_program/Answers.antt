use Rattle.std.proofs.Common.{ap, sym, ◌∙◌, is_some}
use Rattle.lam_syntax.specs.Tree.{items_tree, program_tree}
use Rattle.lam_resolve_tree.specs.Tree.{functions_tree, classes_tree}
use Rattle.lam_resolve_laws.specs.Resolved.{tables as tables_of, resolve_functions}
use Rattle.lam_resolve_tables.specs.Tables.{tables, all_fields}
use Rattle.lam_resolve.specs.Meets.{types_of_all}
use Rattle.lam_resolve.proofs.ProgramSteps.{program_tables, program_functions, program_done}
use Rattle.lam_resolve.proofs.programs.resolve_program.Goals as goal

pub of-requires : goal.of-requires
of-requires c = ap (λ l. is_some (tables_of (items_tree l))) c.as_slice-items.ensures.value ∙ program_tables (program_tree c.args.p.now) c.requires

pub resolve_functions-requires : goal.resolve_functions-requires
resolve_functions-requires c =
    ap (λ l. is_some (resolve_functions (tables c.in_ok-t.t) 0 (items_tree l))) c.as_slice-items.ensures.value ∙
    program_functions (program_tree c.args.p.now) (tables c.in_ok-t.t) (c.in_ok-t.ensures ∙ ap (λ l. tables_of (items_tree l)) c.as_slice-items.ensures.value) c.requires

pub returns : goal.returns
returns c =
    program_done (program_tree c.args.p.now) (tables c.in_ok-t.t) (functions_tree c.in_ok-functions.functions.items) (classes_tree c.in_ok-classes.classes.items)
    (c.in_ok-t.ensures ∙ ap (λ l. tables_of (items_tree l)) c.as_slice-items.ensures.value)
    (c.in_ok-functions.ensures ∙ ap (λ l. resolve_functions (tables c.in_ok-t.t) 0 (items_tree l)) c.as_slice-items.ensures.value)
    (c.in_ok-classes.ensures ∙ ap (λ l. types_of_all (all_fields l)) c.as_slice.ensures.value)
