use Rattle.std.proofs.Common.{ap, sym, subst, ◌∙◌}
use Rattle.std.proofs.lemmas.Result.{err_from_is_err_and}
use Rattle.lam_syntax.specs.Tree.{ProgramTree, program_tree}
use Rattle.lam_types.specs.Program.{first_type_break}
use Rattle.lam_types.specs.Seen.{tree_of}
use Rattle.lam_front.specs.Programs.{IsSpelt}
use Rattle.lam_front.proofs.Found.{not_read, not_typed, not_legal}
use Rattle.lam_front.proofs.layers.check_text.Goals as goal

pub returns-in_err-program : goal.returns-in_err-program
returns-in_err-program c =
    let p = err_from_is_err_and c.from_residual.result c.from_residual.ensures.1 in
    rw p.1 (not_read c.args.bytes.now c.in_err-program.field-0.0 p.0 c.in_err-program.ensures p.2)

pub returns-in_err-typed : goal.returns-in_err-typed
returns-in_err-typed c =
    let p = err_from_is_err_and c.from_residual-in_err-typed.result c.from_residual-in_err-typed.ensures.1 in
    rw p.1 (not_typed c.args.bytes.now (program_tree c.in_ok-program.program) c.in_ok-program.ensures c.in_err-typed.field-0.0 c.in_err-typed.ensures.first p.0 p.2)

pub returns-in_err-regions : goal.returns-in_err-regions
returns-in_err-regions c =
    let p = err_from_is_err_and c.from_residual-in_err-regions.result c.from_residual-in_err-regions.ensures.1 in
    let t = c.in_ok-typed.ensures.tree in
    rw p.1
    (not_legal c.args.bytes.now (tree_of c.in_ok-typed.typed) (subst (λ (x : ProgramTree). IsSpelt c.args.bytes.now x) (sym t) c.in_ok-program.ensures) (ap first_type_break t ∙ c.in_ok-typed.ensures.fine) c.in_err-regions.field-0.0
    c.in_err-regions.ensures.first p.0 p.2)
