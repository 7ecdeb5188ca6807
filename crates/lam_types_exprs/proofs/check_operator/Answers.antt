use Rattle.std.proofs.Common.{subst, Option}
use Rattle.std.proofs.lemmas.Result.{err_from_is_err_and}
use Rattle.lam_builtins.specs.Types.{ValueType, exactly}
use Rattle.lam_types_kinds.specs.Breaks.{fit}
use Rattle.lam_types_kinds.specs.Values.{Breaks, given, value_type}
use Rattle.lam_types_kinds.proofs.Steps.{stops, goes_on}
use Rattle.lam_types_exprs.specs.Exprs.{operate}
use Rattle.lam_builtins.specs.Operators.{operator_type}
use Rattle.lam_types_exprs.proofs.check_operator.Goals as goal

pub returns-in_err-fit-in-Some : goal.returns-in_err-fit-in-Some
returns-in_err-fit-in-Some c =
    let p = err_from_is_err_and c.from_residual.result c.from_residual.ensures.1 in
    rw (p.1, p.2)
    (subst (λ (o : Option ValueType). Breaks c.in_err-fit-in-Some.field-0.0 (operate o (operator_type c.args.op) c.args.left_at c.args.right_at (given c.args.left) (given c.args.right))) c.in-Some.ensures
    (stops c.in_err-fit-in-Some.field-0.0 (fit c.args.left_at (exactly (value_type c.in-Some.t)) (given c.args.left)) _ c.in_err-fit-in-Some.ensures))

pub returns-in_err-fit-in-Some-2 : goal.returns-in_err-fit-in-Some-2
returns-in_err-fit-in-Some-2 c =
    let p = err_from_is_err_and c.from_residual-in_err-fit-in-Some-2.result c.from_residual-in_err-fit-in-Some-2.ensures.1 in
    rw (p.1, p.2)
    (subst (λ (o : Option ValueType). Breaks c.in_err-fit-in-Some-2.field-0.0 (operate o (operator_type c.args.op) c.args.left_at c.args.right_at (given c.args.left) (given c.args.right))) c.in-Some.ensures
    (goes_on c.in_err-fit-in-Some-2.field-0.0 (fit c.args.left_at (exactly (value_type c.in-Some.t)) (given c.args.left)) _ _ c.in_ok-fit-in-Some.ensures
    (stops c.in_err-fit-in-Some-2.field-0.0 (fit c.args.right_at (exactly (value_type c.in-Some.t)) (given c.args.right)) _ c.in_err-fit-in-Some-2.ensures)))
