use Rattle.std.proofs.Common.{◌≡◌, sym, ap, ◌∙◌, subst, is_some}
use Rattle.lam_syntax.specs.Tree.{id_tree}
use Rattle.lam_operators.specs.Words.{Word}
use Rattle.lam_types_kinds.specs.Breaks.{Verdict}
use Rattle.lam_builtins.specs.Builtins.{builtin_named}
use Rattle.lam_types_kinds.specs.Values.{Passes}
use Rattle.lam_types_kinds.proofs.Adding.{declared_name}
use Rattle.lam_types_kinds.proofs.tables.function_name.Goals as goal

pub returns : goal.returns
returns c =
    let x = id_tree c.args.x.now in
    let other : is_some (builtin_named x.word) ≡ _ = ap (λ (w : Word). is_some (builtin_named w)) (sym c.as_str.ensures.value) ∙ ap is_some (sym c.named.ensures) ∙ sym c.is_some.ensures ∙ c.if-is_some.false in
    subst (λ (v : Verdict (Unit {0})). Passes c.new_name.result v) (sym (declared_name c.args.functions.now.entries x other)) c.new_name.ensures
