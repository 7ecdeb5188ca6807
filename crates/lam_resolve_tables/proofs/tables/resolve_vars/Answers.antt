use Rattle.std.proofs.Common.{ap, sym, ◌∙◌, ◌++◌, ◌∷◌, [], is_some}
use Rattle.std.proofs.lemmas.List.{drop_all}
use Rattle.lam_syntax.specs.Tree.{vars_tree, var_tree}
use Rattle.lam_types_kinds.proofs.TableLemmas.{see_push}
use Rattle.lam_resolve_laws.specs.Resolved.{resolve_vars}
use Rattle.lam_resolve_tables.specs.Entries.{entries_of}
use Rattle.lam_resolve_tables.specs.Kinds.{kind_type}
use Rattle.lam_resolve_tables.specs.Tables.{vars}
use Rattle.lam_resolve_tables.proofs.Options.{collected_first, collected_some, collected_one, collected_last, first_some}
use Rattle.lam_resolve_tables.proofs.TableSteps.{vars_step}
use Rattle.lam_resolve_tables.proofs.tables.resolve_vars.Goals as goal

pub loop-var-init : goal.loop-var-init
loop-var-init c = collected_first _ _ (ap vars c.new-vars.ensures.items)

pub resolve_type-requires : goal.resolve_type-requires
resolve_type-requires c =
    let h = collected_some _ _ _ c.loop-var.invariant c.requires in
    first_some _ _ (sym (ap is_some (vars_step (entries_of c.args.names.now) c.args.written.now c.loop-var.var-index c.var-item.result c.loop-var-test.true c.var-item.is)) ∙ h)

pub loop-var-preserved : goal.loop-var-preserved
loop-var-preserved c =
    collected_one _ _ _ _ (λ t. ((var_tree c.var-item.result).name.word, t)) (kind_type c.in_ok-kind.kind) _ _ c.loop-var.invariant
    (vars_step (entries_of c.args.names.now) c.args.written.now c.loop-var.var-index c.var-item.result c.loop-var-test.true c.var-item.is) c.in_ok-kind.ensures
    (ap vars c.in_ok-push.ensures.items ∙ see_push kind_type c.loop-var.vars.items c.as_str.result c.in_ok-kind.kind ∙ ap (λ w. vars c.loop-var.vars.items ++ (w, kind_type c.in_ok-kind.kind) ∷ []) c.as_str.ensures.value)

pub returns : goal.returns
returns c = collected_last _ _ _ c.loop-var.invariant (ap (λ l. resolve_vars (entries_of c.args.names.now) (vars_tree l)) (drop_all c.loop-var.var-index c.args.written.now c.loop-var-test.false))
