use Rattle.std.proofs.Common.{ap, sym, ◌∙◌, is_some}
use Rattle.std.proofs.lemmas.List.{drop_all}
use Rattle.lam_syntax.specs.Tree.{items_tree}
use Rattle.lam_resolve_laws.specs.Resolved.{resolve_classes}
use Rattle.lam_resolve_tables.specs.Entries.{entries_of}
use Rattle.lam_resolve_tables.specs.Tables.{all_fields}
use Rattle.lam_resolve_tables.proofs.Options.{collected_first, collected_some, collected_more, collected_last, first_some}
use Rattle.lam_resolve_tables.proofs.TableSteps.{classes_step}
use Rattle.lam_resolve_tables.proofs.tables.class_table.Goals as goal

pub loop-item-init : goal.loop-item-init
loop-item-init c = collected_first _ _ (ap all_fields c.new-classes.ensures.items)

pub add_class-requires : goal.add_class-requires
add_class-requires c =
    let h = collected_some _ _ _ c.loop-item.invariant c.requires in
    first_some _ _ (sym (ap is_some (classes_step (entries_of c.args.names.now) c.args.items.now c.loop-item.item-index c.item-item.result c.loop-item-test.true c.item-item.is)) ∙ h)

pub loop-item-preserved : goal.loop-item-preserved
loop-item-preserved c =
    collected_more _ _ _ _ _ _ c.loop-item.invariant (classes_step (entries_of c.args.names.now) c.args.items.now c.loop-item.item-index c.item-item.result c.loop-item-test.true c.item-item.is) c.in_ok-add_class.ensures

pub returns : goal.returns
returns c = collected_last _ _ _ c.loop-item.invariant (ap (λ l. resolve_classes (entries_of c.args.names.now) (items_tree l)) (drop_all c.loop-item.item-index c.args.items.now c.loop-item-test.false))
