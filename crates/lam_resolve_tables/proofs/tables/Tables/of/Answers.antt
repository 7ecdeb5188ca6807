use Rattle.lam_syntax.specs.Tree.{items_tree}
use Rattle.lam_resolve_tables.specs.Entries.{entries_of}
use Rattle.lam_resolve_tables.specs.Tables.{all_fields, heads}
use Rattle.lam_resolve_tables.proofs.TableSteps.{tables_classes, tables_heads, tables_done}
use Rattle.lam_resolve_tables.proofs.tables.Tables.of.Goals as goal

pub class_table-requires : goal.class_table-requires
class_table-requires c = tables_classes (items_tree c.args.items.now) (entries_of c.in_ok-names.names) c.in_ok-names.ensures c.requires

pub function_table-requires : goal.function_table-requires
function_table-requires c = tables_heads (items_tree c.args.items.now) (entries_of c.in_ok-names.names) c.in_ok-names.ensures (all_fields c.in_ok-classes.classes.items) c.in_ok-classes.ensures c.requires

pub returns : goal.returns
returns c = tables_done (items_tree c.args.items.now) (entries_of c.in_ok-names.names) c.in_ok-names.ensures (all_fields c.in_ok-classes.classes.items) (heads c.in_ok-functions.functions) c.in_ok-classes.ensures c.in_ok-functions.ensures
