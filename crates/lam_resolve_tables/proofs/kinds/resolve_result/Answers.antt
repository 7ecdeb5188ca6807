use Rattle.std.proofs.Common.{ap}
use Rattle.lam_syntax.specs.Tree.{option_type_tree, type_tree}
use Rattle.lam_resolve_tables.specs.Entries.{entries_of}
use Rattle.lam_resolve_tables.specs.Kinds.{kind_type}
use Rattle.lam_resolve_tables.proofs.Types.{result_some, result_done}
use Rattle.lam_resolve_tables.proofs.kinds.resolve_result.Goals as goal

pub resolve_type-requires : goal.resolve_type-requires
resolve_type-requires c = result_some (entries_of c.args.names.now) (option_type_tree c.args.written.now) (type_tree c.in-Some.t) (ap option_type_tree c.in-Some.is) c.requires

pub returns-in_ok-resolve_type-in-Some : goal.returns-in_ok-resolve_type-in-Some
returns-in_ok-resolve_type-in-Some c =
    result_done (entries_of c.args.names.now) (option_type_tree c.args.written.now) (type_tree c.in-Some.t) (kind_type c.in_ok-resolve_type-in-Some.field-0) (ap option_type_tree c.in-Some.is) c.in_ok-resolve_type-in-Some.ensures
