use Rattle.std.proofs.Common.{◌∙◌}
use Rattle.indexmap.proofs.CallerLemmas.{insert_entry-new}
use Rattle.lam_types_kinds.proofs.TableLemmas.{lookup_none}
use Rattle.lam_types_kinds.proofs.tables.add_name.Goals as goal

pub returns-clause-ok : goal.returns-clause-ok
returns-clause-ok g c =
    c.in_ok-insert.ensures.entries ∙ insert_entry-new _ c.args.all.now c.args.name c.args.value (lookup_none c.args.name.now c.args.all.now.entries c.requires)
