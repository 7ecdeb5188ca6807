use Rattle.std.proofs.Common.{sym, ◌∙◌}
use Rattle.indexmap.proofs.CallerLemmas.{insert_entry-new}
use Rattle.lam_resolve_tables.proofs.NamedLemmas.{number_known, number_new, not_known}
use Rattle.lam_resolve_tables.proofs.lookup.number_name.Goals as goal

pub returns-in_ok-insert-clause-ok : goal.returns-in_ok-insert-clause-ok
returns-in_ok-insert-clause-ok c =
    let none = not_known _ (sym c.contains_key.ensures ∙ c.if-not-contains_key.true) in
    number_new c.args.index.now.entries c.insert.new.self.entries c.args.name c.args.number none (c.in_ok-insert.ensures.entries ∙ insert_entry-new _ c.args.index.now c.args.name c.args.number none)

pub returns-else-not-contains_key-clause-ok : goal.returns-else-not-contains_key-clause-ok
returns-else-not-contains_key-clause-ok c = number_known c.args.index.now.entries c.args.name.now c.args.number (sym c.contains_key.ensures ∙ c.if-not-contains_key.false)
