use Rattle.std.proofs.Common.{sym, ap, subst, ◌≡◌, ◌∙◌, Ok}
use Rattle.std.specs.FinMap.{empty}
use Rattle.std.proofs.lemmas.Result.{err_from_is_err_and}
use Rattle.serde_json.specs.View.{view, items_view}
use Rattle.lam_value.specs.Homes.{Counts, raised}
use Rattle.labelled_files.specs.Trees.{public_home}
use Rattle.world_doc_terms.specs.Numbered.{with_counts}
use Rattle.world_doc_stores.specs.Meaning.{Fails}
use Rattle.world_doc_stores.specs.Seen.{members}
use Rattle.world_doc_stores.proofs.CounterLemmas.{first_raised, no_counts, broken_counts, counts_read}
use Rattle.world_doc_stores.proofs.counts.read_counts.Goals as goal

pub returns-in_err-items : goal.returns-in_err-items
returns-in_err-items c =
    let p = err_from_is_err_and c.from_residual.result c.from_residual.ensures.1 in
    rw (p.1, p.2) (no_counts c.args.names.now c.args.files.now (members (view c.args.document.now)) c.in_err-items.field-0.0 c.in_err-items.ensures)

pub add_counts-requires : goal.add_counts-requires
add_counts-requires c = c.requires ∙ sym (first_raised public_home) ∙ ap (λ (m : Counts). raised m public_home 1) (sym c.new-counts.ensures)

pub returns-in_err-add_counts : goal.returns-in_err-add_counts
returns-in_err-add_counts c =
    let p = err_from_is_err_and c.from_residual-in_err-add_counts.result c.from_residual-in_err-add_counts.ensures.1 in
    rw (p.1, p.2)
    (broken_counts c.args.names.now c.args.files.now (members (view c.args.document.now)) (items_view c.in_ok-items.items.now) c.in_ok-items.ensures c.in_err-add_counts.field-0.0
    (subst (λ (m : Counts). Fails c.in_err-add_counts.field-0.0 (with_counts c.args.names.now m (items_view c.in_ok-items.items.now))) c.new-counts.ensures c.in_err-add_counts.ensures.gives))

pub returns : goal.returns
returns c =
    counts_read c.args.names.now c.args.files.now (members (view c.args.document.now)) (items_view c.in_ok-items.items.now) c.in_ok-items.ensures c.add_counts.new.counts c.add_counts.new.files c.need_root.result
    (ap (λ (m : Counts). with_counts c.args.names.now m (items_view c.in_ok-items.items.now)) (sym c.new-counts.ensures) ∙ c.in_ok-add_counts.ensures.gives) c.in_ok-add_counts.ensures.files c.need_root.ensures
