-- The laws of states.
use Rattle.std.proofs.Common.{suc, [], sym, ap, ◌∙◌}
use Rattle.flow_labels.specs.Flow.{public_label}
use Rattle.lam_resolve_tree.specs.Tree.{stmts_tree, ResolvedTree}
use Rattle.lam_meaning.specs.Trees.{Own, on_end}
use Rattle.lam_meaning.specs.Means.{At, first_locals, body_of, block_runs, last_ask, means}
use Rattle.source_walk_state.specs.Meaning.{block}
use Rattle.source_walk_state.proofs.Delimiters.{begins, calls_body, enters_body, catches, handles}
use Rattle.source_walk_state.specs.Laws.{WalksBegin, DelimitersKeep}

pub walk_begins : (r : ResolvedTree) → WalksBegin r
unfolding means on_end
walk_begins r n f fn vs k body found same =
    let p : At = record { label = public_label; calls = 1 } in
    let first : Own = record { locals = []; caps = k } in
    let o : Own = record { locals = first_locals fn vs; caps = k } in
    sym
    (ap (λ x. on_end (body_of (λ b. block_runs r (suc n) b) x vs p n first) last_ask) found
    ∙ (ap (λ b. on_end (block r n [] b p n o) last_ask) (sym same) ∙ begins r n (stmts_tree body.now) p n o))

pub delimiters_are_kept : (r : ResolvedTree) → DelimitersKeep r
unfolding on_end
delimiters_are_kept r =
    record {
      calls = λ d calls fs p ls body n o. sym (calls_body r d fs p calls ls (stmts_tree body.now) n o);
      enters = λ d fs x out l k ls n. sym (enters_body r d fs x out l k ls n);
      catches = λ d fs x out f p n o. sym (catches r d fs x out f p n o);
      handles = λ d fs x out f p n o. sym (handles r d fs x out f p n o);
    }
