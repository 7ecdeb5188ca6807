-- The pipes of a document, one after another.
use Rattle.std.proofs.Common.{◌≡◌, ℕ, ◌+◌, ◌<◌, List, length, get_or, drop, Ok, sym, ap, ◌∙◌}
use Rattle.std.specs.Prelude.{codes}
use Rattle.serde_json.specs.Find.{as_object}
use Rattle.serde_json.specs.View.{view, items_view}
use Rattle.serde_json.specs.declared.value.Value.{Value as Json}
use Rattle.flow_labels.specs.TwoLists.{Text}
use Rattle.world_doc_terms.specs.Breaks.{Reading, formed, ◌>>=◌}
use Rattle.world_doc_terms.specs.Stores.{Pipes, with_pipe_item, with_pipes}
use Rattle.world_doc_stores.specs.declared.fault.WorldFault.{WorldFault}
use Rattle.world_doc_stores.specs.Meaning.{Fails}
use Rattle.world_doc_stores.proofs.Steps.{bind_assoc, fails_same, fails_here}
use Rattle.world_doc_stores.proofs.ListLemmas.{items_more}
use Rattle.world_doc.specs.Called.{pipe_in}

module _ (names : List Text) where
  pipes_at : (xs : List Json) (i : ℕ) (x : Json) (p : Pipes) → i < length xs → x ≡ get_or xs i x → with_pipes names p (items_view (drop i xs)) ≡ (pipe_in names p (view x) >>= λ q. with_pipes names q (items_view (drop (i + 1) xs)))
  pipes_at xs i x p h is =
      ap (with_pipes names p) (items_more xs i x h is) ∙ sym (bind_assoc (formed (codes "pipes") (as_object (view x))) (with_pipe_item names p) (λ q. with_pipes names q (items_view (drop (i + 1) xs))))

  pub pipe_made : (xs : List Json) (i : ℕ) (x : Json) (p q : Pipes) (all : Reading Pipes) → i < length xs → x ≡ get_or xs i x → all ≡ with_pipes names p (items_view (drop i xs)) → pipe_in names p (view x) ≡ Ok q → all ≡ with_pipes names q (items_view (drop (i + 1) xs))
  pipe_made xs i x p q all h is so_far e = so_far ∙ pipes_at xs i x p h is ∙ ap (λ r. r >>= λ q. with_pipes names q (items_view (drop (i + 1) xs))) e

  pub no_pipe_made : (f : WorldFault) (xs : List Json) (i : ℕ) (x : Json) (p : Pipes) (all : Reading Pipes) → i < length xs → x ≡ get_or xs i x → all ≡ with_pipes names p (items_view (drop i xs)) → Fails f (pipe_in names p (view x)) → Fails f all
  no_pipe_made f xs i x p all h is so_far e =
      fails_same (sym (so_far ∙ pipes_at xs i x p h is)) (fails_here f (pipe_in names p (view x)) (λ q. with_pipes names q (items_view (drop (i + 1) xs))) e)
