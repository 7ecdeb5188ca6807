-- Threads and arguments, item by item.
use Rattle.std.proofs.Common.{◌≡◌, ℕ, ◌+◌, ◌<◌, List, [], ◌∷◌, ◌++◌, length, get_or, drop, Ok, Err, refl, sym, ap, ◌∙◌, arith}
use Rattle.std.specs.Prelude.{codes}
use Rattle.std.proofs.lemmas.List.{drop_more}
use Rattle.serde_json.specs.Data.{Data, Items, item, Members}
use Rattle.serde_json.specs.Find.{as_object}
use Rattle.serde_json.specs.View.{view, items_view}
use Rattle.serde_json.specs.declared.value.Value.{Value as Json}
use Rattle.flow_labels.specs.TwoLists.{Text}
use Rattle.lam_value.specs.declared.names.Name.{Name}
use Rattle.lam_value.specs.declared.values.Value.{Value}
use Rattle.lam_bytecode.specs.Codes.{CodeTree}
use Rattle.lam_bytecode.specs.declared.unit.ArgKind.{ArgKind}
use Rattle.thread_steps.specs.Threads.{Thread}
use Rattle.world_doc_terms.specs.Breaks.{Reading, formed, ◌>>=◌}
use Rattle.world_doc_terms.specs.Entries.{argument, fitting, arguments, thread_in, threads_of}
use Rattle.world_doc.specs.Found.{thread_of, argument_of}
use Rattle.world_doc_stores.specs.declared.fault.WorldFault.{WorldFault}
use Rattle.world_doc_stores.specs.Meaning.{Fails}
use Rattle.world_doc_stores.proofs.Steps.{bind_assoc, fails_same, onto, then_later, onto_more, onto_fails}
use Rattle.world_doc_stores.proofs.ListLemmas.{items_more}

-- ---- threads

module _ (code : CodeTree) (names : List Text) (called : List (Text × Name)) where
  threads_cons : (d : Data) (ds : Items) → threads_of code names called (item d ds) ≡ then_later (thread_of code names called d) (threads_of code names called ds)
  threads_cons d ds = sym (bind_assoc (formed (codes "threads") (as_object d)) (thread_in code names called) (λ th. threads_of code names called ds >>= λ ths. Ok (th ∷ ths)))

  threads_at : (xs : List Json) (i : ℕ) (x : Json) → i < length xs → x ≡ get_or xs i x → threads_of code names called (items_view (drop i xs)) ≡ then_later (thread_of code names called (view x)) (threads_of code names called (items_view (drop (i + 1) xs)))
  threads_at xs i x h is = ap (threads_of code names called) (items_more xs i x h is) ∙ threads_cons (view x) (items_view (drop (i + 1) xs))

  pub threads_more : (xs : List Json) (i : ℕ) (x : Json) (done : List Thread) (th : Thread) (all : Reading (List Thread)) → i < length xs → x ≡ get_or xs i x → all ≡ onto done (threads_of code names called (items_view (drop i xs))) → thread_of code names called (view x) ≡ Ok th →
      all ≡ onto (done ++ th ∷ []) (threads_of code names called (items_view (drop (i + 1) xs)))
  threads_more xs i x done th all h is so_far e =
      so_far ∙ ap (onto done) (threads_at xs i x h is) ∙ onto_more done (thread_of code names called (view x)) th (threads_of code names called (items_view (drop (i + 1) xs))) e

  pub threads_stop : (f : WorldFault) (xs : List Json) (i : ℕ) (x : Json) (done : List Thread) (all : Reading (List Thread)) → i < length xs → x ≡ get_or xs i x → all ≡ onto done (threads_of code names called (items_view (drop i xs))) → Fails f (thread_of code names called (view x)) → Fails f all
  threads_stop f xs i x done all h is so_far e =
      fails_same (sym (so_far ∙ ap (onto done) (threads_at xs i x h is))) (onto_fails f done (thread_of code names called (view x)) (threads_of code names called (items_view (drop (i + 1) xs))) e)

-- ---- arguments

module _ (names : List Text) (called : List (Text × Name)) where
  inner_assoc : (r : Reading Members) (f : Members → Reading Value) (g : Value → Reading Value) (h : Value → Reading (List Value)) → (r >>= λ ms. f ms >>= λ v. g v >>= h) ≡ ((r >>= λ ms. f ms >>= g) >>= h)
  inner_assoc (Ok ms) f g h = sym (bind_assoc (f ms) g h)
  inner_assoc (Err b) f g h = refl

  arguments_cons : (k : ArgKind) (ks : List ArgKind) (d : Data) (ds : Items) → arguments names called (k ∷ ks) (item d ds) ≡ then_later (argument_of names called k d) (arguments names called ks ds)
  arguments_cons k ks d ds = inner_assoc (formed (codes "args") (as_object d)) (argument names called) (fitting k) (λ same. arguments names called ks ds >>= λ vs. Ok (same ∷ vs))

  arguments_at : (ks : List ArgKind) (xs : List Json) (i : ℕ) (k d : ArgKind) (x : Json) → i < length ks → i < length xs → k ≡ get_or ks i d → x ≡ get_or xs i x →
      arguments names called (drop i ks) (items_view (drop i xs)) ≡ then_later (argument_of names called k (view x)) (arguments names called (drop (i + 1) ks) (items_view (drop (i + 1) xs)))
  arguments_at ks xs i k d x g h at is =
      ap (λ ds. arguments names called (drop i ks) ds) (items_more xs i x h is) ∙
      ap (λ (ls : List ArgKind). arguments names called ls (item (view x) (items_view (drop (i + 1) xs)))) (drop_more ks i d g ∙ ap (λ (l : ArgKind). l ∷ drop (i + 1) ks) (sym at)) ∙
      arguments_cons k (drop (i + 1) ks) (view x) (items_view (drop (i + 1) xs))

  pub arguments_more : (ks : List ArgKind) (xs : List Json) (i : ℕ) (k d : ArgKind) (x : Json) (done : List Value) (v : Value) (all : Reading (List Value)) → argument_of names called k (view x) ≡ Ok v → k ≡ get_or ks i d → i < length ks → length ks ≡ length xs → x ≡ get_or xs i x → all ≡ onto done (arguments names called (drop i ks) (items_view (drop i xs))) →
      all ≡ onto (done ++ v ∷ []) (arguments names called (drop (i + 1) ks) (items_view (drop (i + 1) xs)))
  arguments_more ks xs i k d x done v all e at g same is so_far =
      so_far ∙ ap (onto done) (arguments_at ks xs i k d x g (omega arith) at is) ∙ onto_more done (argument_of names called k (view x)) v (arguments names called (drop (i + 1) ks) (items_view (drop (i + 1) xs))) e

  pub arguments_stop : (f : WorldFault) (ks : List ArgKind) (xs : List Json) (i : ℕ) (k d : ArgKind) (x : Json) (done : List Value) (all : Reading (List Value)) → Fails f (argument_of names called k (view x)) → k ≡ get_or ks i d → i < length ks → length ks ≡ length xs → x ≡ get_or xs i x → all ≡ onto done (arguments names called (drop i ks) (items_view (drop i xs))) → Fails f all
  arguments_stop f ks xs i k d x done all e at g same is so_far =
      fails_same (sym (so_far ∙ ap (onto done) (arguments_at ks xs i k d x g (omega arith) at is))) (onto_fails f done (argument_of names called k (view x)) (arguments names called (drop (i + 1) ks) (items_view (drop (i + 1) xs))) e)
