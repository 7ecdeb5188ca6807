-- What was read of the older document.
use Rattle.std.proofs.Common.{◌≡◌, ℕ, suc, true, List, [], ◌∷◌, ◌++◌, Option, Some, None, Ok, Err, is_some, refl, ap, subst}
use Rattle.std.specs.Prelude.{IfOk, not, codes}
use Rattle.serde_json.specs.Data.{Data, object, Items, no_items, item, Members, depth, members_depth}
use Rattle.serde_json.specs.Find.{get, get_member, as_str, as_object}
use Rattle.flow_labels.specs.Names.{AreNames, is_name, place_of}
use Rattle.flow_labels.specs.TwoLists.{Text}
use Rattle.flow_labels.proofs.NameLemmas.{AreNames_push}
use Rattle.capabilities.specs.declared.kinds.TagKind.{TagKind}
use Rattle.capabilities.specs.declared.kinds.TagKind.TheVariants.{Read}
use Rattle.lam_bytecode.specs.Codes.{CodeTree}
use Rattle.thread_steps.specs.Threads.{Thread}
use Rattle.lam_machine_terms.specs.Worlds.{World}
use Rattle.world_doc_terms.specs.declared.version.Version.{Version}
use Rattle.world_doc_terms.specs.declared.version.Version.TheVariants.{One, Two, Three}
use Rattle.world_doc_terms.specs.Breaks.{Reading, ◌>>=◌, only_if, formed, member_as}
use Rattle.world_doc_terms.specs.Tags.{FirstTags, no_tags, with_tag, named, unless_there, fresh_name, with_name, kind_in, with_kind, with_tag_item, with_tags, few_items, tags_in}
use Rattle.world_doc_terms.specs.Stores.{Pipes, pipes_in}
use Rattle.world_doc_terms.specs.Entries.{threads_in}
use Rattle.world_doc_terms.specs.Start.{version_in, files_in, world_in, world_of}
use Rattle.labelled_files.specs.Trees.{Tree}
use Rattle.world_doc_laws.proofs.ReadLemmas.{after, onward, formed_good, member_good, tested, option_good, AreFew, tags_few}
use Rattle.world_doc_laws.proofs.StoreLemmas.{staged}
use Rattle.world_doc_laws.proofs.SavedLemmas.{inside as of_ok}
use Rattle.world_save_laws.specs.ListLaws.{AreTags}

-- ---- names of tags

abbrev Named : FirstTags → Type 0
Named tags = AreNames tags.names

no_place : (o : Option ℕ) → not (is_some o) ≡ true → o ≡ None
no_place None e = refl
no_place (Some n) e = cc

module _ (tags : FirstTags) (h : Named tags) where
  name_good : (name : Text) → is_name name ≡ true → (kind : TagKind) → IfOk (fresh_name tags.names name >>= λ new. Ok (with_tag tags new kind)) Named
  name_good name fine kind =
      onward (fresh_name tags.names name) (λ new. AreNames (tags.names ++ new ∷ []))
      (formed_good (λ new. AreNames (tags.names ++ new ∷ [])) (codes "tags") (unless_there tags.names name) (tested (λ new. AreNames (tags.names ++ new ∷ [])) (not (is_some (place_of tags.names name))) name (λ e. AreNames_push tags.names (tags.names ++ name ∷ []) name h fine (no_place (place_of tags.names name) e) refl)))
      (λ new. Ok (with_tag tags new kind)) Named (λ new k. k)

  kind_good : (name : Text) → is_name name ≡ true → (ms : Members) → IfOk (fresh_name tags.names name >>= λ new. kind_in ms >>= λ kind. Ok (with_tag tags new kind)) Named
  kind_good name fine ms =
      onward (fresh_name tags.names name) (λ new. AreNames (tags.names ++ new ∷ []))
      (formed_good (λ new. AreNames (tags.names ++ new ∷ [])) (codes "tags") (unless_there tags.names name) (tested (λ new. AreNames (tags.names ++ new ∷ [])) (not (is_some (place_of tags.names name))) name (λ e. AreNames_push tags.names (tags.names ++ name ∷ []) name h fine (no_place (place_of tags.names name) e) refl)))
      (λ new. kind_in ms >>= λ kind. Ok (with_tag tags new kind)) Named (λ new k. after (kind_in ms) (λ kind. Ok (with_tag tags new kind)) Named (λ kind. k))

  abbrev IsFine : Text → Type 0
  IsFine name = is_name name ≡ true

  by_name : (d : Data) → IfOk (with_name tags d) Named
  by_name d =
      onward (formed (codes "tags") (named d)) IsFine
      (formed_good IsFine (codes "tags") (named d) (option_good IsFine (λ text. only_if (is_name text) text) (as_str d) (λ text. tested IsFine (is_name text) text (λ e. e))))
      (λ name. fresh_name tags.names name >>= λ new. Ok (with_tag tags new Read)) Named (λ name fine. name_good name fine Read)

  by_kind : (ms : Members) → IfOk (with_kind tags ms) Named
  by_kind ms =
      onward (member_as (codes "name") named ms) IsFine
      (member_good IsFine (codes "name") named ms (λ d. option_good IsFine (λ text. only_if (is_name text) text) (as_str d) (λ text. tested IsFine (is_name text) text (λ e. e))))
      (λ name. fresh_name tags.names name >>= λ new. kind_in ms >>= λ kind. Ok (with_tag tags new kind)) Named (λ name fine. kind_good name fine ms)

  tag_good : (version : Version) (d : Data) → IfOk (with_tag_item version tags d) Named
  tag_good One d = by_name d
  tag_good Two d = after (formed (codes "tags") (as_object d)) (with_kind tags) Named by_kind
  tag_good Three d = after (formed (codes "tags") (as_object d)) (with_kind tags) Named by_kind

tags_good : (version : Version) (tags : FirstTags) → Named tags → (ds : Items) → IfOk (with_tags version tags ds) Named
tags_good version tags h no_items = h
tags_good version tags h (item d ds) = onward (with_tag_item version tags d) Named (tag_good tags h version d) (λ more. with_tags version more ds) Named (λ more k. tags_good version more k ds)

tags_named : (version : Version) (ms : Members) → IfOk (tags_in version ms) Named
tags_named version ms = after (member_as (codes "tags") few_items ms) (with_tags version no_tags) Named (λ ds. tags_good version no_tags tt ds)

-- ---- what the world was read from

opened : {A B : Type 0} (r : Reading A) (f : A → Reading B) (y : B) → (r >>= f) ≡ Ok y → (x : A) × ((r ≡ Ok x) × (f x ≡ Ok y))
opened (Ok x) f y e = (x, (refl, e))
opened (Err b) f y e = absurd cc

taken : {A : Type 0} (name : Text) (o : Option A) (x : A) → formed name o ≡ Ok x → o ≡ Some x
taken name None x e = absurd cc
taken name (Some y) x e = let is : y ≡ x = cc in ap Some is

inside : {A : Type 0} (P : A → Type 0) (r : Reading A) (x : A) → r ≡ Ok x → IfOk r P → P x
inside {A = A} P r x e h = subst (λ (r : Reading A). IfOk r P) e h

-- the start of a run, and the parts of its document that the next one has too
pub record IsRead (code : CodeTree) (d : Data) (w : World) : Type 0 where
  pub ms : Members
  pub object_is : as_object d ≡ Some ms
  pub tags : FirstTags
  pub are : AreTags tags
  pub files : Tree
  pub pipes : Pipes
  pub threads : List Thread
  pub pipes_read : pipes_in tags.names ms ≡ Ok pipes
  pub threads_read : threads_in code tags.names pipes.called ms ≡ Ok threads
  pub is : staged tags files pipes.queues threads ≡ w

-- what is read after the tags, and after the files
abbrev after_files : CodeTree → Members → FirstTags → Tree → Pipes → Reading World
after_files code ms tags files pipes = threads_in code tags.names pipes.called ms >>= λ threads. Ok (staged tags files pipes.queues threads)

abbrev after_tags : CodeTree → Members → FirstTags → Tree → Reading World
after_tags code ms tags files = pipes_in tags.names ms >>= λ pipes. after_files code ms tags files pipes

pub read_of : (code : CodeTree) (d : Data) (w : World) → world_of d code ≡ Ok w → IsRead code d w
read_of code d w e =
    let m = opened (formed (codes "version") (as_object d)) (λ ms. world_in code ms) w e in
    let ms = m.0 in
    let v = opened (version_in ms) (λ version. tags_in version ms >>= λ tags. files_in version tags.names ms >>= λ files. after_tags code ms tags files) w m.1.1 in
    let t = opened (tags_in v.0 ms) (λ tags. files_in v.0 tags.names ms >>= λ files. after_tags code ms tags files) w v.1.1 in
    let f = opened (files_in v.0 t.0.names ms) (λ files. after_tags code ms t.0 files) w t.1.1 in
    let p = opened (pipes_in t.0.names ms) (λ pipes. after_files code ms t.0 f.0 pipes) w f.1.1 in
    let h = opened (threads_in code t.0.names p.0.called ms) (λ threads. Ok (staged t.0 f.0 p.0.queues threads)) w p.1.1 in
    let few : AreFew t.0 = inside AreFew (tags_in v.0 ms) t.0 t.1.0 (tags_few v.0 ms) in
    let are_named : Named t.0 = inside Named (tags_in v.0 ms) t.0 t.1.0 (tags_named v.0 ms) in
    record {
      ms = ms;
      object_is = taken (codes "version") (as_object d) ms m.1.0;
      tags = t.0;
      are = record { names = are_named; each = few.each; few = few.few };
      files = f.0;
      pipes = p.0;
      threads = h.0;
      pipes_read = p.1.0;
      threads_read = h.1.0;
      is = of_ok {x = staged t.0 f.0 p.0.queues h.0} {y = w} h.1.1;
    }

-- ---- members

pub member_of : (k : Text) (d : Data) (ms : Members) → as_object d ≡ Some ms → get k d ≡ get_member k ms
member_of k (object xs) ms e = let is : xs ≡ ms = cc in ap (get_member k) is
member_of k d ms e = absurd cc

pub object_deep : (d : Data) (ms : Members) → as_object d ≡ Some ms → depth d ≡ suc (members_depth ms)
object_deep (object xs) ms e = let is : xs ≡ ms = cc in ap (λ (ms : Members). suc (members_depth ms)) is
object_deep d ms e = absurd cc
