-- The tags of a document, one after another.
use Rattle.std.proofs.Common.{◌≡◌, ℕ, ◌+◌, ◌<◌, ◌≤◌, true, false, leb, List, [], ◌∷◌, ◌++◌, length, get_or, drop, Ok, Err, sym, ap, ◌∙◌, arith}
use Rattle.std.specs.Prelude.{codes}
use Rattle.std.proofs.lemmas.Bool.Decides.{nat_tests}
use Rattle.serde_json.specs.Data.{Data, Members}
use Rattle.serde_json.specs.Find.{as_array, as_object}
use Rattle.serde_json.specs.View.{view, items_view}
use Rattle.serde_json.specs.declared.value.Value.{Value as Json}
use Rattle.flow_labels.specs.TwoLists.{Text}
use Rattle.capabilities.specs.declared.kinds.TagKind.{TagKind}
use Rattle.capabilities.specs.declared.kinds.TagKind.TheVariants.{Read}
use Rattle.world_doc_terms.specs.declared.version.Version.{Version}
use Rattle.world_doc_terms.specs.declared.version.Version.TheVariants.{Two}
use Rattle.world_doc_terms.specs.Breaks.{BadMember, Reading, formed, member_as, ◌>>=◌}
use Rattle.world_doc_terms.specs.Tags.{FirstTags, no_tags, with_tag, named, fresh_name, with_name, kind_in, with_kind, with_tag_item, with_tags, tags_in}
use Rattle.world_doc_stores.specs.declared.fault.WorldFault.{WorldFault}
use Rattle.world_doc_stores.specs.Meaning.{Fails}
use Rattle.world_doc_stores.proofs.Steps.{fails_same, fails_here}
use Rattle.world_doc_stores.proofs.ListLemmas.{items_more}
use Rattle.world_doc_stores.proofs.CountLemmas.{right_count, wrong_count, no_list}

-- ---- one item

module _ (tags : FirstTags) (names : List Text) (kinds : List TagKind) where
  abbrev grown : FirstTags
  grown = record { names = names; kinds = kinds }

  grown_by : (name : Text) (kind : TagKind) → names ≡ tags.names ++ name ∷ [] → kinds ≡ tags.kinds ++ kind ∷ [] → ◌≡◌ {A = Reading FirstTags} (Ok (with_tag tags name kind)) (Ok grown)
  grown_by name kind a b = λ i. Ok (record { names = sym a i; kinds = sym b i })

  pub name_added : (d : Data) (name : Text) → formed (codes "tags") (named d) ≡ Ok name → fresh_name tags.names name ≡ Ok name → names ≡ tags.names ++ name ∷ [] → kinds ≡ tags.kinds ++ Read ∷ [] → with_name tags d ≡ Ok grown
  name_added d name e fresh a b =
      ap (λ r. r >>= λ name. fresh_name tags.names name >>= λ new. Ok (with_tag tags new Read)) e
      ∙ ap (λ r. r >>= λ new. Ok (with_tag tags new Read)) fresh
      ∙ grown_by name Read a b

  pub kind_added : (d : Data) (ms : Members) (name : Text) (kind : TagKind) → formed (codes "tags") (as_object d) ≡ Ok ms → member_as (codes "name") named ms ≡ Ok name → fresh_name tags.names name ≡ Ok name → kind_in ms ≡ Ok kind → names ≡ tags.names ++ name ∷ [] → kinds ≡ tags.kinds ++ kind ∷ [] →
      with_tag_item Two tags d ≡ Ok grown
  kind_added d ms name kind is e fresh k a b =
      ap (λ r. r >>= with_kind tags) is
      ∙ ap (λ r. r >>= λ name. fresh_name tags.names name >>= λ new. kind_in ms >>= λ kind. Ok (with_tag tags new kind)) e
      ∙ ap (λ r. r >>= λ new. kind_in ms >>= λ kind. Ok (with_tag tags new kind)) fresh
      ∙ ap (λ r. r >>= λ kind. Ok (with_tag tags name kind)) k
      ∙ grown_by name kind a b

-- ---- the items of a list

module _ (version : Version) where
  tags_at : (xs : List Json) (i : ℕ) (x : Json) (tags : FirstTags) → i < length xs → x ≡ get_or xs i x → with_tags version tags (items_view (drop i xs)) ≡ (with_tag_item version tags (view x) >>= λ more. with_tags version more (items_view (drop (i + 1) xs)))
  tags_at xs i x tags h is = ap (with_tags version tags) (items_more xs i x h is)

  pub tag_made : (xs : List Json) (i : ℕ) (x : Json) (tags more : FirstTags) (all : Reading FirstTags) → i < length xs → x ≡ get_or xs i x → all ≡ with_tags version tags (items_view (drop i xs)) → with_tag_item version tags (view x) ≡ Ok more → all ≡ with_tags version more (items_view (drop (i + 1) xs))
  tag_made xs i x tags more all h is so_far e = so_far ∙ tags_at xs i x tags h is ∙ ap (λ r. r >>= λ more. with_tags version more (items_view (drop (i + 1) xs))) e

  pub no_tag_made : (f : WorldFault) (xs : List Json) (i : ℕ) (x : Json) (tags : FirstTags) (all : Reading FirstTags) → i < length xs → x ≡ get_or xs i x → all ≡ with_tags version tags (items_view (drop i xs)) → Fails f (with_tag_item version tags (view x)) → Fails f all
  no_tag_made f xs i x tags all h is so_far e =
      fails_same (sym (so_far ∙ tags_at xs i x tags h is)) (fails_here f (with_tag_item version tags (view x)) (λ more. with_tags version more (items_view (drop (i + 1) xs))) e)

-- ---- how many they are

few_test : (n : ℕ) → n ≤ 65536 → leb n 65536 ≡ true
few_test n h = grind (arith, nat_tests)

many_test : (n : ℕ) → 65536 < n → leb n 65536 ≡ false
many_test n h = grind (arith, nat_tests)

module _ (version : Version) (ms : Members) where
  pub tags_few : (xs : List Json) → member_as (codes "tags") as_array ms ≡ Ok (items_view xs) → length xs ≤ 65536 → tags_in version ms ≡ with_tags version no_tags (items_view xs)
  tags_few xs e h = right_count (codes "tags") (λ n. leb n 65536) ms (with_tags version no_tags) xs e (few_test (length xs) h)

  pub tags_many : (xs : List Json) → member_as (codes "tags") as_array ms ≡ Ok (items_view xs) → 65536 < length xs → tags_in version ms ≡ Err (BadMember (codes "tags"))
  tags_many xs e h = wrong_count (codes "tags") (λ n. leb n 65536) ms (with_tags version no_tags) xs e (many_test (length xs) h)

  pub tags_off : (e : WorldFault) → Fails e (member_as (codes "tags") as_array ms) → Fails e (tags_in version ms)
  tags_off e h = no_list (codes "tags") (λ n. leb n 65536) ms (with_tags version no_tags) e h
