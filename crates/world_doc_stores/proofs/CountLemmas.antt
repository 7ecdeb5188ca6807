-- How many items a list has that a member is.
use Rattle.std.proofs.Common.{◌≡◌, ℕ, Bool, true, false, List, length, Ok, Err, ap, ◌∙◌}
use Rattle.std.specs.Option.{option_and_then}
use Rattle.serde_json.specs.Data.{Items, Members}
use Rattle.serde_json.specs.Events.{items_len}
use Rattle.serde_json.specs.Find.{as_array}
use Rattle.serde_json.specs.View.{items_view}
use Rattle.serde_json.specs.declared.value.Value.{Value as Json}
use Rattle.flow_labels.specs.TwoLists.{Text}
use Rattle.world_doc_terms.specs.Breaks.{BadMember, Reading, ◌>>=◌, only_if, formed, member_as}
use Rattle.world_doc_stores.specs.declared.fault.WorldFault.{WorldFault}
use Rattle.world_doc_stores.specs.Meaning.{Fails}
use Rattle.world_doc_stores.proofs.Steps.{fails_here}
use Rattle.world_doc_stores.proofs.ListLemmas.{items_count}
use Rattle.world_doc_stores.proofs.MemberOn.{member_on, member_off}

-- a list that is as long as it may be
module _ (name : Text) (test : ℕ → Bool) (ms : Members) where
  abbrev pub counted : Reading Items
  counted = member_as name (λ d. option_and_then (λ items. only_if (test (items_len items)) items) (as_array d)) ms

  by_test : (xs : List Json) (b : Bool) → member_as name as_array ms ≡ Ok (items_view xs) → test (length xs) ≡ b → counted ≡ formed name (only_if b (items_view xs))
  by_test xs b e is =
      member_on name as_array (λ items. only_if (test (items_len items)) items) ms (items_view xs) e ∙
      ap (λ (n : ℕ). formed name (only_if (test n) (items_view xs))) (items_count xs) ∙ ap (λ (b : Bool). formed name (only_if b (items_view xs))) is

  pub right_count : {X : Type 0} (f : Items → Reading X) (xs : List Json) → member_as name as_array ms ≡ Ok (items_view xs) → test (length xs) ≡ true → (counted >>= f) ≡ f (items_view xs)
  right_count f xs e is = ap (λ r. r >>= f) (by_test xs true e is)

  pub wrong_count : {X : Type 0} (f : Items → Reading X) (xs : List Json) → member_as name as_array ms ≡ Ok (items_view xs) → test (length xs) ≡ false → (counted >>= f) ≡ Err (BadMember name)
  wrong_count f xs e is = ap (λ r. r >>= f) (by_test xs false e is)

  pub no_list : {X : Type 0} (f : Items → Reading X) (e : WorldFault) → Fails e (member_as name as_array ms) → Fails e (counted >>= f)
  no_list f e h = fails_here e counted f (member_off name as_array (λ items. only_if (test (items_len items)) items) e ms h)
