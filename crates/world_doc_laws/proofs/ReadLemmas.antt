-- What holds of what is read: tags with their kinds, labels, capabilities.
use Rattle.std.proofs.Common.{◌≡◌, ℕ, suc, ◌+◌, ◌<◌, ◌≤◌, Bool, true, false, List, [], ◌∷◌, length, Option, Some, None, Result, Ok, Err, refl, arith, length-append}
use Rattle.std.specs.Prelude.{IfOk, IfSome, nat_le, codes, option_and_then, if◌then◌else◌}
use Rattle.std.specs.List.{AllByRecursion}
use Rattle.std.specs.FinSet.{from_list}
use Rattle.std.proofs.lemmas.Bool.Decides.{nat_tests}
use Rattle.serde_json.specs.Data.{Data, Items, no_items, item, Members}
use Rattle.serde_json.specs.Find.{get_member, as_str, as_array, as_object}
use Rattle.serde_json.specs.Events.{items_len}
use Rattle.flow_labels.specs.Tags.{Tags}
use Rattle.flow_labels.specs.declared.Label.{Label}
use Rattle.flow_labels.specs.declared.texts.LabelFault.{LabelFault}
use Rattle.flow_labels.specs.declared.texts.LabelFault.TheVariants as fault
use Rattle.flow_labels.specs.TwoLists.{Text}
use Rattle.flow_labels.specs.Names.{place_of}
use Rattle.flow_labels.specs.LabelText.{label_of}
use Rattle.capabilities.specs.declared.Caps.{Caps}
use Rattle.capabilities.specs.declared.kinds.TagKind.{TagKind}
use Rattle.capabilities.specs.declared.kinds.TagKind.TheVariants.{Read}
use Rattle.capabilities.specs.Kinds.{adds_freely, drops_freely, places, public_of}
use Rattle.lam_machine_terms.specs.Limits.{most_tags}
use Rattle.lam_machine_terms.specs.Valid.{AreBelow}
use Rattle.lam_machine_means.proofs.TagLemmas.{below_list}
use Rattle.world_doc_terms.specs.Breaks.{Reading, ◌>>=◌, only_if, formed, present, member_as}
use Rattle.world_doc_terms.specs.declared.version.Version.{Version}
use Rattle.world_doc_terms.specs.declared.version.Version.TheVariants.{One, Two, Three}
use Rattle.world_doc_terms.specs.Tags.{FirstTags, no_tags, with_tag, named, fresh_name, with_name, kind_in, with_kind, with_tag_item, with_tags, few_items, tags_in, label_or, label_as, label_in, known, tag_of, tags_of, set_in, caps_in}
use Rattle.world_doc_laws.proofs.LabelLemmas.{IsBelow, place_below, label_below}

-- ---- readings

module _ {A B : Type 0} where
  -- after what is not known anything of
  pub after : (r : Reading A) (f : A → Reading B) (P : B → Type 0) → ((x : A) → IfOk (f x) P) → IfOk (r >>= f) P
  after (Ok x) f P h = h x
  after (Err e) f P h = tt

  -- after what is known something of
  pub onward : (r : Reading A) (Q : A → Type 0) → IfOk r Q → (f : A → Reading B) (P : B → Type 0) → ((x : A) → Q x → IfOk (f x) P) → IfOk (r >>= f) P
  onward (Ok x) Q q f P h = h x q
  onward (Err e) Q q f P h = tt

module _ {A : Type 0} (P : A → Type 0) where
  pub formed_good : (name : Text) (o : Option A) → IfSome o P → IfOk (formed name o) P
  formed_good name None h = tt
  formed_good name (Some x) h = h

  pub member_good : (name : Text) (form : Data → Option A) (ms : Members) → ((d : Data) → IfSome (form d) P) → IfOk (member_as name form ms) P
  member_good name form ms h = by (get_member name ms)
    where
      by : (o : Option Data) → IfOk (present name o >>= λ d. formed name (form d)) P
      by None = tt
      by (Some d) = formed_good name (form d) (h d)

  pub tested : (test : Bool) (x : A) → (test ≡ true → P x) → IfSome (only_if test x) P
  tested true x h = h refl
  tested false x h = tt

  pub option_good : {C : Type 0} (f : C → Option A) (o : Option C) → ((x : C) → IfSome (f x) P) → IfSome (option_and_then f o) P
  option_good f None h = tt
  option_good f (Some x) h = h x

-- ---- the tags

-- no more names than there may be tags, and a kind for each name
pub record AreFew (tags : FirstTags) : Type 0 where
  pub few : length tags.names ≤ most_tags
  pub each : length tags.kinds ≡ length tags.names

-- so many more
record AreMore (n : ℕ) (old new : FirstTags) : Type 0 where
  names : length new.names ≡ length old.names + n
  kinds : length new.kinds ≡ length old.kinds + n

one_more : (tags : FirstTags) (name : Text) (kind : TagKind) → AreMore 1 tags (with_tag tags name kind)
one_more tags name kind = record { names = length-append tags.names (name ∷ []); kinds = length-append tags.kinds (kind ∷ []) }

name_more : (tags : FirstTags) (d : Data) → IfOk (with_name tags d) (AreMore 1 tags)
name_more tags d =
    after (formed (codes "tags") (named d)) (λ name. fresh_name tags.names name >>= λ new. Ok (with_tag tags new Read)) (AreMore 1 tags)
    (λ name. after (fresh_name tags.names name) (λ new. Ok (with_tag tags new Read)) (AreMore 1 tags) (λ new. one_more tags new Read))

kind_more : (tags : FirstTags) (ms : Members) → IfOk (with_kind tags ms) (AreMore 1 tags)
kind_more tags ms =
    after (member_as (codes "name") named ms) (λ name. fresh_name tags.names name >>= λ new. kind_in ms >>= λ kind. Ok (with_tag tags new kind)) (AreMore 1 tags)
    (λ name. after (fresh_name tags.names name) (λ new. kind_in ms >>= λ kind. Ok (with_tag tags new kind)) (AreMore 1 tags)
    (λ new. after (kind_in ms) (λ kind. Ok (with_tag tags new kind)) (AreMore 1 tags) (λ kind. one_more tags new kind)))

item_more : (version : Version) (tags : FirstTags) (d : Data) → IfOk (with_tag_item version tags d) (AreMore 1 tags)
item_more One tags d = name_more tags d
item_more Two tags d = after (formed (codes "tags") (as_object d)) (with_kind tags) (AreMore 1 tags) (kind_more tags)
item_more Three tags d = after (formed (codes "tags") (as_object d)) (with_kind tags) (AreMore 1 tags) (kind_more tags)

ok_on : {A : Type 0} (P Q : A → Type 0) → ((x : A) → P x → Q x) → (r : Reading A) → IfOk r P → IfOk r Q
ok_on P Q h (Ok x) k = h x k
ok_on P Q h (Err e) k = tt

items_more : (version : Version) (tags : FirstTags) (ds : Items) → IfOk (with_tags version tags ds) (AreMore (items_len ds) tags)
items_more version tags no_items = record { names = omega arith; kinds = omega arith }
items_more version tags (item d ds) =
    onward (with_tag_item version tags d) (AreMore 1 tags) (item_more version tags d) (λ more. with_tags version more ds) (AreMore (suc (items_len ds)) tags)
    (λ more m. ok_on (AreMore (items_len ds) more) (AreMore (suc (items_len ds)) tags) (both more m) (with_tags version more ds) (items_more version more ds))
  where
    both : (more : FirstTags) → AreMore 1 tags more → (all : FirstTags) → AreMore (items_len ds) more all → AreMore (suc (items_len ds)) tags all
    both more m all k =
        let a = m.names in
        let b = k.names in
        let c = m.kinds in
        let e = k.kinds in
        record { names = omega arith; kinds = omega arith }

abbrev InNumber : Items → Type 0
InNumber items = nat_le (items_len items) most_tags ≡ true

counted : (items : Items) → InNumber items → (tags : FirstTags) → AreMore (items_len items) no_tags tags → AreFew tags
counted items e tags m =
    let few : items_len items ≤ 65536 = grind (arith, nat_tests) in
    let a = m.names in
    let b = m.kinds in
    record { few = omega arith; each = omega arith }

pub tags_few : (version : Version) (ms : Members) → IfOk (tags_in version ms) AreFew
tags_few version ms =
    onward (member_as (codes "tags") few_items ms) InNumber
    (member_good InNumber (codes "tags") few_items ms (λ d. option_good InNumber (λ items. only_if (nat_le (items_len items) most_tags) items) (as_array d) (λ items. tested InNumber (nat_le (items_len items) most_tags) items (λ e. e))))
    (with_tags version no_tags) AreFew
    (λ items e. ok_on (AreMore (items_len items) no_tags) AreFew (counted items e) (with_tags version no_tags items) (items_more version no_tags items))

-- ---- what is public by the kinds of the tags

below_on : (n : ℕ) (test : Bool) (t : ℕ) (ts : List ℕ) → t < n → AllByRecursion (λ (u : ℕ). u < n) ts → AllByRecursion (λ (u : ℕ). u < n) (if test then t ∷ ts else ts)
below_on n true t ts l h = (l, h)
below_on n false t ts l h = h

places_below : (test : TagKind → Bool) (n at : ℕ) (ks : List TagKind) → at + length ks ≤ n → AllByRecursion (λ (u : ℕ). u < n) (places test at ks)
places_below test n at [] h = tt
places_below test n at (k ∷ ks) h = below_on n (test k) at (places test (at + 1) ks) (omega arith) (places_below test n (at + 1) ks (omega arith))

-- the tags of what is public are those of the kinds
pub public_below : (kinds : List TagKind) (n : ℕ) → length kinds ≤ n → AreBelow n (public_of kinds).plus × AreBelow n (public_of kinds).minus
unfolding public_of
public_below kinds n h = (below_list n (places adds_freely 0 kinds) (places_below adds_freely n 0 kinds (omega arith)), below_list n (places drops_freely 0 kinds) (places_below drops_freely n 0 kinds (omega arith)))

-- ---- labels and tags

module _ (names : List Text) where
  abbrev Below : ℕ → Type 0
  Below t = t < length names

  abbrev AllBelow : List ℕ → Type 0
  AllBelow ts = AllByRecursion Below ts

  by_fault : (name text : Text) (r : Result Label LabelFault) → IfOk r (IsBelow (length names)) → IfOk (label_or name text r) (IsBelow (length names))
  by_fault name text (Ok l) h = h
  by_fault name text (Err (fault.BadLabel at)) h = tt
  by_fault name text r h = tt

  pub label_as_known : (name : Text) (ms : Members) → IfOk (label_as name names ms) (IsBelow (length names))
  label_as_known name ms =
      after (member_as name as_str ms) (λ text. label_or name text (label_of names text)) (IsBelow (length names)) (λ text. by_fault name text (label_of names text) (label_below names text))

  pub label_known : (ms : Members) → IfOk (label_in names ms) (IsBelow (length names))
  label_known ms = label_as_known (codes "label") ms

  known_below : (name : Text) (o : Option ℕ) → ((t : ℕ) → o ≡ Some t → Below t) → IfOk (known name o) Below
  known_below name None h = tt
  known_below name (Some t) h = h t refl

  pub tag_below : (at : Text) (d : Data) → IfOk (tag_of at names d) Below
  tag_below at d = after (formed at (named d)) (λ name. known name (place_of names name)) Below (λ name. known_below name (place_of names name) (place_below names name))

  tags_below : (at : Text) (ds : Items) → IfOk (tags_of at names ds) AllBelow
  tags_below at no_items = tt
  tags_below at (item d ds) =
      onward (tag_of at names d) Below (tag_below at d) (λ t. tags_of at names ds >>= λ ts. Ok (t ∷ ts)) AllBelow
      (λ t l. onward (tags_of at names ds) AllBelow (tags_below at ds) (λ ts. Ok (t ∷ ts)) AllBelow (λ ts ls. (l, ls)))

  abbrev SetBelow : Tags → Type 0
  SetBelow s = AreBelow (length names) s

  set_below : (at : Text) (ms : Members) → IfOk (set_in at names ms) SetBelow
  set_below at ms =
      after (member_as at as_array ms) (λ items. tags_of at names items >>= λ ts. Ok (from_list ts)) SetBelow
      (λ items. onward (tags_of at names items) AllBelow (tags_below at items) (λ ts. Ok (from_list ts)) SetBelow (λ ts h. below_list (length names) ts h))

  abbrev pub CapsBelow : Caps → Type 0
  CapsBelow c = AreBelow (length names) c.plus × AreBelow (length names) c.minus

  abbrev caps_made : Tags → Tags → Reading Caps
  caps_made plus minus = Ok (record { plus = plus; minus = minus })

  pub caps_known : (ms : Members) → IfOk (caps_in names ms) CapsBelow
  caps_known ms =
      after (member_as (codes "caps") as_object ms) (λ inside. set_in (codes "plus") names inside >>= λ plus. set_in (codes "minus") names inside >>= λ minus. caps_made plus minus) CapsBelow
      (λ inside. onward (set_in (codes "plus") names inside) SetBelow (set_below (codes "plus") inside) (λ plus. set_in (codes "minus") names inside >>= λ minus. caps_made plus minus) CapsBelow
      (λ plus p. onward (set_in (codes "minus") names inside) SetBelow (set_below (codes "minus") inside) (λ minus. caps_made plus minus) CapsBelow (λ minus m. (p, m))))
