-- The tags of a document, and what the other members say by their names: labels, tags, capabilities.
--
-- In version 1 the tags are `["a","b"]`, and from version 2 on `[{"name":"a","kind":"export"},{"name":"b","kind":"read"}]`.
-- With the names a and b: the label `{b}/{a}` is that of the secret 1 that 0 vouches for, and in `{a,c}/{}` the name c
-- breaks it.
use Rattle.std.specs.Prelude.{◌≡◌, ℕ, not, nat_le, List, [], ◌∷◌, ◌++◌, take, drop, is_some, Option, Some, None, Result, Ok, Err, codes, option_and_then, refl}
use Rattle.std.specs.List.{prefix_len}
use Rattle.std.specs.FinSet.{from_list}
use Rattle.serde_json.specs.Data.{Data, null, string, array, object, Items, no_items, item, Members, no_members, member}
use Rattle.serde_json.specs.Find.{as_str, as_array, as_object}
use Rattle.serde_json.specs.Events.{items_len}
use Rattle.flow_labels.specs.Tags.{Tags}
use Rattle.flow_labels.specs.declared.Label.{Label}
use Rattle.flow_labels.specs.declared.texts.LabelFault.{LabelFault}
use Rattle.flow_labels.specs.declared.texts.LabelFault.TheVariants as fault
use Rattle.flow_labels.specs.TwoLists.{Text}
use Rattle.flow_labels.specs.Names.{is_name, is_word, place_of}
use Rattle.flow_labels.specs.LabelText.{label_of}
use Rattle.capabilities.specs.declared.Caps.{Caps}
use Rattle.capabilities.specs.declared.kinds.TagKind.{TagKind}
use Rattle.capabilities.specs.declared.kinds.TagKind.TheVariants.{Read, Export, Integrity}
use Rattle.capabilities.specs.Kinds.{kind_of}
use Rattle.lam_machine_terms.specs.Limits.{most_tags}
use Rattle.world_doc_terms.specs.declared.version.Version.{Version}
use Rattle.world_doc_terms.specs.declared.version.Version.TheVariants.{One, Two, Three}
use Rattle.world_doc_terms.specs.Breaks.{NoMember, BadMember, NoTag, Reading, ◌>>=◌, only_if, formed, member_as}

-- ---- the tags

-- the first tags of a world: tag n has the n-th name and is of the n-th kind
pub record FirstTags : Type 0 where
  pub names : List Text
  pub kinds : List TagKind

abbrev pub no_tags : FirstTags
no_tags = record { names = []; kinds = [] }

abbrev pub with_tag : FirstTags → Text → TagKind → FirstTags
with_tag tags name kind = record { names = tags.names ++ name ∷ []; kinds = tags.kinds ++ kind ∷ [] }

abbrev pub named : Data → Option Text
named d = option_and_then (λ text. only_if (is_name text) text) (as_str d)

-- a name that is none of those before it
abbrev pub unless_there : List Text → Text → Option Text
unless_there names name = only_if (not (is_some (place_of names name))) name

-- a name that comes again is a break of the list, in each version
abbrev pub fresh_name : List Text → Text → Reading Text
fresh_name names name = formed (codes "tags") (unless_there names name)

-- a tag that is said by its name alone is of kind read
abbrev pub with_name : FirstTags → Data → Reading FirstTags
with_name tags d = formed (codes "tags") (named d) >>= λ name. fresh_name tags.names name >>= λ new. Ok (with_tag tags new Read)

abbrev pub kind_in : Members → Reading TagKind
kind_in ms = member_as (codes "kind") (λ d. option_and_then kind_of (as_str d)) ms

-- A tag that is said by its name and its kind. The name is looked at before the kind, all of it: one that is not there, one
-- that has another form, and one that comes again.
abbrev pub with_kind : FirstTags → Members → Reading FirstTags
with_kind tags ms =
    member_as (codes "name") named ms
    >>= λ name. fresh_name tags.names name
    >>= λ new. kind_in ms >>= λ kind. Ok (with_tag tags new kind)

abbrev pub with_tag_item : Version → FirstTags → Data → Reading FirstTags
with_tag_item One tags d = with_name tags d
with_tag_item Two tags d = formed (codes "tags") (as_object d) >>= with_kind tags
with_tag_item Three tags d = formed (codes "tags") (as_object d) >>= with_kind tags

-- one item after another: all of an item is looked at before the next
abbrev pub with_tags : Version → FirstTags → Items → Reading FirstTags
with_tags version tags no_items = Ok tags
with_tags version tags (item d ds) = with_tag_item version tags d >>= λ more. with_tags version more ds

-- a list of no more items than there may be tags
abbrev pub few_items : Data → Option Items
few_items d = option_and_then (λ items. only_if (nat_le (items_len items) most_tags) items) (as_array d)

-- the length of the list is looked at before its items
abbrev pub tags_in : Version → Members → Reading FirstTags
tags_in version ms = member_as (codes "tags") few_items ms >>= with_tags version no_tags

-- ---- labels

-- the letters, digits and `_` that begin at a place
abbrev pub word_at : ℕ → Text → Text
word_at at text = take (prefix_len is_word (drop at text)) (drop at text)

abbrev pub label_or : Text → Text → Result Label LabelFault → Reading Label
label_or name text (Ok l) = Ok l
label_or name text (Err (fault.NoTag at)) = Err (NoTag (word_at at text))
label_or name text (Err e) = Err (BadMember name)

-- the label that a member spells
abbrev pub label_as : Text → List Text → Members → Reading Label
label_as name names ms = member_as name as_str ms >>= λ text. label_or name text (label_of names text)

abbrev pub label_in : List Text → Members → Reading Label
label_in names ms = label_as (codes "label") names ms

-- ---- tags by their names

abbrev pub known : Text → Option ℕ → Reading ℕ
known name None = Err (NoTag name)
known name (Some t) = Ok t

-- the tag that a content of a member names
abbrev pub tag_of : Text → List Text → Data → Reading ℕ
tag_of at names d = formed at (named d) >>= λ name. known name (place_of names name)

abbrev pub tags_of : Text → List Text → Items → Reading (List ℕ)
tags_of at names no_items = Ok []
tags_of at names (item d ds) = tag_of at names d >>= λ t. tags_of at names ds >>= λ ts. Ok (t ∷ ts)

abbrev pub set_in : Text → List Text → Members → Reading Tags
set_in at names ms = member_as at as_array ms >>= λ items. tags_of at names items >>= λ ts. Ok (from_list ts)

-- plus and minus, inside `caps`
abbrev pub caps_in : List Text → Members → Reading Caps
caps_in names ms =
    member_as (codes "caps") as_object ms
    >>= λ inside. set_in (codes "plus") names inside >>= λ plus. set_in (codes "minus") names inside >>= λ minus. Ok (record { plus = plus; minus = minus })

-- ---- worked examples
-- the tags of a document whose member `tags` is this
abbrev of_list : Version → Items → Reading FirstTags
of_list version items = tags_in version (member (codes "tags") (array items) no_members)

-- an item with a name and a kind
abbrev kinded : Text → Text → Data
kinded name kind = object (member (codes "name") (string name) (member (codes "kind") (string kind) no_members))

two_names : of_list One (item (string (codes "a")) (item (string (codes "b_1")) no_items)) ≡ Ok (record { names = codes "a" ∷ codes "b_1" ∷ []; kinds = Read ∷ Read ∷ [] })
two_names = refl

repeated : of_list One (item (string (codes "a")) (item (string (codes "a")) no_items)) ≡ Err (BadMember (codes "tags"))
repeated = refl

no_name : of_list One (item (string (codes "1")) no_items) ≡ Err (BadMember (codes "tags"))
no_name = refl

no_kinds_in_version_1 : of_list One (item (kinded (codes "a") (codes "read")) no_items) ≡ Err (BadMember (codes "tags"))
no_kinds_in_version_1 = refl

no_list : tags_in One (member (codes "tags") (string (codes "a")) no_members) ≡ Err (BadMember (codes "tags"))
no_list = refl

three_kinds : of_list Two (item (kinded (codes "a") (codes "export")) (item (kinded (codes "b") (codes "read")) (item (kinded (codes "c") (codes "integrity")) no_items))) ≡ Ok (record { names = codes "a" ∷ codes "b" ∷ codes "c" ∷ []; kinds = Export ∷ Read ∷ Integrity ∷ [] })
three_kinds = refl

as_in_version_2 : of_list Three (item (kinded (codes "a") (codes "export")) no_items) ≡ Ok (record { names = codes "a" ∷ []; kinds = Export ∷ [] })
as_in_version_2 = refl

name_alone_in_version_2 : of_list Two (item (string (codes "a")) no_items) ≡ Err (BadMember (codes "tags"))
name_alone_in_version_2 = refl

name_not_there : of_list Two (item (object (member (codes "kind") (string (codes "write")) no_members)) no_items) ≡ Err (NoMember (codes "name"))
name_not_there = refl

name_of_another_form : of_list Two (item (kinded (codes "1") (codes "read")) no_items) ≡ Err (BadMember (codes "name"))
name_of_another_form = refl

kind_not_there : of_list Two (item (object (member (codes "name") (string (codes "a")) no_members)) no_items) ≡ Err (NoMember (codes "kind"))
kind_not_there = refl

no_such_kind : of_list Two (item (kinded (codes "a") (codes "write")) no_items) ≡ Err (BadMember (codes "kind"))
no_such_kind = refl

-- a name that comes again, before its kind, and a kind before the next name
repeated_before_kind : of_list Two (item (kinded (codes "a") (codes "read")) (item (kinded (codes "a") (codes "write")) no_items)) ≡ Err (BadMember (codes "tags"))
repeated_before_kind = refl

kind_before_the_next_name : of_list Two (item (kinded (codes "a") (codes "write")) (item (kinded (codes "1") (codes "read")) no_items)) ≡ Err (BadMember (codes "kind"))
kind_before_the_next_name = refl

unknown_tag : label_in (codes "a" ∷ []) (member (codes "label") (string (codes "{a,b}/{}")) no_members) ≡ Err (NoTag (codes "b"))
unknown_tag = refl

no_label_of_a_maker : label_as (codes "maker") (codes "a" ∷ []) (member (codes "maker") (string (codes "{a}")) no_members) ≡ Err (BadMember (codes "maker"))
no_label_of_a_maker = refl

no_label : label_in (codes "a" ∷ []) (member (codes "label") (string (codes "{a}")) no_members) ≡ Err (BadMember (codes "label"))
no_label = refl

second_tag : tag_of (codes "tag") (codes "a" ∷ codes "b" ∷ []) (string (codes "b")) ≡ Ok 1
second_tag = refl

no_form_of_a_tag : tag_of (codes "tag") (codes "a" ∷ []) (string (codes "a b")) ≡ Err (BadMember (codes "tag"))
no_form_of_a_tag = refl

plus_before_minus : caps_in [] (member (codes "caps") (object no_members) no_members) ≡ Err (NoMember (codes "plus"))
plus_before_minus = refl

caps_of_another_form : caps_in [] (member (codes "caps") null no_members) ≡ Err (BadMember (codes "caps"))
caps_of_another_form = refl
