-- What code has of a document, as the definitions see it.
use Rattle.serde_json.specs.Data.{Data, null, boolean, number, string, array, object, Members, no_members}
use Rattle.world_doc_terms.specs.Tags as tags
use Rattle.world_doc_stores.specs.declared.tags.FirstTags.{FirstTags}

-- the members of a value that was read, none where it is no object
abbrev pub members : Data → Members
members null = no_members
members (boolean b) = no_members
members (number n) = no_members
members (string s) = no_members
members (array ds) = no_members
members (object ms) = ms

-- tags with their names and kinds
abbrev pub tags_seen : FirstTags → tags.FirstTags
tags_seen t = record { names = t.names; kinds = t.kinds.items }
