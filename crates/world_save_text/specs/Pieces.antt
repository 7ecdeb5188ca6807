-- The pieces of a document's text.
use Rattle.std.specs.Prelude.{ℕ, Bool, false, true, List, [], ◌∷◌, ◌++◌, codes}
use Rattle.json.specs.Token.{boolean}
use Rattle.json.specs.Print.{quoted, token_text}
use Rattle.serde_json.specs.Data.{Data}
use Rattle.serde_json.specs.View.{items_of as data_list}
use Rattle.serde_json.specs.Written.{comma_if, compact_text, items_text}
use Rattle.flow_labels.specs.TwoLists.{Text}
use Rattle.hex.specs.Hex.{encode_lower}
use Rattle.lam_value.specs.declared.names.Name.{Name}
use Rattle.labelled_files.specs.declared.directory.EntryKind.{EntryKind}
use Rattle.labelled_files.specs.declared.directory.EntryKind.TheVariants.{File, Dir}
use Rattle.labelled_files.specs.Trees.{Tree, bytes_at}
use Rattle.world_save_terms.specs.Document.{Parts, version_data, list_text, member_text}

-- an item of a list, after a comma where others stand before it
abbrev pub item_text : Bool → Data → Text
item_text later d = comma_if later ++ compact_text d

-- the items of a list that are still to be written, with its end
abbrev pub items_left : Bool → List Data → Text
items_left later ds = items_text later (data_list ds)

-- the bytes of a file, before what is said of its place
abbrev pub bytes_text : List ℕ → Text
bytes_text bytes = 123 ∷ (quoted (codes "hex") ++ 58 ∷ quoted (encode_lower bytes))

-- what a file or directory is, before what is said of its place
abbrev pub head_text : Tree → Name → EntryKind → Text
head_text t n File = bytes_text (bytes_at t n)
head_text t n Dir = 123 ∷ (quoted (codes "dir") ++ 58 ∷ token_text (boolean true))

-- what stands after the counters, where the texts of `pipes` and of `threads` are these
abbrev pub after_counts : Parts → Text → Text → Text
after_counts p pipes threads =
    member_text true (codes "pipes") pipes (member_text true (codes "tags") (list_text p.tags) (member_text true (codes "threads") threads (member_text true (codes "tree") (list_text p.tree) (member_text true (codes "version") (compact_text version_data) (125 ∷ [])))))
