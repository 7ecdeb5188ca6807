-- The list of files and directories says each item.
use Rattle.std.proofs.Common.{◌≡◌, ◌<◌, true, List, [], ◌∷◌, map, Option, Some, option_map, option_and_then, refl, ap, arith}
use Rattle.std.specs.Prelude.{codes}
use Rattle.std.specs.List.{AllByRecursion}
use Rattle.json.specs.Json as json
use Rattle.json.proofs.Printed.Decimals.{IsNumber-decimal}
use Rattle.serde_json.specs.Data.{Num, Data, boolean, number, string, object, Members, no_members, put}
use Rattle.serde_json.specs.Read.{of_members}
use Rattle.serde_json.specs.View.{items_of as data_list}
use Rattle.serde_json.proofs.Numbers.{number_of-decimal}
use Rattle.hex.specs.Hex.{encode_lower}
use Rattle.flow_labels.specs.Names.{AreNames}
use Rattle.flow_labels.specs.TwoLists.{Text}
use Rattle.flow_labels.specs.LabelText.{label_text}
use Rattle.lam_value.specs.declared.names.Name.{Name}
use Rattle.labelled_files.specs.declared.directory.EntryKind.{EntryKind}
use Rattle.labelled_files.specs.declared.directory.EntryKind.TheVariants.{File, Dir}
use Rattle.labelled_files.specs.Trees.{Tree, bytes_at}
use Rattle.world_doc_terms.specs.Breaks.{formed}
use Rattle.world_doc_terms.specs.Numbered.{as_hex}
use Rattle.world_doc_terms.specs.Stores.{Content, a_text}
use Rattle.world_doc_terms.specs.SavedItems.{SaysItem, SayAll}
use Rattle.world_save_terms.specs.Items.{Item, items_of}
use Rattle.world_save_terms.specs.Document.{members_by, item_data}
use Rattle.world_save_laws.specs.TreeLaws.{saved}
use Rattle.world_save_laws.specs.ListLaws.{IsNamed, AreSayable, ItemsAreSaid}
use Rattle.world_save_laws.proofs.PlainLemmas.{IsFlat, flat_list, all_contained}
use Rattle.world_save_laws.proofs.CountLemmas.{label_read}

module _ (names : List Text) (t : Tree) (are : AreNames names) (can : AreSayable names t) where
  record IsSayable (i : Item) : Type 0 where
    own : IsNamed names i.target.name.own
    maker : IsNamed names i.target.name.maker
    few : i.target.name.n < 65536
    spelled : as_hex (string (encode_lower (bytes_at t i.target.name))) ≡ Some (a_text (bytes_at t i.target.name))

  abbrev item_at : Text → EntryKind → Name → Item
  item_at path kind n = record { path = path; target = record { kind = kind; name = n } }

  item_said : (path : Text) (kind : EntryKind) (n : Name) → IsSayable (item_at path kind n) → SaysItem names (members_by names t path n kind) (saved t (item_at path kind n))
  item_said path File n s =
      let ms = members_by names t path n File in
      record {
        path = refl;
        own = label_read names are n.own s.own (codes "label") ms refl;
        maker = label_read names are n.maker s.maker (codes "maker") ms refl;
        number = refl;
        content = ap (λ (o : Option Content). formed (codes "hex") o) s.spelled;
      }
  item_said path Dir n s =
      let ms = members_by names t path n Dir in
      record {
        path = refl;
        own = label_read names are n.own s.own (codes "label") ms refl;
        maker = label_read names are n.maker s.maker (codes "maker") ms refl;
        number = refl;
        content = refl;
      }

  -- what is read after the first members
  abbrev placed : Text → Name → Members → Option Num → Option Data
  placed path n before o =
      option_map object
      (option_and_then (λ d. of_members (json.member (codes "path") (json.string path) json.no_members) (put (codes "number") d (put (codes "maker") (string (label_text names n.maker)) (put (codes "label") (string (label_text names n.own)) before))))
      (option_map number o))

  item_flat : (path : Text) (kind : EntryKind) (n : Name) → n.n < 65536 → IsFlat (object (members_by names t path n kind))
  item_flat path File n few =
      record {
        reads = ap (placed path n (put (codes "hex") (string (encode_lower (bytes_at t n))) no_members)) (number_of-decimal n.n (omega arith));
        numbers = (tt, (tt, (tt, (IsNumber-decimal n.n (omega arith), (tt, tt)))));
        flat = omega arith;
      }
  item_flat path Dir n few =
      record {
        reads = ap (placed path n (put (codes "dir") (boolean true) no_members)) (number_of-decimal n.n (omega arith));
        numbers = (tt, (tt, (tt, (IsNumber-decimal n.n (omega arith), (tt, tt)))));
        flat = omega arith;
      }

  all_said : (is : List Item) → AllByRecursion IsSayable is → SayAll (SaysItem names) (data_list (map (item_data names t) is)) (map (saved t) is)
  all_said [] all = tt
  all_said (i ∷ is) all = ((members_by names t i.path i.target.name i.target.kind, refl, item_said i.path i.target.kind i.target.name all.0), all_said is all.1)

  all_flat : (is : List Item) → AllByRecursion IsSayable is → AllByRecursion IsFlat (map (item_data names t) is)
  all_flat [] all = tt
  all_flat (i ∷ is) all = (item_flat i.path i.target.kind i.target.name (all.0).few, all_flat is all.1)

  all_sayable : AllByRecursion IsSayable (items_of t)
  all_sayable = all_contained IsSayable (items_of t) (λ i c. record { own = (can.named i c).0; maker = (can.named i c).1; few = can.few i c; spelled = can.spelled i c })

pub items_said : ItemsAreSaid
items_said names t are can = (all_said names t are can (items_of t) (all_sayable names t are can), flat_list (map (item_data names t) (items_of t)) (all_flat names t are can (items_of t) (all_sayable names t are can)))
