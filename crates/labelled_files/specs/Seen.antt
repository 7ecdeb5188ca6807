-- What is seen of the maps in which files are kept.
use Rattle.std.specs.Prelude.{◌≡◌, Bool, ℕ, List, [], unwrap_or}
use Rattle.std.specs.Map.{lookup}
use Rattle.std.specs.FinMap.{FinMap, get}
use Rattle.lam_value.specs.declared.names.Name.{Name}
use Rattle.lam_value.specs.Names.{name_cmp}
use Rattle.lam_value.specs.Homes.{Counts}
use Rattle.lam_value.specs.Maps.{seen_at}
use Rattle.lam_value.specs.Alike.{AreAlikeWhere}
use Rattle.lam_value.specs.Names.{name_eq}
use Rattle.labelled_files.specs.declared.directory.Directory.{Directory}
use Rattle.labelled_files.specs.declared.contents.Contents.{Contents}
use Rattle.labelled_files.specs.Entries.{Entries, entries_of}
use Rattle.labelled_files.specs.Trees.{Tree}

abbrev pub shown : Directory → Entries
shown d = entries_of d.entries.entries

abbrev pub held : Contents → List ℕ
held c = c.bytes.items

abbrev pub dirs_of : List (Name × Directory) → FinMap name_cmp Entries
dirs_of es = seen_at name_cmp shown es

abbrev pub files_of : List (Name × Contents) → FinMap name_cmp (List ℕ)
files_of es = seen_at name_cmp held es

-- the entries of a directory, none where it is not there
abbrev pub at : List (Name × Directory) → Name → Entries
at es dir = unwrap_or (get (dirs_of es) dir) []

abbrev pub tree_of : List (Name × Directory) → List (Name × Contents) → Counts → Name → Tree
tree_of ds fs counts root = record {
  dirs = dirs_of ds;
  files = files_of fs;
  counts = counts;
  root = root;
}

-- two maps that are seen alike at the names that pass
abbrev pub SameDirs : (Name → Bool) → List (Name × Directory) → List (Name × Directory) → Type 0
SameDirs sees es fs = AreAlikeWhere sees (λ (d e : Directory). shown d ≡ shown e) (λ q. lookup (name_eq q) es) (λ q. lookup (name_eq q) fs)

abbrev pub SameFiles : (Name → Bool) → List (Name × Contents) → List (Name × Contents) → Type 0
SameFiles sees es fs = AreAlikeWhere sees (λ (c d : Contents). held c ≡ held d) (λ q. lookup (name_eq q) es) (λ q. lookup (name_eq q) fs)
