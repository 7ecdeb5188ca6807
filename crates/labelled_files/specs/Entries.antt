-- The entries of a directory, and the names that an entry may have.
use Rattle.std.specs.Prelude.{◌≡◌, ℕ, Bool, true, false, cond, not, ◌&&◌, nat_eq, nat_le, List, [], ◌∷◌, length, map, codes, Vec, Option, Some, None, refl}
use Rattle.std.specs.List.{list_any}
use Rattle.std.specs.Cmp.Lexicographic.{pointwise}
use Rattle.lam_value.specs.declared.names.Name.{Name}
use Rattle.labelled_files.specs.declared.directory.Target.{Target}
use Rattle.labelled_files.specs.declared.directory.EntryKind.{EntryKind}
use Rattle.labelled_files.specs.declared.directory.EntryKind.TheVariants.{File, Dir}

abbrev pub text_eq : List ℕ → List ℕ → Bool
text_eq = pointwise nat_eq

-- 1 to 255 bytes without `/` and zero, and neither `.` nor `..`
abbrev pub is_entry_name : List ℕ → Bool
is_entry_name bs =
    nat_le 1 (length bs) && (nat_le (length bs) 255 && (not (list_any (λ b. nat_eq b 47) bs) && (not (list_any (λ b. nat_eq b 0) bs) && (not (text_eq bs (codes ".")) && not (text_eq bs (codes ".."))))))

-- The entries of a directory, in the order of their making: each with its name, and with what it leads to.
abbrev pub Entries : Type 0
Entries = List (List ℕ × Target)

-- an entry of that name, which leads to a thing of that kind and name
abbrev pub entry_of : List ℕ → EntryKind → Name → List ℕ × Target
entry_of text kind name = (text, record { kind = kind; name = name })

-- the entries without the one of that name
abbrev pub without : List ℕ → Entries → Entries
without text [] = []
without text (e ∷ es) = cond (text_eq text e.0) (without text es) (e ∷ without text es)

abbrev pub same_kind : EntryKind → EntryKind → Bool
same_kind File File = true
same_kind File Dir = false
same_kind Dir File = false
same_kind Dir Dir = true

-- the name that an entry leads to, where it is of that kind
abbrev pub name_of_kind : EntryKind → Option Target → Option Name
name_of_kind kind None = None
name_of_kind kind (Some target) = cond (same_kind kind target.kind) (Some target.name) None

-- ---- what is seen of the entries as they are kept
abbrev pub vec_eq : {A : Type 0} → Vec ℕ A → Vec ℕ A → Bool
vec_eq v w = text_eq v.items w.items

abbrev pub entries_of : {A : Type 0} → List (Vec ℕ A × Target) → Entries
entries_of es = map (λ e. (e.0.items, e.1)) es

-- ---- worked examples
plain : is_entry_name (codes "a.b") ≡ true
plain = refl

three_dots : is_entry_name (codes "...") ≡ true
three_dots = refl

slash : is_entry_name (codes "a/b") ≡ false
slash = refl

no_bytes : is_entry_name [] ≡ false
no_bytes = refl

parent : is_entry_name (codes "..") ≡ false
parent = refl
