-- A value by its sort.
use Rattle.std.proofs.Common.{◌≡◌, ℕ, ℤ, Bool, true, List, refl}
use Rattle.lam_value.specs.declared.names.Name.{Name}
use Rattle.lam_value.specs.declared.values.Value.{Value}
use Rattle.lam_value.specs.declared.values.Value.TheVariants.{Int, Bool as Truth, Bytes, Nothing, Obj, Arr, File, Dir, Pipe, Thread, Tag, Lab, CapV}
use Rattle.flow_labels.specs.declared.Label.{Label}
use Rattle.flow_labels.specs.Tags.{Tags}
use Rattle.lam_builtins.specs.Types.{int, bool, nullable}
use Rattle.lam_asks.specs.Suits.{is_of, numbers, truths, byte_texts, tags, labels, capabilities, files, directories, pipes, threads, objects, arrays}
use Rattle.lam_resolve_tree.specs.Tree.{ResolvedType}
use Rattle.lam_meaning_typed.specs.Kinds.{IsA}

-- ---- a value by its sort

pub by_number : (P : Value → Type 0) (v : Value) → is_of numbers v ≡ true → ((z : ℤ) → P (Int z)) → P v
by_number P (Int z) h b = b z
by_number P v h b = absurd cc

pub by_truth : (P : Value → Type 0) (v : Value) → is_of truths v ≡ true → ((b : Bool) → P (Truth b)) → P v
by_truth P (Truth t) h b = b t
by_truth P v h b = absurd cc

pub by_bytes : (P : Value → Type 0) (v : Value) → is_of byte_texts v ≡ true → P Nothing → ((bs : List ℕ) → P (Bytes bs)) → P v
by_bytes P (Bytes bs) h a b = b bs
by_bytes P Nothing h a b = a
by_bytes P v h a b = absurd cc

pub by_tag : (P : Value → Type 0) (v : Value) → is_of tags v ≡ true → P Nothing → ((t : ℕ) → P (Tag t)) → P v
by_tag P (Tag t) h a b = b t
by_tag P Nothing h a b = a
by_tag P v h a b = absurd cc

pub by_label : (P : Value → Type 0) (v : Value) → is_of labels v ≡ true → P Nothing → ((l : Label) → P (Lab l)) → P v
by_label P (Lab l) h a b = b l
by_label P Nothing h a b = a
by_label P v h a b = absurd cc

pub by_caps : (P : Value → Type 0) (v : Value) → is_of capabilities v ≡ true → P Nothing → ((p m : Tags) → P (CapV p m)) → P v
by_caps P (CapV p m) h a b = b p m
by_caps P Nothing h a b = a
by_caps P v h a b = absurd cc

pub by_file : (P : Value → Type 0) (v : Value) → is_of files v ≡ true → P Nothing → ((n : Name) → P (File n)) → P v
by_file P (File n) h a b = b n
by_file P Nothing h a b = a
by_file P v h a b = absurd cc

pub by_dir : (P : Value → Type 0) (v : Value) → is_of directories v ≡ true → P Nothing → ((n : Name) → P (Dir n)) → P v
by_dir P (Dir n) h a b = b n
by_dir P Nothing h a b = a
by_dir P v h a b = absurd cc

pub by_pipe : (P : Value → Type 0) (v : Value) → is_of pipes v ≡ true → P Nothing → ((n : Name) → P (Pipe n)) → P v
by_pipe P (Pipe n) h a b = b n
by_pipe P Nothing h a b = a
by_pipe P v h a b = absurd cc

pub by_thread : (P : Value → Type 0) (v : Value) → is_of threads v ≡ true → P Nothing → ((n : ℕ) → P (Thread n)) → P v
by_thread P (Thread n) h a b = b n
by_thread P Nothing h a b = a
by_thread P v h a b = absurd cc

pub by_object : (P : Value → Type 0) (v : Value) → is_of objects v ≡ true → P Nothing → ((n : Name) → P (Obj n)) → P v
by_object P (Obj n) h a b = b n
by_object P Nothing h a b = a
by_object P v h a b = absurd cc

pub by_array : (P : Value → Type 0) (v : Value) → is_of arrays v ≡ true → P Nothing → ((n : Name) (len : ℕ) → P (Arr n len)) → P v
by_array P (Arr n len) h a b = b n len
by_array P Nothing h a b = a
by_array P v h a b = absurd cc

-- ---- null

pub null_is : (t : ResolvedType) → nullable t ≡ true → IsA t Nothing
null_is int e = absurd cc
null_is bool e = absurd cc
null_is t e = refl
