-- What pens have at the end.
use Rattle.std.proofs.Common.{◌≡◌, ◌+◌, ℕ, Bool, true, false, List, [], ◌∷◌, ◌++◌, length, take, drop, Option, Some, None, refl, sym, ap, ◌∙◌, subst, arith, length-append}
use Rattle.std.specs.Prelude.{is_some, option_map, unwrap_or, decimal}
use Rattle.std.proofs.Math.Seq.{take-length}
use Rattle.flow_labels.specs.TwoLists.{Text}
use Rattle.flow_labels.specs.declared.Label.{Label}
use Rattle.flow_labels.specs.LabelText.{label_text}
use Rattle.json.specs.Print.{escape, escape_byte, quoted}
use Rattle.serde_json.specs.Written.{comma_if, members_text}
use Rattle.lam_value.specs.declared.names.Name.{Name}
use Rattle.labelled_files.specs.declared.directory.EntryKind.{EntryKind}
use Rattle.labelled_files.specs.declared.directory.EntryKind.TheVariants.{File, Dir}
use Rattle.labelled_files.specs.Trees.{Tree}
use Rattle.world_save_terms.specs.Document.{place_members, item_data}
use Rattle.world_save_items.specs.Measures.{capped}
use Rattle.world_save_text.specs.declared.writer.JsonWriter.{JsonWriter}
use Rattle.world_save_text.specs.Writing.{kept, lengthened, Wrote}
use Rattle.world_save_text.specs.Pieces.{item_text, head_text}

none_kept : {V W : Type 0} (f : V → W) (o : Option V) → is_some o ≡ false → option_map f o ≡ None
none_kept f None e = refl
none_kept f (Some x) e = absurd cc

two_more : (xs : List ℕ) → length (34 ∷ (xs ++ 34 ∷ [])) ≡ length xs + 2
two_more xs = let e = length-append xs (34 ∷ []) in omega arith

-- a path that a counting writer does not go over
pub path_counted :
    (old new : JsonWriter) (path : List ℕ) (bytes a b : ℕ) → new.kept ≡ old.kept → is_some old.kept ≡ false → bytes ≡ capped (length (escape path)) → a ≡ capped (old.count + bytes) → b ≡ capped (a + 2) → new.count ≡ b →
    Wrote old new (quoted path)
path_counted old new path bytes a b same none is e f g =
    let n = two_more (escape path) in
    let gone : kept old ≡ None = none_kept (λ v. v.items) old.kept none in
    record {
      count = omega (arith, n, is, e, f, g);
      text = ap (option_map (λ v. v.items)) same ∙ gone ∙ sym (ap (λ o. lengthened o (quoted path)) gone);
    }

-- a writer that counted from 0
pub counted_from_none : (old new : JsonWriter) (text : List ℕ) → old.count ≡ 0 → Wrote old new text → new.count ≡ capped (length text)
counted_from_none old new text none w = let e = w.count in omega (arith, none, e)

-- a writer that kept all that it wrote
pub kept_or : {V : Type 0} (f : V → List ℕ) (o : Option V) (d v : V) (text : List ℕ) → v ≡ unwrap_or o d → option_map f o ≡ Some text → f v ≡ text
kept_or f None d v text e h = absurd cc
kept_or f (Some w) d v text e h = let is : f w ≡ text = cc in ap f e ∙ is

pub kept_text : (old new : JsonWriter) (text : List ℕ) → kept old ≡ Some [] → Wrote old new text → kept new ≡ Some text
kept_text old new text empty w = w.text ∙ ap (λ o. lengthened o text) empty

-- the same text under another name
pub as_quoted : {a b : JsonWriter} {x y : List ℕ} → x ≡ y → Wrote a b (quoted x) → Wrote a b (quoted y)
as_quoted {a} {b} e w = subst (λ t. Wrote a b (quoted t)) e w

pub as_label : (names : List Text) {a b : JsonWriter} {x y : Label} → x ≡ y → Wrote a b (quoted (label_text names x)) → Wrote a b (quoted (label_text names y))
as_label names {a} {b} e w = subst (λ l. Wrote a b (quoted (label_text names l))) e w

pub as_number : {a b : JsonWriter} {x y : ℕ} → x ≡ y → Wrote a b (decimal x) → Wrote a b (decimal y)
as_number {a} {b} e w = subst (λ n. Wrote a b (decimal n)) e w

-- the first of so many bytes as there are
pub all_bytes : (bytes : List ℕ) (n : ℕ) → n ≡ length bytes → take n (drop 0 bytes) ≡ bytes
all_bytes bytes n e = ap (λ k. take k bytes) e ∙ take-length bytes

-- an item: what it is, and what is said of its place
pub item_pieces :
    (names : List Text) (t : Tree) (later : Bool) (path : Text) (kind : EntryKind) (n : Name) {a b : JsonWriter} → Wrote a b (comma_if later ++ (head_text t n kind ++ members_text true (place_members names path n))) →
    Wrote a b (item_text later (item_data names t (record { path = path; target = record { kind = kind; name = n } })))
unfolding escape_byte
item_pieces names t later path File n w = w
item_pieces names t later path Dir n w = w
