-- A list, item after item.
use Rattle.std.proofs.Common.{◌≡◌, ◌+◌, ◌≤◌, ◌<◌, ℕ, zero, suc, Bool, true, false, List, [], ◌∷◌, ◌++◌, map, length, drop, get_or, slice_get, Some, None, refl, sym, ap, ◌∙◌, subst, arith, append_assoc, add-one}
use Rattle.std.specs.Prelude.{Result, OnOk, nat_lt}
use Rattle.std.proofs.lemmas.Bool.Decides.{nat_tests}
use Rattle.json.specs.Print.{escape}
use Rattle.serde_json.specs.Data.{Data}
use Rattle.serde_json.specs.View.{items_of as data_list}
use Rattle.serde_json.specs.Written.{comma_if, compact_text}
use Rattle.flow_labels.specs.TwoLists.{Text}
use Rattle.capabilities.specs.declared.Caps.{Caps}
use Rattle.capabilities.specs.declared.kinds.TagKind.{TagKind}
use Rattle.labelled_files.specs.Trees.{Tree}
use Rattle.world_save_terms.specs.Document.{kind_at, tag_data, tags_from, item_data}
use Rattle.world_save_items.specs.Measures.{capped}
use Rattle.world_save_items.specs.Steps.{Found, found, path_of, items_from, AreMeasured}
use Rattle.world_save_items.specs.declared.traversal.Step.{Step}
use Rattle.world_save_text.specs.declared.writer.JsonWriter.{JsonWriter}
use Rattle.world_save_text.specs.Writing.{Wrote}
use Rattle.world_save_text.proofs.Writings.{HasWritten, one_written, all_written, mapped}
use Rattle.world_save_text.specs.Pieces.{item_text, items_left}

item_split : (later : Bool) (d : Data) (ds : List Data) → items_left later (d ∷ ds) ≡ item_text later d ++ items_left true ds
item_split later d ds = sym (append_assoc (comma_if later) (compact_text d) (items_left true ds))

-- one item more was written
pub next_item :
    (old now new : JsonWriter) (all : Text) (later : Bool) (left : List Data) (d : Data) (ds : List Data) → left ≡ d ∷ ds → HasWritten old now all (items_left later left) → Wrote now new (item_text later d) →
    HasWritten old new all (items_left true ds)
next_item old now new all later left d ds e h w = one_written (items_left true ds) h w (ap (items_left later) e ∙ item_split later d ds)

-- no item is left, and the end was written
pub list_end :
    {X E : Type 0} (res : Result X E) (old now new : JsonWriter) (all : Text) (later : Bool) (left : List Data) → left ≡ [] → HasWritten old now all (items_left later left) → OnOk res (Wrote now new (93 ∷ [])) →
    OnOk res (Wrote old new all)
list_end res old now new all later left e h ends = mapped res ends (λ w. all_written (one_written [] h w (ap (items_left later) e)) refl)

-- ---- what is left, of a list of anything

module _ {X : Type 0} (xs : List X) (i : ℕ) where
  pub from_place : (x : X) → i < length xs → x ≡ get_or xs i x → drop i xs ≡ x ∷ drop (i + 1) xs
  from_place x less is = by xs i less is ∙ ap (λ n. x ∷ drop n xs) (sym (add-one i))
    where
      by : (ys : List X) (j : ℕ) → j < length ys → x ≡ get_or ys j x → drop j ys ≡ x ∷ drop (suc j) ys
      by [] j l e = absurd (omega (arith, l))
      by (y ∷ ys) zero l e = ap (λ z. z ∷ ys) (sym e)
      by (y ∷ ys) (suc j) l e = by ys j (omega (arith, l)) e

  pub past_end : length xs ≤ i → drop i xs ≡ []
  past_end le = by xs i le
    where
      by : (ys : List X) (j : ℕ) → length ys ≤ j → drop j ys ≡ []
      by [] zero l = refl
      by [] (suc j) l = refl
      by (y ∷ ys) zero l = absurd (omega (arith, l))
      by (y ∷ ys) (suc j) l = by ys j (omega (arith, l))

-- ---- tags

positive : (n : ℕ) → true ≡ nat_lt 0 (n + 1)
positive n = sym (grind (arith, nat_tests))

module _ (public : Caps) (names : List Text) (at : ℕ) where
  pub tags_next : (name : Text) → Some name ≡ slice_get names at → tags_from public at (drop at names) ≡ tag_data name (kind_at public at) ∷ tags_from public (at + 1) (drop (at + 1) names)
  tags_next name e = ap (tags_from public at) (by names at e) ∙ ap (λ n. tag_data name (kind_at public at) ∷ tags_from public n (drop n names)) (sym (add-one at))
    where
      by : (ns : List Text) (j : ℕ) → Some name ≡ slice_get ns j → drop j ns ≡ name ∷ drop (suc j) ns
      by [] j f = absurd cc
      by (n ∷ ns) zero f = let same : n ≡ name = cc in ap (λ m. m ∷ ns) same
      by (n ∷ ns) (suc j) f = by ns j f

  -- a tag by its name, whichever name is found for it
  pub tag_at :
      {X E : Type 0} (res : Result X E) (now new : JsonWriter) (name : Text) (later : Bool) (kind : TagKind) → later ≡ nat_lt 0 at → kind ≡ kind_at public at → Some name ≡ slice_get names at → OnOk res (Wrote now new (item_text later (tag_data name kind))) →
      OnOk res ((other : Text) → Some other ≡ slice_get names at → Wrote now new (item_text (nat_lt 0 at) (tag_data other (kind_at public at))))
  tag_at res now new name later kind l k e h =
      mapped res h (λ w other f.
      let same : name ≡ other = cc in
      subst (λ n. Wrote now new (item_text (nat_lt 0 at) (tag_data n (kind_at public at)))) same
      (subst (λ b. Wrote now new (item_text b (tag_data name (kind_at public at)))) l (subst (λ x. Wrote now new (item_text later (tag_data name x))) k w)))

  name_there : at < length names → (name : Text) × (Some name ≡ slice_get names at)
  name_there less = by names at less
    where
      by : (ns : List Text) (j : ℕ) → j < length ns → (name : Text) × (Some name ≡ slice_get ns j)
      by [] j l = absurd (omega (arith, l))
      by (n ∷ ns) zero l = (n, refl)
      by (n ∷ ns) (suc j) l = by ns j (omega (arith, l))

  pub tag_written :
      at < length names → (old now new : JsonWriter) (all : Text) → HasWritten old now all (items_left (nat_lt 0 at) (tags_from public at (drop at names))) →
      ((name : Text) → Some name ≡ slice_get names at → Wrote now new (item_text (nat_lt 0 at) (tag_data name (kind_at public at)))) →
      HasWritten old new all (items_left (nat_lt 0 (at + 1)) (tags_from public (at + 1) (drop (at + 1) names)))
  tag_written less old now new all h w =
      let n = name_there less in
      subst (λ b. HasWritten old new all (items_left b (tags_from public (at + 1) (drop (at + 1) names)))) (positive at)
      (next_item old now new all (nat_lt 0 at) (tags_from public at (drop at names)) (tag_data n.0 (kind_at public at)) (tags_from public (at + 1) (drop (at + 1) names)) (tags_next n.0 n.1) h (w n.0 n.1))

  pub no_tags : length names ≤ at → tags_from public at (drop at names) ≡ []
  no_tags past = ap (tags_from public at) (past_end names at past)

pub no_tag_at : (P : Text → Type 0) (names : List Text) (at : ℕ) → None ≡ slice_get names at → (name : Text) → Some name ≡ slice_get names at → P name
no_tag_at P names at none name e = absurd (apart (e ∙ sym none))
  where
    apart : Some name ≡ None → ⊥
    apart f = cc

-- ---- files and directories

module _ (names : List Text) (t : Tree) (steps : List Step) (i : ℕ) (step : Step) (less : i < length steps) (is : step ≡ get_or steps i step) (path : Text) where
  abbrev rest : List Found
  rest = map found (drop (i + 1) steps)

  here : map found (drop i steps) ≡ found step ∷ map found (drop (i + 1) steps)
  here = ap (map found) (from_place steps i step less is)

  module _ (new_path : Text) (e : new_path ≡ path_of path (found step)) (measured : AreMeasured path (map found (drop i steps))) where
    both_measured : AreMeasured path (found step ∷ map found (drop (i + 1) steps))
    both_measured = subst (AreMeasured path) here measured

    pub measured_here : step.bytes ≡ capped (length (escape new_path))
    measured_here = both_measured.0 ∙ ap (λ p. capped (length (escape p))) (sym e)

    pub measured_more : AreMeasured new_path (map found (drop (i + 1) steps))
    measured_more = subst (λ p. AreMeasured p (map found (drop (i + 1) steps))) (sym e) both_measured.1

  pub item_written :
      (old now new : JsonWriter) (all : Text) (later : Bool) (new_path written : Text) → new_path ≡ path_of path (found step) → written ≡ new_path →
      HasWritten old now all (items_left later (map (item_data names t) (items_from path (map found (drop i steps))))) →
      Wrote now new (item_text later (item_data names t (record { path = written; target = record { kind = step.kind; name = step.name.now } }))) →
      HasWritten old new all (items_left true (map (item_data names t) (items_from new_path (map found (drop (i + 1) steps)))))
  item_written old now new all later new_path written e f h w =
      next_item old now new all later _ (item_data names t (record { path = new_path; target = record { kind = step.kind; name = step.name.now } })) (map (item_data names t) (items_from new_path (map found (drop (i + 1) steps))))
      (ap (λ fs. map (item_data names t) (items_from path fs)) here
      ∙ ap (λ p. item_data names t (record { path = p; target = record { kind = step.kind; name = step.name.now } }) ∷ map (item_data names t) (items_from p (map found (drop (i + 1) steps)))) (sym e))
      h (subst (λ p. Wrote now new (item_text later (item_data names t (record { path = p; target = record { kind = step.kind; name = step.name.now } })))) f w)

pub no_items : (names : List Text) (t : Tree) (steps : List Step) (i : ℕ) (path : Text) → length steps ≤ i → map (item_data names t) (items_from path (map found (drop i steps))) ≡ []
no_items names t steps i path past = ap (λ ss. map (item_data names t) (items_from path (map found ss))) (past_end steps i past)
