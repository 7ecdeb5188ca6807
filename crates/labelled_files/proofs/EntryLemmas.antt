-- The entries of a directory against the map in which they are kept.
use Rattle.std.proofs.Common.{◌≡◌, ◌+◌, cond, ℕ, suc, zero, List, [], ◌∷◌, ◌++◌, length, take, slice_get, Option, Some, None, refl, sym, ap, ◌∙◌, add-one, subst, true, false}
use Rattle.std.specs.Option.{option_map, unwrap_or}
use Rattle.std.specs.Map.{lookup, remove_entry, keys_of}
use Rattle.std.specs.List.{IsDistinct, AllByRecursion}
use Rattle.std.specs.Prelude.{Vec}
use Rattle.std.specs.Cmp.Lexicographic.{nat_list_eq_equiv}
use Rattle.indexmap.specs.IndexMap.{IndexMap, insert_entry}
use Rattle.indexmap.proofs.CallerLemmas.{insert_entry-new}
use Rattle.labelled_files.specs.declared.directory.Target.{Target}
use Rattle.labelled_files.specs.Entries.{text_eq, without, vec_eq, entries_of}

module _ {A : Type 0} where
  -- an entry is found by its name
  pub found : (es : List (Vec ℕ A × Target)) (text : List ℕ) → lookup (λ (k : Vec ℕ A). text_eq text k.items) es ≡ lookup (text_eq text) (entries_of es)
  found [] text = refl
  found (e ∷ es) text = ap (cond (text_eq text e.0.items) (Some e.1)) (found es text)

  pub entries_push : (es : List (Vec ℕ A × Target)) (e : Vec ℕ A × Target) → entries_of (es ++ e ∷ []) ≡ entries_of es ++ (e.0.items, e.1) ∷ []
  entries_push [] e = refl
  entries_push (x ∷ es) e = ap (λ l. (x.0.items, x.1) ∷ l) (entries_push es e)

  pub entries_length : (es : List (Vec ℕ A × Target)) → length (entries_of es) ≡ length es
  entries_length [] = refl
  entries_length (e ∷ es) = ap suc (entries_length es)

  -- no entry of that name is among those whose names differ from one that is equal to it
  without_absent : (text first : List ℕ) → text_eq text first ≡ true → (es : List (Vec ℕ A × Target)) → AllByRecursion (λ (y : Vec ℕ A). text_eq first y.items ≡ false) (keys_of es) → without text (entries_of es) ≡ entries_of es
  without_absent text first same [] none = refl
  without_absent text first same (e ∷ es) none =
      ap (λ b. cond b (without text (entries_of es)) ((e.0.items, e.1) ∷ without text (entries_of es))) (nat_list_eq_equiv.congr text first e.0.items same ∙ none.0)
      ∙ ap (λ l. (e.0.items, e.1) ∷ l) (without_absent text first same es none.1)

  -- to take the first entry of a name away takes all of them away
  pub removed : (text : List ℕ) (es : List (Vec ℕ A × Target)) → IsDistinct vec_eq (keys_of es) → entries_of (remove_entry (λ (k : Vec ℕ A). text_eq text k.items) es) ≡ without text (entries_of es)
  unfolding IsDistinct
  removed text [] distinct = refl
  removed text (e ∷ es) distinct =
      elim (text_eq text e.0.items) as (λ b. text_eq text e.0.items ≡ b → entries_of (cond b es (e ∷ remove_entry (λ (k : Vec ℕ A). text_eq text k.items) es)) ≡ cond b (without text (entries_of es)) ((e.0.items, e.1) ∷ without text (entries_of es))) [
        | true ↦ λ same. sym (without_absent text e.0.items same es distinct.0)
        | false ↦ λ _. ap (λ l. (e.0.items, e.1) ∷ l) (removed text es distinct.1)
      ] refl

  all_at : (P : Vec ℕ A → Type 0) (es : List (Vec ℕ A × Target)) (i : ℕ) (k : Vec ℕ A) (v : Target) → AllByRecursion P (keys_of es) → slice_get es i ≡ Some (k, v) → P k
  all_at P [] i k v all at = cc
  all_at P (e ∷ es) zero k v all at = let same : e.0 ≡ k = cc in subst P same all.0
  all_at P (e ∷ es) (suc i) k v all at = all_at P es i k v all.1 at

  -- the entry at a place has another name than all before it
  pub apart : (es : List (Vec ℕ A × Target)) (i : ℕ) (k : Vec ℕ A) (v : Target) → IsDistinct vec_eq (keys_of es) → slice_get es i ≡ Some (k, v) → lookup (text_eq k.items) (entries_of (take i es)) ≡ None
  unfolding IsDistinct
  apart [] i k v distinct at = cc
  apart (e ∷ es) zero k v distinct at = refl
  apart (e ∷ es) (suc i) k v distinct at =
      ap (λ b. cond b (Some e.1) (lookup (text_eq k.items) (entries_of (take i es)))) (nat_list_eq_equiv.symm k.items e.0.items ∙ all_at (λ y. text_eq e.0.items y.items ≡ false) es i k v distinct.0 at)
      ∙ apart es i k v distinct.1 at

  -- a new entry is put at the end
  pub put_last : {S : Type 0} (m : IndexMap (Vec ℕ A) Target S) (new : List (Vec ℕ A × Target)) (k : Vec ℕ A) (v : Target) → new ≡ insert_entry vec_eq m.entries k v → lookup (text_eq k.items) (entries_of m.entries) ≡ None → entries_of new ≡ entries_of m.entries ++ (k.items, v) ∷ []
  put_last m new k v is none = ap entries_of (is ∙ insert_entry-new vec_eq m k v (found m.entries k.items ∙ none)) ∙ entries_push m.entries (k, v)

  taken-suc : (es : List (Vec ℕ A × Target)) (i : ℕ) (k : Vec ℕ A) (v : Target) → slice_get es i ≡ Some (k, v) → entries_of (take (suc i) es) ≡ entries_of (take i es) ++ (k.items, v) ∷ []
  taken-suc [] i k v at = cc
  taken-suc (e ∷ es) zero k v at = let same : e ≡ (k, v) = cc in ap (λ (p : Vec ℕ A × Target). (p.0.items, p.1) ∷ []) same
  taken-suc (e ∷ es) (suc i) k v at = ap (λ l. (e.0.items, e.1) ∷ l) (taken-suc es i k v at)

  -- a step of a copy
  pub copied_more : (es done new : List (Vec ℕ A × Target)) (i : ℕ) (k : Vec ℕ A) (v : Target)
      → slice_get es i ≡ Some (k, v) → entries_of done ≡ entries_of (take i es) → entries_of new ≡ entries_of done ++ (k.items, v) ∷ [] → entries_of new ≡ entries_of (take (i + 1) es)
  copied_more es done new i k v at so_far is =
      is ∙ ap (λ xs. xs ++ (k.items, v) ∷ []) so_far
      ∙ sym (ap (λ n. entries_of (take n es)) (add-one i) ∙ taken-suc es i k v at)

  -- ---- two compared
  pub alike_more : (es fs : List (Vec ℕ A × Target)) (i : ℕ) (k l : Vec ℕ A) (v w : Target) → slice_get es i ≡ Some (k, v) → slice_get fs i ≡ Some (l, w) → k.items ≡ l.items → v ≡ w
      → entries_of (take i es) ≡ entries_of (take i fs) → entries_of (take (i + 1) es) ≡ entries_of (take (i + 1) fs)
  alike_more es fs i k l v w at there same_key same so_far =
      ap (λ n. entries_of (take n es)) (add-one i) ∙ taken-suc es i k v at
      ∙ (λ j. so_far j ++ (same_key j, same j) ∷ [])
      ∙ sym (ap (λ n. entries_of (take n fs)) (add-one i) ∙ taken-suc fs i l w there)

  entry_at : (es : List (Vec ℕ A × Target)) (i : ℕ) (k : Vec ℕ A) (v : Target) → slice_get es i ≡ Some (k, v) → slice_get (entries_of es) i ≡ Some (k.items, v)
  entry_at [] i k v at = cc
  entry_at (e ∷ es) zero k v at = let same : e ≡ (k, v) = cc in ap (λ (p : Vec ℕ A × Target). Some (p.0.items, p.1)) same
  entry_at (e ∷ es) (suc i) k v at = entry_at es i k v at

  pub entry_seen : (es : List (Vec ℕ A × Target)) (i : ℕ) → option_map (λ (e : Vec ℕ A × Target). (e.0.items, e.1)) (slice_get es i) ≡ slice_get (entries_of es) i
  entry_seen [] i = refl
  entry_seen (e ∷ es) zero = refl
  entry_seen (e ∷ es) (suc i) = entry_seen es i

  pub alike_there : (es fs : List (Vec ℕ A × Target)) (i : ℕ) (k l : Vec ℕ A) (v w : Target) → slice_get es i ≡ Some (k, v) → slice_get fs i ≡ Some (l, w) → entries_of es ≡ entries_of fs → (k.items ≡ l.items) × (v ≡ w)
  alike_there es fs i k l v w at there same =
      let one : ◌≡◌ {A = Option (List ℕ × Target)} (Some (k.items, v)) (Some (l.items, w)) = sym (entry_at es i k v at) ∙ ap (λ xs. slice_get xs i) same ∙ entry_at fs i l w there in
      let pair : ◌≡◌ {A = List ℕ × Target} (k.items, v) (l.items, w) = ap (λ o. unwrap_or o (k.items, v)) one in
      (ap (λ p. p.0) pair, ap (λ p. p.1) pair)
