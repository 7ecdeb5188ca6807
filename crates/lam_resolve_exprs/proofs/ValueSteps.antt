-- Parts of expressions, as the code finds them.
use Rattle.std.proofs.Common.{◌≡◌, ℕ, ◌+◌, ◌<◌, List, [], ◌∷◌, ◌++◌, length, drop, get_or, Option, Some, None, IsSome, is_some, slice_get, refl, sym, ap, ◌∙◌, Bor}
use Rattle.std.specs.Option.{option_map}
use Rattle.std.proofs.lemmas.Option.{slice_get-map}
use Rattle.lam_syntax.specs.Tree.{CapTree, cap_tree as written_cap, caps_tree as written_caps}
use Rattle.lam_operators.specs.Words.{Word}
use Rattle.lam_builtins.specs.Types.{int, bool, bytes, tag, label, caps, file, dir, pipe, thread, object, array, a_value, a_null, nothing}
use Rattle.lam_builtins.specs.declared.Builtin.{Builtin}
use Rattle.lam_resolve_tree.specs.Tree.{ResolvedType, ResolvedGiven, Expression, field_of, call_of, cap_tree, caps_tree}
use Rattle.lam_resolve_tree.specs.declared.CapItem.{CapItem as CapSlotItem}
use Rattle.lam_syntax.specs.declared.CapItem.{CapItem}
use Rattle.lam_resolve_tables.specs.Resolved.{then_some, Found, found, Locals, local_named, Value, value_as, Tables, field_read, Args, called, resolve_caps}
use Rattle.lam_resolve_tables.specs.declared.kinds.Kind.{Kind}
use Rattle.lam_resolve_exprs.specs.declared.values.Local.{Local}
use Rattle.lam_resolve_tables.specs.declared.named.Named.{Named}
use Rattle.lam_resolve_tables.specs.Entries.{entries_of}
use Rattle.lam_resolve_tables.specs.Kinds.{kind_type, class_given}
use Rattle.lam_resolve_tables.specs.Named.{seen_found}
use Rattle.lam_resolve_tables.specs.Tables.{fields, all_fields, head, heads}
use Rattle.lam_resolve_tables.specs.declared.tables.FunctionSignature.{FunctionSignature as FunctionHead}
use Rattle.lam_resolve_exprs.specs.Values.{local, locals, called_seen, cap_at}
use Rattle.lam_resolve_tables.proofs.Options.{seen_it, found_seen, first_some, next_some, goes, then_map, one_more}

it_of : (o : Option (Found Local)) → then_some (option_map (seen_it local) o) (λ l. Some l.it) ≡ option_map local (option_map (λ f. f.it) o)
unfolding then_some
it_of None = refl
it_of (Some f) = refl

-- the first entry of a name in scope
pub local_first : (n : Named Local) (x : Word) → local_named (locals n) x ≡ option_map local (option_map (λ f. f.it) (found x (entries_of n)))
local_first n x = ap (λ o. then_some o (λ l. Some l.it)) (found_seen local 0 x (entries_of n)) ∙ it_of (found x (entries_of n))

pub local_found : (n : Named Local) (x : Word) (r : Option (ℕ × Bor Local)) → seen_found r ≡ found x (entries_of n) → option_map local (option_map (λ f. f.it) (seen_found r)) ≡ local_named (locals n) x
local_found n x r e = ap (λ o. option_map local (option_map (λ f. f.it) o)) e ∙ sym (local_first n x)

inside : (x : Word) (o : Option (Named Kind)) → then_some o (λ n. found x (fields n)) ≡ then_some o (λ n. option_map (seen_it kind_type) (found x (entries_of n)))
unfolding then_some
inside x None = refl
inside x (Some n) = found_seen kind_type 0 x (entries_of n)

-- the field of a class
pub fields_found : (cs : List (Named Kind)) (c : ℕ) (x : Word) → then_some (slice_get (all_fields cs) c) (λ fs. found x fs) ≡ then_some (slice_get cs c) (λ n. option_map (seen_it kind_type) (found x (entries_of n)))
fields_found cs c x = ap (λ o. then_some o (λ fs. found x fs)) (slice_get-map fields cs c) ∙ then_map fields (slice_get cs c) (λ fs. found x fs) ∙ inside x (slice_get cs c)

pub field_none : (cs : List (Named Kind)) (c : ℕ) (x : Word) → slice_get cs c ≡ None → None ≡ then_some (slice_get (all_fields cs) c) (λ fs. found x fs)
unfolding then_some
field_none cs c x e = sym (fields_found cs c x ∙ ap (λ o. then_some o (λ n. option_map (seen_it kind_type) (found x (entries_of n)))) e)

pub field_some : (cs : List (Named Kind)) (c : ℕ) (x : Word) (n : Named Kind) (r : Option (ℕ × Bor Kind)) → Some n ≡ slice_get cs c → seen_found r ≡ found x (entries_of n) →
    option_map (seen_it kind_type) (seen_found r) ≡ then_some (slice_get (all_fields cs) c) (λ fs. found x fs)
field_some cs c x n r e h = ap (option_map (seen_it kind_type)) h ∙ sym (fields_found cs c x ∙ goes (slice_get cs c) n (λ n. option_map (seen_it kind_type) (found x (entries_of n))) e)

module _ (t : Tables) (e : Expression) (f : Word) where
  abbrev pub read_at : ℕ → Option Value
  read_at c = then_some (then_some (slice_get t.classes c) (λ fs. found f fs)) (λ p. Some (value_as (field_of e c p.number p.it) (a_value p.it)))

  read_as : (c : ℕ) (o : Option (List (Word × ResolvedType))) → then_some o (λ fs. then_some (found f fs) (λ p. Some (value_as (field_of e c p.number p.it) (a_value p.it)))) ≡
      then_some (then_some o (λ fs. found f fs)) (λ p. Some (value_as (field_of e c p.number p.it) (a_value p.it)))
  unfolding then_some
  read_as c None = refl
  read_as c (Some fs) = refl

  pub read_chain : (g : ResolvedGiven) → field_read t e g f ≡ then_some (class_given g) read_at
  unfolding then_some
  read_chain (a_value (object c)) = read_as c (slice_get t.classes c)
  read_chain (a_value int) = refl
  read_chain (a_value bool) = refl
  read_chain (a_value bytes) = refl
  read_chain (a_value tag) = refl
  read_chain (a_value label) = refl
  read_chain (a_value caps) = refl
  read_chain (a_value file) = refl
  read_chain (a_value dir) = refl
  read_chain (a_value pipe) = refl
  read_chain (a_value thread) = refl
  read_chain (a_value (array u)) = refl
  read_chain a_null = refl
  read_chain nothing = refl

  pub read_needs : (g : ResolvedGiven) (c : ℕ) → Some c ≡ class_given g → IsSome (field_read t e g f) → IsSome (then_some (slice_get t.classes c) (λ fs. found f fs))
  read_needs g c i h =
      first_some (then_some (slice_get t.classes c) (λ fs. found f fs)) (λ p. Some (value_as (field_of e c p.number p.it) (a_value p.it)))
      (next_some (class_given g) c read_at i (sym (ap is_some (read_chain g)) ∙ h))

  pub read_done : (g : ResolvedGiven) (c : ℕ) (p : Found ResolvedType) → Some c ≡ class_given g → Some p ≡ then_some (slice_get t.classes c) (λ fs. found f fs) → Some (value_as (field_of e c p.number p.it) (a_value p.it)) ≡ field_read t e g f
  read_done g c p i j =
      sym (read_chain g ∙ goes (class_given g) c read_at i ∙ goes (then_some (slice_get t.classes c) (λ fs. found f fs)) p (λ p. Some (value_as (field_of e c p.number p.it) (a_value p.it))) j)

-- a call of a declared function
module _ (t : Tables) (f : Word) (a : Args) where
  called_chain : called t None f a ≡ then_some (option_map called_seen (found f t.functions)) (λ p. Some (value_as (call_of p.number a.it) p.it))
  called_chain = sym (then_map called_seen (found f t.functions) (λ p. Some (value_as (call_of p.number a.it) p.it)))

  pub called_needs : (b : Option Builtin) → b ≡ None → IsSome (called t b f a) → IsSome (option_map called_seen (found f t.functions))
  called_needs b e h =
      first_some (option_map called_seen (found f t.functions)) (λ p. Some (value_as (call_of p.number a.it) p.it)) (sym (ap is_some (ap (λ b. called t b f a) e ∙ called_chain)) ∙ h)

  pub called_done : (b : Option Builtin) (p : Found ResolvedGiven) → b ≡ None → Some p ≡ option_map called_seen (found f t.functions) → Some (value_as (call_of p.number a.it) p.it) ≡ called t b f a
  called_done b p e h = sym (ap (λ b. called t b f a) e ∙ called_chain ∙ goes (option_map called_seen (found f t.functions)) p (λ p. Some (value_as (call_of p.number a.it) p.it)) h)

pub heads_found : (n : Named FunctionHead) (x : Word) (r : Option (ℕ × Bor FunctionHead)) → seen_found r ≡ found x (entries_of n) → found x (heads n) ≡ option_map (seen_it head) (seen_found r)
heads_found n x r e = found_seen head 0 x (entries_of n) ∙ ap (option_map (seen_it head)) (sym e)

pub function_found : (n : Named FunctionHead) (x : Word) (r : Option (ℕ × Bor FunctionHead)) → seen_found r ≡ found x (entries_of n) → option_map called_seen (option_map (seen_it head) (seen_found r)) ≡ option_map called_seen (found x (heads n))
function_found n x r e = ap (λ o. option_map called_seen (option_map (seen_it head) o)) e ∙ sym (ap (option_map called_seen) (found_seen head 0 x (entries_of n)))

-- tags
pub cap_needs : (ls : Locals) (x : CapTree) (xs : List CapTree) → IsSome (resolve_caps ls (x ∷ xs)) → IsSome (local_named ls x.name.word)
cap_needs ls x xs h = first_some (local_named ls x.name.word) (λ l. then_some (resolve_caps ls xs) (λ cs. Some (cap_at l.slot x.plus ∷ cs))) h

pub caps_step : (ls : Locals) (xs : List CapItem) (i : ℕ) (x : CapItem) → i < length xs → x ≡ get_or xs i x →
    resolve_caps ls (written_caps (drop i xs)) ≡ then_some (option_map (λ l. cap_at l.slot (written_cap x).plus) (local_named ls (written_cap x).name.word)) (λ c. then_some (resolve_caps ls (written_caps (drop (i + 1) xs))) (λ cs. Some (c ∷ cs)))
caps_step ls xs i x lt is =
    ap (λ l. resolve_caps ls (written_caps l)) (one_more xs i x lt is) ∙
    sym (then_map (λ l. cap_at l.slot (written_cap x).plus) (local_named ls (written_cap x).name.word) (λ c. then_some (resolve_caps ls (written_caps (drop (i + 1) xs))) (λ cs. Some (c ∷ cs))))

pub caps_push : (cs : List CapSlotItem) (c : CapSlotItem) → caps_tree (cs ++ c ∷ []) ≡ caps_tree cs ++ cap_tree c ∷ []
caps_push [] c = refl
caps_push (d ∷ cs) c = ap (λ l. cap_tree d ∷ l) (caps_push cs c)
