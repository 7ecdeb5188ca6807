-- The maps in which files are kept against what is seen of them.
use Rattle.std.proofs.Common.{◌≡◌, cond, List, Option, Result, Ok, Some, None, is_some, refl, sym, ap, subst, ◌∙◌}
use Rattle.std.specs.Prelude.{option_and_then, IfOk}
use Rattle.std.specs.Option.{option_map, unwrap_or}
use Rattle.std.specs.Map.{lookup}
use Rattle.std.specs.FinMap.{FinMap, get, insert, same_map}
use Rattle.lam_value.specs.declared.names.Name.{Name}
use Rattle.lam_value.specs.Names.{name_cmp}
use Rattle.lam_value.specs.Maps.{seen_at}
use Rattle.lam_value.proofs.Keys.{name_eq, name_total, name_exact, name_ties}
use Rattle.lam_value.proofs.Maps.{get_seen, seen_insert, insert_same}
use Rattle.labelled_files.specs.Trees.{changed, changed_at}

is_some_map : {X Y : Type 0} (f : X → Y) (o : Option X) → is_some o ≡ is_some (option_map f o)
is_some_map f None = refl
is_some_map f (Some x) = refl

-- one map by name, whose values are seen through f
module _ {X Y : Type 0} (f : X → Y) (es : List (Name × X)) where
  abbrev seen : List (Name × X) → FinMap name_cmp Y
  seen l = seen_at name_cmp f l

  pub got : (n : Name) → get (seen es) n ≡ option_map f (lookup (name_eq n) es)
  got n = get_seen name_cmp name_eq f name_total name_exact name_ties es n

  pub lives_seen : (n : Name) → is_some (lookup (name_eq n) es) ≡ is_some (get (seen es) n)
  lives_seen n = is_some_map f (lookup (name_eq n) es) ∙ ap is_some (sym (got n))

  pub got_none : (n : Name) → lookup (name_eq n) es ≡ None → get (seen es) n ≡ None
  got_none n e = got n ∙ ap (option_map f) e

  pub got_some : (n : Name) (x : X) → lookup (name_eq n) es ≡ Some x → get (seen es) n ≡ Some (f x)
  got_some n x e = got n ∙ ap (option_map f) e

  pub none_there : (n : Name) (d : Y) → lookup (name_eq n) es ≡ None → d ≡ unwrap_or (get (seen es) n) d
  none_there n d e = sym (ap (λ o. unwrap_or o d) (got_none n e))

  pub some_there : (n : Name) (d : Y) (x : X) → lookup (name_eq n) es ≡ Some x → f x ≡ unwrap_or (get (seen es) n) d
  some_there n d x e = sym (ap (λ o. unwrap_or o d) (got_some n x e))

  -- nothing of that name: nothing changes
  pub unwritten : (fs : List (Name × X)) (n : Name) (change : Y → Y) → fs ≡ es → lookup (name_eq n) es ≡ None → seen fs ≡ changed_at (seen es) n change
  unwritten fs n change e none = ap seen e ∙ sym (ap (λ o. changed o (seen es) n change) (got_none n none))

  -- what is kept under a name was changed
  pub written : (fs : List (Name × X)) (n : Name) (x y : X) (change : Y → Y) → lookup (name_eq n) es ≡ Some x → f y ≡ change (f x)
      → ((q : Name) → lookup (name_eq q) fs ≡ cond (name_eq n q) (Some y) (lookup (name_eq q) es)) → seen fs ≡ changed_at (seen es) n change
  written fs n x y change there is put =
      seen_insert name_cmp name_eq f name_total name_exact name_ties es fs n y put
      ∙ ap (insert (seen es) n) is
      ∙ sym (ap (λ o. changed o (seen es) n change) (got_some n x there))

  -- what was put back is seen as what was there
  pub rewritten : (fs : List (Name × X)) (n : Name) (x y : X) → lookup (name_eq n) es ≡ Some x → f y ≡ f x
      → ((q : Name) → lookup (name_eq q) fs ≡ cond (name_eq n q) (Some y) (lookup (name_eq q) es)) → seen fs ≡ seen es
  rewritten fs n x y there is put =
      seen_insert name_cmp name_eq f name_total name_exact name_ties es fs n y put
      ∙ ap (insert (seen es) n) is
      ∙ insert_same name_cmp name_total name_exact (seen es) n (f x) (got_some n x there)

  -- one more
  pub added : (fs : List (Name × X)) (n k : Name) (x : X) (y : Y) → k ≡ n → f x ≡ y
      → ((q : Name) → lookup (name_eq q) fs ≡ cond (name_eq k q) (Some x) (lookup (name_eq q) es)) → seen fs ≡ insert (seen es) n y
  added fs n k x y named is put =
      seen_insert name_cmp name_eq f name_total name_exact name_ties es fs k x put
      ∙ (λ i. insert (seen es) (named i) (is i))

  map_then : (o : Option X) → option_and_then (λ x. Some (f x)) o ≡ option_map f o
  map_then None = refl
  map_then (Some x) = refl

  -- a copy is seen alike
  pub alike : (fs : List (Name × X)) → ((q : Name) → option_and_then (λ x. Some (f x)) (lookup (name_eq q) fs) ≡ option_and_then (λ x. Some (f x)) (lookup (name_eq q) es)) → seen fs ≡ seen es
  alike fs h =
      same_map name_total name_exact _ _ (λ q. get_seen name_cmp name_eq f name_total name_exact name_ties fs q ∙ sym (map_then (lookup (name_eq q) fs)) ∙ h q ∙ map_then (lookup (name_eq q) es) ∙ sym (got q))

-- what holds of a value where it was made
pub made_so : {X E : Type 0} {r : Result X E} {x : X} → r ≡ Ok x → (P : X → Type 0) → IfOk r P → P x
made_so e P h = subst (λ r. IfOk r P) e h
