-- What ties a scope by names to the slots, and a program's declarations to their numbers.
use Rattle.std.proofs.Common.{◌≡◌, ℕ, ◌<◌, Bool, List, map, Option, Some, None}
use Rattle.std.specs.Prelude.{slice_get}
use Rattle.lam_operators.specs.Words.{Word}
use Rattle.lam_builtins.specs.Types.{ValueType}
use Rattle.lam_builtins.specs.Builtins.{Signature, Answer, answers, no_answer, as_first}
use Rattle.lam_types_kinds.specs.Tables.{Names, Decls, find}
use Rattle.region_check.specs.Legal.{IsReached}
use Rattle.lam_resolve_tree.specs.Tree.{ResolvedType}
use Rattle.lam_resolve_tree.specs.Typing.{ResolvedSignature, ResolvedSignatures, Use, a_local, Scope, exact_places}
use Rattle.lam_resolve_laws.specs.Resolved.{Found, found, numbered, types_of, Tables, Local, Locals}
use Rattle.lam_resolve_laws.proofs.Has.{Has}
use Rattle.lam_resolve_laws.proofs.SameTypes.{SamePlaces}

-- class c has the number n, by all tables and in the names that are put back
pub record IsClassAt (t : Tables) (p : ResolvedSignatures) (classes : List Word) (all_fields : List (List Word)) (c : Word) (fields : Names) (n : ℕ) : Type 0 where
  pub vars : List (Word × ResolvedType)
  pub in_tables : slice_get t.classes n ≡ Some vars
  pub in_heads : slice_get p.classes n ≡ Some (types_of vars)
  pub named : slice_get classes n ≡ Some c
  pub fields_named : slice_get all_fields n ≡ Some (map (λ v. v.0) vars)
  pub typed : (f : Word) (ty : ValueType) → find f fields ≡ Some ty → Has (found f vars) (λ k. numbered t.names ty ≡ Some k.it)

abbrev pub SameResult : List (Word × Unit {0}) → Answer → Option ResolvedType → Type 0
SameResult cs (answers t) r = (u : ResolvedType) × (numbered cs t ≡ Some u) × (r ≡ Some u)
SameResult cs no_answer r = r ≡ None
SameResult cs as_first r = ⊥

-- function f has the number n
pub record IsFunctionAt (t : Tables) (p : ResolvedSignatures) (functions : List Word) (f : Word) (s : Signature) (h : Found ResolvedSignature) : Type 0 where
  pub in_heads : slice_get p.functions h.number ≡ Some h.it
  pub takes : SamePlaces t.names s.takes (exact_places h.it.params)
  pub gives : SameResult t.names s.answer h.it.result
  pub named : slice_get functions h.number ≡ Some f

pub record AreTied (d : Decls) (t : Tables) (p : ResolvedSignatures) (classes : List Word) (all_fields : List (List Word)) (functions : List Word) : Type 0 where
  pub class_at : (c : Word) (fields : Names) → find c d.classes ≡ Some fields → Has (found c t.names) (λ n. IsClassAt t p classes all_fields c fields n.number)
  pub function_at : (f : Word) (s : Signature) → find f d.functions ≡ Some s → Has (found f t.functions) (λ h. IsFunctionAt t p functions f s h)

-- a local of slot l.slot: its type, its use, its name
pub record IsLocalAt (cs : List (Word × Unit {0})) (env : Scope) (ws : List Word) (x : Word) (ty : ValueType) (l : Local) : Type 0 where
  pub typed : numbered cs ty ≡ Some l.ty
  pub in_scope : env l.slot ≡ Some (a_local l.ty)
  pub named : slice_get ws l.slot ≡ Some x

-- the names in scope for types, and of these the reached ones by their slots, all below n
pub record InScope (cs : List (Word × Unit {0})) (i : Bool) (own : List Word) (names : Names) (ls : Locals) (n : ℕ) (env : Scope) (ws : List Word) : Type 0 where
  pub reached : (x : Word) (ty : ValueType) → find x names ≡ Some ty → IsReached i own x → Has (find x ls) (λ l. IsLocalAt cs env ws x ty l)
  pub unknown : (x : Word) → find x names ≡ None → find x ls ≡ None
  pub below : (m : ℕ) (u : Use) → env m ≡ Some u → m < n
