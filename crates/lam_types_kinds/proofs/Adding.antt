-- One more entry in a table.
use Rattle.std.proofs.Common.{◌≡◌, ℕ, Bool, true, false, List, [], ◌∷◌, ◌++◌, map, is_some, Result, Ok, Err, OnOk, IfErr, sym, ap, ◌∙◌, subst, Bor}
use Rattle.lam_builtins.specs.Limits.{most_functions}
use Rattle.lam_syntax.specs.Tree.{IdTree}
use Rattle.lam_operators.specs.Words.{Word}
use Rattle.lam_types_kinds.specs.Verdicts.{Fine, then_on}
use Rattle.lam_types_kinds.specs.Breaks.{Verdict}
use Rattle.lam_builtins.specs.Builtins.{builtin_named}
use Rattle.lam_types_kinds.specs.Tables.{new_name, function_name, twice_if}
use Rattle.lam_types_kinds.specs.Values.{keyed, Breaks, function_entries, signature}
use Rattle.lam_types_kinds.specs.Meets.{Leaves}
use Rattle.lam_types_kinds.specs.declared.tables.Callable.{Callable}
use Rattle.lam_types_kinds.specs.declared.fault.TypeFault.{TypeFault}
use Rattle.lam_types_kinds.specs.declared.fault.TypeFault.TheVariants.{NoMemory}
use Rattle.lam_types_kinds.proofs.Steps.{stops}
use Rattle.lam_types_kinds.proofs.TableLemmas.{new_name_see, see_push}

module _ {V A : Type 0} (see : V → A) where
  abbrev pub seen : List (Bor Word × V) → List (Word × A)
  seen es = map (λ e. (e.0.now, see e.1)) es

  pub stops_seen : {B : Type 0} (f : TypeFault) (limit : ℕ) (es : List (Bor Word × V)) (x : IdTree) (next : Unit {0} → Verdict B) → Breaks f (new_name limit (keyed es) x) → Breaks f (then_on (new_name limit (seen es) x) next)
  stops_seen f limit es x next h =
      stops f (new_name limit (seen es) x) next (subst (λ (v : Verdict (Unit {0})). Breaks f v) (sym (new_name_see see limit es x)) h)

  pub fine_seen : {B : Type 0} (limit : ℕ) (es : List (Bor Word × V)) (x : IdTree) (next : Unit {0} → Verdict B) → new_name limit (keyed es) x ≡ Fine tt → then_on (new_name limit (seen es) x) next ≡ next tt
  fine_seen limit es x next h = ap (λ (v : Verdict (Unit {0})). then_on v next) (new_name_see see limit es x ∙ h)

  pub added : (r : Result (Unit {0}) TypeFault) (new old : List (Bor Word × V)) (k : Bor Word) (v : V) (w : Word) (a : A) → OnOk r (new ≡ old ++ (k, v) ∷ []) → IfErr r (λ f. f ≡ NoMemory) → k.now ≡ w → see v ≡ a →
      Leaves r (seen new) (Fine (seen old ++ (w, a) ∷ []))
  added (Ok u) new old k v w a ok err e g =
      sym (ap (λ (es : List (Bor Word × V)). Fine (seen es)) ok ∙ ap Fine (see_push see old k v) ∙ ap (λ (w : Word). Fine (seen old ++ (w, see v) ∷ [])) e ∙ ap (λ (a : A). Fine (seen old ++ (w, a) ∷ [])) g)
  added (Err f) new old k v w a ok err e g = err

pub to_leaves : {A : Type 0} (r : Result (Unit {0}) TypeFault) (new : A) (v w : Verdict A) → v ≡ w → Leaves r new w → Leaves r new v
to_leaves r new v w e h = subst (λ v. Leaves r new v) (sym e) h

-- a function's name that is no built-in call's
pub declared_name : (es : List (Bor Word × Callable)) (x : IdTree) → is_some (builtin_named x.word) ≡ false → function_name (function_entries es) x ≡ new_name most_functions (keyed es) x
declared_name es x e = ap (λ b. then_on (twice_if b x.at) (λ _. new_name most_functions (function_entries es) x)) e ∙ new_name_see signature most_functions es x

unless_builtin : (b : Bool) (at : ℕ) (v : Verdict (Unit {0})) → then_on (twice_if b at) (λ _. v) ≡ Fine tt → v ≡ Fine tt
unless_builtin true at v e = absurd cc
unless_builtin false at v e = e

pub new_function : (es : List (Bor Word × Callable)) (x : IdTree) → function_name (function_entries es) x ≡ Fine tt → new_name most_functions (keyed es) x ≡ Fine tt
new_function es x e = sym (new_name_see signature most_functions es x) ∙ unless_builtin (is_some (builtin_named x.word)) x.at (new_name most_functions (function_entries es) x) e
