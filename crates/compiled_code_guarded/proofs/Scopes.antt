-- The slots in scope: each is one of the unit's, and holds its type's kind, through statements and blocks.
use Rattle.std.proofs.Common.{◌≡◌, ℕ, ◌<◌, Bool, true, false, if◌then◌else◌, nat_eq, List, [], ◌∷◌, ◌++◌, length, Some, None, refl, sym, ap, ◌∙◌, subst}
use Rattle.std.proofs.lemmas.Bool.{eqb-true}
use Rattle.lam_resolve_tree.specs.Tree.{ResolvedType, Statement, let_slot, Block, block_end, block_more}
use Rattle.lam_resolve_tree.specs.Typing.{ResolvedSignatures, Use, a_local, a_monitor, Scope, with_use, locals_of, Returning, use_of, after, IsStatement, IsBlock}
use Rattle.lam_meaning_laws.proofs.Locals.{slot_here}
use Rattle.lam_meaning_laws.proofs.Expressions.{Inside}
use Rattle.lam_meaning_laws.proofs.Scopes as scopes
use Rattle.lam_meaning_laws.proofs.Scopes.{AreOpen, open_new, inside_new}
use Rattle.guarded_code.specs.Says.{KindSays}
use Rattle.guarded_code.proofs.Order.{kind_same}
use Rattle.compiled_code_guarded.specs.Layouts.{SlotsSay, with_slot}
use Rattle.compiled_code_guarded.proofs.Runs.{slots_same, slots_trans}
use Rattle.compiled_code_guarded.proofs.Operands.{slot_kind, slots_of}

-- ---- one more slot

-- in a unit with so many slots, those whose monitors are held, the inmost first
pub record IsOpen (locals : ℕ) (env : Scope) (os : List ℕ) : Type 0 where
  pub within : Inside locals env
  pub monitors : AreOpen env os

pub open_more : (locals : ℕ) (env : Scope) (n : ℕ) (u : Use) (os : List ℕ) → n < locals → env n ≡ None → IsOpen locals env os → IsOpen locals (with_use env n u) os
open_more locals env n u os lt free h = record { within = inside_new locals env n u lt h.within; monitors = open_new env n u os free h.monitors }

-- a monitor is taken
pub open_monitor : (locals : ℕ) (env : Scope) (n : ℕ) (t : ResolvedType) (os : List ℕ) → n < locals → env n ≡ None → IsOpen locals env os → IsOpen locals (with_use env n (a_monitor t)) (n ∷ os)
open_monitor locals env n t os lt free h =
    record { within = inside_new locals env n (a_monitor t) lt h.within; monitors = ((t, slot_here env n (a_monitor t)), open_new env n (a_monitor t) os free h.monitors) }

-- ---- what the slots hold

-- a value of its kind is stored into a slot that comes into scope
pub stored_new : (env : Scope) (n : ℕ) (u : Use) → SlotsSay (with_slot (slots_of env) n (slot_kind (Some u))) (slots_of (with_use env n u))
stored_new env n u m = by (nat_eq m n)
  where
    by : (b : Bool) → KindSays (if b then slot_kind (Some u) else slot_kind (env m)) (slot_kind (if b then Some u else env m))
    by true = kind_same (slot_kind (Some u))
    by false = kind_same (slot_kind (env m))

-- or into one that is
pub stored_old : (env : Scope) (n : ℕ) (u : Use) → env n ≡ Some u → SlotsSay (with_slot (slots_of env) n (slot_kind (Some u))) (slots_of env)
stored_old env n u e m = by (nat_eq m n) refl
  where
    by : (b : Bool) → nat_eq m n ≡ b → KindSays (if b then slot_kind (Some u) else slot_kind (env m)) (slot_kind (env m))
    by true is = subst (λ o. KindSays (slot_kind (Some u)) (slot_kind o)) (sym (ap env (eqb-true m n is) ∙ e)) (kind_same (slot_kind (Some u)))
    by false is = kind_same (slot_kind (env m))

-- a slot that was free held any value
pub says_without : (env : Scope) (n : ℕ) (u : Use) → env n ≡ None → SlotsSay (slots_of (with_use env n u)) (slots_of env)
says_without env n u free m = by (nat_eq m n) refl
  where
    by : (b : Bool) → nat_eq m n ≡ b → KindSays (slot_kind (if b then Some u else env m)) (slot_kind (env m))
    by true is = subst (λ o. KindSays (slot_kind (Some u)) (slot_kind o)) (sym (ap env (eqb-true m n is) ∙ free)) tt
    by false is = kind_same (slot_kind (env m))

-- ---- through statements and blocks

-- the slots in scope at the end of a block
abbrev pub at_end : List ResolvedType → Scope → Block → Scope
at_end slots env block_end = env
at_end slots env (block_more s rest) = at_end slots (after slots env s) rest

module _ (p : ResolvedSignatures) (slots : List ResolvedType) (ret : Returning) where
  pub open_after : (env : Scope) (os : List ℕ) (s : Statement) → IsStatement p slots ret env s → IsOpen (length slots) env os → IsOpen (length slots) (after slots env s) os
  open_after env os s h o = record { within = scopes.inside_after p slots ret env s h o.within; monitors = scopes.open_after p slots ret env s os h o.monitors }

  says_after : (env : Scope) (s : Statement) → IsStatement p slots ret env s → SlotsSay (slots_of (after slots env s)) (slots_of env)
  says_after env (let_slot n e) h = subst (λ o. SlotsSay (slots_of (use_of o env n)) (slots_of env)) (sym h.1.0) (says_without env n (a_local h.0) h.1.1)
  says_after env s h = slots_same (slots_of env)

  pub open_end : (env : Scope) (os : List ℕ) (b : Block) → IsBlock p slots ret env b → IsOpen (length slots) env os → IsOpen (length slots) (at_end slots env b) os
  open_end env os block_end h o = o
  open_end env os (block_more s rest) h o = open_end (after slots env s) os rest h.1 (open_after env os s h.0 o)

  pub says_end : (env : Scope) (b : Block) → IsBlock p slots ret env b → SlotsSay (slots_of (at_end slots env b)) (slots_of env)
  says_end env block_end h = slots_same (slots_of env)
  says_end env (block_more s rest) h =
      slots_trans (slots_of (at_end slots (after slots env s) rest)) (slots_of (after slots env s)) (slots_of env) (says_end (after slots env s) rest h.1) (says_after env s h.0)

-- ---- at the beginning of a unit

-- the first slots take the parameters, or what is captured
pub open_first : (slots ts more : List ResolvedType) → slots ≡ ts ++ more → IsOpen (length slots) (locals_of ts) []
open_first slots ts more e = record { within = scopes.inside_head slots ts more e; monitors = tt }
