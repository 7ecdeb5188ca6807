-- An access of a described context finds what its fact says, and so does what it would without a test of its own.
use Rattle.std.proofs.Common.{◌≡◌, ℕ, zero, suc, List, [], ◌∷◌, IsTrue, Option, None, slice_get, refl, ap, ◌∙◌, subst}
use Rattle.std.proofs.lemmas.Bool.{false≢true}
use Rattle.flow_labels.specs.declared.Label.{Label}
use Rattle.flow_labels.specs.declared.Denied.{Denied}
use Rattle.lam_value.specs.declared.values.Value.{Value}
use Rattle.lam_value.specs.declared.values.Value.TheVariants.{Int, Obj, Arr}
use Rattle.lam_asks.specs.declared.ask.Ask.TheVariants as ask
use Rattle.lam_bytecode.specs.Codes.{CodeTree}
use Rattle.lam_bytecode.specs.declared.op.Op.{Op}
use Rattle.lam_bytecode.specs.declared.op.Op.TheVariants.{GetField, PutField, GetElement, PutElement}
use Rattle.thread_steps.specs.Threads.{Context}
use Rattle.thread_steps.specs.Ops.{Did, wants, unless_denied, within, Around, effect}
use Rattle.thread_steps.specs.Next.{next_by, around, next_op, next_in, next_of}
use Rattle.guarded_code.specs.declared.known.Access.{Access}
use Rattle.guarded_code.specs.declared.known.Access.TheVariants.{Reading, Writing}
use Rattle.guarded_code.specs.declared.known.Operand.{Operand}
use Rattle.guarded_code.specs.Descriptions.{Description}
use Rattle.guarded_code.specs.Breaks.{is_tested_at, is_guarded}
use Rattle.guarded_code.specs.Says.{Pairwise}
use Rattle.guarded_code_threads.specs.Described.{OperandHolds, FrameAgrees, ActingAgrees, IsDescribedContext}
use Rattle.guarded_code_threads.specs.Accesses.{StandsAt, AllowedAt, Finds, IsAccess, gets_field, puts_field, gets_element, puts_element, accessed}
use Rattle.guarded_code_threads.specs.Laws.{AccessesFind, NoSecondTest}
use Rattle.guarded_code_threads.proofs.Addresses.{guards_at}

-- ---- what is found

allowed_at : (p : Label) (ls : List Value) (access : Access) (os : List Operand) (vs : List Value) (k : ℕ) → Pairwise (OperandHolds p ls) os vs → IsTrue (is_tested_at access (slice_get os k)) → AllowedAt p access (slice_get vs k)
allowed_at p ls access [] vs k h t = absurd (false≢true t)
allowed_at p ls access (o ∷ os) [] k h t = absurd h
allowed_at p ls access (o ∷ os) (v ∷ vs) zero h t = h.0.0 access t
allowed_at p ls access (o ∷ os) (v ∷ vs) (suc k) h t = allowed_at p ls access os vs k h.1 t

finds : (p : Label) (ls : List Value) (op : Op) (d : Description) (vs : List Value) → Pairwise (OperandHolds p ls) d.stack vs → IsTrue (is_guarded op d) → Finds p op vs
finds p ls (GetField f) d vs h t = allowed_at p ls Reading d.stack vs 0 h t
finds p ls (PutField f) d vs h t = allowed_at p ls Writing d.stack vs 1 h t
finds p ls GetElement d vs h t = allowed_at p ls Reading d.stack vs 1 h t
finds p ls PutElement d vs h t = allowed_at p ls Writing d.stack vs 2 h t
finds p ls op d vs h t = tt

agrees_here : (code : CodeTree) (c : Context) → IsDescribedContext code c → c.inside.fault ≡ None → FrameAgrees code c.label c.inside.frame
agrees_here code c h e = subst (λ x. ActingAgrees code c.label x c.inside.frame) e h.acting

pub accesses_find : (code : CodeTree) → AccessesFind code
accesses_find code guarded c op h s =
    let f = c.inside.frame in
    let a = agrees_here code c h s.fault in
    finds c.label f.locals op a.known f.stack a.agrees.operands (guards_at code guarded f.unit f.at op a.known a.it s.at)

-- ---- without a test

passes : (x : Option Denied) (d : Did) → x ≡ None → unless_denied x d ≡ d
passes x d e = ap (λ y. unless_denied y d) e

untested : (a : Around) (op : Op) → IsAccess op → (s : List Value) → Finds a.label op s → effect a s op ≡ accessed op s
unfolding effect
untested a _ (gets_field f) (Obj n ∷ s) h = passes _ (wants (ask.Read (Obj n) f) s) h
untested a _ (puts_field f) (v ∷ Obj n ∷ s) h = passes _ (wants (ask.Write (Obj n) f v) s) h
untested a _ gets_element (Int i ∷ Arr n len ∷ s) h = passes _ (within i len (λ at. wants (ask.Read (Arr n len) at) s)) h
untested a _ puts_element (v ∷ Int i ∷ Arr n len ∷ s) h = passes _ (within i len (λ at. wants (ask.Write (Arr n len) at v) s)) h
untested a _ _ s h = refl

at_op : (code : CodeTree) (c : Context) (op : Op) → StandsAt code c op → next_of code c ≡ next_by code c.phase c.inside (effect (around code c) c.inside.frame.stack op)
unfolding next_of
at_op code c op s = ap (next_in code c) s.fault ∙ ap (next_op code c) s.at

pub no_second_test : (code : CodeTree) → NoSecondTest code
no_second_test code guarded c op h s is =
    at_op code c op s ∙ ap (next_by code c.phase c.inside) (untested (around code c) op is c.inside.frame.stack (accesses_find code guarded c op h s))
