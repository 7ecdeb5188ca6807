-- How a thread of a run began is one.
use Rattle.std.proofs.Common.{◌≡◌, inl, inr, ℕ, suc, ◌-◌, List, [], ◌∷◌, length, replicate, Some, refl, sym, ap, ◌∙◌, subst, arith}
use Rattle.std.specs.Prelude.{slice_get}
use Rattle.std.proofs.lemmas.Option.{slice_get_within, same_Some}
use Rattle.capabilities.specs.declared.Caps.{Caps}
use Rattle.capabilities.specs.Changes.{no_caps}
use Rattle.lam_value.specs.declared.values.Value.{Value}
use Rattle.lam_value.specs.declared.values.Value.TheVariants.{Nothing}
use Rattle.lam_bytecode.specs.Codes.{CodeTree}
use Rattle.lam_resolve_tree.specs.Tree.{ResolvedType, ResolvedFunction, ResolvedTree}
use Rattle.thread_steps.specs.Threads.{Context, Thread}
use Rattle.thread_steps.specs.Next.{locals_in, filled, started}
use Rattle.lam_meaning_typed.specs.Kinds.{AreOf}
use Rattle.lam_machine_terms.specs.Worlds.{World, thread_at}
use Rattle.lam_machine_terms.specs.Turns.{Moment}
use Rattle.source_walk_terms.specs.Runs.{WasSpawned, Began}
use Rattle.source_walk_meets.specs.Births.{Birth, HasThreads}
use Rattle.source_walk_meets.proofs.Lists.{same_fronts}
use Rattle.source_walk_meets.proofs.Runs.{born, spawned_later, spawned_once}

-- as many values as types
pub as_many : (ts : List ResolvedType) (vs : List Value) → AreOf ts vs → length ts ≡ length vs
as_many [] [] h = refl
as_many (t ∷ ts) (v ∷ vs) h = ap suc (as_many ts vs h.1)
as_many ts vs h = absurd h

-- ---- a thread at an entry

abbrev unit_in : List Context → ℕ
unit_in [] = 0
unit_in (c ∷ cs) = c.inside.frame.unit

abbrev locals_of : List Context → List Value
locals_of [] = []
locals_of (c ∷ cs) = c.inside.frame.locals

abbrev caps_in : List Context → Caps
caps_in [] = no_caps
caps_in (c ∷ cs) = c.caps

-- a function of a program, and arguments of the sorts of its parameters
pub record Takes (r : ResolvedTree) (f : ℕ) (vs : List Value) : Type 0 where
  pub function : ResolvedFunction
  pub found : slice_get r.functions f ≡ Some function
  pub sorts : AreOf function.params vs

as_long : (r : ResolvedTree) (f : ℕ) (vs us : List Value) → Takes r f vs → Takes r f us → length vs ≡ length us
as_long r f vs us a b =
    sym (as_many a.function.params vs a.sorts) ∙ ap (λ (fn : ResolvedFunction). length fn.params) (same_Some a.function b.function (sym a.found ∙ b.found)) ∙ as_many b.function.params us b.sorts

abbrev AreSame : ℕ → List Value → Caps → ℕ → List Value → Caps → Type 0
AreSame f vs k g us h = (f ≡ g) × (vs ≡ us) × (k ≡ h)

module _ (r : ResolvedTree) (code : CodeTree) (f : ℕ) (vs : List Value) (k : Caps) (g : ℕ) (us : List Value) (h : Caps) where
  -- it stands there in one way
  started_once : Takes r f vs → Takes r g us → started code f vs k ≡ started code g us h → AreSame f vs k g us h
  started_once a b e =
      let units : f ≡ g = ap (λ (th : Thread). unit_in th.contexts) e in
      let held : k ≡ h = ap (λ (th : Thread). caps_in th.contexts) e in
      let locals : filled (slice_get code.units f) vs ≡ filled (slice_get code.units g) us = ap (λ (th : Thread). locals_of th.contexts) e in
      let many : length vs ≡ length us = as_long r f vs us a (subst (λ n. Takes r n us) (sym units) b) in
      (units, same_fronts vs us (replicate (locals_in (slice_get code.units f) - length vs) Nothing) (replicate (locals_in (slice_get code.units g) - length us) Nothing) many locals, held)

  born_same : (u : ℕ) → born u f vs k ≡ born u g us h → AreSame f vs k g us h
  born_same u e = (ap (λ (b : Birth). b.function) e, ap (λ (b : Birth). b.args) e, ap (λ (b : Birth). b.caps) e)

  module _ (w : World) (ms : List Moment) (last : World) (has : HasThreads (length w.threads) ms last) (u : ℕ) where
    -- one that was there was not spawned
    pub not_both : thread_at w u ≡ Some (started code f vs k) → WasSpawned ms u g us h → ⊥
    not_both at s =
        let lt = slice_get_within w.threads u (started code f vs k) at in
        let le = spawned_later (length w.threads) ms last has u g us h s in
        absurd (omega (arith, lt, le))

    pub spawned_same : WasSpawned ms u f vs k → WasSpawned ms u g us h → AreSame f vs k g us h
    spawned_same s t = born_same u (spawned_once (length w.threads) ms last has u f vs k g us h s t)

    pub began_same : Takes r f vs → Takes r g us → Began code w ms u f vs k → Began code w ms u g us h → AreSame f vs k g us h
    began_same a b (inl at) (inl here) = started_once a b (same_Some (started code f vs k) (started code g us h) (sym at ∙ here))
    began_same a b (inl at) (inr s) = absurd (not_both at s)
    began_same a b (inr s) (inl at) = absurd (other_way at s)
      where
        other_way : thread_at w u ≡ Some (started code g us h) → WasSpawned ms u f vs k → ⊥
        other_way at s =
            let lt = slice_get_within w.threads u (started code g us h) at in
            let le = spawned_later (length w.threads) ms last has u f vs k s in
            absurd (omega (arith, lt, le))
    began_same a b (inr s) (inr t) = spawned_same s t
