-- What operations do with the operands that the scheme puts there.
use Rattle.std.proofs.Common.{◌≡◌, ℕ, Bool, true, false, List, ◌∷◌, length, map, Some, refl, ap, ◌∙◌}
use Rattle.std.specs.Prelude.{if◌then◌else◌, nat_lt, slice_get}
use Rattle.lam_value.specs.declared.values.Value.{Value}
use Rattle.lam_value.specs.declared.shapes.Kind.{Kind}
use Rattle.lam_value.specs.declared.shapes.Shape.TheVariants.{Class}
use Rattle.lam_value.specs.Shapes.{zero_of}
use Rattle.lam_operators.specs.declared.UnaryOp.{UnaryOp}
use Rattle.lam_operators.specs.declared.UnaryOp.TheVariants as unary
use Rattle.lam_builtins.specs.declared.Builtin.{Builtin}
use Rattle.lam_builtins.specs.Builtins.{row}
use Rattle.lam_asks.specs.declared.fault.Fault.TheVariants.{Deep}
use Rattle.lam_asks.specs.declared.ask.Ask.TheVariants as ask
use Rattle.lam_bytecode.specs.declared.op.Op.TheVariants.{Call, NewObject, MakeLabel, System, EnterRegion, Spawn}
use Rattle.thread_steps.specs.Operators.{prefix, label_from, with_sign}
use Rattle.thread_steps.specs.Builtins.{builtin}
use Rattle.thread_steps.specs.Ops.{calls, fails, wants, Around, effect, operated, called, on_known, on_many, on_caps, on_label, new_object, function_takes, region_takes, region_in}
use Rattle.thread_steps.specs.Limits.{frames_limit}
use Rattle.lam_meaning_typed.specs.Scheme.{prefix_op, sign_op}
use Rattle.lam_meaning_laws.proofs.Lists.{push_all, many_same}

module _ (a : Around) (s : List Value) where
  pub prefix_is : (o : UnaryOp) (v : Value) → effect a (v ∷ s) (prefix_op o) ≡ operated s (prefix o v)
  unfolding effect
  prefix_is unary.Not v = refl
  prefix_is unary.Neg v = refl

  pub sign_is : (b : Bool) (c t : Value) → effect a (t ∷ c ∷ s) (sign_op b) ≡ operated s (with_sign b c t)
  unfolding effect
  sign_is true c t = refl
  sign_is false c t = refl

  pub call_is : (f : ℕ) (vs : List Value) → function_takes (slice_get a.code.units f) ≡ Some (length vs) → effect a (push_all s vs) (Call f) ≡ (if nat_lt a.frames frames_limit then calls f vs s else fails Deep)
  unfolding effect
  call_is f vs e =
      ap (λ m. on_known m (λ n. on_many n (push_all s vs) (λ args s. if nat_lt a.frames frames_limit then calls f args s else fails Deep))) e ∙
      many_same vs s (length vs) (λ args s. if nat_lt a.frames frames_limit then calls f args s else fails Deep) refl

  pub spawn_is : (f : ℕ) (c : Value) (vs : List Value) → function_takes (slice_get a.code.units f) ≡ Some (length vs) → effect a (push_all (c ∷ s) vs) (Spawn f) ≡ on_caps (c ∷ s) (λ c s. wants (ask.Spawn f vs c) s)
  unfolding effect
  spawn_is f c vs e =
      ap (λ m. on_known m (λ n. on_many n (push_all (c ∷ s) vs) (λ args s. on_caps s (λ c s. wants (ask.Spawn f args c) s)))) e ∙
      many_same vs (c ∷ s) (length vs) (λ args s. on_caps s (λ c s. wants (ask.Spawn f args c) s)) refl

  pub system_is : (b : Builtin) (vs : List Value) → length vs ≡ length (row b).signature.takes → effect a (push_all s vs) (System b) ≡ called s (builtin a.label a.caps b vs)
  unfolding effect
  system_is b vs e = many_same vs s (length (row b).signature.takes) (λ args s. called s (builtin a.label a.caps b args)) e

  pub label_is : (p q : ℕ) (secrets vouchers : List Value) → length secrets ≡ p → length vouchers ≡ q → effect a (push_all (push_all s secrets) vouchers) (MakeLabel p q) ≡ operated s (label_from secrets vouchers)
  unfolding effect
  label_is p q secrets vouchers ep eq =
      many_same vouchers (push_all s secrets) q (λ vouchers s. on_many p s (λ secrets s. operated s (label_from secrets vouchers))) eq ∙
      many_same secrets s p (λ secrets s. operated s (label_from secrets vouchers)) ep

  pub region_is : (r : ℕ) (l c : Value) (vs : List Value) → region_takes (region_in r a.code.units) ≡ Some (length vs) → effect a (push_all (c ∷ l ∷ s) vs) (EnterRegion r) ≡ on_caps (c ∷ l ∷ s) (λ c s. on_label s (λ l s. wants (ask.Enter l c r vs) s))
  unfolding effect
  region_is r l c vs e =
      ap (λ m. on_known m (λ n. on_many n (push_all (c ∷ l ∷ s) vs) (λ args s. on_caps s (λ c s. on_label s (λ l s. wants (ask.Enter l c r args) s))))) e ∙
      many_same vs (c ∷ l ∷ s) (length vs) (λ args s. on_caps s (λ c s. on_label s (λ l s. wants (ask.Enter l c r args) s))) refl

  pub object_is : (c : ℕ) (ks : List Kind) (vs : List Value) → slice_get a.code.classes c ≡ Some ks → map zero_of ks ≡ vs → effect a s (NewObject c) ≡ wants (ask.New (Class c vs)) s
  unfolding effect
  object_is c ks vs e same = ap (new_object c s) e ∙ ap (λ (vs : List Value). wants (ask.New (Class c vs)) s) same
