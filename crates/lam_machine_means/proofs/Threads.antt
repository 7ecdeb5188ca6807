-- Threads of typed programs ask typed asks alone.
use Rattle.std.proofs.Common.{◌≡◌, Some, refl, subst}
use Rattle.lam_value.specs.declared.values.Value.{Value}
use Rattle.lam_builtins.specs.Types.{int}
use Rattle.lam_asks.specs.declared.answer.Outcome.TheVariants as outcome
use Rattle.lam_asks.specs.declared.ask.Ask.TheVariants as ask
use Rattle.lam_resolve_tree.specs.Tree.{ResolvedFunction, ResolvedTree}
use Rattle.lam_resolve_tree.specs.Typing.{heads_of, given_by, EndsWith}
use Rattle.lam_meaning.specs.Trees.{End, goes, raises, leaves}
use Rattle.lam_meaning.specs.Means.{last_ask, means}
use Rattle.lam_meaning_typed.proofs.Sorts.{IsWell}
use Rattle.lam_meaning_typed.proofs.Places.{GivesA, by_number}
use Rattle.lam_meaning_typed.proofs.Trees.{done_tree}
use Rattle.lam_meaning_typed.proofs.Threads.{function_at, OfBody, thread_tree}
use Rattle.lam_machine_means.specs.Typing.{Typing, Is}
use Rattle.lam_machine_means.specs.Served.{IsNumber}
use Rattle.lam_machine_means.specs.Asks.{AnyEnd, AsksAreTyped}
use Rattle.lam_machine_means.proofs.Sorts.{are_by, by_typing, asks_well}

module _ (r : ResolvedTree) where
  number_of : (G : Typing) (v : Value) → Is G int v → IsNumber (outcome.Value v)
  number_of G v h = by_number (by_typing r) G (λ v. IsNumber (outcome.Value v)) v h (λ z. (z, refl))

  ends_well : (fn : ResolvedFunction) → fn.result ≡ Some int → EndsWith fn.result fn.body → (H : Typing) (x : End (Unit {0})) → OfBody (by_typing r) fn H x → IsWell (by_typing r) AnyEnd H (last_ask x)
  ends_well fn res ends H (goes u n o) h = absurd (let k = subst (λ t. EndsWith t fn.body) res ends in let z = h.1 in cc)
  ends_well fn res ends H (raises f n o) h = done_tree (by_typing r) AnyEnd H (ask.End (outcome.Failed f)) tt n o (tt, tt, refl) refl (λ J m f. tt) (λ J m. tt)
  ends_well fn res ends H (leaves v n o) h =
      let i = subst (λ t. GivesA (by_typing r) H (given_by t) v) res h in
      done_tree (by_typing r) AnyEnd H (ask.End (outcome.Value v)) tt n o (number_of H v i, tt, refl) refl (λ J m f. tt) (λ J m. tt)

pub asks_typed : (r : ResolvedTree) → AsksAreTyped r
asks_typed r typed n f vs k G (fn, e, res, are) =
    let is = function_at (heads_of r) r.functions f fn typed.functions e in
    asks_well r AnyEnd G (means r n f vs k) (thread_tree (by_typing r) typed AnyEnd n f fn vs k G e (are_by G fn.params vs are) (λ H x h. ends_well r fn res is.ends H x h))
